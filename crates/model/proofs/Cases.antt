-- Document 01's proved cases P1 to P10 as one table, its worked input of slots, and the blocks of each slot shape, all computed from the definitions. Assumes nothing.
use Rattle.std.specs.Prelude.{◌≡◌, refl, List, [], ◌∷◌, ◌++◌, ℕ, zero, suc, ◌+◌, get_or, set, length, replicate, ℤ, pos, negsuc}
use Rattle.std.proofs.Math.Option.{Option, none, some}
use Rattle.model.specs.Limits.{item_first, count_first, flag_count, variable_count}
use Rattle.model.specs.Signed.{wrap, bits_of}
use Rattle.model.specs.Save.{Save}
use Rattle.model.specs.Expr.{one, imm, imm16, imm32, size}
use Rattle.model.specs.declared.Op1.TheVariants.{Flag}
use Rattle.model.specs.declared.Loader.TheVariants.{Disc}
use Rattle.model.specs.Sheet.{Sheet, sheet_ok, save_ok}
use Rattle.model.specs.Requirement.{Requirement, haveItem, missingFlag, haveFlag, insert, sorted, member, settled}
use Rattle.model.specs.Requirement as Req
use Rattle.model.specs.Shop.{Slot, empty_slot, padded, limit_of}
use Rattle.model.specs.Script.{Command, Block, placeholder, code, data_block, Script, block_at, if_else, command_nodes, commands_nodes, block_nodes, block_commands}
use Rattle.model.specs.Reading.{refusal_of, number, more, groups, under, word, word_to, zig, zag}
use Rattle.model.specs.Image.{image, blocks_image, block_image, commands_image, command_image, expr_image, link_image, kinds, kind_of, read_kind, read_operands, read_expr, read_term, set_of, command_of, read_command, read_commands, read_code, block_of, read_block, read_blocks, read_block_no, link_of, read_link, ended, read_within, read_image}
use Rattle.model.specs.Judge.{counted, counts_ok, judged, shared_refusal}
use Rattle.model.specs.Compile.{compiled, compile_checks, compile_refusal, appended, redirect, room_refusal, has_room, shop_blocks, slots_blocks, slot_blocks, limit_blocks, unique_blocks, return_block, acquired_expr, item_test, atc_test, flag_test, test, join_tests, emit_set}
use Rattle.model.specs.Run.{Ran, run_by, step_by, run_call, run_checked_by}
use Rattle.model.specs.Parse.{parse_call, parse_checked, parse, parse_block, visited, parse_requirements, gather, place_of}
use Rattle.model.specs.Printer.{slots, read_sheet, read_atcs, read_timers, digits_to, decimal, signed_decimal, letter, requirements_text, item_text, slot_line, slot_lines, refused_text, read_input, parsed_text, input_text}

-- sixteen items: 0, 1 and 2 the timers, 3 with atc 0, item 7 plain
unfoldable pub sheet : Sheet
sheet = record { atc_of = none ∷ none ∷ none ∷ some 0 ∷ replicate 12 none; atc_count = 1; timer5 = 0; timer10 = 1; timer15 = 2 }

unfoldable pub slot_of : ℕ → ℤ → List Requirement → Slot
slot_of w z rs = record { item = some w; limit = z; requirements = rs }

-- a script of one Return block
pub first : Script
first = counted (return_block ∷ [])

-- the script after a compile of one slot at block 0
pub with : Slot → Script
with x = compiled sheet first (record { loader = Disc; setup = 0; shop = x ∷ [] })

-- a save with so many of an item, one flag, and time[2]
pub saved : ℕ → ℤ → ℕ → ℕ → ℤ → Save
saved w n f b t = record {
  items = set (replicate 16 (pos 0)) w n;
  atcs = 0 ∷ [];
  flags = set (replicate flag_count 0) f b;
  times = set (replicate 8 (pos 0)) 2 t;
  variables = replicate variable_count (pos 0);
}

-- the answer, the slot's pair and the blocks entered
pub brief : Ran → List ℤ
brief r = pos r.answer ∷ get_or r.variables item_first (pos 0) ∷ get_or r.variables count_first (pos 0) ∷ pos r.entered ∷ []

pub ran_at : Slot → Save → List ℤ
ran_at x s = brief (run_call sheet (with x) 0 s 82)

-- the kind and number of each requirement, behind the item and the limit
flat : List Requirement → List ℤ
flat [] = []
flat (r ∷ rs) = pos (Req.kind r) ∷ Req.number r ∷ flat rs

item_number : Option ℕ → ℤ
item_number none = negsuc 0
item_number (some w) = pos w

read_as : Slot → List ℤ
read_as x = item_number x.item ∷ x.limit ∷ flat x.requirements

pub parsed_at : Script → List ℤ
parsed_at sc = let p = parse_call sheet sc 0 in pos p.answer ∷ read_as (get_or p.slots 0 empty_slot)

-- block b's next
pub next_of : Block → ℤ
next_of placeholder = negsuc 0
next_of (code cs nx el) = by nx
  where
    by : Option ℕ → ℤ
    by none = negsuc 0
    by (some k) = pos k
next_of data_block = negsuc 0

-- one code block of commands that set variables to numbers
pub one_block : List Command → Script
one_block cs = counted (code cs none none ∷ [])

-- an If on flag[1] before a block of commands
pub hides_under : List Command → Script
hides_under cs = counted (code (if_else (one Flag (imm16 (pos 1))) 0 ∷ []) (some 1) none ∷ code cs none none ∷ [])

-- item w and count w into slot 0
pub fills : ℕ → Block
fills w = code (emit_set item_first (imm16 (pos w)) ∷ emit_set count_first (imm16 (pos w)) ∷ []) none none

-- an If on flag[1] whose next fills slot 0 with item 1, limit 1 and whose else with item 2, limit 2
pub both_ways : Script
both_ways = counted (code (if_else (one Flag (imm16 (pos 1))) 2 ∷ []) (some 1) (some 2) ∷ fills 1 ∷ fills 2 ∷ [])

-- n Return blocks
pub many : ℕ → Script
many n = counted (replicate n return_block)

pub empty_shop_at : Script → ℤ
empty_shop_at sc = pos (compile_refusal sheet sc (record { loader = Disc; setup = 0; shop = [] }))

pub p1 : Slot
p1 = slot_of 7 (pos 3) (missingFlag (pos 40) ∷ [])

pub timer5 : Slot
timer5 = slot_of 0 (pos 1) []

pub p5 : ℤ → Slot
p5 z = slot_of 7 z (haveItem 7 ∷ haveFlag (pos 9) ∷ [])

pub bytes : List ℕ → List ℤ
bytes [] = []
bytes (n ∷ ns) = pos n ∷ bytes ns

-- names all that the cases compute with: shops, saves and sheets ..
unfoldable pub opened_shops : ℕ
unfolding sheet slot_of first with saved brief ran_at flat item_number read_as parsed_at next_of one_block hides_under fills both_ways many empty_shop_at p1 timer5 p5 bytes wrap bits_of imm size sheet_ok save_ok insert sorted member settled padded limit_of command_nodes commands_nodes block_nodes block_commands
opened_shops = 0

-- .. bytes and images ..
unfoldable pub opened_images : ℕ
unfolding number more groups under word word_to zig zag image blocks_image block_image commands_image command_image expr_image link_image kinds kind_of read_kind read_operands read_expr read_term set_of command_of read_command read_commands read_code block_of read_block read_blocks read_block_no link_of read_link ended read_within read_image
opened_images = 0

-- .. and the calls
unfoldable pub opened : ℕ
unfolding opened_shops opened_images counts_ok judged shared_refusal compiled compile_checks appended redirect room_refusal has_room shop_blocks slots_blocks slot_blocks limit_blocks unique_blocks acquired_expr item_test atc_test flag_test test join_tests run_by step_by run_checked_by parse_checked parse parse_block visited parse_requirements gather place_of slots read_sheet read_atcs read_timers digits_to decimal signed_decimal letter requirements_text item_text slot_line slot_lines refused_text read_input parsed_text input_text
opened = 0

-- ---- P1 to P10

-- what the definitions compute, and what document 01 says
pub record Case : Type 0 where
  pub computed : List ℤ
  pub said : List ℤ

abbrev pub AllSo : List Case → Type 0
AllSo [] = Unit {0}
AllSo (c ∷ cs) = (c.computed ≡ c.said) × AllSo cs

abbrev pub case : List ℤ → List ℤ → Case
case a b = record { computed = a; said = b }

abbrev pub table : List Case
table =
    -- P1: the root is block 25; held 1, flag 0
    case (next_of (block_at (with p1).blocks 0) ∷ ran_at p1 (saved 7 (pos 1) 40 0 (pos 0))) (pos 25 ∷ pos 0 ∷ pos 7 ∷ pos 2 ∷ pos 24 ∷ [])
    -- P2: held 5
    ∷ case (ran_at p1 (saved 7 (pos 5) 40 0 (pos 0))) (pos 0 ∷ pos 7 ∷ pos 0 ∷ pos 25 ∷ [])
    -- P3: flag 1
    ∷ case (ran_at p1 (saved 7 (pos 1) 40 1 (pos 0))) (pos 0 ∷ negsuc 0 ∷ pos 0 ∷ pos 23 ∷ [])
    -- P4: plain limits 0, 10, 11, and an atc item with 5, as read back
    ∷ case (parsed_at (with (slot_of 7 (pos 0) []))) (pos 0 ∷ pos 7 ∷ pos 1 ∷ [])
    ∷ case (parsed_at (with (slot_of 7 (pos 10) []))) (pos 0 ∷ pos 7 ∷ pos 10 ∷ [])
    ∷ case (parsed_at (with (slot_of 7 (pos 11) []))) (pos 0 ∷ pos 7 ∷ pos 10 ∷ [])
    ∷ case (parsed_at (with (slot_of 3 (pos 5) []))) (pos 0 ∷ pos 3 ∷ pos 1 ∷ [])
    -- P5: limit 1 keeps HaveFlag 9, limit 3 both
    ∷ case (parsed_at (with (p5 (pos 1)))) (pos 0 ∷ pos 7 ∷ pos 1 ∷ pos 4 ∷ pos 9 ∷ [])
    ∷ case (parsed_at (with (p5 (pos 3)))) (pos 0 ∷ pos 7 ∷ pos 3 ∷ pos 0 ∷ pos 7 ∷ pos 4 ∷ pos 9 ∷ [])
    -- P6: a count Imm32 65,537 reads as 1
    ∷ case (parsed_at (one_block (emit_set item_first (imm16 (pos 3)) ∷ emit_set count_first (imm32 (pos 65537)) ∷ []))) (pos 0 ∷ pos 3 ∷ pos 1 ∷ [])
    -- P7: 600 := −1 without a count adds nothing
    ∷ case (parsed_at (hides_under (emit_set item_first (imm16 (negsuc 0)) ∷ []))) (pos 0 ∷ negsuc 0 ∷ pos 0 ∷ [])
    -- with a count it adds the negated condition
    ∷ case (parsed_at (hides_under (emit_set item_first (imm16 (negsuc 0)) ∷ emit_set count_first (imm16 (pos 0)) ∷ []))) (pos 0 ∷ negsuc 0 ∷ pos 0 ∷ pos 5 ∷ pos 1 ∷ [])
    -- next before else: the item is that of next, which fills the slot, the limit that of else, which replaces it
    ∷ case (parsed_at both_ways) (pos 0 ∷ pos 1 ∷ pos 2 ∷ [])
    -- P8: Timer5, not acquired, no other timer; with Timer10
    ∷ case (ran_at timer5 (saved 7 (pos 0) 0 0 (pos 0))) (pos 0 ∷ pos 0 ∷ pos 0 ∷ pos 24 ∷ [])
    ∷ case (ran_at timer5 (saved 1 (pos 1) 0 0 (pos 0))) (pos 0 ∷ pos 0 ∷ pos 1 ∷ pos 24 ∷ [])
    -- P9: signed 600, and its longer form
    ∷ case (bytes (word (zig (pos 600)))) (pos 0xB0 ∷ pos 0x09 ∷ [])
    ∷ case (pos (refusal_of (number 4294967296 (0xB0 ∷ 0x89 ∷ 0x00 ∷ []))) ∷ []) (pos 2 ∷ [])
    -- P10: an empty shop adds 21 blocks: 4,075 accepted, 4,076 refusal 9
    ∷ case (pos (length (shop_blocks sheet 1 (padded 20 []))) ∷ empty_shop_at (many 4075) ∷ empty_shop_at (many 4076) ∷ []) (pos 21 ∷ pos 0 ∷ pos 9 ∷ [])
    ∷ []

pub p1_to_p10 : AllSo table
unfolding opened
p1_to_p10 = (refl, (refl, (refl, (refl, (refl, (refl, (refl, (refl, (refl, (refl, (refl, (refl, (refl, (refl, (refl, (refl, (refl, (refl, tt))))))))))))))))))

-- ---- the worked input of slots: 0 3 1, then 1 - 0 and so on to 19 - 0

pub worked : List ℕ
worked = 0x04 ∷ 0x01 ∷ 0x00 ∷ 0x00 ∷ 0x00 ∷ 0x01 ∷ 0x00 ∷ 0x01 ∷ 0x02 ∷ 0x00 ∷ 0x01 ∷ 0x01 ∷ 0x03 ∷ 0x02 ∷ 0x00 ∷ 0x0B ∷ 0xB0 ∷ 0x09 ∷ 0x0B ∷ 0x06 ∷ 0x02 ∷ 0x00 ∷ 0x0B ∷ 0xD8 ∷ 0x09 ∷ 0x0B ∷ 0x02 ∷ 0x00 ∷ 0x00 ∷ 0x00 ∷ []

-- the line of an empty slot
empty_line : ℕ → List ℕ
empty_line i = decimal i ++ (32 ∷ 45 ∷ 32 ∷ 48 ∷ 10 ∷ [])

-- n such lines from slot i on
pub empty_lines : ℕ → ℕ → List ℕ
empty_lines zero i = []
empty_lines (suc n) i = empty_line i ++ empty_lines n (suc i)

pub slots_worked : slots worked ≡ (48 ∷ 32 ∷ 51 ∷ 32 ∷ 49 ∷ 10 ∷ []) ++ empty_lines 19 1
unfolding opened worked empty_line empty_lines
slots_worked = refl
