-- The compiler block by block, the exact count for 9 and 19, and the setup block's redirect (01, Compiler). Assumes nothing: these are definitions.
use Rattle.std.specs.Prelude.{Bool, cond, ◌&&◌, List, [], ◌∷◌, ◌++◌, ℕ, suc, ◌+◌, leb, eqb, set, length, ℤ, pos, negsuc}
use Rattle.std.proofs.Math.Option.{Option, none, some}
use Rattle.model.specs.Limits.{block_limit, command_limit, node_limit, demo_blocks, demo_commands, item_first, count_first}
use Rattle.model.specs.Refusal.{check, first_of, no_room, born_later, demo_full}
use Rattle.model.specs.Expr.{Expr, two, one, imm16, negate, imm}
use Rattle.model.specs.declared.Op2.TheVariants.{Equal, NotEqual, Less, Subtract, BitAnd, BitOr}
use Rattle.model.specs.declared.Op1.TheVariants.{Flag, Variable, Item, Atc, Time}
use Rattle.model.specs.declared.Loader.{Loader}
use Rattle.model.specs.declared.Loader.TheVariants.{Disc, Demo}
use Rattle.model.specs.Sheet.{Sheet, atc_for}
use Rattle.model.specs.Requirement.{Requirement, haveItem, missingItem, haveAtc, missingAtc, haveFlag, missingFlag, sorted}
use Rattle.model.specs.Shop.{Slot, with_slots, Timer, plain, five, ten, fifteen, timer_of, limit_of, shop_refusal}
use Rattle.model.specs.Script.{Command, return, goto, set_variable, set_other, if_else, end_if, other_command, Block, code, Script, block_commands, block_nodes, sum_of}
use Rattle.model.specs.Image.{Limits, limits}
use Rattle.model.specs.Judge.{script_refusal, shared_refusal}

-- ---- tests: item[i] != 0, atc[a] != 0, flag[f]; Missing is the negation

unfoldable pub item_test : ℕ → Expr
item_test i = two NotEqual (one Item (imm (pos i))) (imm16 (pos 0))

unfoldable pub atc_test : ℕ → Expr
atc_test a = two NotEqual (one Atc (imm (pos a))) (imm16 (pos 0))

unfoldable pub flag_test : ℤ → Expr
flag_test f = one Flag (imm f)

unfoldable pub test : Requirement → Expr
test (haveItem i) = item_test i
test (missingItem i) = negate (item_test i)
test (haveAtc a) = atc_test a
test (missingAtc a) = negate (atc_test a)
test (haveFlag f) = flag_test f
test (missingFlag f) = negate (flag_test f)

-- R joins the tests, leftmost deepest; && is BitAnd
unfoldable pub join_tests : Expr → List Requirement → Expr
join_tests e [] = e
join_tests e (r ∷ rs) = join_tests (two BitAnd e (test r)) rs

-- ---- acquired: the atc's test if the item has one, else the item's; a timer adds its rate

abbrev pub rate_of : Timer → Option ℕ
rate_of plain = none
rate_of five = some 200
rate_of ten = some 100
rate_of fifteen = some 67

abbrev pub acquired_req : Option ℕ → ℕ → Requirement
acquired_req none i = haveItem i
acquired_req (some a) i = haveAtc a

abbrev pub or_rate : Option ℕ → Expr → Expr
or_rate none e = e
or_rate (some r) e = two BitOr e (two Equal (one Time (imm16 (pos 2))) (imm16 (pos r)))

unfoldable pub acquired_expr : Sheet → ℕ → Expr
acquired_expr h i = or_rate (rate_of (timer_of h i)) (test (acquired_req (atc_for h i) i))

-- ---- a block from its commands: next is the EndIf target, else the last pushed; else is its If's else target, or none

abbrev pub linked : Option ℕ → Command → List Command → List Command → Block
linked last return [] all = code all last none
linked last (goto k) [] all = code all (some k) none
linked last (set_variable t e) [] all = code all last none
linked last (set_other e) [] all = code all last none
linked last (if_else e k) [] all = code all last (some k)
linked last (end_if k) [] all = code all (some k) none
linked last other_command [] all = code all last none
linked last c (d ∷ ds) all = linked last d ds all

abbrev pub emit : Option ℕ → Command → List Command → Block
emit last c cs = linked last c cs (c ∷ cs)

abbrev pub emit_set : ℕ → Expr → Command
emit_set k e = set_variable (imm16 (pos k)) e

-- writes item and count of slot i, next the block last pushed
abbrev pub set_slot : ℕ → ℕ → Expr → Expr → Block
set_slot last i a b = emit (some last) (emit_set (item_first + i) a) (emit_set (count_first + i) b ∷ [])

-- the same with EndIf
abbrev pub set_slot_end : ℕ → ℕ → Expr → Expr → Block
set_slot_end end i a b = emit none (emit_set (item_first + i) a) (emit_set (count_first + i) b ∷ end_if end ∷ [])

abbrev pub if_block : ℕ → Expr → ℕ → Block
if_block last c k = emit (some last) (if_else c k) []

abbrev pub item_expr : ℕ → Expr
item_expr w = imm (pos w)

-- H: item −1, count 0
abbrev pub hide_block : ℕ → ℕ → Block
hide_block end i = set_slot end i (imm16 (negsuc 0)) (imm16 (pos 0))

-- ---- limit 1. In what follows e is End, the block last pushed before the slot, so that the first block pushed is suc e; w is the item

-- Timer10 and Timer15 missing
abbrev pub no_timer_expr : Sheet → Expr
no_timer_expr h = join_tests (test (missingItem h.timer10)) (missingItem h.timer15 ∷ [])

-- above N, which is block n: for Timer5 D2 and T, then V, whose else is k
abbrev pub enable_blocks : Sheet → ℕ → ℕ → ℕ → Timer → Expr → ℕ → ℕ → List Block
enable_blocks h i e w plain v k n = if_block n v k ∷ []
enable_blocks h i e w ten v k n = if_block n v k ∷ []
enable_blocks h i e w fifteen v k n = if_block n v k ∷ []
enable_blocks h i e w five v k n =
    set_slot_end e i (item_expr w) (imm16 (pos 0))
    ∷ if_block (suc n) (no_timer_expr h) n
    ∷ if_block (suc (suc n)) v k
    ∷ []

-- D, N, [D2, T], V; or H, D, E, N, [D2, T], V
unfoldable pub unique_blocks : Sheet → ℕ → ℕ → ℕ → List Requirement → List Block
unique_blocks h i e w [] =
    set_slot e i (item_expr w) (imm16 (pos 0))
    ∷ set_slot_end e i (item_expr w) (imm16 (pos 1))
    ∷ enable_blocks h i e w (timer_of h w) (negate (acquired_expr h w)) (suc e) (suc (suc e))
unique_blocks h i e w (r ∷ rs) =
    hide_block e i
    ∷ set_slot_end e i (item_expr w) (imm16 (pos 0))
    ∷ if_block (suc (suc e)) (acquired_expr h w) (suc e)
    ∷ set_slot_end e i (item_expr w) (imm16 (pos 1))
    ∷ enable_blocks h i e w (timer_of h w) (two BitAnd (negate (acquired_expr h w)) (join_tests (test r) rs)) (suc (suc (suc e))) (suc (suc (suc (suc e))))

-- ---- limit above 1

abbrev pub temp_var : Expr
temp_var = one Variable (imm16 (pos 0))

-- Z, above S, which is block k
abbrev pub reset_block : ℕ → Block
reset_block k = emit (some k) (emit_set 0 (imm16 (pos 0))) []

abbrev pub remaining_expr : ℕ → ℕ → Expr
remaining_expr l w = two Subtract (imm16 (pos l)) (one Item (item_expr w))

-- M, above Z
abbrev pub remaining_block : ℕ → ℕ → ℕ → Block
remaining_block l w k = emit (some (suc k)) (emit_set 0 (remaining_expr l w)) (if_else (two Less temp_var (imm16 (pos 0))) k ∷ [])

-- S, Z, M; or H, S, Z, M, If R
unfoldable pub limit_blocks : ℕ → ℕ → ℕ → ℕ → List Requirement → List Block
limit_blocks i e w l [] = set_slot e i (item_expr w) temp_var ∷ reset_block (suc e) ∷ remaining_block l w (suc e) ∷ []
limit_blocks i e w l (r ∷ rs) =
    hide_block e i
    ∷ set_slot_end e i (item_expr w) temp_var
    ∷ reset_block (suc (suc e))
    ∷ remaining_block l w (suc (suc e))
    ∷ if_block (suc (suc (suc (suc e)))) (join_tests (test r) rs) (suc e)
    ∷ []

-- ---- the slot, the slots, the shop

abbrev pub filled_blocks : Sheet → ℕ → ℕ → ℕ → ℕ → List Requirement → List Block
filled_blocks h i e w l rs = cond (leb l 1) (unique_blocks h i e w rs) (limit_blocks i e w l rs)

-- no item: H alone
abbrev pub blocks_for : Sheet → ℕ → ℕ → Option ℕ → ℤ → List Requirement → List Block
blocks_for h i e none z rs = hide_block e i ∷ []
blocks_for h i e (some w) z rs = filled_blocks h i e w (limit_of h w z) rs

unfoldable pub slot_blocks : Sheet → ℕ → ℕ → Slot → List Block
slot_blocks h i e x = blocks_for h i e x.item x.limit (sorted x.requirements)

-- the number of the last of some blocks that stand right after block e
abbrev pub last_of : ℕ → List Block → ℕ
last_of e [] = e
last_of e (x ∷ xs) = last_of (suc e) xs

-- the slots from number i on, after block e; the highest-numbered is pushed first
unfoldable pub slots_blocks : Sheet → ℕ → ℕ → List Slot → List Block
slots_blocks h e i [] = []
slots_blocks h e i (x ∷ xs) = slots_blocks h e (suc i) xs ++ slot_blocks h i (last_of e (slots_blocks h e (suc i) xs)) x

-- the block last pushed
abbrev pub root_of : Sheet → ℕ → ℕ → List Slot → ℕ
root_of h e i xs = last_of e (slots_blocks h e i xs)

abbrev pub return_block : Block
return_block = emit none return []

-- n is the first free number, that of the Return block
unfoldable pub shop_blocks : Sheet → ℕ → List Slot → List Block
shop_blocks h n xs = return_block ∷ slots_blocks h n 0 xs

-- ---- the call

-- "a compile names its loader, disc or demo" (02, A.6)
pub record Call : Type 0 where
  pub loader : Loader
  pub setup : ℕ
  pub shop : List Slot

abbrev pub fresh_blocks : Sheet → Script → Call → List Block
fresh_blocks h sc c = shop_blocks h (length sc.blocks) (with_slots c.shop)

abbrev pub disc_limits : Limits
disc_limits = limits block_limit command_limit node_limit

-- the demo has no limit of nodes: the disc's, which 9 has asked before, refuses nothing more
abbrev pub demo_limits : Limits
demo_limits = limits demo_blocks demo_commands node_limit

abbrev pub limits_of : Loader → Limits
limits_of Disc = disc_limits
limits_of Demo = demo_limits

-- the kept counts and what is appended pass no limit of l
unfoldable pub has_room : Limits → Script → List Block → Bool
has_room l sc xs =
    leb (length sc.blocks + length xs) l.blocks
    && (leb (sc.commands + sum_of block_commands xs) l.commands && leb (sc.nodes + sum_of block_nodes xs) l.nodes)

-- 9, and right after it 19: the result, counted the same, passes a limit of its loader. A disc's are those of 9, so that none of its compiles is 19
unfoldable pub room_refusal : Loader → Script → List Block → ℕ
room_refusal o sc xs = first_of (check (has_room disc_limits sc xs) no_room ∷ check (has_room (limits_of o) sc xs) demo_full ∷ [])

-- 1 to 7, 17, 8, 9, 19; j is what the judgement of the script answered, n the birth mark of the setup block (02, A.2: 17 right after 7)
unfoldable pub compile_checks : Sheet → ℕ → ℕ → Script → Call → ℕ
compile_checks h j n sc c =
    first_of (shared_refusal h j sc c.setup ∷ check (eqb n 0) born_later ∷ shop_refusal h c.shop ∷ room_refusal c.loader sc (fresh_blocks h sc c) ∷ [])

-- at a block whose mark is 0, as document 01 has it
abbrev pub compile_refusal : Sheet → Script → Call → ℕ
compile_refusal h sc c = compile_checks h (script_refusal sc) 0 sc c

-- the setup block becomes empty code, next the root
unfoldable pub redirect : ℕ → Block
redirect k = code [] (some k) none

unfoldable pub appended : Sheet → Script → Call → Script
appended h sc c = record {
  blocks = set (sc.blocks ++ fresh_blocks h sc c) c.setup (redirect (root_of h (length sc.blocks) 0 (with_slots c.shop)));
  commands = sc.commands + sum_of block_commands (fresh_blocks h sc c);
  nodes = sc.nodes + sum_of block_nodes (fresh_blocks h sc c);
}

-- refused, the script is unaltered
unfoldable pub compiled : Sheet → Script → Call → Script
compiled h sc c = cond (eqb (compile_refusal h sc c) 0) (appended h sc c) sc
