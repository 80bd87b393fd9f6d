-- How long the image of an accepted record can be, by its kept counts; and a plain record is an accepted one. Assumes nothing.
use Rattle.std.specs.Prelude.{◌≡◌, refl, true, List, [], ◌∷◌, ◌++◌, ℕ, suc, ◌+◌, ◌*◌, ◌≤◌, ltb, length}
use Rattle.std.proofs.Common.{ap, arith, length-append}
use Rattle.std.proofs.Math.Option.{Option, none, some}
use Rattle.model.specs.Expr.{Expr, two, one, imm16, imm32, other, size}
use Rattle.model.specs.Script.{Command, return, goto, set_variable, set_other, if_else, end_if, other_command, Block, placeholder, code, data_block, command_nodes, commands_nodes, block_nodes, block_commands, sum_of}
use Rattle.model.specs.Reading.{got, word, word_to, zig}
use Rattle.model.specs.Image.{code2, code1, expr_image, command_image, commands_image, link_image, block_image, blocks_image, image}
use Rattle.model.specs.declared.Op2.{Op2}
use Rattle.model.specs.declared.Op2.TheVariants.{Equal, NotEqual, Less, LessEqual, Greater, GreaterEqual, Add, Subtract, BitAnd, BitOr}
use Rattle.model.specs.declared.Op1.{Op1}
use Rattle.model.specs.declared.Op1.TheVariants.{Not, Flag, Variable, Item, Atc, Time}
use Rattle.model.specs.Memory.{Memory, script_of}
use Rattle.model.specs.Record.{judged_record}
use Rattle.model.proofs.Laws.Judged.{accepted_held}
use Rattle.memory.specs.RecordLaws.{judged_sound}
use Rattle.memory.specs.Transfer.{blocks_counted, accepted_script}
use Rattle.image_numbers.specs.Lengths.{word_short}
use Rattle.judge_record.specs.Stages.{Accepted}
use Rattle.judge_plain.specs.Counted.{Plain}

-- codes are one byte
code2_one : (o : Op2) → length (word (code2 o)) ≡ 1
unfolding word word_to
code2_one Equal = refl
code2_one NotEqual = refl
code2_one Less = refl
code2_one LessEqual = refl
code2_one Greater = refl
code2_one GreaterEqual = refl
code2_one Add = refl
code2_one Subtract = refl
code2_one BitAnd = refl
code2_one BitOr = refl

code1_one : (o : Op1) → length (word (code1 o)) ≡ 1
unfolding word word_to
code1_one Not = refl
code1_one Flag = refl
code1_one Variable = refl
code1_one Item = refl
code1_one Atc = refl
code1_one Time = refl

-- a number below 128 is one byte
low_one : (n : ℕ) → ltb n 128 ≡ true → length (word n) ≡ 1
unfolding word word_to
low_one n e = rw e

expr_short : (e : Expr) → length (expr_image e) ≤ 6 * size e
unfolding expr_image size
expr_short (two o a b) =
    omega (arith, length-append (word (code2 o)) (expr_image a ++ expr_image b), length-append (expr_image a) (expr_image b), code2_one o, expr_short a, expr_short b)
expr_short (one o a) = omega (arith, length-append (word (code1 o)) (expr_image a), code1_one o, expr_short a)
expr_short (imm16 z) = omega (arith, length-append (word 11) (word (zig z)), low_one 11 refl, word_short (zig z))
expr_short (imm32 z) = omega (arith, length-append (word 12) (word (zig z)), low_one 12 refl, word_short (zig z))
expr_short other = omega (arith, low_one 18 refl)

command_short : (c : Command) → length (command_image c) ≤ 6 + 6 * command_nodes c
unfolding command_image command_nodes
command_short return = omega (arith, low_one 0 refl)
command_short (goto k) = omega (arith, length-append (word 1) (word k), low_one 1 refl, word_short k)
command_short (set_variable t e) =
    omega (arith, length-append (word 2) (word 0 ++ (expr_image t ++ expr_image e)), length-append (word 0) (expr_image t ++ expr_image e), length-append (expr_image t) (expr_image e), low_one 2 refl, low_one 0 refl, expr_short t, expr_short e)
command_short (set_other e) = omega (arith, length-append (word 2) (word 1 ++ expr_image e), length-append (word 1) (expr_image e), low_one 2 refl, low_one 1 refl, expr_short e)
command_short (if_else e k) = omega (arith, length-append (word 3) (expr_image e ++ word k), length-append (expr_image e) (word k), low_one 3 refl, expr_short e, word_short k)
command_short (end_if k) = omega (arith, length-append (word 4) (word k), low_one 4 refl, word_short k)
command_short other_command = omega (arith, low_one 5 refl)

commands_short : (cs : List Command) → length (commands_image cs) ≤ 6 * length cs + 6 * commands_nodes cs
unfolding commands_image commands_nodes
commands_short [] = omega arith
commands_short (c ∷ cs) = omega (arith, length-append (command_image c) (commands_image cs), command_short c, commands_short cs)

link_short : (o : Option ℕ) → length (link_image o) ≤ 5
unfolding link_image
link_short none = word_short 0
link_short (some k) = word_short (suc k)

block_short : (b : Block) → length (block_image b) ≤ 16 + 6 * block_commands b + 6 * block_nodes b
unfolding block_image block_commands block_nodes
block_short placeholder = omega (arith, word_short 0)
block_short (code cs nx el) =
    omega (
      arith,
      length-append (word 1) (word (length cs) ++ (commands_image cs ++ (link_image nx ++ link_image el))),
      length-append (word (length cs)) (commands_image cs ++ (link_image nx ++ link_image el)),
      length-append (commands_image cs) (link_image nx ++ link_image el),
      length-append (link_image nx) (link_image el),
      low_one 1 refl,
      word_short (length cs),
      commands_short cs,
      link_short nx,
      link_short el,
    )
block_short data_block = omega (arith, word_short 2)

blocks_short : (bs : List Block) → length (blocks_image bs) ≤ 16 * length bs + 6 * sum_of block_commands bs + 6 * sum_of block_nodes bs
unfolding blocks_image
blocks_short [] = omega arith
blocks_short (b ∷ bs) = omega (arith, length-append (block_image b) (blocks_image bs), block_short b, blocks_short bs)

-- so many bytes hold the image of any accepted record with these kept counts
abbrev pub most_bytes : ℕ → ℕ → ℕ → ℕ
most_bytes blocks commands nodes = 5 + 16 * blocks + 6 * commands + 6 * nodes

pub record_short : (m : Memory) (bs : List Block) (r : List ℕ) → judged_record m ≡ got bs r → length (image bs) ≤ most_bytes m.count m.coded.count m.coded.nodes.count
unfolding image script_of
record_short m bs r e =
    let j = judged_sound m bs r e in
    let d = (accepted_held (script_of m) (accepted_script m bs r e)).1 in
    let n = blocks_counted m in
    omega (
      arith,
      n,
      length-append (word (length bs)) (blocks_image bs),
      word_short (length bs),
      blocks_short bs,
      ap length j.blocks_are,
      ap (sum_of block_commands) j.blocks_are,
      ap (sum_of block_nodes) j.blocks_are,
      d.commands,
      d.nodes,
    )

pub plain_accepted : (m : Memory) (p : Plain m) → Accepted m (length (image p.blocks))
plain_accepted m p = record { blocks = p.blocks; judged = p.judged; same = (judged_sound m p.blocks [] p.judged).image_is; bytes = refl }

-- so it fits where so many bytes do
pub plain_fits : (m : Memory) (p : Plain m) (n : ℕ) → most_bytes m.count m.coded.count m.coded.nodes.count ≤ n → length (image p.blocks) ≤ n
plain_fits m p n h = omega (arith, record_short m p.blocks _ p.judged)
