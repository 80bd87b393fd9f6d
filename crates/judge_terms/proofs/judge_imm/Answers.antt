-- A number below its limit is accepted, and is short. Assumes nothing.
use Rattle.std.proofs.Common.{arith}
use mir.Facts.{to_z-of_z}
use Rattle.image_numbers.specs.Signed.{zig_low}
use Rattle.image_numbers.specs.Lengths.{word_short}
use Rattle.judge_terms.specs.Nodes.{imm_fine, imm_no}
use Rattle.judge_terms.proofs.judge_imm.Goals as goal

pub word_length-requires : goal.word_length-requires
word_length-requires c = omega (arith, zig_low _ c.ranges.z, rw (to_z-of_z c.ranges.z) at c.folded-v.ensures)

pub overflow_add-result : goal.overflow_add-result
overflow_add-result c = omega (arith, c.word_length.ensures, word_short c.folded-v.result)

pub returns-then-v-limit : goal.returns-then-v-limit
returns-then-v-limit c = imm_fine _ _ _ _ _ _ (rw (to_z-of_z c.ranges.z) at c.folded-v.ensures) c.if-v-limit.true c.word_length.ensures

pub returns-else-v-limit : goal.returns-else-v-limit
returns-else-v-limit c = imm_no _ _ _ _ _ (rw (to_z-of_z c.ranges.z) at c.folded-v.ensures) c.if-v-limit.false

pub overflow_cast-result : goal.overflow_cast-result
overflow_cast-result c = record { fits = omega (arith, word_short c.folded-v.result) }
