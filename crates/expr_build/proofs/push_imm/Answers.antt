use mir.Syntax.{w32}
use mir.Facts.{to_z-of_z}
use Rattle.expr_build.specs.Laws.{imm16_put, imm32_put, put_imm, imm_below, imm_above, imm_between}
use Rattle.expr_build.proofs.push_imm.Goals as goal

pub returns-then-z-lt-LEAST16 : goal.returns-then-z-lt-LEAST16
returns-then-z-lt-LEAST16 c = let f = to_z-of_z {w = w32} c.ranges.z in put_imm c.args.z (rw (imm_below c.args.z (rw f at c.if-z-lt-LEAST16.true)) (imm32_put (rw f at c.push_node.ensures)))

pub returns-then-z-gt32767 : goal.returns-then-z-gt32767
returns-then-z-gt32767 c = let f = to_z-of_z {w = w32} c.ranges.z in put_imm c.args.z (rw (imm_above c.args.z (rw f at c.if-z-gt32767.true)) (imm32_put (rw f at c.push_node-then-z-gt32767.ensures)))

pub returns : goal.returns
returns c = let f = to_z-of_z {w = w32} c.ranges.z in put_imm c.args.z (rw (imm_between c.args.z (rw f at c.if-z-lt-LEAST16.false) (rw f at c.if-z-gt32767.false)) (imm16_put (rw f at c.push_node-2.ensures)))
