use Rattle.std.proofs.Common.{◌≡◌, ap, ◌∙◌, arith}
use Rattle.std.specs.Prelude.{Ok}
use Rattle.runner.proofs.Rest.{one_entered, done_entered, halt_entered, all_spent}
use Rattle.runner.proofs.run_blocks.Goals as goal

pub returns-in-Ok-None : goal.returns-in-Ok-None
returns-in-Ok-None c = done_entered _ _ _ _ _ c.loop-before.invariant (omega arith) c.step_block.result c.step_block.new.vars (c.in-Ok-None.is ∙ ap Ok c.in-Ok-None.field-0-is) c.step_block.ensures

pub returns-in-Err : goal.returns-in-Err
returns-in-Err c = halt_entered _ _ _ _ _ c.loop-before.invariant (omega arith) c.step_block.result _ c.step_block.new.vars c.in-Err.is c.step_block.ensures

pub loop-before-preserved : goal.loop-before-preserved
loop-before-preserved c = one_entered _ _ _ _ _ c.loop-before.invariant (omega arith) c.step_block.result _ c.step_block.new.vars (c.in-Ok-Some.is ∙ ap Ok c.in-Ok-Some.field-0-is) c.step_block.ensures

pub returns : goal.returns
returns c =
    let e : c.args.budget ≡ c.loop-before.before = omega arith in
    ap (λ k. record { answer = 15; variables = c.loop-before.vars; entered = k }) e ∙ all_spent _ _ _ _ _ c.loop-before.invariant (omega arith)
