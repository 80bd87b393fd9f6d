-- Goto, If and EndIf name a block, no other command does.
use Rattle.std.proofs.Common.{refl, arith}
use Rattle.lanes_falls.specs.Marking.{names_it, target_none, target_some}
use Rattle.lanes_falls.proofs.target_below.Goals as goal
use Rattle.lanes_falls.proofs.target_below.Goals.{in-1-1, in_default+else-this-lt3+then-this-lt5}

pub returns-in_default : goal.returns-in_default
returns-in_default c = target_none c.args.cw.now c.args.i _ _ (λ e. omega arith) (λ e. omega arith) (λ e. omega arith)

pub returns-in_default-2 : goal.returns-in_default-2
returns-in_default-2 c = target_none c.args.cw.now c.args.i _ _ (λ e. omega arith) (λ e. omega arith) (λ e. omega arith)

pub returns-in-1 : goal.returns-in-1
returns-in-1 c =
    target_some c.args.cw.now c.args.i _ _ refl
    (elim c.in-1-1.branch [
      | in-1-1 w ↦ names_it _ (λ p q s. omega arith)
      | in_default+else-this-lt3+then-this-lt5 w ↦ names_it _ (λ p q s. omega arith)
    ])
    c.mark_below.ensures
