-- The tests answer in their order. Assumes nothing.
use Rattle.std.proofs.Common.{sym, ◌∙◌, ap, not, take, true≢false, ℕ}
use borrow.Author.Tests.{not-true, not-false}
use Rattle.settings.specs.Codes.{lacks_code}
use Rattle.signed_check.specs.Codes.{left_last, left_missing, left_own}
use Rattle.signed_check.proofs.is_left.Goals as goal
use Rattle.signed_check.proofs.is_left.Goals.{then-not-is_missing, else-not-is_missing}

pub returns-then-not-is_acquired : goal.returns-then-not-is_acquired
returns-then-not-is_acquired c =
    let cs = take c.args.n c.args.row.now in
    elim c.if-not-is_missing.branch [
      | then-not-is_missing w ↦ c.lacks.ensures ∙ ap (λ (x : ℕ). lacks_code x cs) c.negated.ensures ∙ left_last c.args.one c.args.own c.args.c cs (sym c.is_missing.ensures ∙ w.if-not-is_missing.true) (sym w.is_acquired.ensures ∙ not-true _ (sym w.value-is ∙ c.if-not-is_acquired.true))
      | else-not-is_missing w ↦ absurd (true≢false (sym c.if-not-is_acquired.true ∙ w.value-is ∙ ap not w.if-not-is_missing.false))
    ]

pub returns-else-not-is_acquired : goal.returns-else-not-is_acquired
returns-else-not-is_acquired c =
    let cs = take c.args.n c.args.row.now in
    elim c.if-not-is_missing.branch [
      | then-not-is_missing w ↦ c.if-not-is_acquired.false ∙ left_own c.args.one c.args.own c.args.c cs (sym c.is_missing.ensures ∙ w.if-not-is_missing.true) (sym w.is_acquired.ensures ∙ not-false _ (sym w.value-is ∙ c.if-not-is_acquired.false))
      | else-not-is_missing w ↦ c.if-not-is_acquired.false ∙ left_missing c.args.one c.args.own c.args.c cs (sym c.is_missing.ensures ∙ w.if-not-is_missing.false)
    ]
