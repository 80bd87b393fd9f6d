-- By the tests in their order. Assumes nothing.
use Rattle.std.proofs.Common.{sym, ◌∙◌, ap, not, take, true≢false}
use Rattle.settings.specs.Counting.{new_own, new_there, new_last}
use Rattle.settings.proofs.is_new.Goals as goal
use Rattle.settings.proofs.is_new.Goals.{then-not-is_own, else-not-is_own}

pub returns-then-lacks : goal.returns-then-lacks
returns-then-lacks c =
    let seen = take c.args.i c.args.row.now in
    elim c.if-not-is_own.branch [
      | then-not-is_own w ↦ c.lacks-then-lacks.ensures ∙ new_last c.args.one c.args.own c.args.c seen (sym c.is_own.ensures ∙ w.if-not-is_own.true) (sym w.lacks.ensures ∙ sym w.value-is ∙ c.if-lacks.true) _ c.negated.ensures
      | else-not-is_own w ↦ absurd (true≢false (sym c.if-lacks.true ∙ w.value-is ∙ ap not w.if-not-is_own.false))
    ]

pub returns-else-lacks : goal.returns-else-lacks
returns-else-lacks c =
    let seen = take c.args.i c.args.row.now in
    elim c.if-not-is_own.branch [
      | then-not-is_own w ↦ c.if-lacks.false ∙ new_there c.args.one c.args.own c.args.c seen (sym c.is_own.ensures ∙ w.if-not-is_own.true) (sym w.lacks.ensures ∙ sym w.value-is ∙ c.if-lacks.false)
      | else-not-is_own w ↦ c.if-lacks.false ∙ new_own c.args.one c.args.own c.args.c seen (sym c.is_own.ensures ∙ w.if-not-is_own.false)
    ]
