-- By the reason. Assumes nothing.
use Rattle.std.proofs.Common.{◌∙◌, ap, not, take, ℕ, arith}
use Rattle.settings.specs.Codes.{lacks_code}
use Rattle.signed_check.specs.Answer.{reason_number}
use Rattle.signed_check.specs.Codes.{concerns_outside, concerns_own, concerns_pair}
use Rattle.signed_check.proofs.concerns.Goals as goal

pub returns-in-Outside : goal.returns-in-Outside
returns-in-Outside c =
    let e = ap reason_number c.in-Outside.is in
    c.is_outside.ensures ∙ concerns_outside c.args.own (take c.args.n c.args.row.now) c.args.c _ e

pub returns-in-Pair : goal.returns-in-Pair
returns-in-Pair c =
    let cs = take c.args.n c.args.row.now in
    let e = ap reason_number c.in-Pair.is in
    ap not (c.lacks.ensures ∙ ap (λ (x : ℕ). lacks_code x cs) c.negated.ensures) ∙ concerns_pair c.args.own cs c.args.c _ (λ q. omega (arith, e)) e

pub returns-in-Own : goal.returns-in-Own
returns-in-Own c =
    let e = ap reason_number c.in-Own.is in
    concerns_own c.args.own (take c.args.n c.args.row.now) c.args.c _ (λ q. omega (arith, e)) (λ q. omega (arith, e))
