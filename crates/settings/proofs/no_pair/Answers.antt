-- The codes are asked one by one. Assumes nothing.
use Rattle.std.proofs.Common.{ap, sym, ◌∙◌, take, ℕ, List}
use Rattle.shop.proofs.All.{stop, done}
use Rattle.settings.specs.Codes.{lacks_code, no_pair_code}
use Rattle.settings.proofs.no_pair.Invariants.{alone}
use Rattle.settings.proofs.no_pair.Goals as goal

pub returns-then-not-lacks : goal.returns-then-not-lacks
unfolding no_pair_code
returns-then-not-lacks c =
    let cs : List ℕ = take c.args.n c.args.row.now in
    let i = c.loop-code.code-index in
    stop (alone cs) cs i c.loop-code.invariant 0 (rw c.from.ensures at c.loop-code-test.true)
    (sym (ap (λ (x : ℕ). lacks_code x cs) (rw c.from.ensures at c.negated.ensures)) ∙ sym c.lacks.ensures ∙ c.if-not-lacks.true)

pub returns : goal.returns
unfolding no_pair_code
returns c =
    let cs : List ℕ = take c.args.n c.args.row.now in
    done (alone cs) cs c.loop-code.code-index c.loop-code.invariant (rw c.from.ensures at c.loop-code-test.false)
