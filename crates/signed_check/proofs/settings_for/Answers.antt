-- Faithful or with a flag outside, there are none. Assumes nothing.
use Rattle.std.proofs.Common.{ap, List, ℕ, inl, inr}
use Rattle.shop.specs.Sets.{reqs_in, reqs_of}
use Rattle.signed_check.proofs.settings_for.Goals as goal

pub returns-in-Faithful : goal.returns-in-Faithful
unfolding reqs_of
returns-in-Faithful c =
    let z = ap (λ (l : List ℕ). reqs_in l 0) c.requires.1 in
    elim c.in-Faithful.is [ inl e ↦ rw e z | inr w ↦ rw w.1 z ]
