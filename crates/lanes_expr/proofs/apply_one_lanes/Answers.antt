-- Not is a comparison with 0.
use Rattle.std.proofs.Common.{ap, pos}
use Rattle.model.specs.Limits.{most_saves}
use Rattle.model.specs.Signed.{b2z, eq_z}
use Rattle.lanes_expr.specs.Each.{each_as}
use Rattle.lanes_expr.proofs.Worths.{replicated}
use Rattle.lanes_expr.proofs.apply_one_lanes.Goals as goal

pub returns-in-Not : goal.returns-in-Not
returns-in-Not c = rw c.in-Not.is (each_as c.two_each.ensures (λ j x. ap (λ y. b2z (eq_z x y)) (replicated most_saves j (pos 0))))
