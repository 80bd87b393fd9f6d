-- By the number's sign: the laws are of specs/Signed.antt.
use Rattle.std.specs.Prelude.{◌*◌, ℤ, nat_abs}
use Rattle.std.proofs.Common.{ap, ◌∙◌, to_z-of_z}
use Rattle.image_numbers.specs.Signed.{flipped, plain}
use Rattle.image_numbers.proofs.folded.Goals as goal

pub returns-then-z-lt0 : goal.returns-then-z-lt0
returns-then-z-lt0 c =
    let f = flipped _ c.ranges.z (rw (to_z-of_z c.ranges.z) at c.if-z-lt0.true) in
    rw (to_z-of_z c.ranges.z, f.is, to_z-of_z (record { sfits = f.low })) f.folds

pub returns-else-z-lt0 : goal.returns-else-z-lt0
returns-else-z-lt0 c =
    let p = plain _ c.ranges.z (rw (to_z-of_z c.ranges.z) at c.if-z-lt0.false) in
    rw (to_z-of_z c.ranges.z) (ap (λ (x : ℤ). 2 * nat_abs x) p.is ∙ p.folds)
