-- By the item's atc, if it has one. Assumes nothing.
use Rattle.std.proofs.Common.{ap, ◌∙◌, not}
use Rattle.model.specs.Meaning.{holds}
use Rattle.checks.specs.Calls.{save_of}
use Rattle.preview.proofs.Acquired.{owned_by}
use Rattle.preview.proofs.is_owned.Goals as goal

pub returns-in-None : goal.returns-in-None
unfolding holds
returns-in-None c = λ h f t v.
    ap not (rw c.from.ensures at c.equals_at.ensures) ∙ owned_by (save_of c.args.items.now c.args.atcs.now f t v) c.args.attached.now h c.args.item.0 _ c.in-None.ensures

pub returns-in-Some : goal.returns-in-Some
unfolding holds
returns-in-Some c = λ h f t v.
    (rw c.from-in-Some.ensures at c.bit_at.ensures) ∙ owned_by (save_of c.args.items.now c.args.atcs.now f t v) c.args.attached.now h c.args.item.0 _ c.in-Some.ensures
