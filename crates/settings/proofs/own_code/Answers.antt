-- By the item's atc, if it has one. Assumes nothing.
use Rattle.std.proofs.Common.{◌∙◌}
use Rattle.settings.specs.Codes.{own_code_lem, item_code, atc_code}
use Rattle.settings.proofs.own_code.Goals as goal

pub returns-in-None : goal.returns-in-None
returns-in-None c = λ h. rw c.from.ensures (item_code c.args.item.0 ∙ own_code_lem c.args.attached.now h c.args.item.0 _ c.in-None.ensures)

pub returns-in-Some : goal.returns-in-Some
returns-in-Some c = λ h. rw c.from-in-Some.ensures (atc_code c.args.item.0 c.in-Some.atc.0 ∙ own_code_lem c.args.attached.now h c.args.item.0 _ c.in-Some.ensures)
