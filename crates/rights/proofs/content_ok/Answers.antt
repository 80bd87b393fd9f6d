-- By the field whose content it is. Assumes nothing.
use Rattle.shop.specs.Shapes.{sheet_of}
use Rattle.rights.specs.Answers.{item_ok, requirements_ok}
use Rattle.rights.proofs.content_ok.Goals as goal

pub returns-in-Item : goal.returns-in-Item
returns-in-Item c = item_ok (sheet_of c.args.attached.now c.args.sheet) c.args.field c.args.content c.in-Item.is c.item_known.result c.item_known.ensures

pub returns-in-Requirements : goal.returns-in-Requirements
returns-in-Requirements c = requirements_ok (sheet_of c.args.attached.now c.args.sheet) c.args.field c.args.content c.in-Requirements.is c.check_parts.result c.check_parts.ensures
