-- The steps are laws of specs/.
use Rattle.slots_sheet.specs.Steps.{number_found, number_bad}
use Rattle.slots_sheet.proofs.read.Goals as goal

pub returns-in-Some : goal.returns-in-Some
returns-in-Some c = number_found c.args.s.now c.args.at c.read_number.ensures c.in-Some.is

pub returns-in-None : goal.returns-in-None
returns-in-None c = number_bad c.args.s.now c.args.at c.read_number.ensures c.in-None.is
