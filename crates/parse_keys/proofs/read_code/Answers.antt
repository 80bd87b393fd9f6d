use Rattle.parse_keys.proofs.Codes.{read_by}
use Rattle.parse_keys.proofs.read_code.Goals as goal

pub returns-in-Flag : goal.returns-in-Flag
returns-in-Flag c = read_by _ _ _ _ _ c.ranges.items.fits c.ranges.atcs.fits (rw c.in-Flag.is c.flag_code.ensures)

pub returns-in-Item : goal.returns-in-Item
returns-in-Item c = read_by _ _ _ _ _ c.ranges.items.fits c.ranges.atcs.fits (rw c.in-Item.is c.id_code.ensures)

pub returns-in-Atc : goal.returns-in-Atc
returns-in-Atc c = read_by _ _ _ _ _ c.ranges.items.fits c.ranges.atcs.fits (rw c.in-Atc.is c.id_code-in-Atc.ensures)
