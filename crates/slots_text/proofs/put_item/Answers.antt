-- A number, or a dash.
use Rattle.std.proofs.Common.{arith}
use Rattle.image_numbers.specs.Stored.{stored_as}
use Rattle.slots_text.specs.Written.{space_as}
use Rattle.slots_text.specs.Lines.{item_none, item_some}
use Rattle.slots_text.proofs.put_item.Goals as goal

pub put_byte-requires : goal.put_byte-requires
put_byte-requires c = let s = (space_as (item_none _ c.in-None.is) c.requires).fits in omega arith

pub put_decimal-requires : goal.put_decimal-requires
put_decimal-requires c = rw c.from.ensures (space_as (item_some _ _ c.in-Some.is) c.requires)

pub returns-in-None : goal.returns-in-None
returns-in-None c = stored_as (item_none _ c.in-None.is) c.put_byte.ensures

pub returns-in-Some : goal.returns-in-Some
returns-in-Some c = stored_as (item_some _ _ c.in-Some.is) (rw c.from.ensures at c.put_decimal.ensures)
