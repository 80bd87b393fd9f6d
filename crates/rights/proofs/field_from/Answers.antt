-- Fields by number. Assumes nothing.
use Rattle.std.proofs.Common.{arith}
use Rattle.rights.specs.ArrayLaws.{field_item, field_limit, field_rest}
use Rattle.rights.proofs.field_from.Goals as goal

pub returns-in-0 : goal.returns-in-0
returns-in-0 c = field_item c.args.field c.in-0.is

pub returns-in-1 : goal.returns-in-1
returns-in-1 c = field_limit c.args.field c.in-1.is

pub returns-in_default : goal.returns-in_default
returns-in_default c = field_rest c.args.field (λ q. omega arith) (λ q. omega arith)
