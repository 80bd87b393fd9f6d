use Rattle.std.proofs.Common.{refl, arith}
use Rattle.parse_keys.proofs.Entering.{entered_there, entered_new}
use Rattle.parse_keys.proofs.entry_of.Goals as goal

pub returns-in-Ok : goal.returns-in-Ok
returns-in-Ok c = entered_there _ _ _ _ _ c.requires.0 _ _ (rw c.from.ensures at c.in-Ok.ensures) refl

pub returns : goal.returns
returns c = entered_new _ _ _ _ _ c.requires.0 _ _ _ _ (rw c.from.ensures at c.in-Err.ensures) c.requires.1 (omega arith) (omega arith) _ (omega arith) (omega arith) (omega arith)
