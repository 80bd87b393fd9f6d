use Rattle.parse_scan.specs.InPlace.{hidden_none, hidden_over, hidden_in}
use Rattle.parse_scan.proofs.hide_slot.Goals as goal

pub returns-then-len-gt-ENTRIES : goal.returns-then-len-gt-ENTRIES
returns-then-len-gt-ENTRIES c = hidden_none _ _ _ c.requires.0.0 _ _ c.if-len-gt-ENTRIES.true

pub returns-then-n-gt-ENTRIES : goal.returns-then-n-gt-ENTRIES
returns-then-n-gt-ENTRIES c = hidden_over _ _ _ c.requires.0.0 _ _ c.if-len-gt-ENTRIES.false _ _ (rw c.from.ensures at c.hide_part-n.ensures) c.if-n-gt-ENTRIES.true

pub returns : goal.returns
returns c = hidden_in _ _ _ c.requires.0.0 _ _ c.if-len-gt-ENTRIES.false _ _ (rw c.from.ensures at c.hide_part-n.ensures) c.requires.1.0 c.requires.1.1 c.if-n-gt-ENTRIES.false
