use Rattle.std.proofs.Common.{refl}
use Rattle.parse_scan.specs.Rows.{row_over, row_more}
use Rattle.parse_scan.proofs.hide_row.Goals as goal

pub returns-then-held-gt-ENTRIES : goal.returns-then-held-gt-ENTRIES
returns-then-held-gt-ENTRIES c = row_over _ _ _ _ _ _ c.loop-code.invariant c.loop-code-test.true _ refl _ _ c.insert_row-held.ensures c.if-held-gt-ENTRIES.true

pub loop-code-preserved : goal.loop-code-preserved
loop-code-preserved c = row_more _ _ _ _ _ _ c.loop-code.invariant c.loop-code-test.true _ refl _ _ c.insert_row-held.ensures c.if-held-gt-ENTRIES.false
