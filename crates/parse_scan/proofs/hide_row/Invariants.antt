-- The first codes are in.
use Rattle.std.proofs.Common.{take}
use Rattle.parse_scan.specs.Rows.{RowHiding}
use Rattle.parse_scan.proofs.hide_row.Given as goal

abbrev pub invariant-loop-code : goal.invariant-loop-code
invariant-loop-code l = RowHiding l.initial.row l.n (take l.len l.more) l.row l.held l.code-index
