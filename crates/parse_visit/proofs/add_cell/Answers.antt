use native.Mathlib.Omega.{arith}
use lib.ListN.{length-set}
use Rattle.parse_visit.proofs.add_cell.Goals as goal

pub bounds-cells-n-2 : goal.bounds-cells-n-2
bounds-cells-n-2 c = simp length-set (omega (arith, c.requires))

pub bounds-cells-n-3 : goal.bounds-cells-n-3
bounds-cells-n-3 c = simp length-set (omega (arith, c.requires))
