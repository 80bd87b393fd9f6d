-- `parse_filter::clear_part` meets its contract: the marks of the words so far are taken away. Assumes nothing.
use mathlib.Core.Path.{◌≡◌}
use Prim.Native.Nat.{◌≤◌}
use lib.ListN.{length}
use Rattle.parse_filter.specs.Chains.{signed_part}
use Rattle.parse_filter.specs.Marks.{Unmarks}
use Rattle.parse_filter.proofs.clear_part.Given as goal

abbrev pub invariant-loop-j : goal.invariant-loop-j
invariant-loop-j l = ((l.from ≤ l.j) × (l.j ≤ l.to)) × (Unmarks l.initial.seen (signed_part l.companions l.list l.neg l.from l.j) l.seen × (length l.seen ≡ length l.initial.seen))
