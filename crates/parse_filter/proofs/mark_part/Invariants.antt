-- `parse_filter::mark_part` meets its contract: the words so far are marked. Assumes nothing.
use mathlib.Core.Path.{◌≡◌}
use Prim.Native.Nat.{◌≤◌}
use lib.ListN.{length}
use Rattle.parse_filter.specs.Chains.{signed_part}
use Rattle.parse_filter.specs.Marks.{Marks}
use Rattle.parse_filter.proofs.mark_part.Given as goal

abbrev pub invariant-loop-j : goal.invariant-loop-j
invariant-loop-j l = ((l.from ≤ l.j) × (l.j ≤ l.to)) × (Marks l.initial.seen l.initial.alive l.before (signed_part l.companions l.list l.neg l.from l.j) l.seen l.alive l.a × ((length l.seen ≡ length l.initial.seen) × (length l.alive ≡ length l.initial.alive)))
