-- The loop of `pack`: the blocks so far.
use Rattle.std.proofs.Common.{◌≡◌}
use Rattle.reclaim_pack.specs.Table.{table_rank, packed_to}
use Rattle.reclaim_pack.proofs.pack.Given as goal

abbrev pub invariant-loop-b : goal.invariant-loop-b
invariant-loop-b l = l.bw ≡ packed_to (table_rank l.table l.blocks l.total) l.live l.b l.initial.bw
