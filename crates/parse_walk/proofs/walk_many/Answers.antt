use Rattle.std.proofs.Common.{◌≡◌, refl, false, replicate, arith}
use Rattle.model.specs.Limits.{block_limit}
use Rattle.memory.specs.View.{memory_of}
use Rattle.parse_visit.specs.declared.Stop.TheVariants.{NoRoom}
use Rattle.parse_walk.proofs.Turns.{few_blocks}
use Rattle.parse_walk.proofs.Starts.{start_holds, first_under, large_start}
use Rattle.parse_walk.proofs.walk_many.Goals as goal

pub walk_all-outcome-requires-clause-holding : goal.walk_all-outcome-requires-clause-holding
walk_all-outcome-requires-clause-holding c = (
  start_holds c.args.g.known 12289 24578 24578 12288 24578 12288 12288 (omega arith) (omega arith) (omega arith) (omega arith) (omega arith) (omega arith) (omega arith),
  (refl {a = replicate block_limit false}, (omega arith, first_under 8194 c.args.setup.0 (omega arith))),
)

pub unreachable-requires : goal.unreachable-requires
unreachable-requires c =
    let m = memory_of c.args.ws.now c.args.val.now c.args.cw.now c.args.bw.now c.args.g.counts in
    let l = large_start m (few_blocks m c.requires.accepted.0) 12289 24578 24578 12288 24578 12288 12288 8194 c.args.setup.0 (omega arith) (omega arith) (omega arith) (omega arith) in
    let e : c.in-Err-NoRoom.field-0 ≡ NoRoom = rw c.in-Err-NoRoom.is at c.in-Err-NoRoom.field-0-is in
    c.walk_all-outcome.ensures.room l (rw (c.in-Err-NoRoom.is, e) refl)
