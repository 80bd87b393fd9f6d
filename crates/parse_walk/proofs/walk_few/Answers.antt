use Rattle.std.proofs.Common.{refl, false, replicate, arith}
use Rattle.model.specs.Limits.{block_limit}
use Rattle.parse_walk.proofs.Starts.{start_holds, first_block, first_under, walked_from}
use Rattle.parse_walk.proofs.walk_few.Goals as goal

pub walk_all-requires-clause-holding : goal.walk_all-requires-clause-holding
walk_all-requires-clause-holding c = (
  start_holds c.args.g.known 256 512 512 512 512 512 384 (omega arith) (omega arith) (omega arith) (omega arith) (omega arith) (omega arith) (omega arith),
  (refl {a = replicate block_limit false}, (omega arith, first_under 516 c.args.setup.0 (omega arith))),
)

pub returns : goal.returns
returns c = walked_from c.walk_all.ensures _ (first_block 516 c.args.setup.0 (omega arith))
