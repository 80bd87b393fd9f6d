-- Assumes nothing.
use Rattle.std.proofs.Common.{◌<◌, arith}
use borrow.Author.Tests.{lt-leb}
use Rattle.judge_record.specs.Whole.{limits_blocks, limits_commands, limits_nodes}
use Rattle.judge_record.proofs.within_limits.Goals as goal
use Rattle.judge_record.proofs.within_limits.Goals.{then-counts-le-BLOCK_LIMIT, else-counts-le-BLOCK_LIMIT}

pub returns-then-counts-le-COMMAND_LIMIT : goal.returns-then-counts-le-COMMAND_LIMIT
returns-then-counts-le-COMMAND_LIMIT c = limits_nodes c.args.counts c.if-counts-le-COMMAND_LIMIT.true.0 c.if-counts-le-COMMAND_LIMIT.true.1

pub returns-else-counts-le-COMMAND_LIMIT : goal.returns-else-counts-le-COMMAND_LIMIT
returns-else-counts-le-COMMAND_LIMIT c = elim c.if-counts-le-BLOCK_LIMIT.branch [
  | then-counts-le-BLOCK_LIMIT w ↦ let h : 16384 < c.args.counts.commands = omega arith in rw (w.t-3-is, lt-leb c.args.counts.commands 16384 h) (limits_commands c.args.counts w.if-counts-le-BLOCK_LIMIT.true h)
  | else-counts-le-BLOCK_LIMIT w ↦ rw (w.t-3-is, lt-leb c.args.counts.blocks 4096 w.if-counts-le-BLOCK_LIMIT.false) (limits_blocks c.args.counts w.if-counts-le-BLOCK_LIMIT.false)
]
