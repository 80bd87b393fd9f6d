use Rattle.std.proofs.Common.{◌-◌}
use Rattle.model.specs.Memory.{link_in}
use Rattle.expr.specs.Value.{reads}
use Rattle.runner.proofs.Laws.{Passed}
use Rattle.runner.proofs.execute_block.Given as goal

abbrev pub invariant-loop-c : goal.invariant-loop-c
invariant-loop-c l = Passed (reads l.items l.atcs l.flags l.times) (link_in l.link.0) l.ws l.val l.cw l.first l.many l.fn.vars l.vars (l.c - l.first)
