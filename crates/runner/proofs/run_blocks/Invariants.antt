use Rattle.model.specs.Memory.{script_of}
use Rattle.memory.specs.View.{memory_of}
use Rattle.expr.specs.Value.{reads}
use Rattle.runner.proofs.Rest.{Entered}
use Rattle.runner.proofs.run_blocks.Given as goal

abbrev pub invariant-loop-before : goal.invariant-loop-before
invariant-loop-before l = Entered (script_of (memory_of l.ws l.val l.cw l.bw l.counts)).blocks (reads l.items l.atcs l.flags l.times) l.budget l.fn.start.0 l.fn.vars l.before l.b.0 l.vars
