-- Commands before place i were passed.
use Rattle.model.specs.Memory.{link_in}
use Rattle.expr.specs.Value.{reads}
use Rattle.lanes_model.specs.Flat.{save_in}
use Rattle.lanes_block.specs.Flows.{Passed}
use Rattle.lanes_block.proofs.execute_block.Given as goal

abbrev pub invariant-loop-i : goal.invariant-loop-i
invariant-loop-i l = Passed (save_in l.w.items l.w.atcs (reads l.items l.atcs l.flags l.times)) (link_in l.c.link) l.ws l.val l.cw l.c.first l.c.many l.ls l.w.lanes l.initial.vs l.initial.rs l.vs l.rs l.i
