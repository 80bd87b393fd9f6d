-- The loop's invariant: what is on the stack is still to be walked, from what there is so far; the measure is the number of unmarked blocks. Assumes nothing.
-- the record, and the slots as a turn finds them
-- the block to visit, which is code
-- the tables, the marks and the slots as a visit leaves them
use lib.ListN.{get_or, take}
use Rattle.shop_arrays.specs.Arrays.{arrays_in, shop_from}
use Rattle.model.proofs.Laws.Marks.{unmarked}
use Rattle.parse_visit.specs.State.{stored_in}
use Rattle.parse_walk.specs.Walks.{Turning, Lengths}
use Rattle.memory.specs.View.{memory_of}
use Rattle.parse_walk.proofs.walk_all.Given as goal

abbrev pub invariant-loop-depth : goal.invariant-loop-depth
invariant-loop-depth l =
    Turning l.g.known (memory_of l.ws l.val l.cw l.bw l.g.counts) (get_or l.initial.stack 0 0) (stored_in l.keys l.kids l.companions l.list l.seen l.alive l.cells)
    l.marks l.stack (shop_from (arrays_in l.items l.limits l.codes l.lens)) l.w l.depth
    × Lengths (stored_in l.keys l.kids l.companions l.list l.seen l.alive l.cells) l.stack (stored_in l.initial.keys l.initial.kids l.initial.companions l.initial.list l.initial.seen l.initial.alive l.initial.cells) l.initial.stack

abbrev pub decreases-loop-depth : goal.decreases-loop-depth
decreases-loop-depth l = unmarked (take l.g.counts.blocks l.marks)
