-- A block with a mark is left, one without goes behind the queue, which has room for it.
use Rattle.reclaim_reach.specs.Pieces.{marked_before, room_now, marked_now}
use Rattle.reclaim_reach.proofs.mark.Goals as goal

pub returns-then-live-i : goal.returns-then-live-i
returns-then-live-i c = marked_before _ _ _ c.requires.0 c.from-i.ensures c.if-live-i.true

pub bounds-todo-n : goal.bounds-todo-n
bounds-todo-n c = room_now _ _ _ c.requires.0 c.from-i.ensures c.requires.1 c.if-live-i.false

pub returns : goal.returns
returns c = marked_now _ _ _ c.requires.0 c.from-i.ensures c.requires.1 c.if-live-i.false
