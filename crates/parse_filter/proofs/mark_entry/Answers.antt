use Rattle.parse_filter.proofs.Marking.{entry_seen, entry_new}
use Rattle.parse_filter.proofs.mark_entry.Goals as goal

pub returns-then-seen-from : goal.returns-then-seen-from
returns-then-seen-from c =
    entry_seen c.args.seen.now c.args.alive.now c.args.a c.args.e (rw c.from.ensures at c.if-seen-from.true)

pub returns : goal.returns
returns c =
    rw c.from-2.ensures
    (entry_new c.args.seen.now c.args.alive.now c.args.a c.args.e (rw c.from.ensures at c.if-seen-from.false) c.requires.0 c.requires.1)
