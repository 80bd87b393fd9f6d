use Rattle.parse_filter.proofs.signed_entry.Goals as goal

pub returns-then-neg : goal.returns-then-neg
returns-then-neg c = rw (c.if-neg.true, c.from.ensures)
