use Rattle.std.proofs.Common.{refl}
use Rattle.parse_conditions.proofs.Reading.{leaf_none, leaf_keys, leaf_list, leaf_one}
use Rattle.parse_conditions.proofs.read_leaf.Goals as goal

pub returns-then-w-eq0 : goal.returns-then-w-eq0
returns-then-w-eq0 c = leaf_none c.args.ws.now c.args.val.now c.args.known c.args.b c.args.i c.args.neg c.args.r _ _ _ _ _ _ _ _ c.requires.1 c.read_entry-w.ensures c.if-w-eq0.true

pub returns-then-w : goal.returns-then-w
returns-then-w c = leaf_keys c.args.ws.now c.args.val.now c.args.known c.args.b c.args.i c.args.neg c.args.r _ _ _ _ _ _ _ _ c.requires.1 c.read_entry-w.ensures c.if-w.true

pub returns-then-list-at : goal.returns-then-list-at
returns-then-list-at c = leaf_list c.args.ws.now c.args.val.now c.args.known c.args.b c.args.i c.args.neg c.args.r _ _ _ _ _ _ _ _ c.requires.1 c.read_entry-w.ensures c.if-w-eq0.false c.if-w.false _ refl c.if-list-at.true

pub returns : goal.returns
returns c = leaf_one c.args.ws.now c.args.val.now c.args.known c.args.b c.args.i c.args.neg c.args.r _ _ _ _ _ _ _ _ c.requires.1 c.read_entry-w.ensures c.if-w-eq0.false c.if-w.false _ refl _ c.if-list-at.false (rw c.from.ensures)
