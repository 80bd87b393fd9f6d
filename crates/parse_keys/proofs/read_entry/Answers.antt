use Rattle.parse_keys.proofs.Entering.{node_subject, read_none, read_some}
use Rattle.parse_keys.proofs.read_entry.Goals as goal

pub returns-then-code-eq0 : goal.returns-then-code-eq0
returns-then-code-eq0 c =
    read_none c.args.ws.now c.args.val.now c.args.known c.args.b c.args.i c.args.neg _
    c.code_below-code.ensures _ _ _ _ c.requires.1 c.if-code-eq0.true

pub entry_of-requires : goal.entry_of-requires
entry_of-requires c =
    (c.requires.1, node_subject c.args.ws.now c.args.val.now c.args.known c.args.b c.args.i c.args.neg _ c.code_below-code.ensures c.if-code-eq0.false)

pub returns : goal.returns
returns c =
    read_some c.args.ws.now c.args.val.now c.args.known c.args.b c.args.i c.args.neg _ c.code_below-code.ensures _ _
    _ _ _ _ c.if-code-eq0.false c.entry_of.ensures
