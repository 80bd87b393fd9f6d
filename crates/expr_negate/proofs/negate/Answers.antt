use Rattle.std.proofs.Common.{◌≡◌, ◌-◌, ◌*◌, true, false, get_or, arith}
use Rattle.model.specs.Image.{kind_of}
use Rattle.model.specs.Memory.{nodes_in}
use Rattle.memory.specs.Sound.{LongNodes}
use Rattle.expr_negate.specs.Turns.{is_sum, operator_of}
use Rattle.expr_negate.specs.InPlace.{last_low, last_room, last_lies, over, over_negated, place_negated}
use Rattle.expr_negate.proofs.negate.Goals as goal

pub overflow_sub-root : goal.overflow_sub-root
overflow_sub-root c = (last_low c.requires).0

pub bounds-ws-from : goal.bounds-ws-from
bounds-ws-from c = omega (arith, (last_low c.requires).1)

pub push_node-requires : goal.push_node-requires
push_node-requires c =
    let h = c.requires in
    let low = last_low h in
    let long : LongNodes (nodes_in c.args.ws.now c.args.val.now c.args.n) = record { words = c.told-ws; values = c.told-val } in
    let q : is_sum (operator_of (kind_of (get_or c.args.ws.now (3 * (c.args.n - 1)) 0))) ≡ true = cc in
    last_room h (over long low.1 (c.args.n - 1) (omega (arith, low.0)) q h.put h.turns)

pub returns-then-gains_not : goal.returns-then-gains_not
returns-then-gains_not c =
    let low = last_low c.requires in
    let long : LongNodes (nodes_in c.args.ws.now c.args.val.now c.args.n) = record { words = c.told-ws; values = c.told-val } in
    let q : is_sum (operator_of (kind_of (get_or c.args.ws.now (3 * (c.args.n - 1)) 0))) ≡ true = cc in
    over_negated long low.1 (c.args.n - 1) (omega (arith, low.0)) q (rw c.code_one.ensures at c.push_node.ensures)

pub negate_node-requires : goal.negate_node-requires
negate_node-requires c =
    let low = last_low c.requires in
    let long : LongNodes (nodes_in c.args.ws.now c.args.val.now c.args.n) = record { words = c.told-ws; values = c.told-val } in
    let q : is_sum (operator_of (kind_of (get_or c.args.ws.now (3 * (c.args.n - 1)) 0))) ≡ false = cc in
    last_lies long low.1 (c.args.n - 1) (omega (arith, low.0)) q c.requires

pub returns : goal.returns
returns c =
    let low = last_low c.requires in
    let long : LongNodes (nodes_in c.args.ws.now c.args.val.now c.args.n) = record { words = c.told-ws; values = c.told-val } in
    let q : is_sum (operator_of (kind_of (get_or c.args.ws.now (3 * (c.args.n - 1)) 0))) ≡ false = cc in
    place_negated long low.1 (c.args.n - 1) (omega (arith, low.0)) q c.negate_node.ensures
