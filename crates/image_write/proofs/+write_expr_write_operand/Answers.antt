use Rattle.image_numbers.specs.Stored.{stored_on, stored_as, room_as, room_first, room_next}
use Rattle.std.proofs.Common.{refl, suc, get_or, pos, arith, rules, SFits, w32, to_z-of_z}
use Rattle.model.specs.Image.{kind_of}
use Rattle.model.specs.Reading.{word, zig}
use Rattle.model.specs.Memory.{nodes_in, code_at, left_at, right_at, value_at}
use Rattle.model.specs.Record.{follow_image, node_image}
use Rattle.memory.specs.NodeLaws.{image_node, image_none}
use Rattle.image_write.specs.Nodes.{node_two, node_one, node_imm16, node_imm32, node_other, node_whole, node_short}
use Rattle.image_write.proofs.+write_expr_write_operand.Goals as goal

pub write_expr-write_short-p-requires : goal.write_expr-write_short-p-requires
write_expr-write_short-p-requires t c =
    let ns = nodes_in c.args.ws.now c.args.val.now 0 in
    room_first (follow_image (node_image ns) ns c.args.i (kind_of (code_at ns c.args.i))) (room_as (image_node ns (suc c.args.i) c.args.i (omega arith)) c.requires.1)

pub write_expr-write_operand-q-requires : goal.write_expr-write_operand-q-requires
write_expr-write_operand-q-requires t c =
    let ns = nodes_in c.args.ws.now c.args.val.now 0 in
    (omega arith, (omega arith, room_first (node_image ns c.args.i (right_at ns c.args.i)) (room_next c.write_short-p.ensures (room_as (node_two ns (suc c.args.i) c.args.i (omega arith) _ c.in-Two.ensures _ refl) c.requires.1))))

pub write_expr-write_operand-requires : goal.write_expr-write_operand-requires
write_expr-write_operand-requires t c =
    let ns = nodes_in c.args.ws.now c.args.val.now 0 in
    (omega arith, (omega arith, room_next {a = node_image ns c.args.i (left_at ns c.args.i)} c.write_operand-q.ensures (room_next c.write_short-p.ensures (room_as (node_two ns (suc c.args.i) c.args.i (omega arith) _ c.in-Two.ensures _ refl) c.requires.1))))

pub write_expr-write_operand-requires-in-One : goal.write_expr-write_operand-requires-in-One
write_expr-write_operand-requires-in-One t c =
    let ns = nodes_in c.args.ws.now c.args.val.now 0 in
    (omega arith, (omega arith, room_next c.write_short-p.ensures (room_as (node_one ns (suc c.args.i) c.args.i (omega arith) _ c.in-One.ensures _ refl) c.requires.1)))

pub write_expr-write_value-requires : goal.write_expr-write_value-requires
write_expr-write_value-requires t c =
    let ns = nodes_in c.args.ws.now c.args.val.now 0 in
    let f : SFits w32 (get_or c.args.val.now c.args.i (pos 0)) = search rules in
    rw (to_z-of_z f) (room_next c.write_short-p.ensures (room_as (node_imm16 ns (suc c.args.i) c.args.i (omega arith) _ c.in-Imm16.ensures refl) c.requires.1))

pub write_expr-write_value-requires-in-Imm32 : goal.write_expr-write_value-requires-in-Imm32
write_expr-write_value-requires-in-Imm32 t c =
    let ns = nodes_in c.args.ws.now c.args.val.now 0 in
    let f : SFits w32 (get_or c.args.val.now c.args.i (pos 0)) = search rules in
    rw (to_z-of_z f) (room_next c.write_short-p.ensures (room_as (node_imm32 ns (suc c.args.i) c.args.i (omega arith) _ c.in-Imm32.ensures refl) c.requires.1))

pub write_expr-returns-in-Two : goal.write_expr-returns-in-Two
write_expr-returns-in-Two t c =
    let ns = nodes_in c.args.ws.now c.args.val.now 0 in
    stored_as (node_two ns (suc c.args.i) c.args.i (omega arith) _ c.in-Two.ensures _ refl) (stored_on c.write_short-p.ensures (stored_on {a = node_image ns c.args.i (left_at ns c.args.i)} c.write_operand-q.ensures c.write_operand.ensures))

pub write_expr-returns-in-One : goal.write_expr-returns-in-One
write_expr-returns-in-One t c =
    let ns = nodes_in c.args.ws.now c.args.val.now 0 in
    stored_as (node_one ns (suc c.args.i) c.args.i (omega arith) _ c.in-One.ensures _ refl) (stored_on {b = node_image ns c.args.i (left_at ns c.args.i)} c.write_short-p.ensures c.write_operand-in-One.ensures)

pub write_expr-returns-in-Imm16 : goal.write_expr-returns-in-Imm16
write_expr-returns-in-Imm16 t c =
    let ns = nodes_in c.args.ws.now c.args.val.now 0 in
    let f : SFits w32 (get_or c.args.val.now c.args.i (pos 0)) = search rules in
    stored_as (node_imm16 ns (suc c.args.i) c.args.i (omega arith) _ c.in-Imm16.ensures refl) (stored_on c.write_short-p.ensures (rw (to_z-of_z f) at c.write_value.ensures))

pub write_expr-returns-in-Imm32 : goal.write_expr-returns-in-Imm32
write_expr-returns-in-Imm32 t c =
    let ns = nodes_in c.args.ws.now c.args.val.now 0 in
    let f : SFits w32 (get_or c.args.val.now c.args.i (pos 0)) = search rules in
    stored_as (node_imm32 ns (suc c.args.i) c.args.i (omega arith) _ c.in-Imm32.ensures refl) (stored_on c.write_short-p.ensures (rw (to_z-of_z f) at c.write_value-in-Imm32.ensures))

pub write_expr-returns-in-Other : goal.write_expr-returns-in-Other
write_expr-returns-in-Other t c =
    let ns = nodes_in c.args.ws.now c.args.val.now 0 in
    stored_as (node_other ns (suc c.args.i) c.args.i (omega arith) _ c.in-Other.ensures refl) c.write_short-p.ensures

pub write_operand-write_short-requires : goal.write_operand-write_short-requires
write_operand-write_short-requires t c = room_as (image_none (nodes_in c.args.ws.now c.args.val.now 0) c.args.b c.args.i c.if-i-b.true) c.requires.1

pub write_operand-returns-then-i-b : goal.write_operand-returns-then-i-b
write_operand-returns-then-i-b t c = stored_as (image_none (nodes_in c.args.ws.now c.args.val.now 0) c.args.b c.args.i c.if-i-b.true) c.write_short.ensures

pub write_operand-write_short-p-requires : goal.write_operand-write_short-p-requires
write_operand-write_short-p-requires t c =
    let ns = nodes_in c.args.ws.now c.args.val.now 0 in
    room_first (word (zig (value_at ns c.args.i))) (room_as (node_short ns c.args.b c.args.i c.if-i-b.false c.if-ws-j-eq11.true) c.requires.1)

pub write_operand-write_value-requires : goal.write_operand-write_value-requires
write_operand-write_value-requires t c =
    let ns = nodes_in c.args.ws.now c.args.val.now 0 in
    let f : SFits w32 (get_or c.args.val.now c.args.i (pos 0)) = search rules in
    rw (to_z-of_z f) (room_next c.write_short-p.ensures (room_as (node_short ns c.args.b c.args.i c.if-i-b.false c.if-ws-j-eq11.true) c.requires.1))

pub write_operand-returns-then-ws-j-eq11 : goal.write_operand-returns-then-ws-j-eq11
write_operand-returns-then-ws-j-eq11 t c =
    let ns = nodes_in c.args.ws.now c.args.val.now 0 in
    let f : SFits w32 (get_or c.args.val.now c.args.i (pos 0)) = search rules in
    stored_as (node_short ns c.args.b c.args.i c.if-i-b.false c.if-ws-j-eq11.true) (stored_on c.write_short-p.ensures (rw (to_z-of_z f) at c.write_value.ensures))

pub write_operand-write_expr-requires : goal.write_operand-write_expr-requires
write_operand-write_expr-requires t c = (omega arith, (omega arith, room_as (node_whole (nodes_in c.args.ws.now c.args.val.now 0) c.args.b c.args.i c.if-i-b.false) c.requires.1))

pub write_operand-returns : goal.write_operand-returns
write_operand-returns t c = stored_as (node_whole (nodes_in c.args.ws.now c.args.val.now 0) c.args.b c.args.i c.if-i-b.false) c.write_expr.ensures
