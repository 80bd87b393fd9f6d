-- Each check answers where those before it pass, and refused, nothing is written; accepted, the blocks are appended and the setup block is linked to the last.
use Rattle.std.proofs.Common.{sym, ◌∙◌, arith}
use Rattle.std.proofs.lemmas.Result.{err_from_is_err_and}
use Rattle.memory.specs.View.{born_of}
use Rattle.shop.specs.Shapes.{sheet_of}
use Rattle.shop_arrays.specs.Arrays.{arrays_in, shop_from}
use Rattle.shop_arrays.specs.Slots.{slots_long}
use Rattle.model.specs.Refusals.{refuses}
use Rattle.compile.specs.Checked.{refused_call, refused_born, refused_shop, refused_room, exact_slots, granted_room, accepted_room}
use Rattle.compile.proofs.compile_arrays.Goals as goal

pub returns-in_err-check_call : goal.returns-in_err-check_call
returns-in_err-check_call c =
    let p = err_from_is_err_and c.from_residual.result c.from_residual.ensures.1 in
    rw (p.1, p.2) (refused_call _ _ _ _ _ (slots_long _) _ c.in_err-check_call.ensures (refuses c.in_err-check_call.field-0.0))

pub returns-then-birth_of-ne0 : goal.returns-then-birth_of-ne0
returns-then-birth_of-ne0 c = refused_born _ _ _ _ _ (slots_long _) (sym c.in_ok-check_call.ensures) (λ z. c.if-birth_of-ne0.true (c.birth_of.ensures ∙ z))

pub returns-then-not-check_arrays : goal.returns-then-not-check_arrays
returns-then-not-check_arrays c =
    refused_shop _ _ _ _ _ (slots_long _) (sym c.in_ok-check_call.ensures) (sym c.birth_of.ensures ∙ c.if-birth_of-ne0.false)
    (sym (c.check_arrays.ensures c.args.limits.now) ∙ c.if-not-check_arrays.true)

pub check_room-requires : goal.check_room-requires
check_room-requires c =
    exact_slots (sheet_of c.args.attached.now c.args.sheet) (born_of c.args.ws.now c.args.val.now c.args.cw.now c.args.bw.now c.args.counts c.args.births.now c.args.compiles)
    c.args.loader c.args.setup.0 (shop_from (arrays_in c.args.items.now c.args.limits.now c.args.codes.now c.args.lens.now)) (slots_long _)
    (sym c.in_ok-check_call.ensures) (sym (c.check_arrays.ensures c.args.limits.now) ∙ c.if-not-check_arrays.false)

pub returns-in_err-check_room : goal.returns-in_err-check_room
returns-in_err-check_room c =
    let p = err_from_is_err_and c.from_residual-in_err-check_room.result c.from_residual-in_err-check_room.ensures.1 in
    rw (p.1, p.2)
    (refused_room _ _ _ _ _ (slots_long _) (sym c.in_ok-check_call.ensures) (sym c.birth_of.ensures ∙ c.if-birth_of-ne0.false)
    (sym (c.check_arrays.ensures c.args.limits.now) ∙ c.if-not-check_arrays.false) _ c.in_err-check_room.ensures (refuses c.in_err-check_room.field-0.0))

pub compile_shop-after-requires-clause-room : goal.compile_shop-after-requires-clause-room
compile_shop-after-requires-clause-room c =
    let g = granted_room (sheet_of c.args.attached.now c.args.sheet) (born_of c.args.ws.now c.args.val.now c.args.cw.now c.args.bw.now c.args.counts c.args.births.now c.args.compiles)
    c.args.loader c.args.setup.0 (shop_from (arrays_in c.args.items.now c.args.limits.now c.args.codes.now c.args.lens.now)) (slots_long _)
    (sym c.in_ok-check_call.ensures) (sym c.birth_of.ensures ∙ c.if-birth_of-ne0.false) (sym (c.check_arrays.ensures c.args.limits.now) ∙ c.if-not-check_arrays.false) c.in_ok-check_room.ensures in
    g.room

pub compile_shop-after-requires-clause-all_exact : goal.compile_shop-after-requires-clause-all_exact
compile_shop-after-requires-clause-all_exact c =
    let g = granted_room (sheet_of c.args.attached.now c.args.sheet) (born_of c.args.ws.now c.args.val.now c.args.cw.now c.args.bw.now c.args.counts c.args.births.now c.args.compiles)
    c.args.loader c.args.setup.0 (shop_from (arrays_in c.args.items.now c.args.limits.now c.args.codes.now c.args.lens.now)) (slots_long _)
    (sym c.in_ok-check_call.ensures) (sym c.birth_of.ensures ∙ c.if-birth_of-ne0.false) (sym (c.check_arrays.ensures c.args.limits.now) ∙ c.if-not-check_arrays.false) c.in_ok-check_room.ensures in
    g.exact

pub overflow_cast-setup : goal.overflow_cast-setup
overflow_cast-setup c =
    let g = granted_room (sheet_of c.args.attached.now c.args.sheet) (born_of c.args.ws.now c.args.val.now c.args.cw.now c.args.bw.now c.args.counts c.args.births.now c.args.compiles)
    c.args.loader c.args.setup.0 (shop_from (arrays_in c.args.items.now c.args.limits.now c.args.codes.now c.args.lens.now)) (slots_long _)
    (sym c.in_ok-check_call.ensures) (sym c.birth_of.ensures ∙ c.if-birth_of-ne0.false) (sym (c.check_arrays.ensures c.args.limits.now) ∙ c.if-not-check_arrays.false) c.in_ok-check_room.ensures in
    omega (arith, g.inside, g.room.blocks)

pub set_block-requires : goal.set_block-requires
set_block-requires c =
    let g = granted_room (sheet_of c.args.attached.now c.args.sheet) (born_of c.args.ws.now c.args.val.now c.args.cw.now c.args.bw.now c.args.counts c.args.births.now c.args.compiles)
    c.args.loader c.args.setup.0 (shop_from (arrays_in c.args.items.now c.args.limits.now c.args.codes.now c.args.lens.now)) (slots_long _)
    (sym c.in_ok-check_call.ensures) (sym c.birth_of.ensures ∙ c.if-birth_of-ne0.false) (sym (c.check_arrays.ensures c.args.limits.now) ∙ c.if-not-check_arrays.false) c.in_ok-check_room.ensures in
    omega (arith, g.inside, g.room.blocks)

pub mark_births-requires : goal.mark_births-requires
mark_births-requires c =
    let g = granted_room (sheet_of c.args.attached.now c.args.sheet) (born_of c.args.ws.now c.args.val.now c.args.cw.now c.args.bw.now c.args.counts c.args.births.now c.args.compiles)
    c.args.loader c.args.setup.0 (shop_from (arrays_in c.args.items.now c.args.limits.now c.args.codes.now c.args.lens.now)) (slots_long _)
    (sym c.in_ok-check_call.ensures) (sym c.birth_of.ensures ∙ c.if-birth_of-ne0.false) (sym (c.check_arrays.ensures c.args.limits.now) ∙ c.if-not-check_arrays.false) c.in_ok-check_room.ensures in
    (omega (arith, c.compile_shop-after.ensures.counted), omega (arith, g.room.blocks, c.compile_shop-after.ensures.counted))

pub returns : goal.returns
returns c =
    rw (c.mark_births.ensures, c.one_compile-mark.ensures, c.set_block.ensures)
    (accepted_room _ _ _ _ _ (slots_long _) (sym c.in_ok-check_call.ensures) (sym c.birth_of.ensures ∙ c.if-birth_of-ne0.false)
    (sym (c.check_arrays.ensures c.args.limits.now) ∙ c.if-not-check_arrays.false) c.in_ok-check_room.ensures _ c.compile_shop-after.ensures)
