-- There is room for every shop, or the shop is counted and asked by both limits.
use Rattle.std.proofs.Common.{ap, refl, ◌∙◌}
use Rattle.model.specs.declared.Loader.TheVariants.{Disc}
use Rattle.model.specs.Sheet.{Sheet}
use Rattle.model.specs.Compile.{limits_of}
use Rattle.shop.specs.Shapes.{sheet_of, slots_of}
use Rattle.shop_arrays.specs.Arrays.{Arrays, arrays_in, shop_from}
use Rattle.shop_arrays.specs.Slots.{slots_long}
use Rattle.compile_sizes.specs.Room.{asked, within, limits_in, refused_disc, refused_loader, has_room_lem}
use Rattle.compile_sizes.specs.Most.{most_within}
use Rattle.compile_sizes.proofs.check_room.Goals as goal

pub returns-then-room : goal.returns-then-room
returns-then-room c = λ sc b m n.
    let a : Arrays = arrays_in c.args.items.now c.args.limits.now c.args.codes.now c.args.lens.now in
    let h : Sheet = sheet_of c.args.attached.now c.args.sheet in
    let l = c.limits_of-own in
    has_room_lem c.args.loader h (slots_of (shop_from a)) c.args.k _ refl sc b m n
    (most_within (limits_of c.args.loader) c.args.k h (shop_from a) c.requires (slots_long a)
    (asked l.result c.args.loader c.args.k _ _ _ l.ensures (c.room.ensures ∙ ap (within (limits_in l.result) c.args.k) c.sized.ensures) c.if-room.true))

pub returns-then-not-room : goal.returns-then-not-room
returns-then-not-room c = λ sc b m n.
    let a : Arrays = arrays_in c.args.items.now c.args.limits.now c.args.codes.now c.args.lens.now in
    let z = c.shop_size-s in
    let d = c.limits_of-disc in
    refused_disc c.args.loader (sheet_of c.args.attached.now c.args.sheet) (slots_of (shop_from a)) c.args.k z.result z.ensures.0 sc b m n
    (asked d.result Disc c.args.k z.result _ _ d.ensures c.room-2.ensures c.if-not-room.true)

pub returns-then-not-room-2 : goal.returns-then-not-room-2
returns-then-not-room-2 c = λ sc b m n.
    let a : Arrays = arrays_in c.args.items.now c.args.limits.now c.args.codes.now c.args.lens.now in
    let z = c.shop_size-s in
    let d = c.limits_of-disc in
    let l = c.limits_of-own in
    refused_loader c.args.loader (sheet_of c.args.attached.now c.args.sheet) (slots_of (shop_from a)) c.args.k z.result z.ensures.0 sc b m n
    (asked d.result Disc c.args.k z.result _ _ d.ensures c.room-2.ensures c.if-not-room.false)
    (asked l.result c.args.loader c.args.k z.result _ _ l.ensures c.room-3.ensures c.if-not-room-2.true)

pub returns : goal.returns
returns c = λ sc b m n.
    let a : Arrays = arrays_in c.args.items.now c.args.limits.now c.args.codes.now c.args.lens.now in
    let z = c.shop_size-s in
    let l = c.limits_of-own in
    has_room_lem c.args.loader (sheet_of c.args.attached.now c.args.sheet) (slots_of (shop_from a)) c.args.k z.result z.ensures.0 sc b m n
    (asked l.result c.args.loader c.args.k z.result _ _ l.ensures c.room-3.ensures c.if-not-room-2.false)
