-- Each slot is shown. Assumes nothing.
use Rattle.std.proofs.Common.{◌≡◌, refl, length, rules}
use Rattle.model.specs.Limits.{slot_count}
use Rattle.shop.proofs.All.{length_mapped}
use Rattle.shop.specs.Shapes.{no_shop}
use Rattle.rights.specs.ShopLaws.{shown_start, shown_more, shown_end, shown_not}
use Rattle.rights.specs.Values.{table_of}
use Rattle.rights.proofs.show.Goals as goal

pub loop-slot-init : goal.loop-slot-init
loop-slot-init c = shown_start (table_of c.args.rights.now) c.args.user c.args.shop

pub loop-slot-preserved : goal.loop-slot-preserved
loop-slot-preserved c =
    shown_more (table_of c.args.rights.now) c.args.user c.args.shop c.loop-slot.slot c.loop-slot.out c.loop-slot.invariant c.loop-slot-test.true _ c.show_slot-out.ensures

pub returns-then-user-ge-USERS_HERE : goal.returns-then-user-ge-USERS_HERE
returns-then-user-ge-USERS_HERE c = shown_not (table_of c.args.rights.now) c.args.user c.args.shop no_shop refl c.if-user-ge-USERS_HERE.true

pub returns : goal.returns
returns c =
    let size : length c.args.shop.slots ≡ slot_count = search (length_mapped, rules) in
    shown_end (table_of c.args.rights.now) c.args.user c.args.shop c.loop-slot.slot c.loop-slot.out c.loop-slot.invariant c.loop-slot-test.false size c.if-user-ge-USERS_HERE.false
