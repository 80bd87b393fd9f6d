-- Refused, the shop as it was; accepted, the slot with its new content. Assumes nothing.
use Rattle.std.proofs.Common.{arith, sym, ap, ◌≡◌, ◌∙◌, [], length, pos, rules, None}
use Rattle.std.proofs.lemmas.Result.{err_from_is_err_and}
use Rattle.model.specs.Limits.{slot_count}
use Rattle.model.proofs.Laws.Places.{any_default}
use Rattle.rights_model.proofs.Fields.{allowed}
use Rattle.shop.proofs.All.{length_mapped}
use Rattle.shop.specs.Shapes.{no_slot, placed, sheet_of}
use Rattle.shop.specs.declared.Shop.{Shop}
use Rattle.shop.specs.declared.Slot.{Slot}
use Rattle.rights.specs.InShops.{changed_slot}
use Rattle.rights.specs.ShopLaws.{edited_not, edited_now}
use Rattle.rights.specs.Values.{edit_of, table_of}
use Rattle.rights.proofs.edit.Goals as goal

-- what a read past the array would give
abbrev beyond : Slot
beyond = record { item = None; limit = pos 0; requirements = []; len = 0 }

pub returns-in_err-refusal_of : goal.returns-in_err-refusal_of
returns-in_err-refusal_of c =
    let p = err_from_is_err_and c.from_residual.result c.from_residual.ensures.1 in
    let e = c.in_err-refusal_of.ensures in
    rw (p.1, p.2) (edited_not (table_of c.args.rights.now) (sheet_of c.args.attached.now c.args.sheet) c.args.shop c.args.user c.args.slot c.args.field c.args.content _ e.number (λ z. let l = e.refused in omega arith))

-- an edit that is not refused names a slot of the shop
pub bounds-shop-i : goal.bounds-shop-i
bounds-shop-i c = (allowed (table_of c.args.rights.now) (sheet_of c.args.attached.now c.args.sheet) (edit_of c.args.user c.args.slot c.args.field c.args.content) (sym c.in_ok-refusal_of.ensures.number)).slot

pub returns : goal.returns
returns c =
    let l = (allowed (table_of c.args.rights.now) (sheet_of c.args.attached.now c.args.sheet) (edit_of c.args.user c.args.slot c.args.field c.args.content) (sym c.in_ok-refusal_of.ensures.number)).slot in
    let size : length c.args.shop.slots ≡ slot_count = search (length_mapped, rules) in
    ap (λ (x : Shop). record { refusal = 0; shop = x })
    (c.with_slot.ensures ∙ ap (λ (x : Slot). placed c.args.shop c.args.slot x) c.changed-new.ensures
    ∙ ap (λ (x : Slot). placed c.args.shop c.args.slot (changed_slot c.args.field c.args.content x)) (any_default c.args.shop.slots c.args.slot beyond no_slot (omega arith)))
    ∙ edited_now (table_of c.args.rights.now) (sheet_of c.args.attached.now c.args.sheet) c.args.shop c.args.user c.args.slot c.args.field c.args.content c.in_ok-refusal_of.ensures.number
