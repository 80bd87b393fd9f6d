-- What is told of a slot with an item. Assumes nothing.
use Rattle.std.proofs.Common.{arith, ap, ◌∙◌, ◌≡◌, leb, length, ℕ, refl, sym, rules}
use mir.Facts.{to_z-of_z}
use mir.Syntax.{w16}
use Rattle.model.specs.Limits.{entry_limit}
use Rattle.model.specs.Shop.{limit_of}
use Rattle.shop.specs.Shapes.{sheet_of}
use Rattle.settings.specs.Answer.{one_test}
use Rattle.settings.specs.Codes.{slot_few}
use Rattle.signed_check.specs.Slots.{filled_told, set_long, sorted_few}
use Rattle.signed_check.proofs.with_item.Goals as goal

pub verdict_of-verdict-requires : goal.verdict_of-verdict-requires
verdict_of-verdict-requires c = slot_few (sheet_of c.args.attached.now c.args.sheet) c.requires.0 c.args.slot c.requires.1

pub settings_for-m-requires : goal.settings_for-m-requires
settings_for-m-requires c =
    let few = sorted_few c.args.slot c.args.n (set_long c.args.slot c.args.row.now c.args.n c.requires.3) in
    (omega (arith, slot_few (sheet_of c.args.attached.now c.args.sheet) c.requires.0 c.args.slot c.requires.1), refl)

pub overflow_sub-result : goal.overflow_sub-result
overflow_sub-result c = omega (arith, sorted_few c.args.slot c.args.n (set_long c.args.slot c.args.row.now c.args.n c.requires.3))

pub returns : goal.returns
returns c =
    let h = sheet_of c.args.attached.now c.args.sheet in
    let long : length c.args.slot.requirements ≡ entry_limit = search rules in
    let l = rw (to_z-of_z {w = w16} {z = c.args.slot.limit} (record { sfits = c.struct_told-1.given.1.0.1 })) at c.limit_of-limit.ensures in
    filled_told h c.requires.0 c.args.slot c.requires.1 c.args.w c.requires.2 _ (ap (λ (k : ℕ). leb k 1) {x = limit_of h c.args.w.0 c.args.slot.limit} (sym {b = limit_of h c.args.w.0 c.args.slot.limit} l) ∙ one_test c.limit_of-limit.result) _ (c.own_code-own.ensures c.args.sheet)
    long c.args.row.now c.args.n c.requires.3 _ c.verdict_of-verdict.ensures _ _ c.settings_for-m.ensures _ c.count_settings-counted.ensures _ c.listed_as.ensures _ l
