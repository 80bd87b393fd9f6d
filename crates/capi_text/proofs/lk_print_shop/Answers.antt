-- Too many entries, and printed.
use Rattle.std.proofs.Common.{sym, ◌∙◌, arith}
use Rattle.capi_text.specs.Arrays.{print_none, few_slots, text_short, print_text}
use Rattle.capi_text.proofs.lk_print_shop.Goals as goal

pub returns-then-not-few_each : goal.returns-then-not-few_each
returns-then-not-few_each c = print_none _ c.args.out.now (sym c.few_each.ensures ∙ c.if-not-few_each.true)

pub put_slots-requires : goal.put_slots-requires
put_slots-requires c = few_slots _ (record { items = c.told-items; limits = c.told-limits; codes = c.told-codes; lens = c.told-lens }) (sym c.few_each.ensures ∙ c.if-not-few_each.false) _ c.shop_from-shop.ensures

pub overflow_cast-result : goal.overflow_cast-result
overflow_cast-result c =
    let h = text_short _ (record { items = c.told-items; limits = c.told-limits; codes = c.told-codes; lens = c.told-lens }) (sym c.few_each.ensures ∙ c.if-not-few_each.false) _ c.shop_from-shop.ensures in
    record { fits = omega (arith, c.put_slots.ensures.long) }

pub returns : goal.returns
returns c = print_text _ (record { items = c.told-items; limits = c.told-limits; codes = c.told-codes; lens = c.told-lens }) (sym c.few_each.ensures ∙ c.if-not-few_each.false) _ c.shop_from-shop.ensures _ _ _ c.put_slots.ensures
