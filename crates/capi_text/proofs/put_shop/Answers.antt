-- Arrays that stand for the shop, and its items.
use Rattle.capi_text.specs.Arrays.{arrays_known}
use Rattle.capi_text.proofs.put_shop.Goals as goal

pub returns : goal.returns
returns c =
    arrays_known _ _ _ _ (record { items = c.arrays_of.array_long; limits = c.arrays_of.array_long2; codes = c.arrays_of.array_long3; lens = c.arrays_of.array_long4 }) c.args.shop _ c.arrays_of.ensures c.put_items.ensures
