-- Each array has the first of its slice, at most twenty slots of it. Assumes nothing.
use Rattle.std.proofs.Common.{◌≡◌, ◌*◌, length, rules}
use Rattle.model.specs.Limits.{entry_limit, slot_count}
use Rattle.shop_with_slots.proofs.Fill.{twenty_is}
use Rattle.shop_with_slots.proofs.with_slots.Goals as goal

pub returns : goal.returns
returns c =
    let li : length c.args.to_items.now ≡ slot_count = search rules in
    let ll : length c.args.to_limits.now ≡ slot_count = search rules in
    let lc : length c.args.to_codes.now ≡ entry_limit * slot_count = search rules in
    let ln : length c.args.to_lens.now ≡ slot_count = search rules in
    twenty_is _ _ _ _ _ _ _ _ _ c.min-n.ensures (rw li at c.put.ensures) (rw ll at c.put-2.ensures) (rw lc at c.put-3.ensures) (rw ln at c.put-4.ensures)
