-- Twenty lines in their order.
use Rattle.std.proofs.Common.{rules, arith, ◌≡◌, length}
use Rattle.model.specs.Limits.{slot_count}
use Rattle.slots_text.specs.Written.{part_of, part_as, part_on, part_done, part_space, wrote}
use Rattle.slots_text.specs.Lines.{lines_all, lines_next, lines_end, lines_space}
use Rattle.slots_text.proofs.put_slots.Goals as goal

pub loop-i-init : goal.loop-i-init
loop-i-init c =
    let size : length c.args.shop.slots ≡ slot_count = search rules in
    part_of (lines_all c.args.shop size)

pub put_slot-p-requires : goal.put_slot-p-requires
put_slot-p-requires c =
    let size : length c.args.shop.slots ≡ slot_count = search rules in
    (c.requires.each c.loop-i.i (omega arith), part_space _ (lines_space c.args.shop size c.requires) (part_as (lines_next c.args.shop size c.loop-i.i (omega arith)) c.loop-i.invariant))

pub loop-i-preserved : goal.loop-i-preserved
loop-i-preserved c =
    let size : length c.args.shop.slots ≡ slot_count = search rules in
    part_on (part_as (lines_next c.args.shop size c.loop-i.i (omega arith)) c.loop-i.invariant) c.put_slot-p.ensures

pub returns : goal.returns
returns c =
    let size : length c.args.shop.slots ≡ slot_count = search rules in
    wrote (part_done (lines_end c.args.shop size c.loop-i.i (omega arith)) c.loop-i.invariant)
