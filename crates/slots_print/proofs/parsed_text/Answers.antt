-- The text of what the parse answered.
use Rattle.std.proofs.Common.{rules, ◌≡◌, length}
use Rattle.shop.proofs.All.{length_mapped}
use Rattle.slots_print.specs.Text.{printed_as, printed_refused, printed_lines, few_each, text_refused, text_lines}
use Rattle.slots_print.proofs.parsed_text.Goals as goal

pub put_slots-requires : goal.put_slots-requires
put_slots-requires c = few_each c.in-Ok.shop c.in-Ok.ensures.shop.good

pub returns-in-Ok : goal.returns-in-Ok
returns-in-Ok c =
    let size : length c.in-Ok.shop.slots ≡ 20 = search (length_mapped, rules) in
    printed_as (text_lines c.in-Ok.shop (rw c.from-n.ensures at c.in-Ok.ensures)) (printed_lines c.in-Ok.shop size c.in-Ok.ensures.shop.good c.put_slots.ensures)

pub returns-in-Err : goal.returns-in-Err
returns-in-Err c = printed_as (text_refused c.in-Err.e (rw c.from-n.ensures at c.in-Err.ensures)) (printed_refused _ (rw c.number.ensures at c.put_refused.ensures))
