-- Too long, a heading refused, or a heading read.
use Rattle.std.proofs.Common.{arith, sym}
use Rattle.model.specs.Refusal.{over_limit}
use Rattle.slots_sheet.specs.Whole.{was_read, was_refused}
use Rattle.slots_print.specs.Input.{slots_long, slots_head_no}
use Rattle.slots_print.specs.Text.{printed_as, printed_refused}
use Rattle.slots_print.proofs.input_text.Goals as goal

pub returns-then-input-gt-INPUT : goal.returns-then-input-gt-INPUT
returns-then-input-gt-INPUT c = printed_as (sym (slots_long c.args.input.now (omega (arith, c.if-input-gt-INPUT.true)))) (printed_refused over_limit (rw c.number.ensures at c.put_refused.ensures))

pub script_text-requires : goal.script_text-requires
script_text-requires c =
    record {
      short = omega (arith, c.if-input-gt-INPUT.false);
      lent = c.in-Ok.ensures.within.lent;
      read = was_read c.args.input.now c.args.attached.now c.read_heading.new.attached c.in-Ok.h c.in-Ok.ensures.read;
    }

pub returns-in-Err : goal.returns-in-Err
returns-in-Err c =
    printed_as
    (sym (slots_head_no c.args.input.now (omega (arith, c.if-input-gt-INPUT.false)) _ (was_refused c.args.input.now c.args.attached.now c.read_heading.new.attached c.in-Err.e c.in-Err.ensures.read)))
    (printed_refused _ (rw c.number-in-Err.ensures at c.put_refused-in-Err.ensures))
