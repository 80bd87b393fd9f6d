-- An image that was read parses as its blocks do.
use Rattle.std.proofs.Common.{rules}
use Rattle.slots_print.specs.Input.{image_parsed, image_no}
use Rattle.slots_print.specs.Text.{printed_as, printed_refused}
use Rattle.slots_print.proofs.image_text.Goals as goal

pub returns-in-Ok : goal.returns-in-Ok
returns-in-Ok c =
    printed_as
    (image_parsed c.args.input.now c.args.h c.args.attached.now c.requires c.args.ws.now c.args.val.now c.args.cw.now c.args.bw.now c.read_script.new.ws c.read_script.new.val c.read_script.new.cw c.read_script.new.bw (search rules) c.in-Ok.counts c.in-Ok.ensures)
    c.parsed_text.ensures

pub returns-in-Err : goal.returns-in-Err
returns-in-Err c =
    printed_as
    (image_no c.args.input.now c.args.h c.args.attached.now c.requires c.args.ws.now c.args.val.now c.args.cw.now c.args.bw.now c.read_script.new.ws c.read_script.new.val c.read_script.new.cw c.read_script.new.bw c.in-Err.e c.in-Err.ensures)
    (printed_refused _ (rw c.number.ensures at c.put_refused.ensures))
