-- The steps are laws of specs/Call.antt and specs/Lengths.antt.
use Rattle.memory.specs.View.{memory_of}
use Rattle.judge_plain.specs.Counted.{Plain}
use Rattle.image_write.specs.Call.{fine_kept, fine_room, call_fine}
use Rattle.image_write.specs.Lengths.{plain_accepted, plain_fits}
use Rattle.image_write.proofs.write_script.Goals as goal

pub write_record-requires : goal.write_record-requires
write_record-requires c =
    let m = memory_of c.args.ws.now c.args.val.now c.args.cw.now c.args.bw.now c.args.counts in
    let p : Plain m = c.is_plain.ensures c.if-is_plain.true in
    (fine_kept (plain_accepted m p), fine_room (plain_accepted m p) _ (plain_fits m p _ (rw c.most_bytes.ensures at c.if-most_bytes-out.true)))

pub returns-then-is_plain : goal.returns-then-is_plain
returns-then-is_plain c =
    let m = memory_of c.args.ws.now c.args.val.now c.args.cw.now c.args.bw.now c.args.counts in
    let p : Plain m = c.is_plain.ensures c.if-is_plain.true in
    call_fine (plain_accepted m p) _ (plain_fits m p _ (rw c.most_bytes.ensures at c.if-most_bytes-out.true)) c.write_record.ensures
