-- Too long, or what the reader answers.
use Rattle.std.proofs.Common.{arith}
use Rattle.capi_stage.specs.Told.{told_long, told_read, told_refused}
use Rattle.capi_stage.proofs.lk_read_heading.Goals as goal

pub returns-then-bytes-gt-INPUT : goal.returns-then-bytes-gt-INPUT
returns-then-bytes-gt-INPUT c = rw c.no_head.ensures (told_long c.args.bytes.now c.args.attached.now (omega (arith, c.if-bytes-gt-INPUT.true)))

pub returns-in-Ok : goal.returns-in-Ok
returns-in-Ok c = rw c.headed_of.ensures (told_read c.args.bytes.now c.args.attached.now c.read_heading.new.attached (omega (arith, c.if-bytes-gt-INPUT.false)) c.in-Ok.h c.in-Ok.ensures.read c.in-Ok.ensures.within)

pub returns-in-Err : goal.returns-in-Err
returns-in-Err c = rw c.no_head-in-Err.ensures (told_refused c.args.bytes.now c.args.attached.now c.read_heading.new.attached (omega (arith, c.if-bytes-gt-INPUT.false)) c.in-Err.e c.in-Err.ensures.read)
