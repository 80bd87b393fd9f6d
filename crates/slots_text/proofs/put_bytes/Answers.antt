-- What is copied over a part of the text stands there, and all else stays.
use Rattle.std.proofs.Common.{arith}
use Rattle.slots_text.specs.Written.{stored_copy}
use Rattle.slots_text.proofs.put_bytes.Goals as goal

pub returns : goal.returns
returns c = stored_copy c.args.out.now c.args.at c.args.s.now c.copy_from_slice.new.self _ c.copy_from_slice.ensures.after (omega (arith, c.requires.fits)) (omega (arith, c.requires.fits))
