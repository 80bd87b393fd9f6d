use Rattle.std.proofs.Common.{◌≡◌, to_z-of_z, arith}
use Rattle.model.specs.Reading.{zig}
use Rattle.image_numbers.specs.Signed.{zig_low}
use Rattle.image_numbers.proofs.write_value.Goals as goal

pub write_word-requires : goal.write_word-requires
write_word-requires c =
    let e : c.folded.result ≡ zig c.args.z = rw (to_z-of_z c.ranges.z) at c.folded.ensures in
    (omega (arith, zig_low c.args.z c.ranges.z), rw e c.requires)
