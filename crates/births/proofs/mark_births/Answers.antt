-- The part that is filled, back in its place.
use Rattle.std.proofs.Common.{arith}
use Rattle.births.specs.Births.{filled}
use Rattle.births.proofs.mark_births.Goals as goal

pub returns : goal.returns
returns c =
    let marked = c.fill.ensures.after (λ y h. h) in
    rw (c.from.ensures, c.from-2.ensures) (filled c.args.births.now _ _ _ _ c.requires.0 (omega arith) (rw (c.from.ensures, c.from-2.ensures) at marked))
