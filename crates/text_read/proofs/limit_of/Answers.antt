-- The number of a code that was made for the limit.
use Rattle.std.proofs.Common.{◌∙◌, arith, to_z-of_z}
use Rattle.std.specs.Int.{w16, w32}
use Rattle.text_read.specs.Lines.{limit_number, limit_fits}
use Rattle.text_read.proofs.limit_of.Goals as goal

pub overflow_cast-result : goal.overflow_cast-result
overflow_cast-result c =
    let e = c.number_of.ensures ∙ limit_number c.args.m (omega (arith, c.requires.1)) in
    rw (to_z-of_z {w = w32} (record { sfits = c.number_of.type_inv }), e) (limit_fits c.args.m c.requires.0 c.requires.1)

pub returns : goal.returns
returns c =
    let e = c.number_of.ensures ∙ limit_number c.args.m (omega (arith, c.requires.1)) in
    to_z-of_z {w = w16} (overflow_cast-result c) ∙ to_z-of_z {w = w32} (record { sfits = c.number_of.type_inv }) ∙ e
