-- Below the codes of flags there is none, from there on by its number. Assumes nothing.
use Rattle.std.proofs.Common.{◌∙◌, ap, not}
use Rattle.std.proofs.lemmas.Bool.{lt-leb}
use mir.Facts.{to_z-of_z}
use mir.Syntax.{w32}
use Rattle.model.specs.Save.{flag_inside}
use Rattle.signed_check.specs.Codes.{code_high, code_low}
use Rattle.signed_check.proofs.is_outside.Goals as goal

pub returns-then-code-ge-HAVE_FLAG : goal.returns-then-code-ge-HAVE_FLAG
returns-then-code-ge-HAVE_FLAG c =
    ap not ((rw (to_z-of_z {w = w32} {z = c.number_of.result} (record { sfits = c.number_of.type_inv })) at c.is_flag.ensures) ∙ ap flag_inside c.number_of.ensures) ∙ code_high c.args.code c.if-code-ge-HAVE_FLAG.true

pub returns-else-code-ge-HAVE_FLAG : goal.returns-else-code-ge-HAVE_FLAG
returns-else-code-ge-HAVE_FLAG c = lt-leb 17179869184 c.args.code c.if-code-ge-HAVE_FLAG.false ∙ code_low c.args.code c.if-code-ge-HAVE_FLAG.false
