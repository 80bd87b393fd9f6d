-- What is there holds, and what is missing where it has to be missing. Assumes nothing.
use Rattle.std.proofs.Common.{sym, ◌∙◌}
use Rattle.checks.specs.Calls.{save_of}
use Rattle.preview.proofs.Codes.{holds_by}
use Rattle.preview.proofs.holds.Goals as goal

pub returns-then-is_missing : goal.returns-then-is_missing
returns-then-is_missing c = λ t v.
    sym (holds_by (save_of c.args.items.now c.args.atcs.now c.args.flags.now t v) _ ∙ rw (← c.if-is_missing.ensures, ← c.is_there-there.ensures t v))

pub returns-else-is_missing : goal.returns-else-is_missing
returns-else-is_missing c = λ t v.
    sym (holds_by (save_of c.args.items.now c.args.atcs.now c.args.flags.now t v) _ ∙ rw (← c.if-is_missing.ensures, ← c.is_there-there.ensures t v))
