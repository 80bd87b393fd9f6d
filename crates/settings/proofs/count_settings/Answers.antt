-- By the closed form. Assumes nothing.
use Rattle.std.proofs.Common.{sym, ap, ◌≡◌, ◌∙◌, leb, ℕ, length, rules}
use mir.Facts.{to_z-of_z}
use mir.Syntax.{w16}
use Rattle.model.specs.Limits.{entry_limit}
use Rattle.shop.specs.Shapes.{sheet_of}
use Rattle.settings.specs.Codes.{slot_few}
use Rattle.settings.specs.Answer.{accepted_as, numbers_are, one_test}
use Rattle.settings.proofs.count_settings.Goals as goal

pub count_subjects-f-requires : goal.count_subjects-f-requires
count_subjects-f-requires c = slot_few (sheet_of c.args.attached.now c.args.sheet) c.requires.0 c.args.slot c.requires.1

pub is_faithful-met-requires : goal.is_faithful-met-requires
is_faithful-met-requires c = slot_few (sheet_of c.args.attached.now c.args.sheet) c.requires.0 c.args.slot c.requires.1

pub returns : goal.returns
returns c =
    let l = rw (to_z-of_z {w = w16} {z = c.args.slot.limit} (record { sfits = c.limit_of-arg-1.given })) at c.limit_of-one.ensures in
    let long : length c.args.slot.requirements ≡ entry_limit = search rules in
    ap accepted_as c.by_numbers.ensures
    ∙ numbers_are (sheet_of c.args.attached.now c.args.sheet) c.requires.0 c.args.slot c.requires.1 long c.args.w c.requires.2 _ (ap (λ (n : ℕ). leb n 1) (sym l) ∙ one_test c.limit_of-one.result) _ (c.own_code-own.ensures c.args.sheet) _ _ _
    (c.acquired_subjects-k.ensures.0 c.args.attached.now) c.count_subjects-f.ensures.0 c.is_faithful-met.ensures
