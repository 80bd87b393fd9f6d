use mathlib.Core.Path.{sym, ap, ◌∙◌}
use native.Mathlib.Omega.{arith}
use mir.Syntax.{w32}
use mir.Facts.{to_z_pos, to_z-of_z}
use Rattle.shop_codes.specs.Codes.{subject_is}
use Rattle.shop_codes.specs.Subjects.{subject_low}
use Rattle.expr_build.specs.Codes.{about_item, about_atc, about_flag, size_item, size_atc, size_a_flag}
use Rattle.expr_build.proofs.push_subject.Goals as goal

pub overflow_cast-i : goal.overflow_cast-i
overflow_cast-i c = record { sfits = subject_low c.args.code _ (sym (ap subject_is c.in-Item.is) ∙ c.subject_of.ensures) }

pub push_compare-requires : goal.push_compare-requires
push_compare-requires c = omega (arith, c.requires, size_item c.args.code _ c.subject_of.ensures _ (ap subject_is c.in-Item.is))

pub overflow_cast-a : goal.overflow_cast-a
overflow_cast-a c = record { sfits = subject_low c.args.code _ (sym (ap subject_is c.in-Atc.is) ∙ c.subject_of.ensures) }

pub push_compare-requires-in-Atc : goal.push_compare-requires-in-Atc
push_compare-requires-in-Atc c = omega (arith, c.requires, size_atc c.args.code _ c.subject_of.ensures _ (ap subject_is c.in-Atc.is))

pub push_flag-requires : goal.push_flag-requires
push_flag-requires c = omega (arith, c.requires, size_a_flag c.args.code _ c.subject_of.ensures _ (ap subject_is c.in-Flag.is))

pub returns-in-Item : goal.returns-in-Item
returns-in-Item c = rw (about_item c.args.code _ c.subject_of.ensures _ (ap subject_is c.in-Item.is)) (rw (to_z_pos w32 (subject_low c.args.code _ (sym (ap subject_is c.in-Item.is) ∙ c.subject_of.ensures))) at c.push_compare.ensures)

pub returns-in-Atc : goal.returns-in-Atc
returns-in-Atc c = rw (about_atc c.args.code _ c.subject_of.ensures _ (ap subject_is c.in-Atc.is)) (rw (to_z_pos w32 (subject_low c.args.code _ (sym (ap subject_is c.in-Atc.is) ∙ c.subject_of.ensures))) at c.push_compare-in-Atc.ensures)

pub returns-in-Flag : goal.returns-in-Flag
returns-in-Flag c = rw (about_flag c.args.code _ c.subject_of.ensures _ (ap subject_is c.in-Flag.is)) (rw (to_z-of_z {w = w32} (record { sfits = (subject_low c.args.code _ (sym (ap subject_is c.in-Flag.is) ∙ c.subject_of.ensures)) })) at c.push_flag.ensures)
