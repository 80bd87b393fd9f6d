-- An id or a flag's number is the number of the requirement, which has 32 bits.
use Rattle.std.specs.Prelude.{◌≡◌, ℕ, pos, ◌⊎◌}
use Rattle.std.proofs.Common.{ap, sym, ◌∙◌, inl, inr, w32}
use Rattle.std.proofs.Math.Facts.{to_z_pos}
use Rattle.model.specs.Requirement.{number}
use Rattle.shop_codes.specs.Codes.{InRange, subject_is, requirement_of, subject}
use Rattle.shop_codes.specs.Subjects.{subject_low, subject_number}
use Rattle.shop_codes.specs.declared.Subject.{Subject}
use Rattle.shop_codes.specs.declared.Subject.TheVariants.{Item, Atc}
use Rattle.shop_codes.proofs.number_of.Goals as goal

id_number : (s : Subject) (id : ℕ) → (s ≡ Item id) ⊎ (s ≡ Atc id) → number (subject_is s) ≡ pos id
id_number s id (inl e) = rw e
id_number s id (inr e) = rw e

id_low : (c : ℕ) (s : Subject) (id : ℕ) → subject_is s ≡ subject (requirement_of c) → (s ≡ Item id) ⊎ (s ≡ Atc id) → InRange (pos id)
id_low c s id e f = rw (id_number s id f) at (subject_low c (subject_is s) e)

pub overflow_cast-result : goal.overflow_cast-result
overflow_cast-result c = record { sfits = id_low c.args.code c.subject_of.result c.in-Item.id c.subject_of.ensures c.in-Item.is }

pub returns-in-Item : goal.returns-in-Item
returns-in-Item c =
    to_z_pos w32 (id_low c.args.code c.subject_of.result c.in-Item.id c.subject_of.ensures c.in-Item.is)
    ∙ sym (id_number c.subject_of.result c.in-Item.id c.in-Item.is)
    ∙ ap number c.subject_of.ensures
    ∙ subject_number (requirement_of c.args.code)
