-- Requirement codes: a requirement as one number whose order is that of requirements, by kind and then by number (01, Slot). Assumes nothing: these are definitions.
use Rattle.std.specs.Prelude.{Bool, not, cond, List, [], ◌∷◌, ℕ, zero, suc, ◌+◌, ◌*◌, ◌-◌, ◌/◌, ◌%◌, ◌<◌, ltb, ℤ, pos, negsuc}
use Rattle.std.specs.Int.Signed.{mag}
use Rattle.model.specs.Limits.{most_items, wide, half32}
use Rattle.model.specs.Requirement.{Requirement, haveItem, missingItem, haveAtc, missingAtc, haveFlag, missingFlag, kind, number, is_have}
use Rattle.shop_codes.specs.declared.Subject.{Subject}
use Rattle.shop_codes.specs.declared.Subject.TheVariants.{Item, Atc, Flag}

-- a number of 32 bits
abbrev pub InRange : ℤ → Type 0
InRange z = mag z < half32

-- .. moved up by 2 ^ 31
abbrev pub shift : ℤ → ℕ
shift (pos n) = n + half32
shift (negsuc n) = half32 - suc n

abbrev pub unshift : ℕ → ℤ
unshift n = cond (ltb n half32) (negsuc (half32 - suc n)) (pos (n - half32))

abbrev pub code_of : Requirement → ℕ
code_of r = kind r * wide + shift (number r)

-- an id below 0 is on no sheet, nor is the number of items that no sheet passes
abbrev pub id_of : ℤ → ℕ
id_of (pos n) = n
id_of (negsuc n) = most_items

abbrev pub of_kind : ℕ → ℤ → Requirement
of_kind zero z = haveItem (id_of z)
of_kind (suc zero) z = missingItem (id_of z)
of_kind (suc (suc zero)) z = haveAtc (id_of z)
of_kind (suc (suc (suc zero))) z = missingAtc (id_of z)
of_kind (suc (suc (suc (suc zero)))) z = haveFlag z
of_kind (suc (suc (suc (suc (suc zero))))) z = missingFlag z
of_kind (suc (suc (suc (suc (suc (suc k)))))) z = haveItem most_items

unfoldable pub requirement_of : ℕ → Requirement
requirement_of c = of_kind (c / wide) (unshift (c % wide))

-- a requirement whose number has 32 bits
pub record Narrow (r : Requirement) : Type 0 where
  pub fits : InRange (number r)

abbrev pub AllNarrow : List Requirement → Type 0
AllNarrow [] = Unit {0}
AllNarrow (r ∷ rs) = Narrow r × AllNarrow rs

-- ---- what a requirement is about, and whether that has to be missing

-- a requirement as if it were to be had
abbrev pub subject : Requirement → Requirement
subject (haveItem i) = haveItem i
subject (missingItem i) = haveItem i
subject (haveAtc a) = haveAtc a
subject (missingAtc a) = haveAtc a
subject (haveFlag f) = haveFlag f
subject (missingFlag f) = haveFlag f

abbrev pub is_missing : Requirement → Bool
is_missing r = not (is_have r)

-- .. as the code holds it
abbrev pub subject_is : Subject → Requirement
subject_is (Item i) = haveItem i
subject_is (Atc a) = haveAtc a
subject_is (Flag f) = haveFlag f
