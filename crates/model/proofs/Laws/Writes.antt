-- What a shop means, written into the variables slot by slot. Assumes nothing: these are definitions for the laws, and a length.
use Rattle.std.proofs.Math.Option.{Option, none, some}
use Rattle.std.specs.Prelude.{List, [], ◌∷◌, ◌≡◌, refl, ℕ, suc, ◌+◌, set, length, ℤ}
use Rattle.std.proofs.Common.{length-set}
use Rattle.model.specs.Limits.{count_first, item_first}
use Rattle.model.specs.Save.{Save}
use Rattle.model.specs.Sheet.{Sheet}
use Rattle.model.specs.Shop.{Slot}
use Rattle.model.specs.Meaning.{Meaning, meaning_of}
use Rattle.model.specs.Parse.{temp}

abbrev pub set_temp : Option ℤ → List ℤ → List ℤ
set_temp none v = v
set_temp (some z) v = set v 0 z

pub length_temp : (o : Option ℤ) (v : List ℤ) → length (set_temp o v) ≡ length v
length_temp none v = refl
length_temp (some z) v = length-set v 0 z

unfoldable pub write : ℕ → Meaning → List ℤ → List ℤ
write i f v = set (set (set_temp f.temp v) (item_first + i) f.item) (count_first + i) f.count

-- the slots from number i on, lowest first: variable 0 is the highest one's
unfoldable pub writes : Sheet → Save → ℕ → List Slot → List ℤ → List ℤ
writes h s i [] v = v
writes h s i (x ∷ xs) v = writes h s (suc i) xs (write i (meaning_of h s x) v)
