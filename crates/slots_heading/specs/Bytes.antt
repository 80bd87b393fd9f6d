-- The bytes of what stands before an image, and writing them as a call (01, Image and printer, Refusals 1 and 16). Assumes nothing: these are definitions.
use Rattle.std.proofs.Math.Option.{Option, none, some}
use Rattle.std.specs.Prelude.{List, [], ◌∷◌, ◌++◌, ℕ, suc, leb, length}
use Rattle.model.specs.Refusal.{check, first_of, slice_short}
use Rattle.model.specs.Reading.{word}
use Rattle.model.specs.Sheet.{item_count, sheet_refusal}
use Rattle.model.specs.Files.{Wrote, wrote_of}
use Rattle.shop.specs.Shapes.{sheet_of}
use Rattle.shop.specs.declared.Sheet.{Sheet}
use Rattle.slots_sheet.specs.Outcome.{Head}
use Rattle.image_write.specs.Call.{length_of}

-- an item's number in the file: atc + 1, or 0 for none
abbrev pub entry_of : Option ℕ → ℕ
entry_of none = 0
entry_of (some a) = suc a

unfoldable pub atcs_bytes : List (Option ℕ) → List ℕ
atcs_bytes [] = []
atcs_bytes (x ∷ xs) = word (entry_of x) ++ atcs_bytes xs

-- n, m, per item atc + 1 or 0, Timer5, 10, 15; then the setup number
unfoldable pub head_bytes : Head → List ℕ
head_bytes d =
    word (item_count d.sheet) ++ (word d.sheet.atc_count ++ (atcs_bytes d.sheet.atc_of
    ++ (word d.sheet.timer5 ++ (word d.sheet.timer10 ++ (word d.sheet.timer15 ++ word d.setup)))))

-- 1 for the sheet handed in, then 16 where the slice is too short; refused, nothing is written, and in a longer slice the bytes past these stay
unfoldable pub write_head : Head → List ℕ → Wrote
write_head d out = wrote_of (first_of (sheet_refusal d.sheet ∷ check (leb (length (head_bytes d)) (length out)) slice_short ∷ [])) (head_bytes d) out

-- the length of what was written, else 0
unfoldable pub head_length : Head → List ℕ → ℕ
head_length d out = length_of (write_head d out).answer (head_bytes d)

-- what is handed in: the atcs' slice, the sheet's numbers and the setup number
abbrev pub head_by : List ℕ → Sheet → ℕ → Head
head_by ks h b = record { sheet = sheet_of ks h; setup = b }
