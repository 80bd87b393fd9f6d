-- What a preview answers, given the answers of its four checks: 1, 8, 12 and 23 in that order. Assumes nothing: this is a definition.
use Rattle.std.specs.Prelude.{Bool, List, [], ◌∷◌, map, pos, get_or}
use Rattle.model.specs.Refusal.{first_of, check, bad_sheet, bad_shop, bad_save, no_flag}
use Rattle.model.specs.Save.{Save}
use Rattle.model.specs.Sheet.{Sheet}
use Rattle.model.specs.Shop.{Slot}
use Rattle.model.specs.Meaning.{meaning_of, temp_after}
use Rattle.model.specs.Preview.{Preview, preview_of}

-- the sheet, the shop, the save, the flags of the shop
abbrev pub checked : Sheet → List Slot → Save → Bool → Bool → Bool → Bool → Preview
checked h xs s sheet shop save flags =
    preview_of (first_of (check sheet bad_sheet ∷ check shop bad_shop ∷ check save bad_save ∷ check flags no_flag ∷ []))
    (map (meaning_of h s) xs) (temp_after h s xs (get_or s.variables 0 (pos 0))) (get_or s.variables 0 (pos 0))
