-- What a shop means, as a call of its own: the twenty pairs and variable 0, without compiling (01, Runner and slot meaning). Assumes nothing: these are definitions.
use Rattle.std.specs.Prelude.{List, [], ◌∷◌, map, ℕ, zero, suc, get_or, ℤ, pos}
use Rattle.model.specs.Refusal.{first_of}
use Rattle.model.specs.Save.{Save}
use Rattle.model.specs.Sheet.{Sheet, sheet_refusal, save_refusal}
use Rattle.model.specs.Shop.{Slot, with_slots, shop_refusal}
use Rattle.model.specs.Flags.{flag_answer}
use Rattle.model.specs.Meaning.{Meaning, meaning_of, temp_after}

pub record Preview : Type 0 where
  pub answer : ℕ
  pub slots : List Meaning
  pub temp : ℤ

abbrev pub preview_of : ℕ → List Meaning → ℤ → ℤ → Preview
preview_of zero ms z old = record { answer = 0; slots = ms; temp = z }
preview_of (suc n) ms z old = record { answer = suc n; slots = []; temp = old }

-- 1, 8, 12 in that order, then 23 where the run of the compiled shop is answered 23 (A.10)
unfoldable pub preview_call : Sheet → List Slot → Save → Preview
preview_call h xs s =
    preview_of (first_of (sheet_refusal h ∷ shop_refusal h xs ∷ save_refusal h s ∷ flag_answer (with_slots xs) ∷ []))
    (map (meaning_of h s) (with_slots xs)) (temp_after h s (with_slots xs) (get_or s.variables 0 (pos 0))) (get_or s.variables 0 (pos 0))
