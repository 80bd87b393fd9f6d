-- What the values of the code stand for: the meaning of a slot, and a preview with its twenty pairs. Assumes nothing: these are definitions.
use Rattle.std.specs.Prelude.{Option, Some, None, List, map, ℕ, get_or, set, replicate, ℤ, pos, Result, Ok, Err}
use Rattle.std.proofs.Math.Option as Math
use Rattle.std.proofs.Math.Option.{none, some}
use Rattle.std.proofs.lemmas.List.Edits.{sets}
use Rattle.model.specs.Limits.{slot_count}
use Rattle.model.specs.Refusal.{accepted}
use Rattle.model.specs.Refusals.{refusal_number}
use Rattle.model.specs.declared.Refusal.{Refusal}
use Rattle.model.specs.Meaning as Model
use Rattle.model.specs.Meaning.{meaning_of, or_old, temp_after}
use Rattle.model.specs.Save.{Save}
use Rattle.model.specs.Sheet.{Sheet}
use Rattle.model.specs.Shop.{Slot}
use Rattle.model.specs.Preview.{Preview}
use Rattle.preview.specs.declared.Meaning.{Meaning}
use Rattle.preview.specs.declared.Previewed.{Previewed}

-- what a slot leaves in variable 0
abbrev pub temp_is : Option ℤ → Math.Option ℤ
temp_is (Some z) = some z
temp_is None = none

abbrev pub meaning_is : Meaning → Model.Meaning
meaning_is m = record { item = m.item; count = m.count; temp = temp_is m.temp }

-- what a call answers, in numbers: the refusal or 0, twenty items, twenty counts, and variable 0
pub record Answer : Type 0 where
  pub refusal : ℕ
  pub items : List ℤ
  pub counts : List ℤ
  pub temp : ℤ

-- no pair yet
abbrev pub blank_of : ℤ → Previewed
blank_of z = record { items = replicate slot_count (pos 0); counts = replicate slot_count (pos 0); temp = z }

-- the pair of slot i, and variable 0 after it
abbrev pub shown : Previewed → ℕ → Model.Meaning → Previewed
shown p i m = record { items = set p.items i m.item; counts = set p.counts i m.count; temp = or_old m.temp p.temp }

-- accepted
abbrev pub accepted_as : Previewed → Answer
accepted_as p = record { refusal = accepted; items = p.items; counts = p.counts; temp = p.temp }

-- refused, every pair is 0, and variable 0 is the save's, z
abbrev pub answer_in : ℤ → Result Previewed Refusal → Answer
answer_in z (Ok p) = accepted_as p
answer_in z (Err e) = record { refusal = refusal_number e; items = replicate slot_count (pos 0); counts = replicate slot_count (pos 0); temp = z }

-- the preview of a shop that no check refuses
abbrev pub meanings_of : Sheet → List Slot → Save → Preview
meanings_of h xs s = record { answer = 0; slots = map (meaning_of h s) xs; temp = temp_after h s xs (get_or s.variables 0 (pos 0)) }

-- twenty items and twenty counts: those of the meanings from slot 0 on, and 0 where it is refused and there are none
unfoldable pub previewed_of : Preview → Answer
previewed_of p = record {
  refusal = p.answer;
  items = sets (replicate slot_count (pos 0)) 0 (map (λ m. m.item) p.slots);
  counts = sets (replicate slot_count (pos 0)) 0 (map (λ m. m.count) p.slots);
  temp = p.temp;
}
