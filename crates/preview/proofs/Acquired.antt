-- What counts as having an item: the atc's or the item's own test, or a timer's rate. Assumes nothing.
use mathlib.Core.Path.{◌≡◌, refl, sym, ap, ◌∙◌}
use mathlib.Core.Bool.{Bool, true, false, ◌||◌}
use mathlib.Core.Option.{Option, none, some}
use mathlib.Core.List.{List}
use Prim.Native.Nat.{ℕ}
use lib.IntN.{pos}
use lib.ListN.{get_or}
use Rattle.model.specs.Save.{Save}
use Rattle.model.specs.Sheet as Model
use Rattle.model.specs.Sheet.{atc_for}
use Rattle.model.specs.Printer.{atc_entry}
use Rattle.model.specs.Shop.{timer_of}
use Rattle.model.specs.Compile.{rate_of, acquired_req}
use Rattle.model.specs.Meaning.{holds, at_rate, acquired}
use Rattle.shop.specs.Shapes.{sheet_of, atc_at}
use Rattle.shop.specs.Slots.{atc_for_lem}
use Rattle.shop.specs.declared.Sheet.{Sheet}
use Rattle.preview.specs.Tests.{rated_at}

-- o being the atc of the item, or none
module _ (s : Save) (ks : List ℕ) (h : Sheet) (i : ℕ) (o : Option ℕ) (e : o ≡ atc_entry (atc_at ks i)) where
  pub owned_by : holds s (acquired_req o i) ≡ holds s (acquired_req (atc_for (sheet_of ks h) i) i)
  owned_by = ap (λ (p : Option ℕ). holds s (acquired_req p i)) (e ∙ sym (atc_for_lem ks h i))

rate_apart : (s : Save) (o : Option ℕ) (b : Bool) → at_rate s o b ≡ b || rated_at o (get_or s.times 2 (pos 0))
rate_apart s none true = refl
rate_apart s none false = refl
rate_apart s (some r) b = refl

pub acquired_by_lem : (h : Model.Sheet) (s : Save) (w : ℕ) → acquired h s w ≡ holds s (acquired_req (atc_for h w) w) || rated_at (rate_of (timer_of h w)) (get_or s.times 2 (pos 0))
unfolding acquired
acquired_by_lem h s w = rate_apart s (rate_of (timer_of h w)) (holds s (acquired_req (atc_for h w) w))
