-- The preview by the answers of its four checks. Assumes nothing.
use mathlib.Core.Path.{◌≡◌, sym, ap, ◌∙◌}
use mathlib.Core.Bool.{Bool}
use lib.ListN.{length, length-map}
use Rattle.model.specs.Limits.{slot_count}
use Rattle.model.specs.Save.{Save}
use Rattle.model.specs.Sheet as Model
use Rattle.model.specs.Sheet.{sheet_ok, save_ok, all}
use Rattle.model.specs.Shop.{with_slots, slot_ok}
use Rattle.model.specs.Flags.{shop_inside}
use Rattle.model.specs.Preview.{preview_call}
use Rattle.shop.specs.Shapes.{slot_of, slots_of}
use Rattle.shop.specs.declared.Shop.{Shop}
use Rattle.preview.specs.Accepted.{with_all}
use Rattle.preview.specs.Checked.{checked}
use Rattle.preview.specs.Shown.{Answer, previewed_of}

module _ (h : Model.Sheet) (s : Save) (shop : Shop) (long : length shop.slots ≡ slot_count) where
  -- a shop's slots are twenty already
  twenty : with_slots (slots_of shop) ≡ slots_of shop
  unfolding slots_of
  twenty = with_all (slots_of shop) (length-map shop.slots slot_of ∙ long)

  by_checks : preview_call h (slots_of shop) s ≡ checked h (slots_of shop) s (sheet_ok h) (all (slot_ok h) (slots_of shop)) (save_ok h s) (shop_inside (slots_of shop))
  unfolding preview_call
  by_checks = ap (λ xs. checked h xs s (sheet_ok h) (all (slot_ok h) xs) (save_ok h s) (shop_inside xs)) twenty

  module _ (r : Answer) (a b d f : Bool) (p : a ≡ sheet_ok h) (q : b ≡ all (slot_ok h) (slots_of shop)) (t : d ≡ save_ok h s) (u : f ≡ shop_inside (slots_of shop)) where
    -- the call answers what the answers of its checks ask for
    pub answered : r ≡ previewed_of (checked h (slots_of shop) s a b d f) → r ≡ previewed_of (preview_call h (slots_of shop) s)
    answered e = e ∙ ap previewed_of (sym (by_checks ∙ rw (← p, ← q, ← t, ← u)))
