-- Settings over the calls of the library (02, A.9): any list of lk_compile and lk_reclaim as they were made and answered, then lk_settings of a slot of the shop that was accepted last at a block, and lk_run from there. Each call comes in by its own promise. Assumes nothing.
use Rattle.std.specs.Prelude.{◌≡◌, refl, Bool, true, false, not, cond, List, ℕ, ◌+◌, ◌^◌, ◌≤◌, ◌<◌, ℤ, pos, negsuc, get_or, length}
use Rattle.std.proofs.Common.{sym, ap, ◌∙◌, subst, eq-eqb}
use Rattle.std.proofs.Math.Option.{none, some}
use Rattle.model.specs.Limits.{item_first, slot_count}
use Rattle.model.specs.Signed.{eq_z}
use Rattle.model.specs.Save.{Save}
use Rattle.model.specs.Sheet.{Sheet, save_refusal}
use Rattle.model.specs.Shop.{Slot, empty_slot}
use Rattle.model.specs.Meaning.{meaning_of}
use Rattle.model.specs.RecordCalls.{Born, run_in}
use Rattle.model.specs.Lists.{Along, after_all, last_at, now_at}
use Rattle.shop.specs.Shapes.{slot_of}
use Rattle.shop_arrays.specs.Arrays.{slot_in}
use Rattle.reclaim_record.proofs.Stands.{LongBorn}
use Rattle.settings_model.specs.Settings.{combos, count, listed_by, setting_of, settings_call, subjects}
use Rattle.settings_model.proofs.Combos.{each_once, same_list}
use Rattle.settings_model.proofs.Listed.{listed_item, setting_long}
use Rattle.settings_model.proofs.Call.{Told, told}
use Rattle.settings_model.specs.Settings as model
use Rattle.capi_settings.specs.declared.Settings.{Settings}
use Rattle.capi_settings.specs.Answers.{settings_as}
use Rattle.capi.specs.declared.Ran.{Ran}
use Rattle.capi.specs.Answers.{ran_as}
use Rattle.library.specs.Delivered.{AsPromised, Made, made}
use Rattle.library.proofs.Delivered.{means_of}

-- lk_settings answered q for the slot x, without a refusal: each number is the plain count over all combinations
pub record Counted (h : Sheet) (x : Slot) (q : Settings) : Type 0 where
  pub subjects : q.subjects ≡ length (subjects h x)
  pub few : q.subjects ≤ 16
  pub listed : q.listed ≡ count (listed_by h x) (combos q.subjects)
  pub hidden : q.hidden ≡ count (λ c. not (listed_by h x c)) (combos q.subjects)
  pub together : q.listed + q.hidden ≡ 2 ^ q.subjects

pub counted : (h : Sheet) (x : Slot) (q : Settings) → settings_as q ≡ settings_call h x → q.refusal ≡ 0 → Counted h x q
counted h x q p e = record { subjects = t.subjects; few = t.few; listed = t.listed; hidden = t.hidden; together = t.together }
  where
    t : Told h x (settings_as q)
    t = subst (Told h x) (sym p) (told h x (sym (ap (λ (r : model.Settings). r.answer) p) ∙ e))

-- the combination of a save is one of these, and it is listed exactly if the run left the slot's item in its item variable, v being the variables after it
pub record Runs (h : Sheet) (x : Slot) (n : ℕ) (s : Save) (variable : ℤ) : Type 0 where
  pub once : count (same_list (setting_of h x s)) (combos n) ≡ 1
  pub gets : (w : ℕ) → x.item ≡ some w → variable ≡ cond (listed_by h x (setting_of h x s)) (pos w) (negsuc 0)
  pub exactly : (w : ℕ) → x.item ≡ some w → listed_by h x (setting_of h x s) ≡ eq_z variable (pos w)
  pub nothing : x.item ≡ none → variable ≡ negsuc 0

tells : (w : ℕ) (b : Bool) → b ≡ eq_z (cond b (pos w) (negsuc 0)) (pos w)
tells w true = sym (eq-eqb w w refl)
tells w false = refl

no_item : (h : Sheet) (s : Save) (x : Slot) → x.item ≡ none → (meaning_of h s x).item ≡ negsuc 0
unfolding meaning_of
no_item h s x e = rw e

runs_so : (h : Sheet) (x : Slot) (s : Save) (variable : ℤ) → variable ≡ (meaning_of h s x).item → Runs h x (length (subjects h x)) s variable
runs_so h x s z e = record {
  once = ap (λ n. count (same_list (setting_of h x s)) (combos n)) (sym (setting_long h x s)) ∙ each_once (setting_of h x s);
  gets = λ w i. e ∙ listed_item h s x w i;
  exactly = λ w i. tells w (listed_by h x (setting_of h x s)) ∙ ap (λ y. eq_z y (pos w)) (sym (e ∙ listed_item h s x w i));
  nothing = λ i. e ∙ no_item h s x i;
}

-- the first call gets the script k, each later one the script as the one before left it; ys is the shop that was accepted last at block b, which is b' after the list
module _ (h : Sheet) (k : Born) (xs : List Made) (long : LongBorn k) (promised : Along made (AsPromised h) k xs) (b b' : ℕ) (ys : List Slot) (now : now_at made k xs b ≡ some b') (last : last_at made k xs b ≡ some ys) where
  -- lk_settings of its slot i, by any numbers that stand for that slot, answered q; lk_run from there under a save that fits was not refused and left v
  pub settings_run : (i : ℕ) → i < length ys → (z l : ℤ) (cs : List ℕ) (n : ℕ) → slot_of (slot_in z l cs n) ≡ get_or ys i empty_slot → (q : Settings) → settings_as q ≡ settings_call h (slot_of (slot_in z l cs n)) → q.refusal ≡ 0
      → (s : Save) → save_refusal h s ≡ 0 → (budget : ℕ) (r : Ran) (v : List ℤ) → ran_as r v ≡ run_in h (after_all made k xs).memory b' s budget → r.refusal ≡ 0
      → Counted h (get_or ys i empty_slot) q × Runs h (get_or ys i empty_slot) q.subjects s (get_or v (item_first + i) (pos 0))
  settings_run i low z l cs n e q p a s f budget r v u o =
      let x = get_or ys i empty_slot in
      let c = counted h x q (p ∙ ap (λ (y : Slot). settings_call h y) e) a in
      let m = means_of h k xs long promised b b' ys now last s f budget r v u o in
      (c, rw c.subjects (runs_so h x s (get_or v (item_first + i) (pos 0)) (m.items i low)))
