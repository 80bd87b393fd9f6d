-- What a sheet that check 1 passes and a save that check 12 passes give. Assumes nothing.
use Rattle.std.specs.Prelude.{◌≡◌, refl, Bool, true, ◌&&◌, not, List, [], ◌∷◌, ℕ, zero, suc, ◌≤◌, get_or, length, ltb, leb, eqb, ℤ, pos, negsuc}
use Rattle.std.proofs.Common.{sym, true≢false, leb-true}
use Rattle.std.proofs.Math.Option.{none, some}
use Rattle.model.specs.Limits.{fewest_items, most_atcs, most_held, most_items, variable_count}
use Rattle.model.specs.Save.{Save}
use Rattle.model.specs.Expr.{size}
use Rattle.model.specs.Sheet.{Sheet, all, atc_for, atc_known, is_bit, is_count, item_count, save_refusal, sheet_ok, sheet_refusal, timers_ok}
use Rattle.model.specs.Meaning.{held}
use Rattle.model.proofs.Laws.Checks.{and_left, and_right, passed, and4}
use Rattle.model.proofs.Laws.Normal.{SheetOk}
use Rattle.model.proofs.Laws.SlotRuns.{Counted, Fits, at}
use Rattle.model.proofs.Laws.Saves.{save_kept}

-- what holds of all elements and of the default holds at every place
pub all_at : {A : Type 0} (p : A → Bool) (xs : List A) (d : A) → p d ≡ true → all p xs ≡ true → (n : ℕ) → p (get_or xs n d) ≡ true
all_at p [] d e a n = e
all_at p (x ∷ xs) d e a zero = and_left (p x) _ a
all_at p (x ∷ xs) d e a (suc n) = all_at p xs d e (and_right (p x) _ a) n

-- a sheet that check 1 accepts
pub record SheetLow (h : Sheet) : Type 0 where
  pub items : item_count h ≤ most_items
  pub atcs : h.atc_count ≤ most_atcs
  pub known : (w a : ℕ) → atc_for h w ≡ some a → ltb a h.atc_count ≡ true
  pub second : ltb h.timer10 (item_count h) ≡ true
  pub third : ltb h.timer15 (item_count h) ≡ true

pub sheet_low : (h : Sheet) → sheet_ok h ≡ true → SheetLow h
unfolding sheet_ok
sheet_low h p =
    let n = item_count h in
    let r = and4 (leb fewest_items n && leb n most_items) (leb h.atc_count most_atcs) (all (atc_known h.atc_count) h.atc_of) (timers_ok h) p in
    let t₁ = ltb h.timer5 n in
    let t₂ = ltb h.timer10 n && not (eqb h.timer10 h.timer5) in
    let t₃ = ltb h.timer15 n && (not (eqb h.timer15 h.timer5) && not (eqb h.timer15 h.timer10)) in
    record {
      items = leb-true n most_items (and_right (leb fewest_items n) (leb n most_items) r.0);
      atcs = leb-true h.atc_count most_atcs r.1;
      known = λ w a q. known w a q (all_at (atc_known h.atc_count) h.atc_of none refl r.2 w);
      second = and_left (ltb h.timer10 n) _ (and_right t₁ t₂ (and_left (t₁ && t₂) t₃ r.3));
      third = and_left (ltb h.timer15 n) _ (and_right (t₁ && t₂) t₃ r.3);
    }
  where
    known : (w a : ℕ) → atc_for h w ≡ some a → atc_known h.atc_count (atc_for h w) ≡ true → ltb a h.atc_count ≡ true
    known w a q k = rw q at k

pub sheet_fits : (h : Sheet) → sheet_refusal h ≡ 0 → SheetOk h
sheet_fits h e = let l = sheet_low h (passed (sheet_ok h) 0 e) in record { items = l.items; atcs = l.known }

counted_by : (z : ℤ) → is_count z ≡ true → Counted z
counted_by (pos n) e = record { size = n; is = refl; few = leb-true n most_held (and_right (leb 0 n) _ e) }
counted_by (negsuc n) e = absurd (true≢false (sym e))

module _ (h : Sheet) (s : Save) (e : save_refusal h s ≡ 0) where
  pub save_fits : Fits s
  save_fits = let k = save_kept h s e in record {
    bits = λ n. leb-true (get_or s.flags n 0) 1 (all_at is_bit s.flags 0 refl k.flags n);
    counts = λ i. counted_by (held s i) (all_at is_count s.items (pos 0) refl k.items i);
  }

  pub save_long : length s.variables ≡ variable_count
  save_long = (save_kept h s e).variables_long
