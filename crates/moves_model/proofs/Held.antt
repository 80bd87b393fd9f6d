-- What a slot means where one item is held once more. Assumes nothing.
use Rattle.std.specs.Prelude.{◌≡◌, Bool, true, false, ◌&&◌, ℕ, zero, suc, ◌-◌, ◌≤◌, ltb, eqb, ℤ, pos, ◌-ℤ◌}
use Rattle.std.proofs.Math.Path.{refl, ap}
use Rattle.std.proofs.Common.{sym, ◌∙◌, true≢false, arith, eq-eqb, ne_eqb, lt-ltb, le-ltb, le-leb}
use Rattle.std.proofs.Math.Bool.{not}
use Rattle.std.proofs.Math.Option.{Option, none, some}
use mathlib.Core.List.{List, [], ◌∷◌}
use Rattle.std.proofs.Math.Decide.{dec_le, ℕ_discrete}
use Rattle.std.proofs.lemmas.Bool.{lt-leb}
use Rattle.std.specs.Int.Signed.{lt_z}
use Rattle.model.specs.Signed.{is_zero, clamp}
use Rattle.model.specs.Save.{Save}
use Rattle.model.specs.Sheet.{Sheet, atc_for}
use Rattle.model.specs.Requirement.{Requirement, haveItem, missingItem, haveAtc, missingAtc, haveFlag, missingFlag}
use Rattle.model.specs.Shop.{Slot, timer_of, limit_of}
use Rattle.model.specs.Compile.{rate_of, acquired_req}
use Rattle.model.specs.Meaning.{Meaning, acquired, all_hold, at_rate, filled_meaning, held, holds, is_held, limit_meaning, meaning_for, meaning_of, no_timer_held, or_old, remaining, temp_after, unique_meaning}
use Rattle.moves_model.specs.OneMore.{OneMore, stocks_for, stocks, Lower, same, less}

-- ---- the tests

not_zero : (n : ℕ) → 1 ≤ n → is_zero (pos n) ≡ false
not_zero n l = ne_eqb n 0 (omega arith)

-- the larger of 0 and l - n, and of 0 and l - (n + 1)
lower_by : (l n : ℕ) → 1 ≤ n → Lower (clamp (pos l -ℤ pos n)) (clamp (pos l -ℤ pos (suc n)))
lower_by l zero p = absurd (omega arith)
lower_by l (suc k) p = by (dec_le (suc (suc k)) l) (dec_le (suc k) l)
  where
    by : Dec (suc (suc k) ≤ l) → Dec (suc k ≤ l) → Lower (clamp (pos l -ℤ pos (suc k))) (clamp (pos l -ℤ pos (suc (suc k))))
    by (yes q) d =
        let e : l - suc k ≡ suc (l - suc (suc k)) = omega arith in
        rw (le-ltb l (suc k) (omega arith), le-ltb l (suc (suc k)) q, e) less
    by (no q) (yes r) =
        let e : l - suc k ≡ 0 = omega arith in
        rw (le-ltb l (suc k) r, lt-ltb l (suc (suc k)) (omega arith), e) same
    by (no q) (no r) = rw (lt-ltb l (suc k) (omega arith), lt-ltb l (suc (suc k)) (omega arith)) same

-- both leave variable 0, or both write it
abbrev pub LowerTemp : Option ℤ → Option ℤ → Type 0
LowerTemp none none = Unit {0}
LowerTemp none (some y) = ⊥
LowerTemp (some x) none = ⊥
LowerTemp (some x) (some y) = Lower x y

temp_same : (o : Option ℤ) → LowerTemp o o
temp_same none = tt
temp_same (some z) = same

module _ (w n : ℕ) (s t : Save) (m : OneMore w n s t) where
  zero_same : (i : ℕ) → is_zero (held s i) ≡ is_zero (held t i)
  zero_same i = by (ℕ_discrete i w)
    where
      by : Dec (i ≡ w) → is_zero (held s i) ≡ is_zero (held t i)
      by (yes e) = rw (e, m.before, m.after) (not_zero n m.some ∙ sym (not_zero (suc n) (omega arith)))
      by (no d) = ap is_zero (m.items i d)

  held_same : (i : ℕ) → is_held s i ≡ is_held t i
  held_same i = by (ℕ_discrete i w)
    where
      by : Dec (i ≡ w) → is_held s i ≡ is_held t i
      by (yes e) = rw (e, m.before, m.after) (lt-ltb 0 n m.some ∙ sym (lt-ltb 0 (suc n) (omega arith)))
      by (no d) = ap (lt_z (pos 0)) (m.items i d)

  holds_same : (r : Requirement) → holds s r ≡ holds t r
  unfolding holds
  holds_same (haveItem i) = ap not (zero_same i)
  holds_same (missingItem i) = zero_same i
  holds_same (haveAtc a) = rw m.atcs
  holds_same (missingAtc a) = rw m.atcs
  holds_same (haveFlag f) = rw m.flags
  holds_same (missingFlag f) = rw m.flags

  all_same : (rs : List Requirement) → all_hold s rs ≡ all_hold t rs
  unfolding all_hold
  all_same [] = refl
  all_same (r ∷ rs) = rw (holds_same r, all_same rs)

  acquired_same : (h : Sheet) (i : ℕ) → acquired h s i ≡ acquired h t i
  unfolding acquired
  acquired_same h i = rw (holds_same (acquired_req (atc_for h i) i)) (by (rate_of (timer_of h i)) (holds t (acquired_req (atc_for h i) i)))
    where
      by : (o : Option ℕ) (b : Bool) → at_rate s o b ≡ at_rate t o b
      by none b = refl
      by (some r) b = rw m.times

  timers_same : (h : Sheet) → no_timer_held h s ≡ no_timer_held h t
  timers_same h = rw (held_same h.timer10, held_same h.timer15)

  -- ---- the counts

  remaining_lower : (l : ℕ) → Lower (remaining s w l) (remaining t w l)
  remaining_lower l = rw (m.before, m.after) (lower_by l n m.some)

  -- ---- a slot

  -- which of a slot's three may be lower, and where nothing is
  pub record Near (f g : Meaning) (free : Bool) : Type 0 where
    pub item : f.item ≡ g.item
    pub count : Lower f.count g.count
    pub temp : LowerTemp f.temp g.temp
    pub shut : free ≡ false → f ≡ g

  alike : (f g : Meaning) (free : Bool) → f ≡ g → Near f g free
  alike f g free e = rw e (record { item = refl; count = same; temp = temp_same g.temp; shut = λ p. refl })

  unique_near : (h : Sheet) (i : ℕ) (free r : Bool) → Near (unique_meaning h s i (acquired h s i) r) (unique_meaning h t i (acquired h t i) r) free
  unique_near h i free r = alike _ _ free (rw (acquired_same h i, timers_same h))

  limit_near : (i l : ℕ) (r : Bool) → Near (limit_meaning s i l r) (limit_meaning t i l r) (eqb i w && true)
  limit_near i l false = alike _ _ _ refl
  limit_near i l true = by (ℕ_discrete i w)
    where
      by : Dec (i ≡ w) → Near (limit_meaning s i l true) (limit_meaning t i l true) (eqb i w && true)
      by (yes e) = rw (e, eq-eqb w w refl) (record { item = refl; count = remaining_lower l; temp = remaining_lower l; shut = λ p. absurd (true≢false p) })
      by (no d) = alike _ _ _ (rw (m.items i d))

  for_near : (h : Sheet) (o : Option ℕ) (z : ℤ) (r : Bool) → Near (meaning_for h s o z r) (meaning_for h t o z r) (stocks_for h w o z)
  for_near h none z r = alike _ _ _ refl
  for_near h (some i) z r = by (dec_le (limit_of h i z) 1)
    where
      by : Dec (limit_of h i z ≤ 1) → Near (filled_meaning h s i (limit_of h i z) r) (filled_meaning h t i (limit_of h i z) r) (eqb i w && ltb 1 (limit_of h i z))
      by (yes p) = rw (le-leb (limit_of h i z) 1 p, le-ltb 1 (limit_of h i z) p) (unique_near h i _ r)
      by (no p) = rw (lt-leb (limit_of h i z) 1 (omega arith), lt-ltb 1 (limit_of h i z) (omega arith)) (limit_near i (limit_of h i z) r)

  pub slot_near : (h : Sheet) (x : Slot) → Near (meaning_of h s x) (meaning_of h t x) (stocks h w x)
  unfolding meaning_of stocks
  slot_near h x = rw (all_same x.requirements) (for_near h x.item x.limit (all_hold t x.requirements))

  -- ---- variable 0

  temp_lower : (o p : Option ℤ) (a b : ℤ) → LowerTemp o p → Lower a b → Lower (or_old o a) (or_old p b)
  temp_lower none none a b d e = e
  temp_lower none (some y) a b d e = absurd d
  temp_lower (some x) none a b d e = absurd d
  temp_lower (some x) (some y) a b d e = d

  pub after_lower : (h : Sheet) (xs : List Slot) (a b : ℤ) → Lower a b → Lower (temp_after h s xs a) (temp_after h t xs b)
  unfolding temp_after
  after_lower h [] a b d = d
  after_lower h (x ∷ xs) a b d = after_lower h xs _ _ (temp_lower (meaning_of h s x).temp (meaning_of h t x).temp a b (slot_near h x).temp d)
