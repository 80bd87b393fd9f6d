-- Where the rule says no, the save that has all that the normal form requires and nothing else tells the two apart. Assumes nothing.
use Rattle.std.specs.Prelude.{◌≡◌, Bool, true, cond, ◌&&◌, List, ℕ, ◌<◌, leb, eqb, length, ℤ, negsuc}
use Rattle.std.proofs.Math.Path.{refl, ap}
use Rattle.std.proofs.Common.{sym, ◌∙◌, true≢false, arith, ltb-true, eq-eqb}
use Rattle.std.proofs.Math.Bool.{false, not}
use Rattle.std.proofs.Math.Option.{Option, none, some}
use Rattle.std.proofs.lemmas.Bool.{not-false}
use Rattle.std.proofs.Math.IntN.{pos}
use Rattle.std.specs.Int.{w16, w32}
use Rattle.model.specs.Limits.{flag_count, time_count, variable_count}
use Rattle.model.specs.Signed.{is_zero, in_range}
use Rattle.model.specs.Save.{Save, nat_at, int_at}
use Rattle.model.specs.Sheet.{Sheet, all, atc_for, is_bit, is_count, item_count, save_ok}
use Rattle.model.specs.Requirement.{Requirement, haveItem, missingItem, haveAtc, missingAtc, haveFlag, missingFlag, negate_req, member}
use Rattle.model.specs.Shop.{Slot, Timer, plain, five, ten, fifteen, timer_of, limit_of}
use Rattle.model.specs.Compile.{rate_of, acquired_req}
use Rattle.model.specs.Meaning.{acquired, all_hold, at_rate, filled_meaning, held, hidden, holds, limit_meaning, meaning_of, unique_meaning}
use Rattle.model.specs.Normal.{acquired_of, normal}
use Rattle.model.proofs.Laws.Checks.{and_left, and_right}
use Rattle.model.proofs.Laws.Bools.{never_true}
use Rattle.faithful_model.specs.Faithful.{is_faithful, no_pair}
use Rattle.signed_model.specs.Saves.{bit, can_hold, table, witness, witness_for}
use Rattle.faithful_model.specs.Lists.{all_member}
use Rattle.signed_model.proofs.Holds.{Without, find, hold_fails, hold_of, holds_neg, table_all, table_at, table_default, table_length}
use Rattle.signed_model.proofs.Rule.{left_of, left_own, left_was, normal_left, normal_meaning, slot_meaning}

-- ---- it fits the sheet

part_ok : {A : Type 0} (p : A → Bool) (f : ℕ → A) (n : ℕ) → ((i : ℕ) → p (f i) ≡ true) → eqb (length (table f n)) n && all p (table f n) ≡ true
part_ok p f n e = rw (eq-eqb (length (table f n)) n (table_length f n)) (table_all p f n e)

and_five : (a b c d e : Bool) → a ≡ true → b ≡ true → c ≡ true → d ≡ true → e ≡ true → a && b && c && d && e ≡ true
and_five a b c d e p q r s t = rw (p, q, r, s, t)

bit_ok : (b : Bool) → is_bit (bit b) ≡ true
bit_ok true = refl
bit_ok false = refl

count_ok : (b : Bool) → is_count (pos (bit b)) ≡ true
count_ok true = refl
count_ok false = refl

pub witness_fits : (h : Sheet) (qs : List Requirement) → save_ok h (witness h qs) ≡ true
unfolding save_ok witness
witness_fits h qs = and_five _ _ _ _ _
    (part_ok is_count (λ i. pos (bit (member (haveItem i) qs))) (item_count h) (λ i. count_ok (member (haveItem i) qs)))
    (part_ok is_bit (λ a. bit (member (haveAtc a) qs)) h.atc_count (λ a. bit_ok (member (haveAtc a) qs)))
    (part_ok is_bit (λ f. bit (member (haveFlag (pos f)) qs)) flag_count (λ f. bit_ok (member (haveFlag (pos f)) qs)))
    (part_ok (in_range w16) (λ t. pos 0) time_count (λ t. refl))
    (part_ok (in_range w32) (λ v. pos 0) variable_count (λ v. refl))

-- ---- what holds in it

module _ (h : Sheet) (qs : List Requirement) where
  item_has : (i : ℕ) → i < item_count h → member (haveItem i) qs ≡ true → held (witness h qs) i ≡ pos 1
  unfolding witness
  item_has i l m = table_at (λ j. pos (bit (member (haveItem j) qs))) (item_count h) i (pos 0) l ∙ rw m

  item_lacks : (i : ℕ) → member (haveItem i) qs ≡ false → held (witness h qs) i ≡ pos 0
  unfolding witness
  item_lacks i m = table_default (λ j. pos (bit (member (haveItem j) qs))) (item_count h) i (pos 0) (rw m)

  atc_has : (a : ℕ) → a < h.atc_count → member (haveAtc a) qs ≡ true → nat_at (witness h qs).atcs (pos a) ≡ pos 1
  unfolding witness
  atc_has a l m = ap pos (table_at (λ j. bit (member (haveAtc j) qs)) h.atc_count a 0 l ∙ rw m)

  atc_lacks : (a : ℕ) → member (haveAtc a) qs ≡ false → nat_at (witness h qs).atcs (pos a) ≡ pos 0
  unfolding witness
  atc_lacks a m = ap pos (table_default (λ j. bit (member (haveAtc j) qs)) h.atc_count a 0 (rw m))

  flag_has : (f : ℕ) → f < flag_count → member (haveFlag (pos f)) qs ≡ true → nat_at (witness h qs).flags (pos f) ≡ pos 1
  unfolding witness
  flag_has f l m = ap pos (table_at (λ j. bit (member (haveFlag (pos j)) qs)) flag_count f 0 l ∙ rw m)

  flag_lacks : (f : ℤ) → member (haveFlag f) qs ≡ false → nat_at (witness h qs).flags f ≡ pos 0
  unfolding witness
  flag_lacks (pos f) m = ap pos (table_default (λ j. bit (member (haveFlag (pos j)) qs)) flag_count f 0 (rw m))
  flag_lacks (negsuc f) m = refl

  has : (r : Requirement) → member r qs ≡ true → member (negate_req r) qs ≡ false → can_hold h r ≡ true → holds (witness h qs) r ≡ true
  unfolding holds
  has (haveItem i) m n c = ap (λ z. not (is_zero z)) (item_has i (ltb-true _ _ c) m)
  has (missingItem i) m n c = ap is_zero (item_lacks i n)
  has (haveAtc a) m n c = ap (λ z. not (is_zero z)) (atc_has a (ltb-true _ _ c) m)
  has (missingAtc a) m n c = ap is_zero (atc_lacks a n)
  has (haveFlag (pos f)) m n c = ap (λ z. not (is_zero z)) (flag_has f (ltb-true _ _ c) m)
  has (haveFlag (negsuc f)) m n c = absurd (true≢false (sym c))
  has (missingFlag f) m n c = ap is_zero (flag_lacks f n)

  -- nothing is acquired that is not among them
  own_lacks : (o : Option ℕ) (w : ℕ) → member (acquired_req o w) qs ≡ false → holds (witness h qs) (acquired_req o w) ≡ false
  unfolding holds
  own_lacks none w m = ap (λ z. not (is_zero z)) (item_lacks w m)
  own_lacks (some a) w m = ap (λ z. not (is_zero z)) (atc_lacks a m)

  no_time : int_at (witness h qs).times (pos 2) ≡ pos 0
  unfolding witness
  no_time = table_default (λ t. pos 0) time_count 2 (pos 0) refl

  not_acquired : (w : ℕ) → member (acquired_of h w) qs ≡ false → acquired h (witness h qs) w ≡ false
  unfolding acquired acquired_of
  not_acquired w m = rw (own_lacks (atc_for h w) w m) (by (timer_of h w))
    where
      by : (t : Timer) → at_rate (witness h qs) (rate_of t) false ≡ false
      by plain = refl
      by five = rw no_time
      by ten = rw no_time
      by fifteen = rw no_time

-- ---- the rule says no

-- under s the slot is hidden, and what is read back lists the item
pub record Tells (h : Sheet) (x : Slot) (s : Save) : Type 0 where
  pub fits : save_ok h s ≡ true
  pub runs : meaning_of h s x ≡ hidden
  pub reads : (w : ℕ) → x.item ≡ some w → (meaning_of h s (normal h x)).item ≡ pos w
  pub filled : x.item ≡ none → ⊥

pub and-false : (a b : Bool) → a && b ≡ false → a ≡ true → b ≡ false
and-false true b e p = e
and-false false b e p = absurd (true≢false (sym p))

module _ (h : Sheet) (x : Slot) (w : ℕ) (e : x.item ≡ some w) (can : all (can_hold h) (normal h x).requirements ≡ true) where
  abbrev limit : ℕ
  limit = limit_of h w x.limit

  abbrev rs : List Requirement
  rs = x.requirements

  abbrev qs : List Requirement
  qs = left_of h w limit rs

  -- all that is left holds
  left_holds : all_hold (witness h qs) qs ≡ true
  left_holds = hold_of (witness h qs) qs (λ r m. has h qs r m (apart r m) (all_member (can_hold h) r qs (rw (normal_left h x w e) at can) m))
    where
      apart : (r : Requirement) → member r qs ≡ true → member (negate_req r) qs ≡ false
      apart r m = never_true _ (λ n. true≢false (sym (left_was h w limit (negate_req r) rs n).0 ∙ (left_was h w limit r rs m).1))

  own_out : leb limit 1 ≡ true → member (acquired_of h w) qs ≡ false
  own_out p = never_true _ (left_own h w limit rs p)

  -- a contradicting pair never holds
  pair_fails : (s : Save) → no_pair rs ≡ false → all_hold s rs ≡ false
  unfolding no_pair
  pair_fails s n = by (holds s r) refl
    where
      found : Without (λ q. not (member (negate_req q) rs)) rs
      found = find (λ q. not (member (negate_req q) rs)) rs n

      r : Requirement
      r = found.which

      by : (b : Bool) → holds s r ≡ b → all_hold s rs ≡ false
      by true p = hold_fails s (negate_req r) rs (not-false _ found.fails) (holds_neg s r ∙ ap not p)
      by false p = hold_fails s r rs found.inside p

  fails : no_pair rs && not (leb limit 1 && member (acquired_of h w) rs) ≡ false → all_hold (witness h qs) rs ≡ false
  fails f = by (no_pair rs) refl
    where
      by : (b : Bool) → no_pair rs ≡ b → all_hold (witness h qs) rs ≡ false
      by true p =
          let a = not-false _ (and-false (no_pair rs) _ f p) in
          let l = and_left (leb limit 1) _ a in
          hold_fails (witness h qs) (acquired_of h w) rs (and_right (leb limit 1) _ a) (unfold acquired_of in own_lacks h qs (atc_for h w) w (own_out l))
      by false p = pair_fails (witness h qs) p

  -- hidden where its requirements fail and nothing is acquired, listed where they hold
  filled_hidden : filled_meaning h (witness h qs) w limit false ≡ hidden
  filled_hidden = by (leb limit 1) refl
    where
      by : (b : Bool) → leb limit 1 ≡ b → cond b (unique_meaning h (witness h qs) w (acquired h (witness h qs) w) false) (limit_meaning (witness h qs) w limit false) ≡ hidden
      by true p = rw (not_acquired h qs w (own_out p))
      by false p = refl

  filled_listed : (filled_meaning h (witness h qs) w limit true).item ≡ pos w
  filled_listed = by (leb limit 1) refl
    where
      by : (b : Bool) → leb limit 1 ≡ b → (cond b (unique_meaning h (witness h qs) w (acquired h (witness h qs) w) true) (limit_meaning (witness h qs) w limit true)).item ≡ pos w
      by true p = rw (not_acquired h qs w (own_out p))
      by false p = refl

  same_item : (v : ℕ) → x.item ≡ some v → v ≡ w
  same_item v q = cc

  tells_filled : no_pair rs && not (leb limit 1 && member (acquired_of h w) rs) ≡ false → Tells h x (witness h qs)
  tells_filled f = record {
    fits = witness_fits h qs;
    runs = slot_meaning h (witness h qs) x w e ∙ rw (fails f) filled_hidden;
    reads = λ v q. rw (same_item v q) (ap (λ m. m.item) (normal_meaning h (witness h qs) x w e) ∙ rw left_holds filled_listed);
    filled = λ n. let z : ◌≡◌ {A = ℕ} 0 1 = cc in omega arith;
  }

-- the witness of a slot that the rule refuses
pub witness_tells : (h : Sheet) (x : Slot) → is_faithful h x ≡ false → all (can_hold h) (normal h x).requirements ≡ true → Tells h x (witness_for h x)
unfolding is_faithful witness_for
witness_tells h x f can = by x.item refl
  where
    by : (o : Option ℕ) → x.item ≡ o → Tells h x (witness h (normal h x).requirements)
    by none e = absurd (true≢false (rw e at f))
    by (some w) e = rw (normal_left h x w e) (tells_filled h x w e can (rw e at f))

-- so the two differ, in the item alone
pub tells_apart : (h : Sheet) (x : Slot) (s : Save) → Tells h x s → (meaning_of h s x).item ≡ (meaning_of h s (normal h x)).item → ⊥
tells_apart h x s t same = by x.item refl
  where
    by : (o : Option ℕ) → x.item ≡ o → ⊥
    by none e = t.filled e
    by (some w) e =
        let a : (meaning_of h s x).item ≡ negsuc 0 = ap (λ m. m.item) t.runs in
        let b : (meaning_of h s (normal h x)).item ≡ pos w = t.reads w e in
        let z : ◌≡◌ {A = ℕ} 0 1 = cc in omega arith
