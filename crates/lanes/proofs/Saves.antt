-- Saves one behind another fit where the slices are as long as they have it and all values are fine; and the checks in their order. Assumes nothing.
use mathlib.Core.Path.{◌≡◌, refl, sym, ap, ◌∙◌}
use mathlib.Core.Bool.{Bool, true, false, ◌&&◌, and-false, and_assoc}
use mathlib.Core.List.{List, [], ◌∷◌, ◌++◌}
use Prim.Native.Nat.{ℕ, zero, suc, ◌+◌, ◌*◌, ◌≤◌, ◌<◌}
use native.Mathlib.Nat.{add-zero, zero-mul, suc-mul, add-mul, mul-le-mul_right}
use native.Mathlib.Omega.{arith}
use lib.Dec.{eqb}
use lib.ListN.{length, take, drop, length-drop, length-map, take-append-drop, drop_of_length-le}
use lib.Seq.{drop-drop, length-take-le, take_all}
use lib.IntN.{ℤ}
use mir.Syntax.{w16, w32}
use borrow.Author.Tests.{eqb-true, eq-eqb, le-leb, lt-leb}
use Rattle.model.specs.Limits.{flag_count, time_count, variable_count, most_saves}
use Rattle.model.specs.Refusal.{first_of, check}
use Rattle.model.specs.Signed.{in_range}
use Rattle.model.specs.Save.{Save}
use Rattle.model.specs.Sheet.{Sheet, all, is_count, is_bit, save_ok}
use Rattle.model.specs.Script.{Block}
use Rattle.model.specs.Memory.{Memory, script_of}
use Rattle.model.specs.RecordCalls.{call_in}
use Rattle.model.proofs.Laws.Checks.{and_left, and_right}
use Rattle.shop.specs.Shapes.{sheet_of}
use Rattle.shop.specs.declared.Sheet as code
use Rattle.checks.specs.Calls.{save_of}
use Rattle.checks.specs.Passed.{call_passed}
use Rattle.checks.proofs.Checks.{save_is}
use Rattle.expr.specs.Value.{reads}
use Rattle.reclaim_reach.specs.Words.{Safe}
use Rattle.reclaim_reach.specs.Judged.{safe}
use Rattle.lanes_model.specs.Walk.{walk_ok, walk_checks}
use Rattle.lanes_model.specs.Flat.{part, save_in, saves_from, lengths_ok, saves_ok, walk_refusal_in}
use Rattle.lanes.specs.Calls.{lengths_are, values_ok}
use Rattle.lanes.specs.Walks.{Lying}

-- ---- a test of all elements, part by part

module _ {A : Type 0} (p : A → Bool) where
  all_append : (xs ys : List A) → all p (xs ++ ys) ≡ all p xs && all p ys
  all_append [] ys = refl
  all_append (x ∷ xs) ys = ap (λ t. p x && t) (all_append xs ys) ∙ sym (and_assoc (p x) (all p xs) (all p ys))

  part_all : (w i : ℕ) (xs : List A) → all p (part w i xs) && all p (drop (suc i * w) xs) ≡ all p (drop (i * w) xs)
  part_all w i xs =
      ap (λ n. all p (part w i xs) && all p (drop n xs)) (suc-mul i w)
      ∙ ap (λ l. all p (part w i xs) && all p l) (sym (drop-drop w (i * w) xs))
      ∙ sym (all_append (take w (drop (i * w) xs)) (drop w (drop (i * w) xs)))
      ∙ ap (all p) (take-append-drop w (drop (i * w) xs))

  drop_true : (n : ℕ) (xs : List A) → all p xs ≡ true → all p (drop n xs) ≡ true
  drop_true n xs e = and_right (all p (take n xs)) (all p (drop n xs)) (sym (all_append (take n xs) (drop n xs)) ∙ ap (all p) (take-append-drop n xs) ∙ e)

  part_true : (w i : ℕ) (xs : List A) → all p xs ≡ true → all p (part w i xs) ≡ true
  part_true w i xs e = and_left (all p (part w i xs)) (all p (drop (suc i * w) xs)) (part_all w i xs ∙ drop_true (i * w) xs e)

  none_left : (w i : ℕ) (xs : List A) → length xs ≡ (i + 0) * w → all p (drop (i * w) xs) ≡ true
  none_left w i xs e = let z : length xs ≡ i * w = e ∙ ap (λ n. n * w) (add-zero i) in ap (all p) (drop_of_length-le xs {i = i * w} (omega arith))

part_length : {A : Type 0} (w i k : ℕ) (xs : List A) → length xs ≡ (i + suc k) * w → length (part w i xs) ≡ w
part_length w i k xs e = length-take-le w (drop (i * w) xs) (simp length-drop (omega (arith, add-mul i (suc k) w, suc-mul k w)))

shift : {A : Type 0} (w i k : ℕ) (xs : List A) → length xs ≡ (i + suc k) * w → length xs ≡ (suc i + k) * w
shift w i k xs e = let z : i + suc k ≡ suc i + k = omega arith in e ∙ ap (λ n. n * w) z

tidy : (a b c : Bool) → a && b && c && true && true ≡ a && (b && c)
tidy false b c = refl
tidy true false c = refl
tidy true true false = refl
tidy true true true = refl

rearranged : (a b c a' b' c' : Bool) → (a && (b && c)) && (a' && (b' && c')) ≡ (a && a') && ((b && b') && (c && c'))
rearranged false b c a' b' c' = refl
rearranged true false c false b' c' = refl
rearranged true false c true b' c' = refl
rearranged true true c false b' c' = and-false c
rearranged true true c true false c' = and-false c
rearranged true true c true true c' = refl

-- ---- the saves

longs : (ks : List ℕ) (h : code.Sheet) (f : Save) (k : ℕ) → lengths_are k (length ks) h.atcs f ≡ true
    → (length f.items ≡ k * length ks) × (length f.atcs ≡ k * h.atcs) × (length f.flags ≡ k * flag_count) × (length f.times ≡ k * time_count) × (length f.variables ≡ k * variable_count)
longs ks h f k e =
    let e₁ = and_right (eqb (length f.items) (k * length ks)) _ e in
    let e₂ = and_right (eqb (length f.atcs) (k * h.atcs)) _ e₁ in
    let e₃ = and_right (eqb (length f.flags) (k * flag_count)) _ e₂ in
    (eqb-true _ _ (and_left (eqb (length f.items) (k * length ks)) _ e), eqb-true _ _ (and_left (eqb (length f.atcs) (k * h.atcs)) _ e₁), eqb-true _ _ (and_left (eqb (length f.flags) (k * flag_count)) _ e₂), eqb-true _ _ (and_left (eqb (length f.times) (k * time_count)) _ e₃), eqb-true _ _ (and_right (eqb (length f.times) (k * time_count)) _ e₃))

in_part : {n : ℕ} (w i k : ℕ) → i < k → n ≡ k * w → i * w + w ≤ n
in_part w i k g e = let a = mul-le-mul_right w g in omega (arith, suc-mul i w)

module _ (ks : List ℕ) (h : code.Sheet) (f : Save) (t : all (in_range w16) f.times ≡ true) (v : all (in_range w32) f.variables ≡ true) where
  -- lengths of i + k saves
  record Long (k : ℕ) : Type 0 where
    items : length f.items ≡ k * length ks
    atcs : length f.atcs ≡ k * h.atcs
    flags : length f.flags ≡ k * flag_count
    times : length f.times ≡ k * time_count
    variables : length f.variables ≡ k * variable_count

  one_save : (i k : ℕ) → Long (i + suc k) → save_ok (sheet_of ks h) (save_in (length ks) h.atcs f i)
      ≡ all is_count (part (length ks) i f.items) && (all is_bit (part h.atcs i f.atcs) && all is_bit (part flag_count i f.flags))
  one_save i k l =
      save_is ks h (part (length ks) i f.items) (part h.atcs i f.atcs) (part flag_count i f.flags) (part time_count i f.times) (part variable_count i f.variables)
      ∙ rw (
        eq-eqb _ _ (part_length (length ks) i k f.items l.items),
        eq-eqb _ _ (part_length h.atcs i k f.atcs l.atcs),
        eq-eqb _ _ (part_length flag_count i k f.flags l.flags),
        eq-eqb _ _ (part_length time_count i k f.times l.times),
        eq-eqb _ _ (part_length variable_count i k f.variables l.variables),
        part_true (in_range w16) time_count i f.times t,
        part_true (in_range w32) variable_count i f.variables v,
      ) (tidy (all is_count (part (length ks) i f.items)) (all is_bit (part h.atcs i f.atcs)) (all is_bit (part flag_count i f.flags)))

  long_shift : (i k : ℕ) → Long (i + suc k) → Long (suc i + k)
  long_shift i k l = record {
    items = shift (length ks) i k f.items l.items;
    atcs = shift h.atcs i k f.atcs l.atcs;
    flags = shift flag_count i k f.flags l.flags;
    times = shift time_count i k f.times l.times;
    variables = shift variable_count i k f.variables l.variables;
  }

  saves_all : (i k : ℕ) → Long (i + k) → all (save_ok (sheet_of ks h)) (saves_from (length ks) h.atcs f i k)
      ≡ all is_count (drop (i * length ks) f.items) && (all is_bit (drop (i * h.atcs) f.atcs) && all is_bit (drop (i * flag_count) f.flags))
  saves_all i zero l =
      rw (none_left is_count (length ks) i f.items l.items, none_left is_bit h.atcs i f.atcs l.atcs, none_left is_bit flag_count i f.flags l.flags)
  saves_all i (suc k) l =
      rw (one_save i k l, saves_all (suc i) k (long_shift i k l))
      (rearranged (all is_count (part (length ks) i f.items)) (all is_bit (part h.atcs i f.atcs)) (all is_bit (part flag_count i f.flags)) (all is_count (drop (suc i * length ks) f.items)) (all is_bit (drop (suc i * h.atcs) f.atcs)) (all is_bit (drop (suc i * flag_count) f.flags))
      ∙ rw (part_all is_count (length ks) i f.items, part_all is_bit h.atcs i f.atcs, part_all is_bit flag_count i f.flags))

  lengths_long : (k : ℕ) → lengths_are k (length ks) h.atcs f ≡ true → Long k
  lengths_long k e = let l = longs ks h f k e in record { items = l.0; atcs = l.1; flags = l.2; times = l.3; variables = l.4 }

  pub saves_fit : (k : ℕ) (r : Bool) → lengths_are k (length ks) h.atcs f ≡ true → r ≡ values_ok f.items f.atcs f.flags → r ≡ saves_ok (sheet_of ks h) k f
  unfolding saves_ok sheet_of
  saves_fit k r e q =
      let l = lengths_long k e in
      let z : 0 + k ≡ k = omega arith in
      q ∙ sym (ap (λ n. all is_count (drop n f.items) && (all is_bit (drop (0 * h.atcs) f.atcs) && all is_bit f.flags)) (zero-mul (length ks)) ∙ ap (λ n. all is_count f.items && (all is_bit (drop n f.atcs) && all is_bit f.flags)) (zero-mul h.atcs)) ∙ sym (saves_all 0 k (rw z l)) ∙ sym (rw (length-map, e))

pub saves_bad : (ks : List ℕ) (h : code.Sheet) (f : Save) (k : ℕ) → lengths_are k (length ks) h.atcs f ≡ false → false ≡ saves_ok (sheet_of ks h) k f
unfolding saves_ok sheet_of
saves_bad ks h f k e = sym (rw (length-map, e))

-- ---- the checks

pub walk_many : (bs : List Block) (b k : ℕ) → 64 < k → false ≡ walk_ok bs b k
walk_many bs b k h = rw (le-leb 1 k (omega arith), lt-leb k 64 h)

module _ (h : Sheet) (m : Memory) (b k : ℕ) (f : Save) where
  pub check_refused : (n : ℕ) → n ≡ call_in h m b → (n ≡ 0 → ⊥) → n ≡ walk_refusal_in h m b k f
  unfolding walk_checks
  check_refused n e d = rw (← e) (go n d)
    where
      go : (n : ℕ) → (n ≡ 0 → ⊥) → n ≡ first_of (n ∷ check (saves_ok h k f) 12 ∷ check (walk_ok (script_of m).blocks b k) 22 ∷ [])
      go zero d = absurd (d refl)
      go (suc n) d = refl

  pub check_saves : call_in h m b ≡ 0 → saves_ok h k f ≡ false → 12 ≡ walk_refusal_in h m b k f
  unfolding walk_checks
  check_saves e q = rw (e, q)

  pub check_walk : call_in h m b ≡ 0 → saves_ok h k f ≡ true → walk_ok (script_of m).blocks b k ≡ false → 22 ≡ walk_refusal_in h m b k f
  unfolding walk_checks
  check_walk e q w = rw (e, q, w)

  pub check_passed : call_in h m b ≡ 0 → saves_ok h k f ≡ true → walk_ok (script_of m).blocks b k ≡ true → 0 ≡ walk_refusal_in h m b k f
  unfolding walk_checks
  check_passed e q w = rw (e, q, w)

  pub call_safe : call_in h m b ≡ 0 → Safe m.coded.words m.words m.count × (b < m.count)
  call_safe e = let p = call_passed h m b e in (safe m p.blocks p.rest p.judged, p.inside)

pub saves_long : (ks : List ℕ) (h : code.Sheet) (f : Save) (k : ℕ) → lengths_ok (sheet_of ks h) k f ≡ true → length f.variables ≡ k * variable_count
unfolding sheet_of
saves_long ks h f k e = let w : lengths_are k (length ks) h.atcs f ≡ true = rw length-map at e in (longs ks h f k w).4

-- one save lies there whole
pub save_whole : (ks : List ℕ) (h : code.Sheet) (f : Save) → lengths_ok (sheet_of ks h) 1 f ≡ true → save_in (length ks) h.atcs f 0 ≡ f
unfolding sheet_of
save_whole ks h f e =
    let w : lengths_are 1 (length ks) h.atcs f ≡ true = rw length-map at e in
    let l = longs ks h f 1 w in
    λ i. record {
      items = whole (length ks) f.items l.0 i;
      atcs = whole h.atcs f.atcs l.1 i;
      flags = whole flag_count f.flags l.2 i;
      times = whole time_count f.times l.3 i;
      variables = whole variable_count f.variables l.4 i;
    }
  where
    whole : {A : Type 0} (w : ℕ) (xs : List A) → length xs ≡ 1 * w → part w 0 xs ≡ xs
    whole w xs e = ap (λ n. take w (drop n xs)) (zero-mul w) ∙ take_all w xs (omega arith)

-- the lanes lie in the slices
pub saves_lie : (ks : List ℕ) (h : code.Sheet) (items : List ℤ) (atcs flags : List ℕ) (times vs : List ℤ) (k : ℕ) → lengths_ok (sheet_of ks h) k (save_of items atcs flags times vs) ≡ true → k ≤ most_saves
    → Lying (length ks) h.atcs (reads items atcs flags times) vs k
unfolding sheet_of
saves_lie ks h items atcs flags times vs k e few =
    let w : lengths_are k (length ks) h.atcs (save_of items atcs flags times vs) ≡ true = rw length-map at e in
    let l = longs ks h (save_of items atcs flags times vs) k w in
    record {
      few = few;
      lie = λ i g. record {
        items = in_part (length ks) i k g l.0;
        atcs = in_part h.atcs i k g l.1;
        flags = in_part flag_count i k g l.2;
        times = in_part time_count i k g l.3;
        variables = in_part variable_count i k g l.4;
      };
    }
