-- Nodes as the parser reads them: a node by its kind, numbers, targets and what a Set writes. Assumes nothing.
use Rattle.std.specs.Prelude as Code
use Rattle.std.specs.Prelude.{◌≡◌, refl, Some, None, true, false, cond, ℕ, suc, ◌-◌, ◌^◌, ◌≤◌, ◌<◌, ◌+◌, ℤ, pos, negsuc, nat_abs}
use Rattle.std.proofs.Common.{sym, ap, ◌∙◌, arith, to_z-of_z}
use Rattle.std.proofs.Math.Option.{Option, none, some}
use Rattle.std.proofs.Math.Decide.{dec_le}
use Rattle.std.specs.Int.Signed.{mag, lt_z}
use Rattle.std.specs.Int.{w16, w32}
use mir.Val.{SFits, of_z, to_z, hbits}
use Rattle.std.proofs.Math.Facts.{Fits-nat_abs}
use borrow.Author.Tests.{lt-ltb, le-ltb, ltb-true, eq-eqb, ne_eqb}
use Rattle.model.specs.Limits.{slot_count, count_first, item_first, half32}
use Rattle.model.specs.Signed.{cut16, in_range}
use Rattle.model.proofs.Laws.Signed.{wrap_id}
use Rattle.model.specs.Expr.{Expr, two, one, imm16, imm32, other}
use Rattle.model.specs.declared.Op2.{Op2}
use Rattle.model.specs.declared.Op1.{Op1}
use Rattle.model.specs.declared.Op1.TheVariants.{Not, Flag, Variable, Item, Atc, Time}
use Rattle.model.specs.declared.Kind.{Kind}
use Rattle.model.specs.declared.Kind.TheVariants.{Two, One, Imm16, Imm32, Other}
use Rattle.model.specs.Image.{kind_of, kinds, code_of}
use Rattle.model.proofs.Laws.ImageExpr.{code_kind}
use Rattle.std.proofs.Math.ListN.{get_or-eq_default}
use Rattle.model.specs.Memory.{Nodes, code_at, left_at, right_at, value_at, node_of, tree}
use Rattle.model.specs.Parse.{Place, temp, elsewhere, itemVar, countVar, value, place, place_of, if_first, written, item_index, is_subtract, limit_in, new_limit}
use Rattle.expr.specs.Tree.{tree_below, tree_node, below_two, below_one, below_imm16, below_imm32, below_other}
use Rattle.expr.specs.Requirement.{number_of}
use Rattle.parse_scan.specs.declared.Target.{Target}
use Rattle.parse_scan.specs.declared.Target.TheVariants.{First, Unused, ItemOf, CountOf}

-- ---- what the code's values stand for

abbrev pub short_is : Code.Option ℤ → Option ℤ
short_is None = none
short_is (Some z) = some z

abbrev pub target_is : Target → Place
target_is First = temp
target_is Unused = elsewhere
target_is (ItemOf i) = itemVar i
target_is (CountOf i) = countVar i

-- ---- a node by the kind that was found

module _ (ns : Nodes) (i : ℕ) (k : Kind) (found : k ≡ kind_of (code_at ns i)) where
  tree_kind : (j : Kind) → k ≡ j → tree ns i ≡ node_of j (tree_below ns i (left_at ns i)) (tree_below ns i (right_at ns i)) (value_at ns i)
  tree_kind j e = tree_node ns i ∙ rw (← found, e)

  pub tree_two : (o : Op2) → k ≡ Two o → tree ns i ≡ two o (tree_below ns i (left_at ns i)) (tree_below ns i (right_at ns i))
  unfolding node_of
  tree_two o e = tree_kind (Two o) e

  pub tree_one : (o : Op1) → k ≡ One o → tree ns i ≡ one o (tree_below ns i (left_at ns i))
  unfolding node_of
  tree_one o e = tree_kind (One o) e

  pub tree_imm16 : k ≡ Imm16 → tree ns i ≡ imm16 (value_at ns i)
  unfolding node_of
  tree_imm16 e = tree_kind Imm16 e

  pub tree_imm32 : k ≡ Imm32 → tree ns i ≡ imm32 (value_at ns i)
  unfolding node_of
  tree_imm32 e = tree_kind Imm32 e

  pub tree_other : k ≡ Other → tree ns i ≡ other
  unfolding node_of
  tree_other e = tree_kind Other e

-- ---- what is read of an operand

-- of the kinds with one operand, only Variable is read
abbrev pub reads_first : Op1 → Option ℤ → ℤ → Option ℤ
reads_first Variable x l = if_first x l
reads_first Not x l = none
reads_first Flag x l = none
reads_first Item x l = none
reads_first Atc x l = none
reads_first Time x l = none

pub written_one : (o : Op1) (a : Expr) (l : ℤ) → written (one o a) l ≡ reads_first o (value a) l
written_one Variable a l = refl
written_one Not a l = refl
written_one Flag a l = refl
written_one Item a l = refl
written_one Atc a l = refl
written_one Time a l = refl

-- .. and of a subtraction's right side, only Item
abbrev pub index_by : Op1 → Option ℤ → Option ℤ
index_by Item x = x
index_by Not x = none
index_by Flag x = none
index_by Variable x = none
index_by Atc x = none
index_by Time x = none

pub index_one : (o : Op1) (a : Expr) → item_index (one o a) ≡ index_by o (value a)
index_one Item a = refl
index_one Not a = refl
index_one Flag a = refl
index_one Variable a = refl
index_one Atc a = refl
index_one Time a = refl

-- ---- the Imm of node i as an operand of node b, where that is item[Imm]

module _ (ns : Nodes) (b i : ℕ) (lt : i < b) (k : Kind) (found : k ≡ kind_of (code_at ns i)) where
  pub index_of_one : (o : Op1) → k ≡ One o → index_by o (value (tree_below ns i (left_at ns i))) ≡ item_index (tree_below ns b i)
  index_of_one o e = sym (ap item_index (below_one ns b i lt k found o e) ∙ index_one o (tree_below ns i (left_at ns i)))

  pub index_two : (o : Op2) → k ≡ Two o → none ≡ item_index (tree_below ns b i)
  index_two o e = sym (ap item_index (below_two ns b i lt k found o e))

  pub index_imm16 : k ≡ Imm16 → none ≡ item_index (tree_below ns b i)
  index_imm16 e = sym (ap item_index (below_imm16 ns b i lt k found e))

  pub index_imm32 : k ≡ Imm32 → none ≡ item_index (tree_below ns b i)
  index_imm32 e = sym (ap item_index (below_imm32 ns b i lt k found e))

  pub index_other : k ≡ Other → none ≡ item_index (tree_below ns b i)
  index_other e = sym (ap item_index (below_other ns b i lt k found e))

-- what is no code is Other
past : (n : ℕ) → 19 ≤ n → kind_of n ≡ Other
unfolding kind_of kinds
past n h = get_or-eq_default kinds Other h

-- only code 11 is Imm16
imm16_code : (n : ℕ) → kind_of n ≡ Imm16 → n ≡ 11
unfolding code_of
imm16_code n e = by (dec_le 19 n)
  where
    by : Dec (19 ≤ n) → n ≡ 11
    by (no q) = sym (code_kind n (omega arith)) ∙ ap code_of e
    by (yes q) = let u : kind_of n ≡ Other = past n q in let z : ◌≡◌ {A = ℕ} 0 1 = cc in absurd (omega arith)

-- ---- the value of a Set, at its root v

module _ (ns : Nodes) (v : ℕ) (l : ℤ) (k : Kind) (found : k ≡ kind_of (code_at ns v)) where
  pub wrote_two : (o : Op2) → k ≡ Two o → none ≡ written (tree ns v) l
  wrote_two o e = sym (ap (λ t. written t l) (tree_two ns v k found o e))

  pub wrote_one : (o : Op1) → k ≡ One o → reads_first o (value (tree_below ns v (left_at ns v))) l ≡ written (tree ns v) l
  wrote_one o e = sym (ap (λ t. written t l) (tree_one ns v k found o e) ∙ written_one o (tree_below ns v (left_at ns v)) l)

  -- a number of 16 bits is not changed by the cut
  pub wrote_imm16 : k ≡ Imm16 → in_range w16 (value_at ns v) ≡ true → some (cut16 (value_at ns v)) ≡ written (tree ns v) l
  wrote_imm16 e h = ap {B = Option ℤ} some (wrap_id w16 (value_at ns v) (ltb-true (mag (value_at ns v)) (2 ^ hbits w16) h)) ∙ sym (ap (λ t. written t l) (tree_imm16 ns v k found e))

  pub wrote_imm32 : k ≡ Imm32 → some (cut16 (value_at ns v)) ≡ written (tree ns v) l
  wrote_imm32 e = sym (ap (λ t. written t l) (tree_imm32 ns v k found e))

  pub wrote_other : k ≡ Other → none ≡ written (tree ns v) l
  wrote_other e = sym (ap (λ t. written t l) (tree_other ns v k found e))

  -- a code that is Imm16 is 11
  pub code_imm16 : k ≡ Imm16 → code_at ns v ≡ 11
  code_imm16 e = imm16_code (code_at ns v) (sym found ∙ e)

  -- the limit after it was written to variable 0
  pub limit_two : (o : Op2) → k ≡ Two o → cond (is_subtract o) (limit_in (value (tree_below ns v (left_at ns v))) (item_index (tree_below ns v (right_at ns v))) l) l ≡ new_limit (tree ns v) l
  limit_two o e = sym (ap (λ t. new_limit t l) (tree_two ns v k found o e))

  pub limit_one : (o : Op1) → k ≡ One o → l ≡ new_limit (tree ns v) l
  limit_one o e = sym (ap (λ t. new_limit t l) (tree_one ns v k found o e))

  pub limit_imm16 : k ≡ Imm16 → l ≡ new_limit (tree ns v) l
  limit_imm16 e = sym (ap (λ t. new_limit t l) (tree_imm16 ns v k found e))

  pub limit_imm32 : k ≡ Imm32 → l ≡ new_limit (tree ns v) l
  limit_imm32 e = sym (ap (λ t. new_limit t l) (tree_imm32 ns v k found e))

  pub limit_other : k ≡ Other → l ≡ new_limit (tree ns v) l
  limit_other e = sym (ap (λ t. new_limit t l) (tree_other ns v k found e))

-- ---- targets

pub target_negative : (z : ℤ) → lt_z z (pos 0) ≡ true → elsewhere ≡ place (some z)
target_negative (pos n) t = let h = ltb-true n 0 t in absurd (omega arith)
target_negative (negsuc n) t = refl

pub target_natural : (z : ℤ) → lt_z z (pos 0) ≡ false → place_of (nat_abs z) ≡ place (some z)
target_natural (pos n) t = refl
target_natural (negsuc n) t = let z : ◌≡◌ {A = ℕ} 0 1 = cc in absurd (omega arith)

module _ (n : ℕ) where
  pub place_first : n ≡ 0 → temp ≡ place_of n
  unfolding place_of
  place_first e = rw e

  pub place_low : (n ≡ 0 → ⊥) → n < item_first → elsewhere ≡ place_of n
  unfolding place_of
  place_low q h = rw (ne_eqb n 0 q, lt-ltb n item_first h)

  pub place_item : item_first ≤ n → n < count_first → itemVar (n - item_first) ≡ place_of n
  unfolding place_of
  place_item h g = rw (ne_eqb n 0 (λ e. omega arith), le-ltb n item_first h, lt-ltb n count_first g)

  pub place_count : count_first ≤ n → n < (count_first + slot_count) → countVar (n - count_first) ≡ place_of n
  unfolding place_of
  place_count h g = rw (ne_eqb n 0 (λ e. omega arith), le-ltb n item_first (omega arith), le-ltb n count_first h, lt-ltb n (count_first + slot_count) g)

  pub place_high : (count_first + slot_count) ≤ n → elsewhere ≡ place_of n
  unfolding place_of
  place_high h = rw (ne_eqb n 0 (λ e. omega arith), le-ltb n item_first (omega arith), le-ltb n count_first (omega arith), le-ltb n (count_first + slot_count) h)

-- the place of the number n that the code has for z
pub target_is_lem : {p : Place} (x : Code.Option ℤ) (z : ℤ) (n : ℕ) → x ≡ Some z → SFits w32 z → lt_z (to_z w32 (of_z w32 z)) (pos 0) ≡ false → n ≡ nat_abs (to_z w32 (of_z w32 z)) → p ≡ place_of n → p ≡ place (number_of x)
target_is_lem x z n e f t d q = q ∙ ap place_of (d ∙ ap nat_abs (to_z-of_z f)) ∙ target_natural z (rw (to_z-of_z f) at t) ∙ sym (ap (λ y. place (number_of y)) e)

-- .. has 32 bits
pub target_fits : (z : ℤ) → SFits w32 z → nat_abs (to_z w32 (of_z w32 z)) < 4294967296
target_fits z f = rw (to_z-of_z f) (Fits-nat_abs {w = w32} {w' = w32} tt f).fits

-- a slot's place is below the number of slots
pub target_low : (x : Option ℤ) (i : ℕ) → itemVar i ≡ place x → i < slot_count
target_low none i e = let z : ◌≡◌ {A = ℕ} 0 1 = cc in absurd (omega arith)
target_low (some (negsuc n)) i e = let z : ◌≡◌ {A = ℕ} 0 1 = cc in absurd (omega arith)
target_low (some (pos n)) i e = by (dec_le 1 n) (dec_le item_first n) (dec_le count_first n) (dec_le (count_first + slot_count) n)
  where
    by : Dec (1 ≤ n) → Dec (item_first ≤ n) → Dec (count_first ≤ n) → Dec ((count_first + slot_count) ≤ n) → i < 20
    by (no p) q r s = let u : itemVar i ≡ temp = e ∙ sym (place_first n (omega arith)) in let z : ◌≡◌ {A = ℕ} 0 1 = cc in absurd (omega arith)
    by (yes p) (no q) r s = let u : itemVar i ≡ elsewhere = e ∙ sym (place_low n (λ z. omega arith) (omega arith)) in let z : ◌≡◌ {A = ℕ} 0 1 = cc in absurd (omega arith)
    by (yes p) (yes q) (no r) s = let u : itemVar i ≡ itemVar (n - item_first) = e ∙ sym (place_item n q (omega arith)) in let z : i ≡ n - item_first = cc in omega arith
    by (yes p) (yes q) (yes r) (no s) = let u : itemVar i ≡ countVar (n - count_first) = e ∙ sym (place_count n r (omega arith)) in let z : ◌≡◌ {A = ℕ} 0 1 = cc in absurd (omega arith)
    by (yes p) (yes q) (yes r) (yes s) = let u : itemVar i ≡ elsewhere = e ∙ sym (place_high n s) in let z : ◌≡◌ {A = ℕ} 0 1 = cc in absurd (omega arith)

pub count_low : (x : Option ℤ) (i : ℕ) → countVar i ≡ place x → i < slot_count
count_low none i e = let z : ◌≡◌ {A = ℕ} 0 1 = cc in absurd (omega arith)
count_low (some (negsuc n)) i e = let z : ◌≡◌ {A = ℕ} 0 1 = cc in absurd (omega arith)
count_low (some (pos n)) i e = by (dec_le 1 n) (dec_le item_first n) (dec_le count_first n) (dec_le (count_first + slot_count) n)
  where
    by : Dec (1 ≤ n) → Dec (item_first ≤ n) → Dec (count_first ≤ n) → Dec ((count_first + slot_count) ≤ n) → i < 20
    by (no p) q r s = let u : countVar i ≡ temp = e ∙ sym (place_first n (omega arith)) in let z : ◌≡◌ {A = ℕ} 0 1 = cc in absurd (omega arith)
    by (yes p) (no q) r s = let u : countVar i ≡ elsewhere = e ∙ sym (place_low n (λ z. omega arith) (omega arith)) in let z : ◌≡◌ {A = ℕ} 0 1 = cc in absurd (omega arith)
    by (yes p) (yes q) (no r) s = let u : countVar i ≡ itemVar (n - item_first) = e ∙ sym (place_item n q (omega arith)) in let z : ◌≡◌ {A = ℕ} 0 1 = cc in absurd (omega arith)
    by (yes p) (yes q) (yes r) (no s) = let u : countVar i ≡ countVar (n - count_first) = e ∙ sym (place_count n r (omega arith)) in let z : i ≡ n - count_first = cc in omega arith
    by (yes p) (yes q) (yes r) (yes s) = let u : countVar i ≡ elsewhere = e ∙ sym (place_high n s) in let z : ◌≡◌ {A = ℕ} 0 1 = cc in absurd (omega arith)

-- ---- the limit

pub limit_unindexed : (x : Option ℤ) (l : ℤ) → l ≡ limit_in x none l
limit_unindexed none l = refl
limit_unindexed (some z) l = refl

-- ---- var[0]

pub zero_first : (z l : ℤ) → SFits w32 z → of_z w32 z ≡ 0 → some l ≡ if_first (some z) l
zero_first (pos n) l f e = rw (eq-eqb n 0 e)
zero_first (negsuc n) l f e = let h : n < half32 = f.sfits in let e' : 4294967296 - suc n ≡ 0 = e in absurd (omega arith)

pub other_first : (z l : ℤ) → (of_z w32 z ≡ 0 → ⊥) → none ≡ if_first (some z) l
other_first (pos n) l q = rw (ne_eqb n 0 q)
other_first (negsuc n) l q = refl
