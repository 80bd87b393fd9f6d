-- The rule of faithful slots on the codes of requirements is the rule on requirements. Assumes nothing.
use Rattle.std.specs.Prelude.{◌≡◌, Bool, false, not, cond, ◌&&◌, List, [], ◌∷◌, map, ℕ, ◌+◌, ◌*◌, ◌-◌, ◌/◌, ◌%◌, ◌≤◌, ◌<◌, eqb, ltb, length, take, Some}
use Rattle.std.proofs.Math.Path.{refl}
use Rattle.std.proofs.Common.{sym, ap, ◌∙◌, arith, eq-eqb, ne_eqb, ltb-true}
use Rattle.std.proofs.Math.Bool.{true}
use Rattle.std.proofs.Math.Option.{Option, none, some}
use Rattle.std.specs.List.{list_all}
use Rattle.model.specs.Limits.{entry_limit, wide, half32}
use Rattle.model.specs.Refusal.{check}
use Rattle.model.specs.Sheet as Model
use Rattle.model.specs.Sheet.{all, atc_for, item_count, sheet_ok}
use Rattle.model.specs.Requirement.{Requirement, haveItem, missingItem, haveAtc, missingAtc, haveFlag, missingFlag, negate_req, same_req, member}
use Rattle.model.specs.Shop.{item_known, slot_ok}
use Rattle.model.specs.Normal.{acquired_of}
use Rattle.model.specs.Compile.{acquired_req}
use Rattle.model.specs.Printer.{atc_entry}
use Rattle.model.proofs.Laws.Checks.{and_left}
use Rattle.model.proofs.Laws.Checked.{sheet_fits}
use Rattle.faithful_model.specs.Faithful.{faithful_filled, no_pair}
use Rattle.shop_codes.specs.Codes.{AllNarrow, Narrow, code_of, shift}
use Rattle.shop_codes.specs.Laws.{same_code, shift_most}
use Rattle.shop_codes.specs.Subjects.{negate_narrow}
use Rattle.shop.specs.Shapes.{atc_at, item_of, sheet_of, slot_of}
use Rattle.shop.specs.Slots.{atc_for_lem, atcs_few, entries_take, items_few, slot_exact}
use Rattle.model.specs.declared.ItemId.{ItemId}
use Rattle.model.proofs.Laws.Bools.{not_or}
use Rattle.shop.specs.declared.Sheet.{Sheet}
use Rattle.shop.specs.declared.Slot.{Slot}

-- what an iterator asks of all is what the definitions ask of all
pub all_same : {A : Type 0} (p : A → Bool) (xs : List A) → list_all p xs ≡ all p xs
all_same p [] = refl
all_same p (x ∷ xs) = ap (λ b. p x && b) (all_same p xs)

-- the kinds go in pairs, 0 and 1, 2 and 3, 4 and 5, each the negation of the other
abbrev pub negated_code : ℕ → ℕ
negated_code c = cond (eqb (c / wide % 2) 0) (c + wide) (c - wide)

unfoldable pub lacks_code : ℕ → List ℕ → Bool
lacks_code x cs = all (λ c. not (eqb x c)) cs

unfoldable pub no_pair_code : List ℕ → Bool
no_pair_code cs = all (λ c. lacks_code (negated_code c) cs) cs

-- own: the code of the acquired test
abbrev pub faithful_code : Bool → ℕ → List ℕ → Bool
faithful_code one own cs = no_pair_code cs && cond one (lacks_code own cs) true

-- ---- on codes as on requirements

module _ (j s : ℕ) (h : s < wide) where
  up : negated_code ((2 * j) * wide + s) ≡ (2 * j + 1) * wide + s
  up = rw (eq-eqb (((2 * j) * wide + s) / wide % 2) 0 (omega arith)) (omega arith)

  down : negated_code ((2 * j + 1) * wide + s) ≡ (2 * j) * wide + s
  down = rw (ne_eqb (((2 * j + 1) * wide + s) / wide % 2) 0 (λ e. omega arith)) (omega arith)

pub negated_code_lem : (r : Requirement) → Narrow r → negated_code (code_of r) ≡ code_of (negate_req r)
negated_code_lem (haveItem i) p = up 0 (i + half32) (omega (arith, p.fits))
negated_code_lem (missingItem i) p = down 0 (i + half32) (omega (arith, p.fits))
negated_code_lem (haveAtc a) p = up 1 (a + half32) (omega (arith, p.fits))
negated_code_lem (missingAtc a) p = down 1 (a + half32) (omega (arith, p.fits))
negated_code_lem (haveFlag f) p = up 2 (shift f) (shift_most f p.fits)
negated_code_lem (missingFlag f) p = down 2 (shift f) (shift_most f p.fits)

pub lacks_is : (r : Requirement) (rs : List Requirement) → Narrow r → AllNarrow rs → lacks_code (code_of r) (map code_of rs) ≡ not (member r rs)
unfolding lacks_code member
lacks_is r [] n a = refl
lacks_is r (q ∷ qs) n a = rw (← same_code r q n a.0) (ap (λ b. not (same_req r q) && b) (lacks_is r qs n a.1) ∙ sym (not_or (same_req r q) (member r qs)))

pairs_from : (qs rs : List Requirement) → AllNarrow qs → AllNarrow rs → all (λ c. lacks_code (negated_code c) (map code_of qs)) (map code_of rs) ≡ all (λ r. not (member (negate_req r) qs)) rs
pairs_from qs [] m a = refl
pairs_from qs (r ∷ rs) m a = rw (negated_code_lem r a.0, lacks_is (negate_req r) qs (negate_narrow r a.0) m, pairs_from qs rs m a.1)

pair_is : (rs : List Requirement) → AllNarrow rs → no_pair_code (map code_of rs) ≡ no_pair rs
unfolding no_pair_code no_pair
pair_is rs a = pairs_from rs rs a a

pub faithful_code_lem : (h : Model.Sheet) (w : ℕ) (one : Bool) (rs : List Requirement) → Narrow (acquired_of h w) → AllNarrow rs
    → faithful_code one (code_of (acquired_of h w)) (map code_of rs) ≡ faithful_filled h w one rs
faithful_code_lem h w true rs n a = rw (pair_is rs a, lacks_is (acquired_of h w) rs n a)
faithful_code_lem h w false rs n a = rw (pair_is rs a)

-- ---- the acquired test, by the atc of its item

pub own_code_lem : (ks : List ℕ) (h : Sheet) (w : ℕ) (o : Option ℕ) → o ≡ atc_entry (atc_at ks w) → code_of (acquired_req o w) ≡ code_of (acquired_of (sheet_of ks h) w)
unfolding acquired_of
own_code_lem ks h w o e = ap (λ p. code_of (acquired_req p w)) (e ∙ sym (atc_for_lem ks h w))

pub item_code : (w : ℕ) → w + half32 ≡ code_of (acquired_req none w)
item_code w = omega arith

pub atc_code : (w a : ℕ) → a + 8589934592 + half32 ≡ code_of (acquired_req (some a) w)
atc_code w a = omega arith

-- ---- of a slot that passed 1 and 8

module _ (h : Model.Sheet) (ok : sheet_ok h ≡ true) (x : Slot) (good : slot_ok h (slot_of x) ≡ true) where
  pub slot_few : x.len ≤ entry_limit
  slot_few = (slot_exact h ok x good).few

  -- the first codes of the row are those of its requirements
  pub codes_are : length x.requirements ≡ entry_limit → take x.len x.requirements ≡ map code_of (slot_of x).requirements
  codes_are l = sym ((slot_exact h ok x good).same ∙ entries_take x.len x.requirements (omega (arith, slot_few)))

  -- the acquired test is on the sheet, as its item is
  pub own_narrow : (w : ItemId) → x.item ≡ Some w → Narrow (acquired_of h w.0)
  unfolding acquired_of slot_of
  own_narrow w e = by (atc_for h w.0) refl
    where
      known : item_known h (item_of x.item) ≡ true
      known = and_left (item_known h (item_of x.item)) _ good

      inside : ltb w.0 (item_count h) ≡ true
      inside = rw e at known

      by : (o : Option ℕ) → atc_for h w.0 ≡ o → Narrow (acquired_req o w.0)
      by none q = record { fits = omega (arith, items_few h ok, ltb-true w.0 (item_count h) inside) }
      by (some a) q = record { fits = omega (arith, atcs_few h ok, ltb-true a h.atc_count ((sheet_fits h (ap (λ b. check b 1) ok)).atcs w.0 a q)) }
