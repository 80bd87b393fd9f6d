-- What a call knows where 1 to 7 do not refuse: the sheet, the record and its block are what the rest of the call wants. Assumes nothing.
use Rattle.std.specs.Prelude.{◌≡◌, Bool, List, [], ◌∷◌, length}
use Rattle.std.proofs.Math.Path.{refl, sym, ap}
use Rattle.std.proofs.Common.{◌∙◌}
use Rattle.std.proofs.Math.Bool.{true, false}
use Prim.Native.Nat.{ℕ, zero, suc, ◌+◌, ◌*◌, ◌≤◌, ◌<◌}
use native.Mathlib.Omega.{arith}
use Rattle.std.proofs.Math.Decide.{dec_le, ℕ_discrete}
use Rattle.std.proofs.Math.Dec.{ltb}
use Rattle.std.proofs.Math.ListN.{get_or}
use Rattle.std.proofs.lemmas.List.{length-map}
use borrow.Author.Tests.{lt-ltb, le-ltb}
use Rattle.model.specs.Limits.{block_limit, most_items}
use Rattle.model.specs.Refusal.{first_of, check}
use Rattle.model.specs.Refusals.{refusal_number}
use Rattle.model.specs.declared.Refusal.{Refusal}
use Rattle.model.specs.Sheet.{Sheet, sheet_ok, sheet_refusal}
use Rattle.model.specs.Script.{Block, block_at, is_code}
use Rattle.model.specs.Reading.{got, refusal_of}
use Rattle.model.specs.Judge.{setup_refusal}
use Rattle.model.specs.Memory.{Memory, block_word, block_by, block_in, script_of}
use Rattle.model.specs.Record.{judged_record}
use Rattle.model.proofs.Laws.Refused.{accepts}
use Rattle.model.specs.RecordCalls.{call_in, record_refusal}
use Rattle.model.proofs.Laws.Checks.{passed, shared_passed}
use Rattle.memory.specs.RecordLaws.{length_blocks_in, block_at_lem, proper_record}
use Rattle.memory.specs.Transfer.{judged_kept}
use Rattle.shop.specs.declared.Sheet as Given
use Rattle.shop.specs.Shapes.{sheet_of}
use Rattle.shop.specs.Slots.{items_few}

-- ---- checks 6 and 7

module _ (m : Memory) (b : ℕ) where
  pub setup_none : m.count ≤ b → 6 ≡ setup_refusal (script_of m) b
  unfolding script_of
  setup_none h =
      let e : ltb b (length (script_of m).blocks) ≡ false = le-ltb b (length (script_of m).blocks) (omega (arith, length_blocks_in m m.count 0)) in
      sym (ap (λ t. first_of (check t 6 ∷ check (is_code (block_at (script_of m).blocks b)) 7 ∷ [])) e)

  module _ (h : b < m.count) where
    inside : ltb b (length (script_of m).blocks) ≡ true
    unfolding script_of
    inside = lt-ltb b (length (script_of m).blocks) (omega (arith, length_blocks_in m m.count 0))

    kind_at : (k : ℕ) → get_or m.words (5 * b) 0 ≡ k → is_code (block_at (script_of m).blocks b) ≡ is_code (block_by m b k)
    unfolding block_in
    kind_at k e = let z : 5 * b + 0 ≡ 5 * b = omega arith in ap is_code (block_at_lem m b h) ∙ ap (λ j. is_code (block_by m b j)) (ap (λ j. get_or m.words j 0) z ∙ e)

    not_code_lem : (k : ℕ) → (k ≡ 1 → ⊥) → is_code (block_by m b k) ≡ false
    unfolding block_by
    not_code_lem zero n = refl
    not_code_lem (suc zero) n = absurd (n refl)
    not_code_lem (suc (suc k)) n = refl

    answered : (t : Bool) → is_code (block_at (script_of m).blocks b) ≡ t → check t 7 ≡ setup_refusal (script_of m) b
    answered t e = sym (ap (λ i. first_of (check i 6 ∷ check (is_code (block_at (script_of m).blocks b)) 7 ∷ [])) inside ∙ ap (λ i. first_of (check i 7 ∷ [])) e ∙ alone t)
      where
        alone : (t : Bool) → first_of (check t 7 ∷ []) ≡ check t 7
        alone true = refl
        alone false = refl

    pub setup_not_code : (get_or m.words (5 * b) 0 ≡ 1 → ⊥) → 7 ≡ setup_refusal (script_of m) b
    setup_not_code n = answered false (kind_at (get_or m.words (5 * b) 0) refl ∙ not_code_lem (get_or m.words (5 * b) 0) n)

    pub setup_code : get_or m.words (5 * b) 0 ≡ 1 → 0 ≡ setup_refusal (script_of m) b
    unfolding block_by
    setup_code e = answered true (kind_at 1 e)

-- ---- 2 to 5 passed: the kept count of blocks is within its limit

pub record_kept : (m : Memory) → record_refusal m ≡ 0 → m.count ≤ block_limit
record_kept m e = let a = accepts (judged_record m) (proper_record m) e in (judged_kept m a.value a.rest a.was).0

-- ---- all of them passed

pub record Passed (h : Sheet) (m : Memory) (b : ℕ) : Type 0 where
  pub sheet : sheet_ok h ≡ true
  pub blocks : List Block
  pub rest : List ℕ
  pub judged : judged_record m ≡ got blocks rest
  pub inside : b < m.count
  pub code : block_word m b 0 ≡ 1

module _ (h : Sheet) (m : Memory) (b : ℕ) (e : call_in h m b ≡ 0) where
  all_passed : (sheet_refusal h ≡ 0) × (refusal_of (judged_record m) ≡ 0) × (setup_refusal (script_of m) b ≡ 0)
  unfolding call_in
  all_passed = shared_passed h (refusal_of (judged_record m)) (script_of m) b e

  inside_passed : Dec (m.count ≤ b) → b < m.count
  inside_passed (yes l) = absurd (omega (arith, setup_none m b l, all_passed.2))
  inside_passed (no n) = omega arith

  code_passed : b < m.count → Dec (get_or m.words (5 * b) 0 ≡ 1) → block_word m b 0 ≡ 1
  code_passed l (yes p) = let z : 5 * b + 0 ≡ 5 * b = omega arith in ap (λ j. get_or m.words j 0) z ∙ p
  code_passed l (no n) = absurd (omega (arith, setup_not_code m b l n, all_passed.2))

  pub call_passed : Passed h m b
  call_passed =
      let a = accepts (judged_record m) (proper_record m) all_passed.1 in
      let l = inside_passed (dec_le m.count b) in
      record {
        sheet = passed (sheet_ok h) 0 all_passed.0;
        blocks = a.value;
        rest = a.rest;
        judged = a.was;
        inside = l;
        code = code_passed l (ℕ_discrete (get_or m.words (5 * b) 0) 1);
      }

-- a sheet that passes has few items
pub items_low : (ks : List ℕ) (s : Given.Sheet) (m : Memory) (b : ℕ) → call_in (sheet_of ks s) m b ≡ 0 → length ks ≤ most_items
unfolding sheet_of
items_low ks s m b e = let a = items_few (sheet_of ks s) (call_passed (sheet_of ks s) m b e).sheet in rw length-map at a
