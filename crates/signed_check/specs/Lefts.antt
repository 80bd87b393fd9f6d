-- The loop that collects the codes that pass a test, each after the last. Assumes nothing.
use Rattle.std.specs.Prelude.{◌≡◌, refl, Bool, true, false, cond, List, [], ◌∷◌, ◌++◌, ℕ, suc, ◌+◌, ◌-◌, ◌<◌, ◌≤◌, get_or, length, take, set, replicate}
use Rattle.std.proofs.Common.{sym, ◌∙◌, append_assoc, append-nil, add-one, arith, length-append, take_all, take-suc}
use Rattle.std.proofs.Math.Path.{ap}
use Rattle.std.proofs.lemmas.List.{set_at}
use Rattle.model.specs.Limits.{entry_limit}
use Rattle.shop.specs.Sets.{Reqs, reqs_in, reqs_of}
use Rattle.settings_model.specs.Closed.{bit}
use Rattle.signed_check.specs.Codes.{pick}

-- the codes that pass among the first i, then zeros
pub record Picked (p : ℕ → Bool) (cs out : List ℕ) (m i : ℕ) : Type 0 where
  pub low : i ≤ length cs
  pub few : m ≤ i
  pub is : reqs_in out m ≡ reqs_of (pick p (take i cs))

pick_end : (p : ℕ → Bool) (xs : List ℕ) (c : ℕ) → pick p (xs ++ c ∷ []) ≡ pick p xs ++ cond (p c) (c ∷ []) []
unfolding pick
pick_end p [] c = refl
pick_end p (x ∷ xs) c = by (p x) (pick_end p xs c)
  where
    by : (b : Bool) → pick p (xs ++ c ∷ []) ≡ pick p xs ++ cond (p c) (c ∷ []) []
        → cond b (x ∷ pick p (xs ++ c ∷ [])) (pick p (xs ++ c ∷ [])) ≡ cond b (x ∷ pick p xs) (pick p xs) ++ cond (p c) (c ∷ []) []
    by true e = rw e
    by false e = e

-- one code more takes the place of a zero
set_more : (l : List ℕ) (c : ℕ) → length l < entry_limit → reqs_in (set (reqs_of l).codes (length l) c) (length l + 1) ≡ reqs_of (l ++ c ∷ [])
unfolding reqs_of
set_more l c h =
    let k : ℕ = entry_limit - suc (length l) in
    let z : entry_limit - length l ≡ suc k = omega arith in
    let n : length (l ++ c ∷ []) ≡ suc (length l) = length-append l (c ∷ []) ∙ add-one (length l) in
    rw (z, set_at l 0 (replicate k 0) c (length l) refl, n, add-one (length l), append_assoc l (c ∷ []) (replicate k 0))

module _ (p : ℕ → Bool) (cs : List ℕ) where
  pub picked_none : (out : List ℕ) → out ≡ replicate entry_limit 0 → Picked p cs out 0 0
  unfolding pick reqs_of
  picked_none out e = record { low = omega arith; few = omega arith; is = ap (λ l. reqs_in l 0) e }

  pub picked_more : (out : List ℕ) (m i : ℕ) → Picked p cs out m i → i < length cs → length cs ≤ entry_limit → (r : ℕ) (next : List ℕ) → r ≡ m + bit (p (get_or cs i 0)) → next ≡ cond (p (get_or cs i 0)) (set out m (get_or cs i 0)) out → Picked p cs next r (i + 1)
  picked_more out m i q l h r next e f = by (p (get_or cs i 0)) refl e f
    where
      c : ℕ
      c = get_or cs i 0

      got : List ℕ
      got = pick p (take i cs)

      long : m ≡ length got
      long = unfold reqs_of in ap (λ (x : Reqs). x.len) q.is

      is_out : out ≡ (reqs_of got).codes
      is_out = ap (λ (x : Reqs). x.codes) q.is

      all : pick p (take (i + 1) cs) ≡ got ++ cond (p c) (c ∷ []) []
      all = ap (pick p) (ap (λ j. take j cs) (add-one i) ∙ take-suc cs i 0 l) ∙ pick_end p (take i cs) c

      by : (b : Bool) → p c ≡ b → r ≡ m + bit b → next ≡ cond b (set out m c) out → Picked p cs next r (i + 1)
      by true t e f = record {
        low = omega arith;
        few = omega (arith, e, q.few);
        is = rw (e, f, is_out, long) (set_more got c (omega (arith, long, q.few))) ∙ ap reqs_of (sym (rw t at all));
      }
      by false t e f = record {
        low = omega arith;
        few = omega (arith, e, q.few);
        is = let z : m + 0 ≡ m = omega arith in ap (reqs_in next) (e ∙ z) ∙ ap (λ l. reqs_in l m) f ∙ q.is ∙ ap reqs_of (sym ((rw t at all) ∙ append-nil got));
      }

  pub picked_all : (out : List ℕ) (m i : ℕ) → Picked p cs out m i → length cs ≤ i → reqs_in out m ≡ reqs_of (pick p cs)
  picked_all out m i q l = q.is ∙ ap (λ xs. reqs_of (pick p xs)) (take_all i cs l)
