-- The values of a node's lanes, by those of its operands. Assumes nothing.
use mathlib.Core.Path.{◌≡◌, refl, sym, ap, ◌∙◌}
use mathlib.Core.Bool.{Bool, true, false, cond}
use mathlib.Core.Option.{some}
use mathlib.Core.Logic.{◌⊎◌}
use Rattle.std.proofs.Common.{⊎_elim}
use mathlib.Core.List.{List}
use Prim.Native.Nat.{ℕ, zero, suc, ◌≤◌, ◌<◌}
use native.Mathlib.Omega.{arith}
use lib.ListN.{get_or, replicate, get_or-replicate}
use lib.IntN.{ℤ, pos}
use Rattle.model.specs.Limits.{most_saves, variable_count}
use Rattle.lanes_model.specs.Flat.{part, save_in}
use Rattle.model.specs.Refusal.{no_flag}
use Rattle.model.specs.Save.{Save}
use Rattle.model.specs.Expr.{Expr, two, one, imm16, imm32, other, Value, ok, stop, and_then, apply2, readable, eval}
use Rattle.model.specs.Image.{kind_of}
use Rattle.model.specs.Memory.{Nodes, code_at, left_at, right_at, value_at}
use Rattle.model.specs.Parse.{value}
use Rattle.model.specs.declared.Op2.{Op2}
use Rattle.model.specs.declared.Op1.{Op1}
use Rattle.model.specs.declared.Op1.TheVariants.{Not, Flag, Variable, Item, Atc, Time}
use Rattle.model.specs.declared.Kind.{Kind}
use Rattle.model.specs.declared.Kind.TheVariants.{Two, One, Imm16, Imm32, Other}
use Rattle.expr.specs.Tree.{tree_below, below_out, below_two, below_one, below_imm16, below_imm32, below_other}
use Rattle.expr.specs.Requirement.{number_of}
use Rattle.std.specs.Prelude as code
use Rattle.std.specs.Prelude.{Some}
use Rattle.lanes_expr.specs.Lanes.{lane_value, first_stop, first_of2, apply_in, eval_in, reads_flag, flag_stop, read_stop, Valued}
use Rattle.lanes_expr.specs.Each.{Each}

-- the number that was found as m, and goes on as z
pub imm_found : (e : Expr) {m : code.Option ℤ} {y z : ℤ} → z ≡ y → m ≡ Some y → number_of m ≡ value e → some z ≡ value e
imm_found e p q h = ap some p ∙ ap number_of (sym q) ∙ h

-- ---- one lane: its refusals before, between and after the operands

-- an Imm is worth its number
pub imm_worth : (s : Save) (v : List ℤ) (e : Expr) (z : ℤ) → some z ≡ value e → ok z ≡ eval s v e
imm_worth s v (two o a b) z p = let q : ◌≡◌ {A = ℕ} 0 1 = cc in absurd (omega arith)
imm_worth s v (one o a) z p = let q : ◌≡◌ {A = ℕ} 0 1 = cc in absurd (omega arith)
imm_worth s v (imm16 x) z p = cc
imm_worth s v (imm32 x) z p = cc
imm_worth s v other z p = let q : ◌≡◌ {A = ℕ} 0 1 = cc in absurd (omega arith)

two_lane : (r₀ r₁ r₂ : ℕ) (x y : ℤ) (a b : Value) (f : ℤ → ℤ → ℤ) → lane_value r₁ x ≡ first_stop r₀ a → lane_value r₂ y ≡ first_stop r₁ b
    → lane_value r₂ (f x y) ≡ first_stop r₀ (and_then a (λ x. and_then b (λ y. ok (f x y))))
two_lane zero zero zero x y a b f p q = rw (← p, ← q)
two_lane zero zero (suc r₂) x y a b f p q = rw (← p, ← q)
two_lane zero (suc r₁) zero x y a b f p q = let z : ◌≡◌ {A = ℕ} 0 1 = cc in absurd (omega arith)
two_lane zero (suc r₁) (suc r₂) x y a b f p q = rw (← p) q
two_lane (suc r₀) zero r₂ x y a b f p q = let z : ◌≡◌ {A = ℕ} 0 1 = cc in absurd (omega arith)
two_lane (suc r₀) (suc r₁) zero x y a b f p q = let z : ◌≡◌ {A = ℕ} 0 1 = cc in absurd (omega arith)
two_lane (suc r₀) (suc r₁) (suc r₂) x y a b f p q = q ∙ p

-- an operator is applied, or stops the lane with 23
read_here : (t : Bool) (y : ℤ) → lane_value (cond t 0 no_flag) y ≡ cond t (ok y) (stop no_flag)
read_here true y = refl
read_here false y = refl

one_lane : (r₀ r₁ : ℕ) (x : ℤ) (a : Value) (t : ℤ → Bool) (f : ℤ → ℤ) → lane_value r₁ x ≡ first_stop r₀ a → lane_value (first_of2 r₁ (cond (t x) 0 no_flag)) (f x) ≡ first_stop r₀ (and_then a (λ x. cond (t x) (ok (f x)) (stop no_flag)))
one_lane zero zero x a t f p = rw (← p) (read_here (t x) (f x))
one_lane zero (suc r₁) x a t f p = rw (← p)
one_lane (suc r₀) zero x a t f p = let z : ◌≡◌ {A = ℕ} 0 1 = cc in absurd (omega arith)
one_lane (suc r₀) (suc r₁) x a t f p = p

stop_lane : (r₀ r : ℕ) (x : ℤ) → lane_value (first_of2 r₀ (suc r)) x ≡ first_stop r₀ (stop (suc r))
stop_lane zero r x = refl
stop_lane (suc r₀) r x = refl

-- a number that is there for every lane stops none
pub ok_lane : (r : ℕ) (z : ℤ) → lane_value r z ≡ first_stop r (ok z)
ok_lane zero z = refl
ok_lane (suc r) z = refl

-- ---- which reads may stop a lane

pub read_flag_lem : (o : Op1) → reads_flag o ≡ true → (x : ℤ) → flag_stop x ≡ read_stop o x
read_flag_lem Flag p x = refl
read_flag_lem Not p x = let z : ◌≡◌ {A = ℕ} 0 1 = cc in absurd (omega arith)
read_flag_lem Variable p x = let z : ◌≡◌ {A = ℕ} 0 1 = cc in absurd (omega arith)
read_flag_lem Item p x = let z : ◌≡◌ {A = ℕ} 0 1 = cc in absurd (omega arith)
read_flag_lem Atc p x = let z : ◌≡◌ {A = ℕ} 0 1 = cc in absurd (omega arith)
read_flag_lem Time p x = let z : ◌≡◌ {A = ℕ} 0 1 = cc in absurd (omega arith)

pub read_plain : (o : Op1) → reads_flag o ≡ false → (x : ℤ) → 0 ≡ read_stop o x
read_plain Flag p x = let z : ◌≡◌ {A = ℕ} 0 1 = cc in absurd (omega arith)
read_plain Not p x = refl
read_plain Variable p x = refl
read_plain Item p x = refl
read_plain Atc p x = refl
read_plain Time p x = refl

-- no new refusal
pub none_new : (a r : ℕ) → 0 ≡ r → a ≡ first_of2 a r
none_new zero r p = p
none_new (suc a) r p = refl

-- ---- all lanes: node i as an operand of node b

module _ (n m : ℕ) (f : Save) (vs : List ℤ) (ls : List ℕ) (s : ℕ) (ns : Nodes) (b i : ℕ) where
  abbrev worth : Expr → ℕ → Value
  worth e j = eval_in n m f vs e (get_or ls j 0)

  abbrev Here : List ℕ → List ℕ → List ℤ → Type 0
  Here rs rs' xs = Valued s (worth (tree_below ns b i)) rs rs' xs

  abbrev Left : List ℕ → List ℕ → List ℤ → Type 0
  Left rs rs' xs = Valued s (worth (tree_below ns i (left_at ns i))) rs rs' xs

  abbrev Right : List ℕ → List ℕ → List ℤ → Type 0
  Right rs rs' xs = Valued s (worth (tree_below ns i (right_at ns i))) rs rs' xs

  stop_done : {rs rs' : List ℕ} {xs : List ℤ} → tree_below ns b i ≡ other → Each 0 (λ _ a. first_of2 a 13) s rs rs' → Here rs rs' xs
  stop_done {rs} {xs = xs} p h = record { is = λ j l. rw (h.done j l, p) (stop_lane (get_or rs j 0) 12 (get_or xs j (pos 0))); rest = h.rest }

  number_is : {rs : List ℕ} {xs xs' : List ℤ} (z : ℤ) → some z ≡ value (tree_below ns b i) → Each (pos 0) (λ _ _. z) s xs xs' → Here rs rs xs'
  number_is {rs} z p h = record { is = λ j l. rw (h.done j l) (ok_lane (get_or rs j 0) z ∙ ap (first_stop (get_or rs j 0)) (imm_worth (save_in n m f (get_or ls j 0)) (part variable_count (get_or ls j 0) vs) (tree_below ns b i) z p)); rest = λ j l. refl }

  pub out_done : {rs rs' : List ℕ} {xs : List ℤ} → b ≤ i → Each 0 (λ _ a. first_of2 a 13) s rs rs' → Here rs rs' xs
  out_done l h = stop_done (below_out ns b i l) h

  -- an Imm as the right operand
  pub same_done : {rs : List ℕ} {ys : List ℤ} (z : ℤ) → some z ≡ value (tree_below ns i (right_at ns i)) → s ≤ most_saves → ys ≡ replicate most_saves z → Right rs rs ys
  same_done {rs} z p few q = record {
    is = λ j l. let h : j < most_saves = omega arith in rw (q, get_or-replicate most_saves j z (pos 0) h) (ok_lane (get_or rs j 0) z ∙ ap (first_stop (get_or rs j 0)) (imm_worth (save_in n m f (get_or ls j 0)) (part variable_count (get_or ls j 0) vs) (tree_below ns i (right_at ns i)) z p));
    rest = λ j l. refl;
  }

  module _ (lt : i < b) (k : Kind) (found : k ≡ kind_of (code_at ns i)) where
    pub two_done : {rs rs₁ rs₂ : List ℕ} {xs ys xs' : List ℤ} (o : Op2) → k ≡ Two o → Left rs rs₁ xs → Right rs₁ rs₂ ys → Each (pos 0) (λ j x. apply2 o x (get_or ys j (pos 0))) s xs xs' → Here rs rs₂ xs'
    two_done {rs} {rs₁} {rs₂} {xs} {ys} o e va vb h = record {
      is = λ j l. rw (h.done j l, below_two ns b i lt k found o e)
          (two_lane (get_or rs j 0) (get_or rs₁ j 0) (get_or rs₂ j 0) (get_or xs j (pos 0)) (get_or ys j (pos 0)) (worth (tree_below ns i (left_at ns i)) j) (worth (tree_below ns i (right_at ns i)) j) (apply2 o) (va.is j l) (vb.is j l));
      rest = λ j l. vb.rest j l ∙ va.rest j l;
    }

    pub one_done : {rs rs₁ rs₂ : List ℕ} {xs xs' : List ℤ} (o : Op1) → k ≡ One o → Left rs rs₁ xs → Each 0 (λ j a. first_of2 a (read_stop o (get_or xs j (pos 0)))) s rs₁ rs₂ → Each (pos 0) (λ j x. apply_in n m f vs o (get_or ls j 0) x) s xs xs' → Here rs rs₂ xs'
    one_done {rs} {rs₁} {xs = xs} o e va g h = record {
      is = λ j l. rw (g.done j l, h.done j l, below_one ns b i lt k found o e)
          (one_lane (get_or rs j 0) (get_or rs₁ j 0) (get_or xs j (pos 0)) (worth (tree_below ns i (left_at ns i)) j) (readable o) (λ x. apply_in n m f vs o (get_or ls j 0) x) (va.is j l));
      rest = λ j l. g.rest j l ∙ va.rest j l;
    }

    -- an Imm as the only operand
    pub number_done : {rs rs₁ : List ℕ} {xs xs' : List ℤ} (o : Op1) (z : ℤ) → k ≡ One o → some z ≡ value (tree_below ns i (left_at ns i)) → Each 0 (λ _ a. first_of2 a (read_stop o z)) s rs rs₁ → Each (pos 0) (λ j _. apply_in n m f vs o (get_or ls j 0) z) s xs xs' → Here rs rs₁ xs'
    number_done {rs} o z e q g h = record {
      is = λ j l. rw (g.done j l, h.done j l, below_one ns b i lt k found o e)
          (one_lane (get_or rs j 0) (get_or rs j 0) z (worth (tree_below ns i (left_at ns i)) j) (readable o) (λ x. apply_in n m f vs o (get_or ls j 0) x) (ok_lane (get_or rs j 0) z ∙ ap (first_stop (get_or rs j 0)) (imm_worth (save_in n m f (get_or ls j 0)) (part variable_count (get_or ls j 0) vs) (tree_below ns i (left_at ns i)) z q)));
      rest = g.rest;
    }

    pub imm_done : {rs : List ℕ} {xs xs' : List ℤ} {z : ℤ} → (k ≡ Imm16) ⊎ (k ≡ Imm32) → z ≡ value_at ns i → Each (pos 0) (λ _ _. z) s xs xs' → Here rs rs xs'
    imm_done {z = z} e p h = number_is z (ap some p ∙ ⊎_elim (λ q. sym (ap value (below_imm16 ns b i lt k found q))) (λ q. sym (ap value (below_imm32 ns b i lt k found q))) e) h

    pub other_done : {rs rs' : List ℕ} {xs : List ℤ} → k ≡ Other → Each 0 (λ _ a. first_of2 a 13) s rs rs' → Here rs rs' xs
    other_done e h = stop_done (below_other ns b i lt k found e) h
