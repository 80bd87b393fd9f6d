-- What an evaluation answers, in the terms of the definitions, and the save that it reads. Assumes nothing.
use Rattle.std.specs.Prelude.{◌≡◌, refl, List, [], map, cond, ℕ, ℤ, Result, Ok, Err}
use Rattle.std.proofs.Common.{ap}
use Rattle.model.specs.Refusal.{no_flag}
use Rattle.model.specs.Refusals.{refusal_number}
use Rattle.model.specs.Save.{Save, int_at}
use Rattle.model.specs.Expr.{Expr, two, one, imm16, imm32, other, ok, stop, and_then, apply2, apply1, readable, read1, eval}
use Rattle.model.specs.Expr as model
use Rattle.model.specs.declared.Refusal.{Refusal}
use Rattle.model.specs.declared.Op1.{Op1}
use Rattle.model.specs.declared.Op1.TheVariants.{Not, Flag, Variable, Item, Atc, Time}

-- the definition's answer for each case
abbrev pub value_of : Result ℤ Refusal → model.Value
value_of (Ok z) = ok z
value_of (Err e) = stop (refusal_number e)

-- a save of these parts; its variables are those of the moment, handed in apart
abbrev pub reads : List ℤ → List ℕ → List ℕ → List ℤ → Save
reads items atcs flags times = record { items = items; atcs = atcs; flags = flags; times = times; variables = [] }

-- element x of a list whose elements are read by f, and 0 outside it
abbrev pub read_in : {T : Type 0} → (T → ℤ) → List T → ℤ → ℤ
read_in f l x = int_at (map f l) x

abbrev pub join1 : Save → List ℤ → Op1 → model.Value → model.Value
join1 s v o a = and_then a (λ x. read1 s v o x)

-- ---- the save's own variables have no part in an evaluation

apply_rest : (s : Save) (v : List ℤ) (o : Op1) (z : ℤ) → apply1 s v o z ≡ apply1 (reads s.items s.atcs s.flags s.times) v o z
apply_rest s v Not z = refl
apply_rest s v Flag z = refl
apply_rest s v Variable z = refl
apply_rest s v Item z = refl
apply_rest s v Atc z = refl
apply_rest s v Time z = refl

pub eval_rest : (s : Save) (v : List ℤ) (e : Expr) → eval s v e ≡ eval (reads s.items s.atcs s.flags s.times) v e
eval_rest s v (two o a b) = rw (eval_rest s v a, eval_rest s v b)
eval_rest s v (one o a) = rw (eval_rest s v a) (go (eval (reads s.items s.atcs s.flags s.times) v a))
  where
    go : (x : model.Value) → join1 s v o x ≡ join1 (reads s.items s.atcs s.flags s.times) v o x
    go (ok z) = ap (λ (y : ℤ). cond (readable o z) (ok y) (stop no_flag)) (apply_rest s v o z)
    go (stop n) = refl
eval_rest s v (imm16 z) = refl
eval_rest s v (imm32 z) = refl
eval_rest s v other = refl
