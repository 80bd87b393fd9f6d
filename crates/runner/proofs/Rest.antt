-- The variables that a save was handed in with have no part in a run: it goes by those of the moment. Assumes nothing.
use mathlib.Core.Path.{◌≡◌, refl, sym, ap, ◌∙◌}
use mathlib.Core.Bool.{cond}
use mathlib.Core.Option.{Option}
use mathlib.Core.List.{List, [], ◌∷◌}
use Prim.Native.Nat.{ℕ, zero, suc, ◌+◌, ◌-◌, ◌≤◌, ◌<◌}
use native.Mathlib.Omega.{arith}
use lib.IntN.{ℤ}
use Rattle.model.specs.Signed.{is_zero}
use Rattle.model.specs.Save.{Save}
use Rattle.model.specs.Expr.{Value, ok, stop, eval}
use Rattle.model.specs.Script.{Command, return, goto, set_variable, set_other, if_else, end_if, other_command, Block, placeholder, code, data_block, block_at}
use Rattle.model.specs.Run.{Outcome, next, done, halt, follow, store, or_halt, execute, enter, step, step_by, Ran, one_more, run, run_by}
use Rattle.expr.specs.Value.{reads, eval_rest}
use Rattle.model.specs.declared.BlockNo.{BlockNo}
use Rattle.std.specs.Prelude.{None, Some, Ok, Err}
use Rattle.model.specs.declared.Refusal.{Refusal}
use Rattle.model.specs.Refusals.{refusal_number}
use Rattle.runner.specs.Steps.{Step, outcome_of}

-- ---- a block entered

module _ (bs : List Block) (s : Save) (k b : ℕ) (v : List ℤ) where
  pub run_next : (b' : ℕ) (v' : List ℤ) → step bs s b v ≡ next b' v' → run bs s (suc k) b v ≡ one_more (run bs s k b' v')
  unfolding run_by
  run_next b' v' e = rw (e, run_by)

  pub run_done : (v' : List ℤ) → step bs s b v ≡ done v' → run bs s (suc k) b v ≡ record { answer = 0; variables = v'; entered = 1 }
  unfolding run_by
  run_done v' e = rw (e, run_by)

  pub run_halt : (n : ℕ) (v' : List ℤ) → step bs s b v ≡ halt n v' → run bs s (suc k) b v ≡ record { answer = n; variables = v'; entered = 1 }
  unfolding run_by
  run_halt n v' e = rw (e, run_by)

-- ---- the save's own variables

or_rest : (a : Value) (v : List ℤ) (f g : ℤ → Outcome) → ((x : ℤ) → f x ≡ g x) → or_halt a v f ≡ or_halt a v g
or_rest (ok x) v f g h = h x
or_rest (stop n) v f g h = refl

module _ (s : Save) where
  abbrev rest : Save
  rest = reads s.items s.atcs s.flags s.times

  execute_rest : (nx : Option ℕ) (cs : List Command) (v : List ℤ) → execute s nx cs v ≡ execute rest nx cs v
  execute_rest nx [] v = refl
  execute_rest nx (return ∷ cs) v = refl
  execute_rest nx (goto k ∷ cs) v = refl
  execute_rest nx (set_variable t e ∷ cs) v =
      ap (λ a. or_halt a v (λ k. or_halt (eval s v e) v (λ x. execute s nx cs (store v k x)))) (eval_rest s v t)
      ∙ or_rest (eval rest v t) v (λ k. or_halt (eval s v e) v (λ x. execute s nx cs (store v k x))) (λ k. or_halt (eval rest v e) v (λ x. execute rest nx cs (store v k x)))
      (λ k. ap (λ a. or_halt a v (λ x. execute s nx cs (store v k x))) (eval_rest s v e)
      ∙ or_rest (eval rest v e) v (λ x. execute s nx cs (store v k x)) (λ x. execute rest nx cs (store v k x)) (λ x. execute_rest nx cs (store v k x)))
  execute_rest nx (set_other e ∷ cs) v = refl
  execute_rest nx (if_else c k ∷ cs) v = ap (λ a. or_halt a v (λ x. cond (is_zero x) (next k v) (follow nx v))) (eval_rest s v c)
  execute_rest nx (end_if k ∷ cs) v = refl
  execute_rest nx (other_command ∷ cs) v = refl

  enter_rest : (x : Block) (v : List ℤ) → enter s x v ≡ enter rest x v
  enter_rest placeholder v = refl
  enter_rest (code cs nx el) v = execute_rest nx cs v
  enter_rest data_block v = refl

  pub step_rest : (bs : List Block) (b : ℕ) (v : List ℤ) → step bs s b v ≡ step bs rest b v
  unfolding step_by
  step_rest bs b v = enter_rest (block_at bs b) v

  pub run_rest : (bs : List Block) (k b : ℕ) (v : List ℤ) → run bs s k b v ≡ run bs rest k b v
  unfolding run_by
  run_rest bs zero b v = refl
  run_rest bs (suc k) b v = go (step bs rest b v) refl (run_rest bs k)
    where
      go : (o : Outcome) → step bs rest b v ≡ o → ((b' : ℕ) (v' : List ℤ) → run bs s k b' v' ≡ run bs rest k b' v') → run bs s (suc k) b v ≡ run bs rest (suc k) b v
      go (next b' v') e ih = run_next bs s k b v b' v' (step_rest bs b v ∙ e) ∙ ap one_more (ih b' v') ∙ sym (run_next bs rest k b v b' v' e)
      go (done v') e ih = run_done bs s k b v v' (step_rest bs b v ∙ e) ∙ sym (run_done bs rest k b v v' e)
      go (halt n v') e ih = run_halt bs s k b v n v' (step_rest bs b v ∙ e) ∙ sym (run_halt bs rest k b v n v' e)

-- ---- the loop over blocks

-- n blocks more than r has
abbrev pub plus : ℕ → Ran → Ran
plus n r = record { answer = r.answer; variables = r.variables; entered = n + r.entered }

-- n blocks were entered, which led to block b and brought the variables from v₀ to v
pub record Entered (bs : List Block) (s : Save) (budget b₀ : ℕ) (v₀ : List ℤ) (n b : ℕ) (v : List ℤ) : Type 0 where
  pub low : n ≤ budget
  pub is : run bs s budget b₀ v₀ ≡ plus n (run bs s (budget - n) b v)

plus_none : (r : Ran) → r ≡ plus 0 r
plus_none r = let z : r.entered ≡ 0 + r.entered = omega arith in ap (λ n. record { answer = r.answer; variables = r.variables; entered = n }) z

module _ (bs : List Block) (s : Save) (budget b₀ : ℕ) (v₀ : List ℤ) where
  pub none_entered : Entered bs s budget b₀ v₀ 0 b₀ v₀
  none_entered =
      let y : budget ≡ budget - 0 = omega arith in
      record { low = omega arith; is = ap (λ k. run bs s k b₀ v₀) y ∙ plus_none (run bs s (budget - 0) b₀ v₀) }

  module _ {n b : ℕ} {v : List ℤ} (p : Entered bs s budget b₀ v₀ n b v) where
    pub all_spent : budget ≤ n → ◌≡◌ {A = Ran} (record { answer = 15; variables = v; entered = n }) (run bs s budget b₀ v₀)
    unfolding run_by
    all_spent h =
        let y : budget - n ≡ 0 = omega arith in
        let z : n ≡ n + 0 = omega arith in
        sym (p.is ∙ ap (λ k. plus n (run bs s k b v)) y ∙ ap (λ k. record { answer = 15; variables = v; entered = k }) (sym z))

    module _ (h : n < budget) where
      left : budget - n ≡ suc (budget - (n + 1))
      left = omega arith

      pub one_entered : (r : Step) (w : BlockNo) (v' : List ℤ) → r ≡ Ok (Some w) → outcome_of r v' ≡ step bs s b v → Entered bs s budget b₀ v₀ (n + 1) w.0 v'
      one_entered r w v' q e =
          let b' = w.0 in
          let z : n + suc (run bs s (budget - (n + 1)) b' v').entered ≡ n + 1 + (run bs s (budget - (n + 1)) b' v').entered = omega arith in
          record {
            low = omega arith;
            is = p.is
                ∙ ap (λ k. plus n (run bs s k b v)) left
                ∙ ap (plus n) (run_next bs s (budget - (n + 1)) b v b' v' (sym e ∙ ap (λ o. outcome_of o v') q))
                ∙ ap (λ k. record { answer = (run bs s (budget - (n + 1)) b' v').answer; variables = (run bs s (budget - (n + 1)) b' v').variables; entered = k }) z;
          }

      pub done_entered : (r : Step) (v' : List ℤ) → r ≡ Ok None → outcome_of r v' ≡ step bs s b v → ◌≡◌ {A = Ran} (record { answer = 0; variables = v'; entered = n + 1 }) (run bs s budget b₀ v₀)
      done_entered r v' q e = sym (p.is ∙ ap (λ k. plus n (run bs s k b v)) left ∙ ap (plus n) (run_done bs s (budget - (n + 1)) b v v' (sym e ∙ ap (λ o. outcome_of o v') q)))

      pub halt_entered : (r : Step) (k : Refusal) (v' : List ℤ) → r ≡ Err k → outcome_of r v' ≡ step bs s b v → ◌≡◌ {A = Ran} (record { answer = refusal_number k; variables = v'; entered = n + 1 }) (run bs s budget b₀ v₀)
      halt_entered r k v' q e = sym (p.is ∙ ap (λ j. plus n (run bs s j b v)) left ∙ ap (plus n) (run_halt bs s (budget - (n + 1)) b v (refusal_number k) v' (sym e ∙ ap (λ o. outcome_of o v') q)))
