-- Single steps of the runner over plain variables: stores, links, and where each command and block leads. Assumes nothing.
use mathlib.Core.Path.{◌≡◌, refl, sym, ap, ◌∙◌, subst}
use mathlib.Core.Bool.{true, false, cond}
use mathlib.Core.Option.{Option}
use mathlib.Core.List.{List, ◌∷◌}
use Prim.Native.Nat.{ℕ, zero, suc, ◌+◌, ◌-◌, ◌*◌, ◌≤◌, ◌<◌}
use native.Mathlib.Omega.{arith}
use lib.ListN.{get_or, get_or-eq_default}
use lib.IntN.{ℤ, pos, negsuc}
use borrow.Author.Tests.{ne_eqb}
use mir.Syntax.{w32}
use mir.Val.{SFits, of_z}
use Rattle.model.specs.Signed.{is_zero}
use Rattle.model.specs.Save.{Save}
use Rattle.model.specs.Expr.{Expr, ok, stop, eval}
use Rattle.model.specs.Script.{Command, return, goto, set_variable, set_other, if_else, end_if, other_command, placeholder}
use Rattle.model.specs.Run.{Outcome, next, halt, follow, store, or_halt, execute, enter, step, step_by}
use Rattle.model.specs.Memory.{Coded, coded_in, Memory, tree, command_word, set_in, command_by, command_in, commands_in, block_word, link_in, block_by, block_in, script_of}
use Rattle.model.specs.declared.BlockNo.{BlockNo}
use Rattle.memory.specs.RecordLaws.{length_blocks_in, block_at_lem, next_command}
use Rattle.expr.specs.Value.{value_of}
use Rattle.std.specs.Prelude as code
use Rattle.std.specs.Prelude.{None, Some, Result, Ok, Err}
use Rattle.std.specs.declared.ops.ControlFlow.TheVariants.{Continue, Break}
use Rattle.model.specs.declared.Refusal.{Refusal}
use Rattle.model.specs.Refusals.{refusal_number}
use Rattle.runner.specs.Steps.{Step, Flow, outcome_of, after, Flows}

-- ---- stores and links

-- a number of 32 bits is 0 where its bits are
pub bits_zero : (x : ℤ) → of_z w32 x ≡ 0 → SFits w32 x → is_zero x ≡ true
bits_zero (pos zero) e f = refl
bits_zero (pos (suc n)) e f = absurd (omega arith)
bits_zero (negsuc n) e f = let h : n < 2147483648 = f.sfits in absurd (omega arith)

pub bits_nonzero : (x : ℤ) → (of_z w32 x ≡ 0 → ⊥) → is_zero x ≡ false
bits_nonzero (pos zero) e = absurd (e refl)
bits_nonzero (pos (suc n)) e = ne_eqb (suc n) 0 (λ e. omega arith)
bits_nonzero (negsuc n) e = refl

-- ---- Set and If

-- both operands, from what their evaluations answer
both : (s : Save) (nx : Option ℕ) (v : List ℤ) (t e : Expr) (k : ℤ) (r r' : Result ℤ Refusal) → value_of r ≡ eval s v t → r ≡ Ok k → value_of r' ≡ eval s v e
    → (cs : List Command) → execute s nx (set_variable t e ∷ cs) v ≡ or_halt (value_of r') v (λ x. execute s nx cs (store v k x))
both s nx v t e k r r' p q p' cs =
    let z : eval s v t ≡ ok k = sym p ∙ ap value_of q in
    ap (λ a. or_halt a v (λ j. or_halt (eval s v e) v (λ x. execute s nx cs (store v j x)))) z
    ∙ ap (λ a. or_halt a v (λ x. execute s nx cs (store v k x))) (sym p')

tested : (s : Save) (nx : Option ℕ) (v : List ℤ) (t : Expr) (b : ℕ) (x : ℤ) (r : Result ℤ Refusal) → value_of r ≡ eval s v t → r ≡ Ok x
    → (cs : List Command) → execute s nx (if_else t b ∷ cs) v ≡ cond (is_zero x) (next b v) (follow nx v)
tested s nx v t b x r p q cs = let z : eval s v t ≡ ok x = sym p ∙ ap value_of q in ap (λ a. or_halt a v (λ y. cond (is_zero y) (next b v) (follow nx v))) z

module _ {s : Save} {nx : Option ℕ} {v : List ℤ} {t : Expr} {r : Result ℤ Refusal} (p : value_of r ≡ eval s v t) where
  pub target_stops : {e : Expr} {n : Refusal} {f : Flow} → r ≡ Err n → f ≡ Err n → Flows s nx (set_variable t e) v f v
  target_stops {e} {n} q g =
      let z : eval s v t ≡ stop (refusal_number n) = sym p ∙ ap value_of q in
      rw g (record { is = λ cs. ap (λ a. or_halt a v (λ k. or_halt (eval s v e) v (λ x. execute s nx cs (store v k x)))) z })

  module _ {e : Expr} {r' : Result ℤ Refusal} (p' : value_of r' ≡ eval s v e) {k : ℤ} (q : r ≡ Ok k) where
    pub value_stops : {n : Refusal} {f : Flow} → r' ≡ Err n → f ≡ Err n → Flows s nx (set_variable t e) v f v
    value_stops {n} q' g = rw g (record { is = λ cs. both s nx v t e k r r' p q p' cs ∙ ap (λ a. or_halt (value_of a) v (λ x. execute s nx cs (store v k x))) q' })

    pub value_stored : {x : ℤ} {v' : List ℤ} {u : Unit {0}} → r' ≡ Ok x → v' ≡ store v k x → Flows s nx (set_variable t e) v (Ok (Continue u)) v'
    value_stored {x} {v'} {u} q' w =
        record { is = λ cs. both s nx v t e k r r' p q p' cs ∙ ap (λ a. or_halt (value_of a) v (λ y. execute s nx cs (store v k y))) q' ∙ ap (execute s nx cs) (sym w) }

  pub if_stops : {b : ℕ} {n : Refusal} {f : Flow} → r ≡ Err n → f ≡ Err n → Flows s nx (if_else t b) v f v
  if_stops {b} {n} q g =
      let z : eval s v t ≡ stop (refusal_number n) = sym p ∙ ap value_of q in
      rw g (record { is = λ cs. ap (λ a. or_halt a v (λ x. cond (is_zero x) (next b v) (follow nx v))) z })

  module _ {b : ℕ} {x : ℤ} (q : r ≡ Ok x) where
    pub if_zero_lem : is_zero x ≡ true → Flows s nx (if_else t b) v (Ok (Break (Some (record { 0 = b })))) v
    if_zero_lem z = record { is = λ cs. tested s nx v t b x r p q cs ∙ ap (λ a. cond a (next b v) (follow nx v)) z }

    pub if_no_next : {o : Step} {n : Refusal} {g : Flow} → is_zero x ≡ false → ((v : List ℤ) → follow nx v ≡ outcome_of o v) → o ≡ Err n → g ≡ Err n → Flows s nx (if_else t b) v g v
    if_no_next {o} z f h g = rw g (record { is = λ cs. tested s nx v t b x r p q cs ∙ ap (λ a. cond a (next b v) (follow nx v)) z ∙ f v ∙ ap (λ a. outcome_of a v) h })

    pub if_next : {o : Step} {w : code.Option BlockNo} → is_zero x ≡ false → ((v : List ℤ) → follow nx v ≡ outcome_of o v) → o ≡ Ok w → Flows s nx (if_else t b) v (Ok (Break w)) v
    if_next {o} {w} z f h = record { is = λ cs. tested s nx v t b x r p q cs ∙ ap (λ a. cond a (next b v) (follow nx v)) z ∙ f v ∙ ap (λ a. outcome_of a v) h }

-- ---- a command by its code

module _ (co : Coded) (c : ℕ) where
  coded : (k : ℕ) → get_or co.words (4 * c) 0 ≡ k → command_in co c ≡ command_by co c k
  unfolding command_in
  coded k e = let z : 4 * c + 0 ≡ 4 * c = omega arith in ap (command_by co c) (ap (λ j. get_or co.words j 0) z ∙ e)

  pub is_return : get_or co.words (4 * c) 0 ≡ 0 → command_in co c ≡ return
  unfolding command_by
  is_return e = coded 0 e

  pub is_set : get_or co.words (4 * c) 0 ≡ 2 → command_word co c 3 ≡ 0 → command_in co c ≡ set_variable (tree co.nodes (command_word co c 1)) (tree co.nodes (command_word co c 2))
  unfolding command_by set_in
  is_set e z = coded 2 e ∙ ap (set_in co c) z

  set_other_lem : (t : ℕ) → (t ≡ 0 → ⊥) → set_in co c t ≡ set_other (tree co.nodes (command_word co c 2))
  unfolding set_in
  set_other_lem zero n = absurd (n refl)
  set_other_lem (suc t) n = refl

  pub is_set_other : get_or co.words (4 * c) 0 ≡ 2 → (command_word co c 3 ≡ 0 → ⊥) → command_in co c ≡ set_other (tree co.nodes (command_word co c 2))
  unfolding command_by
  is_set_other e z = coded 2 e ∙ set_other_lem (command_word co c 3) z

  by_other : (k : ℕ) → 4 < k → command_by co c k ≡ other_command
  unfolding command_by
  by_other zero h = absurd (omega arith)
  by_other (suc zero) h = absurd (omega arith)
  by_other (suc (suc zero)) h = absurd (omega arith)
  by_other (suc (suc (suc zero))) h = absurd (omega arith)
  by_other (suc (suc (suc (suc zero)))) h = absurd (omega arith)
  by_other (suc (suc (suc (suc (suc k))))) h = refl

  pub is_other : 4 < get_or co.words (4 * c) 0 → command_in co c ≡ other_command
  is_other h = coded (get_or co.words (4 * c) 0) refl ∙ by_other (get_or co.words (4 * c) 0) h

  -- the block that the fourth word names
  module _ (w : BlockNo) (p : w ≡ record { 0 = command_word co c 3 }) where
    pub is_goto : get_or co.words (4 * c) 0 ≡ 1 → command_in co c ≡ goto w.0
    unfolding command_by
    is_goto e = coded 1 e ∙ ap (λ (x : BlockNo). goto x.0) (sym p)

    pub is_if : get_or co.words (4 * c) 0 ≡ 3 → command_in co c ≡ if_else (tree co.nodes (command_word co c 1)) w.0
    unfolding command_by
    is_if e = coded 3 e ∙ ap (λ (x : BlockNo). if_else (tree co.nodes (command_word co c 1)) x.0) (sym p)

    pub is_end : get_or co.words (4 * c) 0 ≡ 4 → command_in co c ≡ end_if w.0
    unfolding command_by
    is_end e = coded 4 e ∙ ap (λ (x : BlockNo). end_if x.0) (sym p)

pub flows_as : {s : Save} {nx : Option ℕ} {v v' : List ℤ} {r : Flow} (x y : Command) → x ≡ y → Flows s nx y v r v' → Flows s nx x v r v'
flows_as {s} {nx} {v} {v'} {r} x y e f = subst (λ z. Flows s nx z v r v') (sym e) f

-- what leads out of the block at once
pub flows_out : {s : Save} {nx : Option ℕ} {v : List ℤ} {x : Command} {w : code.Option BlockNo} → ((cs : List Command) → execute s nx (x ∷ cs) v ≡ outcome_of (Ok w) v) → Flows s nx x v (Ok (Break w)) v
flows_out f = record { is = f }

pub flows_halt : {s : Save} {nx : Option ℕ} {v : List ℤ} {x : Command} {n : Refusal} → ((cs : List Command) → execute s nx (x ∷ cs) v ≡ halt (refusal_number n) v) → Flows s nx x v (Err n) v
flows_halt f = record { is = f }

-- ---- the commands of a block

-- i commands of the block were passed, which brought the variables from v₀ to v
pub record Passed (s : Save) (nx : Option ℕ) (ws : List ℕ) (vs : List ℤ) (cw : List ℕ) (first many : ℕ) (v₀ v : List ℤ) (i : ℕ) : Type 0 where
  pub low : i ≤ many
  pub is : (n m : ℕ) → execute s nx (commands_in (coded_in ws vs cw n m) many first) v₀ ≡ execute s nx (commands_in (coded_in ws vs cw n m) (many - i) (first + i)) v

module _ (s : Save) (nx : Option ℕ) (ws : List ℕ) (vs : List ℤ) (cw : List ℕ) (first many : ℕ) (v₀ : List ℤ) where
  pub none_passed : Passed s nx ws vs cw first many v₀ v₀ 0
  none_passed =
      let y : many ≡ many - 0 = omega arith in
      let z : first ≡ first + 0 = omega arith in
      record {
        low = omega arith;
        is = λ n m. ap (λ h. execute s nx (commands_in (coded_in ws vs cw n m) h first) v₀) y ∙ ap (λ f. execute s nx (commands_in (coded_in ws vs cw n m) (many - 0) f) v₀) z;
      }

  module _ {v : List ℤ} {i : ℕ} (p : Passed s nx ws vs cw first many v₀ v i) where
    module _ {f : Flow} {v' : List ℤ} (h : i < many) (w : (n m : ℕ) → Flows s nx (command_in (coded_in ws vs cw n m) (first + i)) v f v') where
      moved : (n m : ℕ) → execute s nx (commands_in (coded_in ws vs cw n m) many first) v₀ ≡ after s nx (commands_in (coded_in ws vs cw n m) (many - (i + 1)) (first + (i + 1))) f v'
      moved n m =
          p.is n m
          ∙ ap (λ cs. execute s nx cs v) (next_command (coded_in ws vs cw n m) many first i h)
          ∙ (w n m).is (commands_in (coded_in ws vs cw n m) (many - (i + 1)) (first + (i + 1)))

      pub one_passed : {u : Unit {0}} → f ≡ Ok (Continue u) → Passed s nx ws vs cw first many v₀ v' (i + 1)
      one_passed e =
          record {
            low = omega arith;
            is = λ n m. moved n m ∙ ap (λ g. after s nx (commands_in (coded_in ws vs cw n m) (many - (i + 1)) (first + (i + 1))) g v') e;
          }

      pub out_passed : {w : code.Option BlockNo} → f ≡ Ok (Break w) → (n m : ℕ) → outcome_of (Ok w) v' ≡ execute s nx (commands_in (coded_in ws vs cw n m) many first) v₀
      out_passed e n m = sym (moved n m ∙ ap (λ g. after s nx (commands_in (coded_in ws vs cw n m) (many - (i + 1)) (first + (i + 1))) g v') e)

      pub halt_passed : {x : Refusal} {r : Step} → f ≡ Err x → r ≡ Err x → (n m : ℕ) → outcome_of r v' ≡ execute s nx (commands_in (coded_in ws vs cw n m) many first) v₀
      halt_passed e g n m = ap (λ r. outcome_of r v') g ∙ sym (moved n m ∙ ap (λ g. after s nx (commands_in (coded_in ws vs cw n m) (many - (i + 1)) (first + (i + 1))) g v') e)

    pub all_passed : (r : Step) → many ≤ i → ((v : List ℤ) → follow nx v ≡ outcome_of r v) → (n m : ℕ) → outcome_of r v ≡ execute s nx (commands_in (coded_in ws vs cw n m) many first) v₀
    unfolding commands_in
    all_passed r h f n m =
        let y : many - i ≡ 0 = omega arith in
        sym (p.is n m ∙ ap (λ j. execute s nx (commands_in (coded_in ws vs cw n m) j (first + i)) v) y ∙ f v)

-- ---- a block

module _ (m : Memory) (s : Save) (b : ℕ) (v : List ℤ) where
  pub step_none : m.count ≤ b → halt 13 v ≡ step (script_of m).blocks s b v
  unfolding step_by script_of
  step_none h = sym (ap (λ x. enter s x v) (get_or-eq_default (script_of m).blocks placeholder (omega (arith, length_blocks_in m m.count 0))))

  module _ (h : b < m.count) where
    stepped : (k : ℕ) → get_or m.words (5 * b) 0 ≡ k → step (script_of m).blocks s b v ≡ enter s (block_by m b k) v
    unfolding step_by block_in
    stepped k e =
        let z : 5 * b + 0 ≡ 5 * b = omega arith in
        ap (λ x. enter s x v) (block_at_lem m b h) ∙ ap (λ j. enter s (block_by m b j) v) (ap (λ j. get_or m.words j 0) z ∙ e)

    not_code_lem : (k : ℕ) → (k ≡ 1 → ⊥) → enter s (block_by m b k) v ≡ halt 13 v
    unfolding block_by
    not_code_lem zero n = refl
    not_code_lem (suc zero) n = absurd (n refl)
    not_code_lem (suc (suc k)) n = refl

    pub step_not_code : (get_or m.words (5 * b) 0 ≡ 1 → ⊥) → halt 13 v ≡ step (script_of m).blocks s b v
    step_not_code n = sym (stepped (get_or m.words (5 * b) 0) refl ∙ not_code_lem (get_or m.words (5 * b) 0) n)

    pub step_code : {o : Outcome} → get_or m.words (5 * b) 0 ≡ 1 → o ≡ execute s (link_in (block_word m b 3)) (commands_in m.coded (block_word m b 2) (block_word m b 1)) v → o ≡ step (script_of m).blocks s b v
    unfolding block_by
    step_code e p = p ∙ sym (stepped 1 e)
