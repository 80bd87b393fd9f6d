-- Where commands and blocks lead one lane, and all lanes of a list. Assumes nothing.
use Rattle.std.specs.Prelude.{◌≡◌, refl, Bool, true, false, cond, List, ◌∷◌, ℕ, zero, suc, ◌+◌, ◌-◌, ◌≤◌, ◌<◌, get_or, ℤ, pos}
use Rattle.std.proofs.Common.{sym, ap, ◌∙◌, subst, arith, add-one}
use Rattle.std.proofs.Math.Option.{Option}
use Rattle.model.specs.Limits.{variable_count}
use Rattle.model.specs.Signed.{is_zero}
use Rattle.model.specs.Save.{Save}
use Rattle.model.specs.Expr.{Expr, stop, eval}
use Rattle.model.specs.Script.{Command, set_variable, if_else, Block}
use Rattle.model.specs.Run.{Outcome, next, halt, follow, store, or_halt, execute, step}
use Rattle.model.specs.Memory.{coded_in, command_in, commands_in, link_in}
use Rattle.lanes_model.specs.Flat.{part}
use Rattle.lanes_model.specs.Lanes.{moved}
use Rattle.lanes_expr.specs.Lanes.{lane_value, first_stop, Valued}
use Rattle.memory.specs.RecordLaws.{next_command}
use Rattle.std.specs.Prelude as code
use Rattle.std.specs.Prelude.{Some, None}
use Rattle.lanes_block.specs.declared.Way.{Way}
use Rattle.lanes_block.specs.declared.Exit.{Exit}
use Rattle.lanes_block.specs.Ways.{KeptParts, carry, goes, way_of, leave, followed, forked, chosen, same_way, stored_part, Worth, StoredAll, onward, Flows, Does, Leaves, state_of, Settled, Visited}
use Rattle.lanes_block.specs.Laws.{parts_same, parts_on}

-- ---- one lane

carry_as : (r : ℕ) (v : List ℤ) (f g : List ℤ → Outcome) → f v ≡ g v → carry r v f ≡ carry r v g
carry_as zero v f g e = e
carry_as (suc r) v f g e = refl

-- a value that is a refusal names it
stopped : (r : ℕ) (x : ℤ) (n : ℕ) → lane_value r x ≡ stop (suc n) → r ≡ suc n
stopped zero x n e = absurd (let z : ◌≡◌ {A = ℕ} 0 1 = cc in omega arith)
stopped (suc m) x n e = cc

module _ (s : Save) (nx : Option ℕ) (v : List ℤ) where
  module _ (t e : Expr) (k x z : ℤ) where
    -- a lane that stopped before keeps its variables through the Set
    set_stopped : (n r₁ r₂ : ℕ) → lane_value r₁ k ≡ stop (suc n) → lane_value r₂ x ≡ first_stop r₁ (eval s v e) → (cs : List Command) → halt (suc n) v ≡ carry r₂ (stored_part r₂ v k x) (execute s nx cs)
    set_stopped n r₁ r₂ p q cs =
        let a = stopped r₁ k n p in
        let b = stopped r₂ x n (q ∙ ap (λ r. first_stop r (eval s v e)) a) in
        rw b refl

    set_value : (r₂ : ℕ) → lane_value r₂ x ≡ eval s v e → (cs : List Command) → or_halt (eval s v e) v (λ y. execute s nx cs (store v k y)) ≡ carry r₂ (stored_part r₂ v k x) (execute s nx cs)
    set_value zero q cs = rw (← q) refl
    set_value (suc m) q cs = rw (← q) refl

    set_target : (r₁ r₂ : ℕ) → lane_value r₁ k ≡ eval s v t → lane_value r₂ x ≡ first_stop r₁ (eval s v e) → (cs : List Command) → execute s nx (set_variable t e ∷ cs) v ≡ carry r₂ (stored_part r₂ v k x) (execute s nx cs)
    set_target zero r₂ p q cs = ap (λ a. or_halt a v (λ j. or_halt (eval s v e) v (λ y. execute s nx cs (store v j y)))) (sym p) ∙ set_value r₂ q cs
    set_target (suc m) r₂ p q cs = ap (λ a. or_halt a v (λ j. or_halt (eval s v e) v (λ y. execute s nx cs (store v j y)))) (sym p) ∙ set_stopped m (suc m) r₂ refl q cs

    set_flows : (r r₁ r₂ : ℕ) (v' : List ℤ) → lane_value r₁ k ≡ first_stop r (eval s v t) → lane_value r₂ x ≡ first_stop r₁ (eval s v e) → v' ≡ stored_part r₂ v k x → Flows s nx (set_variable t e) r v None z r₂ v'
    set_flows zero r₁ r₂ v' p q w = record { is = λ cs. set_target r₁ r₂ p q cs ∙ ap (λ u. carry r₂ u (execute s nx cs)) (sym w) }
    set_flows (suc n) r₁ r₂ v' p q w = record { is = λ cs. set_stopped n r₁ r₂ p q cs ∙ ap (λ u. carry r₂ u (execute s nx cs)) (sym w) }

  follow_way : (n : ℕ) → way_of (followed n) v ≡ follow (link_in n) v
  follow_way zero = refl
  follow_way (suc k) = refl

  -- the exit of an If that leads to block k, or by its block's link
  abbrev if_exit : ℕ → ℕ → Exit
  if_exit n k = record { then = followed n; otherwise = record { word = k + 1; answer = 0 } }

  if_leaves : (n k : ℕ) (z : ℤ) → cond (is_zero z) (next k v) (follow (link_in n) v) ≡ leave (if_exit n k) z v
  if_leaves n k z = rw (add-one k, follow_way n) refl

same_leaves : (k r : ℕ) (z : ℤ) (v : List ℤ) → leave (same_way k r) z v ≡ goes k r v
same_leaves k r z v = by (is_zero z)
  where
    by : (b : Bool) → cond b (goes k r v) (goes k r v) ≡ goes k r v
    by true = refl
    by false = refl

if_flows : (s : Save) (v : List ℤ) (c : Expr) (n k r r' : ℕ) (z : ℤ) → lane_value r' z ≡ first_stop r (eval s v c)
    → Flows s (link_in n) (if_else c k) r v (Some (forked n (k + 1))) z r' v
if_flows s v c n k zero zero z p =
    record { is = λ cs. ap (λ a. or_halt a v (λ x. cond (is_zero x) (next k v) (follow (link_in n) v))) (sym p) ∙ if_leaves s (link_in n) v n k z }
if_flows s v c n k zero (suc m) z p = record { is = λ cs. ap (λ a. or_halt a v (λ x. cond (is_zero x) (next k v) (follow (link_in n) v))) (sym p) }
if_flows s v c n k (suc j) r' z p = record { is = λ cs. rw (stopped r' z j p) refl }

-- ---- all lanes

-- evaluated, with the values in an array
pub valued_worth : {save : ℕ → Save} {ls : List ℕ} {s : ℕ} {vs : List ℤ} {e : Expr} {rs rs' : List ℕ} {xs : List ℤ} → Valued s (λ j. eval (save (get_or ls j 0)) (part variable_count (get_or ls j 0) vs) e) rs rs' xs → Worth save ls s vs e rs rs' (λ j. get_or xs j (pos 0))
valued_worth p = record { is = p.is }

module _ {save : ℕ → Save} {nx : Option ℕ} {ls : List ℕ} {s : ℕ} {vs : List ℤ} {rs : List ℕ} where
  pub does_as : {f : code.Option Exit} {vs' xs' : List ℤ} {rs' : List ℕ} (x y : Command) → x ≡ y → Does save nx y ls s vs rs f vs' xs' rs' → Does save nx x ls s vs rs f vs' xs' rs'
  does_as {f} {vs'} {xs'} {rs'} x y e d = subst (λ z. Does save nx z ls s vs rs f vs' xs' rs') (sym e) d

  pub set_does : {t e : Expr} {ks xs : ℕ → ℤ} {zs vs' : List ℤ} {rs₁ rs₂ : List ℕ} → Worth save ls s vs t rs rs₁ ks → Worth save ls s vs e rs₁ rs₂ xs → StoredAll ls ks xs rs₂ vs s vs'
      → Does save nx (set_variable t e) ls s vs rs None vs' zs rs₂
  set_does {t} {e} {ks} {xs} {zs} {vs'} {rs₁} {rs₂} p q w = record {
    kept = w.kept;
    each = λ j h. set_flows (save (get_or ls j 0)) nx (part variable_count (get_or ls j 0) vs) t e (ks j) (xs j) (get_or zs j (pos 0)) (get_or rs j 0) (get_or rs₁ j 0) (get_or rs₂ j 0) (part variable_count (get_or ls j 0) vs') (p.is j h) (q.is j h) (w.each j h);
  }

  -- a command that leads all lanes out of the block the same way
  pub out_does : {x : Command} {k r : ℕ} {xs : List ℤ} → ((t : Save) (v : List ℤ) (cs : List Command) → execute t nx (x ∷ cs) v ≡ goes k r v) → Does save nx x ls s vs rs (Some (same_way k r)) vs xs rs
  out_does {x} {k} {r} {xs} f = record {
    kept = parts_same ls s vs;
    each = λ j h. record { is = λ cs. carry_as (get_or rs j 0) (part variable_count (get_or ls j 0) vs) _ _ (f (save (get_or ls j 0)) (part variable_count (get_or ls j 0) vs) cs ∙ sym (same_leaves k r (get_or xs j (pos 0)) (part variable_count (get_or ls j 0) vs))) };
  }

pub goto_way : (k b : ℕ) (v : List ℤ) → k ≡ b + 1 → next b v ≡ goes k 0 v
goto_way k b v q = rw (q, add-one b)

-- the exit as the code has it
pub does_out : {save : ℕ → Save} {nx : Option ℕ} {x : Command} {ls : List ℕ} {s : ℕ} {vs : List ℤ} {rs : List ℕ} {e e' : Exit} {vs' xs' : List ℤ} {rs' : List ℕ}
    → e' ≡ e → Does save nx x ls s vs rs (Some e) vs' xs' rs' → Does save nx x ls s vs rs (Some e') vs' xs' rs'
does_out {save} {nx} {x} {ls} {s} {vs} {rs} {e} {e'} {vs'} {xs'} {rs'} q d = subst (λ z. Does save nx x ls s vs rs (Some z) vs' xs' rs') (sym q) d

pub if_does : (n : ℕ) {save : ℕ → Save} {ls : List ℕ} {s : ℕ} {vs : List ℤ} {rs rs' : List ℕ} {c : Expr} {k : ℕ} {xs : List ℤ}
    → Valued s (λ j. eval (save (get_or ls j 0)) (part variable_count (get_or ls j 0) vs) c) rs rs' xs
    → Does save (link_in n) (if_else c k) ls s vs rs (Some (forked n (k + 1))) vs xs rs'
if_does n {save} {ls} {s} {vs} {rs} {rs'} {c} {k} {xs} p = record {
  kept = parts_same ls s vs;
  each = λ j h. if_flows (save (get_or ls j 0)) (part variable_count (get_or ls j 0) vs) c n k (get_or rs j 0) (get_or rs' j 0) (get_or xs j (pos 0)) (p.is j h);
}

-- ---- the commands of a block

-- i commands were passed
pub record Passed (save : ℕ → Save) (nx : Option ℕ) (ws : List ℕ) (val : List ℤ) (cw : List ℕ) (first many : ℕ) (ls : List ℕ) (s : ℕ) (vs : List ℤ) (rs : List ℕ) (vs' : List ℤ) (rs' : List ℕ) (i : ℕ) : Type 0 where
  pub low : i ≤ many
  pub kept : KeptParts ls s vs vs'
  pub each : (d e j : ℕ) → j < s → carry (get_or rs j 0) (part variable_count (get_or ls j 0) vs) (execute (save (get_or ls j 0)) nx (commands_in (coded_in ws val cw d e) many first))
      ≡ carry (get_or rs' j 0) (part variable_count (get_or ls j 0) vs') (execute (save (get_or ls j 0)) nx (commands_in (coded_in ws val cw d e) (many - i) (first + i)))

module _ (save : ℕ → Save) (nx : Option ℕ) (ws : List ℕ) (val : List ℤ) (cw : List ℕ) (first many : ℕ) (ls : List ℕ) (s : ℕ) (vs : List ℤ) (rs : List ℕ) where
  pub none_passed : Passed save nx ws val cw first many ls s vs rs vs rs 0
  none_passed =
      let y : many - 0 ≡ many = omega arith in
      let z : first + 0 ≡ first = omega arith in
      record { low = omega arith; kept = parts_same ls s vs; each = λ d e j h. rw (y, z) refl }

  module _ {vs' : List ℤ} {rs' : List ℕ} {i : ℕ} (p : Passed save nx ws val cw first many ls s vs rs vs' rs' i) where
    module _ (h : i < many) {f : code.Option Exit} {vs'' xs'' : List ℤ} {rs'' : List ℕ} (w : (d e : ℕ) → Does save nx (command_in (coded_in ws val cw d e) (first + i)) ls s vs' rs' f vs'' xs'' rs'') where
      passed_each : (d e j : ℕ) → j < s → carry (get_or rs j 0) (part variable_count (get_or ls j 0) vs) (execute (save (get_or ls j 0)) nx (commands_in (coded_in ws val cw d e) many first))
          ≡ carry (get_or rs'' j 0) (part variable_count (get_or ls j 0) vs'') (onward (save (get_or ls j 0)) nx (commands_in (coded_in ws val cw d e) (many - (i + 1)) (first + (i + 1))) f (get_or xs'' j (pos 0)))
      passed_each d e j l =
          p.each d e j l
          ∙ ap (λ cs. carry (get_or rs' j 0) (part variable_count (get_or ls j 0) vs') (execute (save (get_or ls j 0)) nx cs)) (next_command (coded_in ws val cw d e) many first i h)
          ∙ ((w d e).each j l).is (commands_in (coded_in ws val cw d e) (many - (i + 1)) (first + (i + 1)))

      pub one_passed : f ≡ None → Passed save nx ws val cw first many ls s vs rs vs'' rs'' (i + 1)
      one_passed q = record {
        low = omega arith;
        kept = parts_on p.kept (w 0 0).kept;
        each = λ d e j l. passed_each d e j l ∙ ap (λ g. carry (get_or rs'' j 0) (part variable_count (get_or ls j 0) vs'') (onward (save (get_or ls j 0)) nx (commands_in (coded_in ws val cw d e) (many - (i + 1)) (first + (i + 1))) g (get_or xs'' j (pos 0)))) q;
      }

      pub out_passed : {x : Exit} → f ≡ Some x → (d e : ℕ) → Leaves (λ t. execute t nx (commands_in (coded_in ws val cw d e) many first)) save ls s vs rs x vs'' xs'' rs''
      out_passed {x} q d e = record {
        kept = parts_on p.kept (w 0 0).kept;
        each = λ j l. passed_each d e j l ∙ ap (λ g. carry (get_or rs'' j 0) (part variable_count (get_or ls j 0) vs'') (onward (save (get_or ls j 0)) nx (commands_in (coded_in ws val cw d e) (many - (i + 1)) (first + (i + 1))) g (get_or xs'' j (pos 0)))) q;
      }

pub all_passed : (save : ℕ → Save) (n : ℕ) (ws : List ℕ) (val : List ℤ) (cw : List ℕ) (first many : ℕ) (ls : List ℕ) (s : ℕ) (vs : List ℤ) (rs : List ℕ) {vs' : List ℤ} {rs' : List ℕ} {i : ℕ}
    → Passed save (link_in n) ws val cw first many ls s vs rs vs' rs' i → many ≤ i → (w : Way) → w ≡ followed n → (xs' : List ℤ) (d e : ℕ)
    → Leaves (λ t. execute t (link_in n) (commands_in (coded_in ws val cw d e) many first)) save ls s vs rs (record { then = w; otherwise = w }) vs' xs' rs'
unfolding commands_in
all_passed save n ws val cw first many ls s vs rs {vs'} {rs'} {i} p h w q xs' d e =
    let y : many - i ≡ 0 = omega arith in
    record {
      kept = p.kept;
      each = λ j l.
          p.each d e j l
          ∙ ap (λ m. carry (get_or rs' j 0) (part variable_count (get_or ls j 0) vs') (execute (save (get_or ls j 0)) (link_in n) (commands_in (coded_in ws val cw d e) m (first + i)))) y
          ∙ carry_as (get_or rs' j 0) (part variable_count (get_or ls j 0) vs') _ _ (sym (follow_way (save (get_or ls j 0)) (link_in n) (part variable_count (get_or ls j 0) vs') n) ∙ ap (λ u. way_of u (part variable_count (get_or ls j 0) vs')) (sym q) ∙ sym (same_leaves w.word w.answer (get_or xs' j (pos 0)) (part variable_count (get_or ls j 0) vs')));
    }

-- ---- a block

pub leaves_as : {go go' : Save → List ℤ → Outcome} {save : ℕ → Save} {ls : List ℕ} {s : ℕ} {vs : List ℤ} {rs : List ℕ} {x : Exit} {vs' xs' : List ℤ} {rs' : List ℕ}
    → ((t : Save) (v : List ℤ) → go' t v ≡ go t v) → Leaves go save ls s vs rs x vs' xs' rs' → Leaves go' save ls s vs rs x vs' xs' rs'
leaves_as {go} {go'} {save} {ls} {s} {vs} {rs} f p = record {
  kept = p.kept;
  each = λ j h. carry_as (get_or rs j 0) (part variable_count (get_or ls j 0) vs) (go' (save (get_or ls j 0))) (go (save (get_or ls j 0))) (f (save (get_or ls j 0)) (part variable_count (get_or ls j 0) vs)) ∙ p.each j h;
}

-- a block that stops every lane with r
pub stop_leaves : {go : Save → List ℤ → Outcome} {save : ℕ → Save} {ls : List ℕ} {s : ℕ} {vs : List ℤ} {rs : List ℕ} {xs : List ℤ} {k r : ℕ}
    → ((t : Save) (v : List ℤ) → go t v ≡ goes k r v) → Leaves go save ls s vs rs (same_way k r) vs xs rs
stop_leaves {go} {save} {ls} {s} {vs} {rs} {xs} {k} {r} f = record {
  kept = parts_same ls s vs;
  each = λ j h. carry_as (get_or rs j 0) (part variable_count (get_or ls j 0) vs) (go (save (get_or ls j 0))) (leave (same_way k r) (get_or xs j (pos 0))) (f (save (get_or ls j 0)) (part variable_count (get_or ls j 0) vs) ∙ sym (same_leaves k r (get_or xs j (pos 0)) (part variable_count (get_or ls j 0) vs)));
}

pub leaves_out : {go : Save → List ℤ → Outcome} {save : ℕ → Save} {ls : List ℕ} {s : ℕ} {vs : List ℤ} {rs : List ℕ} {x x' : Exit} {vs' xs' : List ℤ} {rs' : List ℕ}
    → x' ≡ x → Leaves go save ls s vs rs x vs' xs' rs' → Leaves go save ls s vs rs x' vs' xs' rs'
leaves_out {go} {save} {ls} {s} {vs} {rs} {x} {x'} {vs'} {xs'} {rs'} q p = subst (λ z. Leaves go save ls s vs rs z vs' xs' rs') (sym q) p

-- ---- the lanes after the block

way_state : (k r n : ℕ) (v : List ℤ) → state_of k r n v ≡ moved (goes k r v) n
way_state zero zero n v = refl
way_state zero (suc r) n v = refl
way_state (suc k) r n v = refl

chosen_way : (e : Exit) (z : ℤ) (r : ℕ) (v : List ℤ) → way_of (chosen e z r) v ≡ carry r v (leave e z)
chosen_way e z zero v = by (is_zero z)
  where
    by : (b : Bool) → way_of (cond b e.otherwise e.then) v ≡ cond b (way_of e.otherwise v) (way_of e.then v)
    by true = refl
    by false = refl
chosen_way e z (suc r) v = refl

pub visited : {save : ℕ → Save} {bs : List Block} {b : ℕ} {ls : List ℕ} {s : ℕ} {ps qs es ps' qs' es' : List ℕ} {vs vs' xs : List ℤ} {rs rs' : List ℕ} {x : Exit}
    → ((j : ℕ) → j < s → get_or rs j 0 ≡ 0) → Leaves (λ t. step bs t b) save ls s vs rs x vs' xs rs' → Settled ls x xs rs' s ps qs es ps' qs' es'
    → Visited save bs b ls s ps qs es vs ps' qs' es' vs'
visited {save} {bs} {b} {ls} {s} {ps} {qs} {es} {ps'} {qs'} {es'} {vs} {vs'} {xs} {rs} {rs'} {x} z p w = record {
  each = λ j h.
      let l : ℕ = get_or ls j 0 in
      let v : List ℤ = part variable_count l vs' in
      let u : Way = chosen x (get_or xs j (pos 0)) (get_or rs' j 0) in
      rw (w.blocks.each j h, w.answers.each j h, w.counts.each j h, add-one (get_or es l 0))
      (way_state u.word u.answer (suc (get_or es l 0)) v
      ∙ ap (λ o. moved o (suc (get_or es l 0))) (chosen_way x (get_or xs j (pos 0)) (get_or rs' j 0) v ∙ sym (p.each j h) ∙ ap (λ r. carry r (part variable_count l vs) (step bs (save l) b)) (z j h)));
  raised = λ j h. w.counts.each j h;
  blocks = w.blocks.kept;
  answers = w.answers.kept;
  counts = w.counts.kept;
  variables = p.kept;
}
