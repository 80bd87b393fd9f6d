-- Demand 3 on a script record in memory for lists that mix compiles and reclaims, on any content of the arrays, counts and marks (02, A.4). Assumes nothing.
use Rattle.std.proofs.Math.Path.{◌≡◌, refl, ap, fun_ext}
use Rattle.std.proofs.Common.{sym, ◌∙◌, subst}
use Rattle.std.specs.Prelude.{◌≢◌, length}
use Rattle.std.proofs.Math.Option.{Option, none, some}
use mathlib.Core.List.{List, [], ◌∷◌}
use Prim.Native.Nat.{ℕ, zero, suc, ◌<◌}
use native.Mathlib.Omega.{arith}
use borrow.Author.Tests.{ne_eqb}
use Rattle.model.specs.Refusal.{accepted}
use Rattle.model.specs.Save.{Save}
use Rattle.model.specs.Sheet.{Sheet}
use Rattle.model.specs.Shop.{Slot}
use Rattle.model.specs.Flags.{flag_answer, until_outside}
use Rattle.model.specs.Script.{Block, block_at}
use Rattle.model.specs.Reading.{Answer, got, refused, refusal_of}
use Rattle.model.specs.Memory.{block_in}
use Rattle.model.specs.Record.{judged_record}
use Rattle.model.specs.RecordCalls.{Born, born_at, record_refusal, run_in}
use Rattle.model.specs.Run.{run_call}
use Rattle.model.specs.Lists.{after_all, last_at, last_from, now_at}
use Rattle.model.proofs.Demand.{RunsAs}
use Rattle.model.proofs.Laws.Lists.{Followed, none≢some}
use Rattle.model.proofs.Laws.Refused.{Proper}
use Rattle.memory.specs.RecordLaws.{proper_record}
use Rattle.reclaim_model.specs.Rename.{links_of}
use Rattle.reclaim_model.specs.Changes.{BornScript, Change, compile, reclaim, changes}
use Rattle.reclaim_model.proofs.Demand.{Demand3Mixed, demand_3_mixed}
use Rattle.reclaim_model.proofs.Laws.Mixed.{birth_all, carried_all_lem}
use Rattle.reclaim_model.proofs.Laws.Others.{AsWas}
use Rattle.reclaim_model.proofs.Laws.Renames.{every_all, rename_same}
use Rattle.reclaim_record.specs.Calls.{change_refusal_in, changed_in, changes_in, number_after_in}
use Rattle.reclaim_record.proofs.Checks.{refused_stays, was_judged}
use Rattle.reclaim_record.proofs.Compiles.{compile_stays, later_refused, passed_in}
use Rattle.reclaim_record.proofs.Stands.{LongBorn, Stands, birth_same, block_same, borne, born_script, count_same, followed, judged_stands, parse_same, refusal_same, run_same}
use Rattle.reclaim_record.specs.Demand.{Demand3MixedIn}

-- ---- from a judged record

module _ (h : Sheet) (k : Born) (m : BornScript) (st : Stands k m) (xs : List Change) where
  abbrev end : Born
  end = after_all (changes_in h) k xs

  abbrev fin : BornScript
  fin = after_all (changes h) m xs

  ends : Followed (changes_in h) (changes h) Stands k m xs xs
  ends = followed h k m st xs

  n : k.memory.count ≡ length m.script.blocks
  n = count_same k m st

  n' : (after_all (changes_in h) k xs).memory.count ≡ length (after_all (changes h) m xs).script.blocks
  n' = count_same end fin ends.after

  whole : Demand3Mixed h m xs
  whole = demand_3_mixed h m xs (borne k m st)

  now_is : (b b' : ℕ) → now_at (changes_in h) k xs b ≡ some b' → now_at (changes h) m xs b ≡ some b'
  now_is b b' e = sym (ends.now b) ∙ e

  -- a survivor is a block
  inside : (b b' : ℕ) → b < k.memory.count → now_at (changes_in h) k xs b ≡ some b' → b' < length (after_all (changes h) m xs).script.blocks
  inside b b' l e = (birth_all h m xs (borne k m st) b b' (omega (arith, n)) (now_is b b' e)).0

  run_kept : (s : Save) (a : ℕ) (ys : List Slot) (b : ℕ) → RunsAs h s a ys (λ budget. run_call h (after_all (changes h) m xs).script b s budget)
      → RunsAs h s a ys (λ budget. run_in h (after_all (changes_in h) k xs).memory b s budget)
  run_kept s a ys b r = subst (RunsAs h s a ys) (fun_ext (λ budget. sym (run_same end fin ends.after h b s budget))) r

  judged_demand : Demand3MixedIn h k xs
  judged_demand = record {
    runs = λ b b' ys e l p s g. run_kept s accepted ys b' (whole.runs b b' ys (now_is b b' e) (sym (ends.last none b) ∙ l) p s g);
    ends = λ b b' ys e l s g. run_kept s (flag_answer ys) (until_outside ys) b' (whole.ends b b' ys (now_is b b' e) (sym (ends.last none b) ∙ l) s g);
    parses = λ b b' ys e l. parse_same end fin ends.after h b' ∙ whole.parses b b' ys (now_is b b' e) (sym (ends.last none b) ∙ l);
    given = λ b b' ys e l.
        let a = (carried_all_lem h m xs (borne k m st) b b' ys (now_is b b' e) (sym (ends.last none b) ∙ l)).shop in
        record { sheet = a.sheet; twenty = a.twenty; ok = a.ok };
    others = λ b b' l e q.
        rw (block_same k m st b l, block_same end fin ends.after b' (omega (arith, n', inside b b' l e)))
        (subst (λ (number : ℕ → Option ℕ). AsWas number (block_at m.script.blocks b) (block_at fin.script.blocks b')) (fun_ext (λ j. sym (ends.now j)))
        (whole.others b b' (omega (arith, n)) (now_is b b' e) (sym (ends.last none b) ∙ q)));
    births = λ b b' l e.
        birth_same end fin ends.after b' (inside b b' l e) ∙ whole.births b b' (omega (arith, n)) (now_is b b' e) ∙ sym (birth_same k m st b (omega (arith, n)));
    later = λ c l d.
        let p = whole.later c (omega (arith, n')) (λ b i e. d b (omega (arith, n)) (ends.now b ∙ e)) in
        ((λ e. p.0 (sym (birth_same end fin ends.after c.setup (omega (arith, n'))) ∙ e)), refusal_same end fin ends.after h c ∙ p.1);
    marked = λ c d. later_refused h end c d;
  }

-- ---- a record that is refused stays as it is: no call on it is accepted

module _ (h : Sheet) (k : Born) (e : ℕ) (bad : judged_record k.memory ≡ refused (suc e)) where
  never : (x : Change) → change_refusal_in h k x ≢ 0
  unfolding change_refusal_in
  never (compile c) p = let z : record_refusal k.memory ≡ suc e = ap refusal_of bad in omega (arith, (passed_in h k c p).judged, z)
  never (reclaim rs) p = let a = was_judged k rs p in let z : ◌≡◌ {A = ℕ} 0 (suc e) = ap refusal_of (sym a.was ∙ bad) in omega arith

  stays : (x : Change) → changed_in h k x ≡ k
  unfolding changed_in change_refusal_in
  stays (compile c) = compile_stays h k c (never (compile c))
  stays (reclaim rs) = (refused_stays k rs (never (reclaim rs))).record_is

  number_stays : (x : Change) (b : ℕ) → number_after_in k x b ≡ some b
  unfolding number_after_in change_refusal_in
  number_stays (compile c) b = refl
  number_stays (reclaim rs) b = (refused_stays k rs (never (reclaim rs))).number b

  pub record Unmoved (xs : List Change) : Type 0 where
    pub after : after_all (changes_in h) k xs ≡ k
    pub now : (b : ℕ) → now_at (changes_in h) k xs b ≡ some b
    pub last : (b : ℕ) → last_at (changes_in h) k xs b ≡ none

  pub unmoved : (xs : List Change) → Unmoved xs
  unfolding after_all now_at last_from
  unmoved [] = record { after = refl; now = λ b. refl; last = λ b. refl }
  unmoved (x ∷ xs) =
      let u = unmoved xs in
      record {
        after = rw (stays x) u.after;
        now = λ b. rw (number_stays x b, stays x) (u.now b);
        last = λ b. rw (number_stays x b, ne_eqb (change_refusal_in h k x) 0 (never x), stays x) (u.last b);
      }

  refused_demand : (xs : List Change) → Demand3MixedIn h k xs
  refused_demand xs = record {
    runs = λ b b' ys n l p s g. absurd (none≢some (sym (u.last b) ∙ l));
    ends = λ b b' ys n l s g. absurd (none≢some (sym (u.last b) ∙ l));
    parses = λ b b' ys n l. absurd (none≢some (sym (u.last b) ∙ l));
    given = λ b b' ys n l. absurd (none≢some (sym (u.last b) ∙ l));
    others = λ b b' l n q.
        let w = same b b' n in
        record {
          follow = λ j. j;
          same = ap (λ (t : Born). block_in t.memory b') u.after ∙ ap (block_in k.memory) (sym w) ∙ sym (rename_same (block_in k.memory b));
          links = every_all (λ j. now_at (changes_in h) k xs j ≡ some j) u.now (links_of (block_in k.memory b));
        };
    births = λ b b' l n. ap (λ (t : Born). born_at t b') u.after ∙ ap (born_at k) (sym (same b b' n));
    later = λ c l d. absurd (d c.setup (rw u.after at l) (u.now c.setup));
    marked = λ c d. later_refused h (after_all (changes_in h) k xs) c d;
  }
    where
      u : Unmoved xs
      u = unmoved xs

      same : (b b' : ℕ) → now_at (changes_in h) k xs b ≡ some b' → b ≡ b'
      same b b' n = let z : some b ≡ some b' = sym (u.now b) ∙ n in cc

-- demand 3 for every record whose arrays have the lengths of the lent ones, whatever they hold
pub demand_3_mixed_in : (h : Sheet) (k : Born) → LongBorn k → (xs : List Change) → Demand3MixedIn h k xs
demand_3_mixed_in h k long xs = by (judged_record k.memory) refl (proper_record k.memory)
  where
    by : (a : Answer (List Block)) → judged_record k.memory ≡ a → Proper a → Demand3MixedIn h k xs
    by (got bs r) e p = judged_demand h k (born_script k) (judged_stands k long bs r e) xs
    by (refused zero) e p = absurd (omega arith)
    by (refused (suc n)) e p = refused_demand h k n e xs
