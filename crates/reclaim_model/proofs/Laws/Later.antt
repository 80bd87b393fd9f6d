-- Lists of compiles and reclaims: a block of the end was one of the start, or the list appended it, and then it bears a mark other than 0 and passes the checks of a call. Assumes nothing.
use Rattle.std.specs.Prelude.{◌≡◌, true, ◌≢◌, ◌⊎◌, length}
use Rattle.std.proofs.Math.Path.{refl}
use Rattle.std.proofs.Common.{sym, ap, ◌∙◌, subst, inr, arith}
use Rattle.std.proofs.Math.Logic.{inl}
use Rattle.std.proofs.Math.Option.{Option, none, some}
use mathlib.Core.List.{List, [], ◌∷◌}
use Prim.Native.Nat.{ℕ, ◌≤◌, ◌<◌}
use Rattle.std.proofs.Math.Decide.{dec_le}
use Rattle.std.proofs.Math.ListN.{length-map}
use borrow.Author.Tests.{lt-ltb}
use Rattle.model.specs.Sheet.{Sheet}
use Rattle.model.specs.Shop.{Slot}
use Rattle.model.specs.Script.{placeholder, block_at, is_code}
use Rattle.model.specs.Judge.{call_refusal, script_refusal, shared_refusal}
use Rattle.model.specs.Compile.{Call}
use Rattle.model.specs.Lists.{after_all, following, latest, now_at}
use Rattle.model.proofs.Laws.Checks.{setup_code, setup_inside, shared_passed}
use Rattle.model.proofs.Laws.Compiled.{code_once}
use Rattle.model.proofs.Laws.Lists.{along_any, kept_all}
use Rattle.reclaim_model.specs.Rename.{rename_block}
use Rattle.reclaim_model.specs.Reclaim.{kept_blocks, new_number, rank, survivors}
use Rattle.reclaim_model.specs.Changes.{BornScript, birth_at, compile_refusal_born, appended_born, lives, kept_only, Change, changed, number_after, changes}
use Rattle.reclaim_model.proofs.Laws.Born.{Borne, passed_born, ordinal, appended_borne, birth_kept, birth_new, birth_left, grown}
use Rattle.reclaim_model.proofs.Laws.Reached.{mark_in, reached_long}
use Rattle.reclaim_model.proofs.Laws.Survivors.{left_from_lem}
use Rattle.reclaim_model.proofs.Laws.Survives.{checks_survive}
use Rattle.reclaim_model.proofs.Laws.Carried.{appended_judged}
use Rattle.reclaim_model.proofs.Laws.Mixed.{by_answer, borne_left, borne_once, survives}

-- block b was appended by a compile
pub record Later (h : Sheet) (k : BornScript) (b : ℕ) : Type 0 where
  pub born : birth_at k b ≢ 0
  pub passes : call_refusal h k.script b ≡ 0

-- ---- one call

module _ (h : Sheet) (k : BornScript) (c : Call) (z : compile_refusal_born h k c ≡ 0) where
  -- what is code after a compile passes
  code_passes : (j : ℕ) → (j < length k.script.blocks → is_code (block_at k.script.blocks j) ≡ true) → j < length (appended_born h k c).script.blocks
      → call_refusal h (appended_born h k c).script j ≡ 0
  code_passes j was l = passes (appended_judged h k c z) (code_appended l)
    where
      code_appended : j < length (appended_born h k c).script.blocks → is_code (block_at (appended_born h k c).script.blocks j) ≡ true
      code_appended l = unfold appended_born in code_once h k.script c j was l

      passes : script_refusal (appended_born h k c).script ≡ 0 → is_code (block_at (appended_born h k c).script.blocks j) ≡ true → call_refusal h (appended_born h k c).script j ≡ 0
      passes q t = unfold shared_refusal in rw ((passed_born h k c z).sheet, q, lt-ltb j (length (appended_born h k c).script.blocks) l, t) refl

  later_new : Borne k → (j : ℕ) → length k.script.blocks ≤ j → j < length (appended_born h k c).script.blocks → Later h (appended_born h k c) j
  later_new e j p l = record { born = λ q. ordinal k.compiles (sym (birth_new h k c e j p l) ∙ q); passes = code_passes j (λ u. absurd (omega arith)) l }

  later_kept : Borne k → (j : ℕ) → Later h k j → Later h (appended_born h k c) j
  later_kept e j p =
      let s = (shared_passed h (script_refusal k.script) k.script j p.passes).2 in
      let l = setup_inside k.script j s in
      record {
        born = λ q. p.born (sym (birth_kept h k c e j l) ∙ q);
        passes = code_passes j (λ u. setup_code k.script j s) (omega (arith, grown h k c));
      }

module _ (h : Sheet) where
  abbrev Stays : BornScript → ℕ → Option (List Slot) → Type 0
  Stays k b o = Borne k × Later h k b

  later_once : (k : BornScript) (x : Change) (b j : ℕ) (o : Option (List Slot)) → Unit {0} → number_after k x b ≡ some j → Stays k b o → Stays (changed h k x) j (latest (changes h) k x b o)
  later_once k x b j o u n p =
      by_answer h k (λ m number last. number b ≡ some j → Stays m j o)
      (λ n. let w : b ≡ j = cc in subst (λ (i : ℕ). Stays k i o) w p)
      (λ c z n. let w : b ≡ j = cc in subst (λ (i : ℕ). Stays (appended_born h k c) i o) w (appended_borne h k c p.0, later_kept h k c z p.0 b p.1))
      (λ rs z n.
      let s = survives (lives k rs) b j n in
      subst (λ (i : ℕ). Stays (kept_only (lives k rs) k) i o) s.1 (
        borne_left k rs p.0,
        record {
          born = λ q. p.1.born (sym (birth_left k rs p.0 b s.0) ∙ q);
          passes = checks_survive h k rs z b s.0 ∙ p.1.passes;
        },
      )) x n

-- ---- where a block comes from

-- what is block b' now was block `from` of k
record From (k : BornScript) (number : ℕ → Option ℕ) (b' : ℕ) : Type 0 where
  from : ℕ
  inside : from < length k.script.blocks
  now : number from ≡ some b'

module _ (h : Sheet) where
  abbrev Origin : BornScript → BornScript → (ℕ → Option ℕ) → ℕ → Type 0
  Origin k m number b' = From k number b' ⊎ Later h m b'

  module _ (k : BornScript) (e : Borne k) where
    origin_compile : (c : Call) → compile_refusal_born h k c ≡ 0 → (j : ℕ) → j < length (appended_born h k c).script.blocks → Dec (length k.script.blocks ≤ j) → Origin k (appended_born h k c) (λ b. some b) j
    origin_compile c z j l (yes p) = inr (later_new h k c z e j p l)
    origin_compile c z j l (no p) = inl (record { from = j; inside = omega arith; now = refl })

    origin_reclaim : (rs : List ℕ) (j : ℕ) → j < length (kept_only (lives k rs) k).script.blocks → From k (new_number (lives k rs)) j
    unfolding kept_only kept_blocks
    origin_reclaim rs j l =
        let bs = k.script.blocks in
        let ms = lives k rs in
        let o = left_from_lem ms bs placeholder j (reached_long bs rs) (omega (arith, length-map (survivors ms bs) (rename_block (rank ms)))) in
        record { from = o.from; inside = omega (arith, mark_in ms o.from o.lives, reached_long bs rs); now = rw o.lives (ap some o.number) }

    origin_once : (x : Change) (j : ℕ) → j < length (changed h k x).script.blocks → Origin k (changed h k x) (number_after k x) j
    origin_once =
        by_answer h k (λ m number last. (j : ℕ) → j < length m.script.blocks → Origin k m number j)
        (λ j l. inl (record { from = j; inside = l; now = refl }))
        (λ c z j l. origin_compile c z j l (dec_le (length k.script.blocks) j))
        (λ rs z j l. inl (origin_reclaim rs j l))

  origin_all : (xs : List Change) (k : BornScript) → Borne k → (b' : ℕ) → b' < length (after_all (changes h) k xs).script.blocks → Origin k (after_all (changes h) k xs) (now_at (changes h) k xs) b'
  unfolding after_all now_at
  origin_all [] k e b' l = inl (record { from = b'; inside = l; now = refl })
  origin_all (x ∷ xs) k e b' l = by (origin_all xs (changed h k x) (borne_once h k e x) b' l)
    where
      there : ℕ → Option ℕ
      there = now_at (changes h) (changed h k x) xs

      back : (w : From (changed h k x) there b') → Origin k (changed h k x) (number_after k x) w.from → Origin k (after_all (changes h) (changed h k x) xs) (λ b. following (number_after k x b) there) b'
      back w (inl v) = inl (record { from = v.from; inside = v.inside; now = ap (λ o. following o there) v.now ∙ w.now })
      back w (inr p) =
          inr (kept_all (changes h) (λ m y. Unit {0}) (Stays h) (later_once h) (changed h k x) xs (along_any (changes h) (changed h k x) xs) w.from b' none w.now (borne_once h k e x, p)).1

      by : Origin (changed h k x) (after_all (changes h) (changed h k x) xs) there b' → Origin k (after_all (changes h) (changed h k x) xs) (λ b. following (number_after k x b) there) b'
      by (inl w) = back w (origin_once k e x w.from w.inside)
      by (inr p) = inr p

  -- a block that was none of the start
  pub later_of : (k : BornScript) (xs : List Change) → Borne k → (b' : ℕ) → b' < length (after_all (changes h) k xs).script.blocks
      → ((b : ℕ) → b < length k.script.blocks → now_at (changes h) k xs b ≢ some b') → Later h (after_all (changes h) k xs) b'
  later_of k xs e b' l d = by (origin_all xs k e b' l)
    where
      by : Origin k (after_all (changes h) k xs) (now_at (changes h) k xs) b' → Later h (after_all (changes h) k xs) b'
      by (inl w) = absurd (d w.from w.inside w.now)
      by (inr p) = p
