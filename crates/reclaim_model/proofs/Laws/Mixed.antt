-- Lists of compiles and reclaims: a call is refused, appends or keeps only what the roots reach; the last shop accepted at a block is carried to its new number, and blocks of the start keep their marks. Assumes nothing.
use Rattle.std.specs.Prelude.{◌≡◌, Bool, ◌&&◌, List, [], ℕ, ◌<◌, get_or, length}
use Rattle.std.proofs.Math.Path.{refl}
use Rattle.std.proofs.Common.{sym, ◌∙◌, subst, arith, eqb-true}
use Rattle.std.proofs.Math.Bool.{true, false, cond}
use Rattle.std.proofs.Math.Option.{Option, none, some}
use Rattle.std.proofs.Math.Dec.{eqb}
use Rattle.std.proofs.lemmas.List.{length-map}
use Rattle.std.proofs.lemmas.Bool.{eqb-false}
use Rattle.model.specs.Sheet.{Sheet}
use Rattle.model.specs.Shop.{Slot, with_slots}
use Rattle.model.specs.Compile.{Call}
use Rattle.model.specs.Lists.{after_all, last_at, latest, now_at}
use Rattle.model.proofs.Laws.Lists.{along_any, kept_all, none≢some}
use Rattle.reclaim_model.specs.Rename.{rename_block}
use Rattle.reclaim_model.specs.Reclaim.{kept_blocks, new_number, rank, survivors}
use Rattle.reclaim_model.specs.Changes.{BornScript, birth_at, compile_refusal_born, appended_born, compiled_born, reclaim_refusal, lives, kept_only, reclaimed, Change, compile, reclaim, change_refusal, changed, number_after, changes}
use Rattle.reclaim_model.proofs.Laws.Born.{Borne, appended_borne, birth_kept, birth_left, grown}
use Rattle.reclaim_model.proofs.Laws.Reached.{reached_long}
use Rattle.reclaim_model.proofs.Laws.Survivors.{length_left}
use Rattle.reclaim_model.proofs.Laws.Reclaimed.{reclaim_passed, reclaim_numbered}
use Rattle.reclaim_model.proofs.Laws.Carried.{Carried, carried_compile, carried_reclaim, carried_fresh}

-- ---- one call

-- what a call leaves, the numbers that it gives and the shop accepted last at a block after it, where one was before
abbrev pub Left : Type 1
Left = BornScript → (ℕ → Option ℕ) → (ℕ → Option (List Slot) → Option (List Slot)) → Type 0

-- refused, it leaves all; accepted, a compile appends and a reclaim keeps only what the roots reach
module _ (h : Sheet) (k : BornScript) (P : Left) (refused : P k (λ b. some b) (λ b o. o))
    (appends : (c : Call) → compile_refusal_born h k c ≡ 0 → P (appended_born h k c) (λ b. some b) (λ b o. cond (eqb c.setup b) (some (with_slots c.shop)) o))
    (keeps : (rs : List ℕ) → reclaim_refusal k rs ≡ 0 → P (kept_only (lives k rs) k) (new_number (lives k rs)) (λ b o. o)) where
  pub by_answer : (x : Change) → P (changed h k x) (number_after k x) (latest (changes h) k x)
  unfolding changed number_after change_refusal compiled_born reclaimed
  by_answer (compile c) = by (eqb (compile_refusal_born h k c) 0) refl
    where
      by : (t : Bool) → eqb (compile_refusal_born h k c) 0 ≡ t → P (cond t (appended_born h k c) k) (λ b. some b) (λ b o. cond (t && eqb c.setup b) (some (with_slots c.shop)) o)
      by true e = appends c (eqb-true _ _ e)
      by false e = refused
  by_answer (reclaim rs) = by (eqb (reclaim_refusal k rs) 0) refl
    where
      by : (t : Bool) → eqb (reclaim_refusal k rs) 0 ≡ t → P (cond t (kept_only (lives k rs) k) k) (λ b. cond t (new_number (lives k rs) b) (some b)) (λ b o. cond (t && false) (some []) o)
      by true e = keeps rs (eqb-true _ _ e)
      by false e = refused

pub borne_left : (k : BornScript) (rs : List ℕ) → Borne k → Borne (kept_only (lives k rs) k)
unfolding kept_only kept_blocks
borne_left k rs e =
    let long = reached_long k.script.blocks rs in
    length_left (lives k rs) k.births (long ∙ sym e)
    ∙ sym (length_left (lives k rs) k.script.blocks long)
    ∙ sym (length-map (survivors (lives k rs) k.script.blocks) (rename_block (rank (lives k rs))))

-- a new number is that of a survivor
pub survives : (ms : List Bool) (b j : ℕ) → new_number ms b ≡ some j → (get_or ms b false ≡ true) × (rank ms b ≡ j)
survives ms b j e = by (get_or ms b false) refl e
  where
    by : (t : Bool) → get_or ms b false ≡ t → cond t (some (rank ms b)) none ≡ some j → (get_or ms b false ≡ true) × (rank ms b ≡ j)
    by true p q = (p, cc)
    by false p q = absurd (none≢some q)

-- ---- a list

module _ (h : Sheet) where
  pub borne_once : (k : BornScript) → Borne k → (x : Change) → Borne (changed h k x)
  borne_once k e x = by_answer h k (λ m number last. Borne m) e (λ c z. appended_borne h k c e) (λ rs z. borne_left k rs e) x

-- P of a block and the shop accepted last there: what a compile brings, and other compiles and reclaims keep, holds after any list
module _ (h : Sheet) (P : BornScript → ℕ → List Slot → Type 0)
    (fresh : (k : BornScript) (c : Call) → Borne k → compile_refusal_born h k c ≡ 0 → P (appended_born h k c) c.setup (with_slots c.shop))
    (compiles : (k : BornScript) (b : ℕ) (ys : List Slot) → Borne k → P k b ys → (c : Call) → compile_refusal_born h k c ≡ 0 → (c.setup ≡ b → ⊥) → P (appended_born h k c) b ys)
    (reclaims : (k : BornScript) (b : ℕ) (ys : List Slot) → Borne k → P k b ys → (rs : List ℕ) → get_or (lives k rs) b false ≡ true → P (kept_only (lives k rs) k) (rank (lives k rs) b) ys) where
  abbrev Standing : BornScript → ℕ → Option (List Slot) → Type 0
  Standing k b none = Unit {0}
  Standing k b (some ys) = P k b ys

  module _ (k : BornScript) (e : Borne k) (b : ℕ) where
    standing_compile : (c : Call) → compile_refusal_born h k c ≡ 0 → (o : Option (List Slot)) → Standing k b o
        → (t : Bool) → eqb c.setup b ≡ t → Standing (appended_born h k c) b (cond t (some (with_slots c.shop)) o)
    standing_compile c z o p true q = subst (λ (i : ℕ). P (appended_born h k c) i (with_slots c.shop)) (eqb-true c.setup b q) (fresh k c e z)
    standing_compile c z none p false q = tt
    standing_compile c z (some ys) p false q = compiles k b ys e p c z (eqb-false c.setup b q)

    standing_reclaim : (rs : List ℕ) (o : Option (List Slot)) (j : ℕ) → Standing k b o → (get_or (lives k rs) b false ≡ true) × (rank (lives k rs) b ≡ j) → Standing (kept_only (lives k rs) k) j o
    standing_reclaim rs none j p s = tt
    standing_reclaim rs (some ys) j p s = subst (λ (i : ℕ). P (kept_only (lives k rs) k) i ys) s.1 (reclaims k b ys e p rs s.0)

  abbrev Held : BornScript → ℕ → Option (List Slot) → Type 0
  Held k b o = Borne k × Standing k b o

  held_once : (k : BornScript) (x : Change) (b j : ℕ) (o : Option (List Slot)) → Unit {0} → number_after k x b ≡ some j → Held k b o → Held (changed h k x) j (latest (changes h) k x b o)
  held_once k x b j o u n p =
      by_answer h k (λ m number last. number b ≡ some j → Held m j (last b o))
      (λ n. let z : b ≡ j = cc in subst (λ (i : ℕ). Held k i o) z p)
      (λ c z n.
      let w : b ≡ j = cc in
      subst (λ (i : ℕ). Held (appended_born h k c) i (cond (eqb c.setup b) (some (with_slots c.shop)) o)) w
      (appended_borne h k c p.0, standing_compile k p.0 b c z o p.1 (eqb c.setup b) refl))
      (λ rs z n. (borne_left k rs p.0, standing_reclaim k p.0 b rs o j p.1 (survives (lives k rs) b j n))) x n

  pub stands_all : (k : BornScript) (xs : List Change) → Borne k → (b b' : ℕ) (ys : List Slot) → now_at (changes h) k xs b ≡ some b' → last_at (changes h) k xs b ≡ some ys → P (after_all (changes h) k xs) b' ys
  stands_all k xs e b b' ys n l =
      (subst (Held (after_all (changes h) k xs) b') l (kept_all (changes h) (λ m x. Unit {0}) Held held_once k xs (along_any (changes h) k xs) b b' none n (e, tt))).1

-- the shop accepted last at a block is carried there
pub carried_all_lem : (h : Sheet) (k : BornScript) (xs : List Change) → Borne k → (b b' : ℕ) (ys : List Slot) → now_at (changes h) k xs b ≡ some b' → last_at (changes h) k xs b ≡ some ys
    → Carried h (after_all (changes h) k xs) b' ys
carried_all_lem h =
    stands_all h (Carried h) (λ k c e z. carried_fresh h k c e z) (λ k b ys e p c z ne. carried_compile h k b ys e p c z ne) (λ k b ys e p rs s. carried_reclaim h k b ys e p rs s)

-- ---- marks

-- b is a block, and v its mark
abbrev Bears : ℕ → BornScript → ℕ → Option (List Slot) → Type 0
Bears v k b o = Borne k × (b < length k.script.blocks) × (birth_at k b ≡ v)

module _ (h : Sheet) (v : ℕ) where
  bears_once : (k : BornScript) (x : Change) (b j : ℕ) (o : Option (List Slot)) → Unit {0} → number_after k x b ≡ some j → Bears v k b o → Bears v (changed h k x) j (latest (changes h) k x b o)
  bears_once k x b j o u n p =
      by_answer h k (λ m number last. number b ≡ some j → Bears v m j o)
      (λ n. let z : b ≡ j = cc in subst (λ (i : ℕ). Bears v k i o) z p)
      (λ c z n.
      let w : b ≡ j = cc in
      let l = p.1 in
      subst (λ (i : ℕ). Bears v (appended_born h k c) i o) w (appended_borne h k c p.0, omega (arith, grown h k c), birth_kept h k c p.0 b p.1 ∙ p.2))
      (λ rs z n.
      let s = survives (lives k rs) b j n in
      subst (λ (i : ℕ). Bears v (kept_only (lives k rs) k) i o) s.1
      (borne_left k rs p.0, (reclaim_numbered k rs (reclaim_passed k rs z).judged).inside' b s.0, birth_left k rs p.0 b s.0 ∙ p.2)) x n

-- "survivors keep their birth marks", an emptied setup block too
pub birth_all : (h : Sheet) (k : BornScript) (xs : List Change) → Borne k → (b b' : ℕ) → b < length k.script.blocks → now_at (changes h) k xs b ≡ some b'
    → (b' < length (after_all (changes h) k xs).script.blocks) × (birth_at (after_all (changes h) k xs) b' ≡ birth_at k b)
birth_all h k xs e b b' l n =
    let p = kept_all (changes h) (λ m x. Unit {0}) (Bears (birth_at k b)) (bears_once h (birth_at k b)) k xs (along_any (changes h) k xs) b b' none n (e, l, refl) in
    (p.1, p.2)
