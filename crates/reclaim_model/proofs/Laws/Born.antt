-- Birth marks on trees (02, A.2): what an accepted compile passed, the marks that it leaves, and that one at a block whose mark is not 0 is refused. Assumes nothing.
use Rattle.std.specs.Prelude.{◌≡◌, refl, Bool, true, false, cond, ◌≢◌, List, [], ◌∷◌, ℕ, zero, suc, ◌+◌, ◌-◌, ◌≤◌, ◌<◌, ltb, get_or, replicate}
use Rattle.std.proofs.Math.Path.{sym}
use Rattle.std.proofs.Common.{ap, ◌∙◌, get_or-append-add, ne_eqb}
use native.Mathlib.Omega.{arith}
use Rattle.std.proofs.Math.ListN.{length, length-append, length-replicate, get_or-replicate, get_or-append}
use Rattle.model.specs.Limits.{most_compiles}
use Rattle.model.specs.Refusal.{first_of, born_later}
use Rattle.model.specs.Sheet.{Sheet}
use Rattle.model.specs.Shop.{shop_refusal}
use Rattle.model.specs.Judge.{call_refusal, script_refusal}
use Rattle.model.specs.Compile.{Call, compile_checks, compile_refusal, fresh_blocks, room_refusal}
use Rattle.model.specs.RecordCalls.{one_compile}
use Rattle.model.proofs.Laws.Checks.{CompilePassed, compile_passed}
use Rattle.model.proofs.Laws.Compiled.{length_linked}
use Rattle.reclaim_model.specs.Changes.{BornScript, birth_at, compile_refusal_born, appended_born, compiled_born, lives, kept_only}
use Rattle.reclaim_model.specs.Reclaim.{rank}
use Rattle.reclaim_model.proofs.Laws.Reached.{reached_long}
use Rattle.reclaim_model.proofs.Laws.Survivors.{left_at}

-- the next ordinal is not 0
pub ordinal : (n : ℕ) → one_compile n ≢ 0
ordinal n = by (ltb n most_compiles)
  where
    by : (b : Bool) → cond b (suc n) most_compiles ≢ 0
    by true e = omega arith
    by false e = omega arith

-- no check behind 17 matters where it refuses
pub then_later : (a : ℕ) (ns : List ℕ) → first_of (a ∷ born_later ∷ ns) ≡ first_of (a ∷ born_later ∷ [])
then_later zero ns = refl
then_later (suc a) ns = refl

-- each block bears a mark
abbrev pub Borne : BornScript → Type 0
Borne k = length k.births ≡ length k.script.blocks

module _ (h : Sheet) (k : BornScript) (c : Call) where
  -- ---- accepted or refused

  pub passed_born : compile_refusal_born h k c ≡ 0 → CompilePassed h (script_refusal k.script) (birth_at k c.setup) k.script c
  unfolding compile_refusal_born
  passed_born e = compile_passed h (script_refusal k.script) (birth_at k c.setup) k.script c e

  -- accepted, the compile of document 01 accepts too
  pub accepted_plain : compile_refusal_born h k c ≡ 0 → compile_refusal h k.script c ≡ 0
  unfolding compile_refusal_born
  accepted_plain e = sym (ap (λ (n : ℕ). compile_checks h (script_refusal k.script) n k.script c) (passed_born e).born) ∙ e

  refused_is : compile_refusal_born h k c ≢ 0 → compiled_born h k c ≡ k
  unfolding compiled_born
  refused_is d = rw (ne_eqb (compile_refusal_born h k c) 0 d)

  -- at a block whose mark is not 0 the answer is that of 1 to 7, else 17, and nothing changes
  pub later_refused : birth_at k c.setup ≢ 0 → (compile_refusal_born h k c ≡ first_of (call_refusal h k.script c.setup ∷ born_later ∷ [])) × (compiled_born h k c ≡ k)
  unfolding compile_refusal_born compile_checks
  later_refused d = (
    rw (ne_eqb (birth_at k c.setup) 0 d)
        (then_later (call_refusal h k.script c.setup) (shop_refusal h c.shop ∷ room_refusal c.loader k.script (fresh_blocks h k.script c) ∷ [])),
    refused_is (λ z. d (passed_born z).born),
  )

  -- ---- what was appended

  pub grown : length (appended_born h k c).script.blocks ≡ length k.script.blocks + length (fresh_blocks h k.script c)
  unfolding appended_born
  grown = length_linked h k.script c

  pub appended_borne : Borne k → Borne (appended_born h k c)
  unfolding appended_born
  appended_borne e =
      let n = length (fresh_blocks h k.script c) in
      length-append k.births (replicate n (one_compile k.compiles)) ∙ omega (arith, length-replicate n (one_compile k.compiles), length_linked h k.script c)

  -- what was there keeps its mark
  pub birth_kept : Borne k → (j : ℕ) → j < length k.script.blocks → birth_at (appended_born h k c) j ≡ birth_at k j
  unfolding appended_born
  birth_kept e j l = get_or-append k.births _ 0 j (omega arith)

  -- what was appended bears the ordinal
  pub birth_new : Borne k → (j : ℕ) → length k.script.blocks ≤ j → j < length (appended_born h k c).script.blocks → birth_at (appended_born h k c) j ≡ one_compile k.compiles
  unfolding appended_born
  birth_new e j l u =
      let n = length (fresh_blocks h k.script c) in
      let i = j - length k.births in
      let w : j ≡ length k.births + i = omega arith in
      rw w (get_or-append-add k.births (replicate n (one_compile k.compiles)) i 0 ∙ get_or-replicate n i (one_compile k.compiles) 0 (omega (arith, length_linked h k.script c)))

-- ---- a reclaim

-- a survivor keeps its mark
pub birth_left : (k : BornScript) (rs : List ℕ) → Borne k → (b : ℕ) → get_or (lives k rs) b false ≡ true → birth_at (kept_only (lives k rs) k) (rank (lives k rs) b) ≡ birth_at k b
unfolding kept_only
birth_left k rs e b q = left_at (lives k rs) k.births 0 b (reached_long k.script.blocks rs ∙ sym e) q
