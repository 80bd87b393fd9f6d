-- Answers with a refusal as a number, 0 being acceptance: no reason has that number. Assumes nothing.
use mathlib.Core.Path.{◌≡◌, refl, ◌∙◌}
use mathlib.Core.List.{List}
use Prim.Native.Nat.{ℕ, zero, suc}
use lib.IntN.{ℤ}
use Rattle.std.specs.Prelude.{Ok, Err}
use Rattle.model.specs.Memory.{Memory}
use Rattle.model.specs.Refusals.{refusal_number}
use Rattle.model.specs.declared.Refusal.{Refusal}
use Rattle.memory.specs.declared.Counts.{Counts}
use Rattle.image_read.specs.Outcome.{Outcome, nothing, outcome}
use Rattle.std.proofs.Common.{ap}
use Rattle.model.specs.Files.{Wrote}
use Rattle.model.specs.RecordCalls.{write_in}
use Rattle.image_write.specs.Call.{wrote, length_of, length_in}
use Rattle.model.specs.Refusals.{refuses}
use Rattle.capi.specs.Answers.{outcome_by, read_as}

by_refusal : (n : ℕ) (m : Memory) → (n ≡ 0 → ⊥) → outcome_by n m ≡ nothing n m
by_refusal zero m e = absurd (e refl)
by_refusal (suc n) m e = refl

module _ (ws : List ℕ) (vs : List ℤ) (cw bw : List ℕ) {o : Outcome} where
  pub read_fine : (k : Counts) → outcome (Ok k) ws vs cw bw ≡ o → read_as (record { refusal = 0; nodes = k.nodes; commands = k.commands; blocks = k.blocks; compiles = 0 }) ws vs cw bw ≡ o
  unfolding outcome read_as
  read_fine k p = p

  pub read_refused : (e : Refusal) → outcome (Err e) ws vs cw bw ≡ o → read_as (record { refusal = refusal_number e; nodes = 0; commands = 0; blocks = 0; compiles = 0 }) ws vs cw bw ≡ o
  unfolding outcome read_as
  read_refused e p = by_refusal _ _ (refuses e) ∙ p

none_of : (n : ℕ) (b : List ℕ) → (n ≡ 0 → ⊥) → 0 ≡ length_of n b
none_of zero b e = absurd (e refl)
none_of (suc n) b e = refl

pub length_refused : (m : Memory) (xs ys : List ℕ) (e : Refusal) → wrote (refusal_number e) ys ≡ write_in m xs → 0 ≡ length_in m xs
unfolding length_in
length_refused m xs ys e p = none_of _ _ (λ z. refuses e (ap (λ (w : Wrote). w.answer) p ∙ z))
