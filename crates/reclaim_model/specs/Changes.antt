-- Lists that mix compiles and reclaims, on scripts as trees with the mark of each block and the count of accepted compiles (02, A.2 and A.4). Assumes nothing: these are definitions.
use Rattle.std.specs.Prelude.{Bool, false, cond, List, [], ◌++◌, ℕ, eqb, get_or, length, replicate}
use Rattle.std.proofs.Math.Option.{Option, some}
use Rattle.model.specs.Sheet.{Sheet}
use Rattle.model.specs.Shop.{Slot, with_slots}
use Rattle.model.specs.Script.{Script}
use Rattle.model.specs.Judge.{counted, script_refusal}
use Rattle.model.specs.Compile.{Call, appended, compile_checks, fresh_blocks}
use Rattle.model.specs.Lists.{Step}
use Rattle.model.specs.RecordCalls.{one_compile}
use Rattle.reclaim_model.specs.Reclaim.{kept_blocks, new_number, reached, reclaim_checks, survivors}

-- a script with the birth mark of each block and the count of its accepted compiles, as `Born` is for a record
pub record BornScript : Type 0 where
  pub script : Script
  pub births : List ℕ
  pub compiles : ℕ

abbrev pub birth_at : BornScript → ℕ → ℕ
birth_at k b = get_or k.births b 0

-- ---- a compile (02, A.2)

unfoldable pub compile_refusal_born : Sheet → BornScript → Call → ℕ
compile_refusal_born h k c = compile_checks h (script_refusal k.script) (birth_at k c.setup) k.script c

unfoldable pub appended_born : Sheet → BornScript → Call → BornScript
appended_born h k c = record {
  script = appended h k.script c;
  births = k.births ++ replicate (length (fresh_blocks h k.script c)) (one_compile k.compiles);
  compiles = one_compile k.compiles;
}

unfoldable pub compiled_born : Sheet → BornScript → Call → BornScript
compiled_born h k c = cond (eqb (compile_refusal_born h k c) 0) (appended_born h k c) k

-- ---- a reclaim

unfoldable pub reclaim_refusal : BornScript → List ℕ → ℕ
reclaim_refusal k rs = reclaim_checks (length k.script.blocks) (script_refusal k.script) rs

abbrev pub lives : BornScript → List ℕ → List Bool
lives k rs = reached k.script.blocks rs

-- "counts are taken afresh"; marks and the count of accepted compiles are kept
unfoldable pub kept_only : List Bool → BornScript → BornScript
kept_only ms k = record {
  script = counted (kept_blocks ms k.script.blocks);
  births = survivors ms k.births;
  compiles = k.compiles;
}

-- "a refused reclaim changes nothing"
unfoldable pub reclaimed : BornScript → List ℕ → BornScript
reclaimed k rs = cond (eqb (reclaim_refusal k rs) 0) (kept_only (lives k rs) k) k

-- ---- lists

-- "a list that mixes compiles and reclaims"
pub data Change : Type 0 where
  compile : Call → Change
  reclaim : List ℕ → Change

abbrev pub names_of : Change → ℕ → Bool
names_of (compile c) b = eqb c.setup b
names_of (reclaim rs) b = false

abbrev pub given_to : Change → List Slot
given_to (compile c) = with_slots c.shop
given_to (reclaim rs) = []

unfoldable pub change_refusal : Sheet → BornScript → Change → ℕ
change_refusal h k (compile c) = compile_refusal_born h k c
change_refusal h k (reclaim rs) = reclaim_refusal k rs

unfoldable pub changed : Sheet → BornScript → Change → BornScript
changed h k (compile c) = compiled_born h k c
changed h k (reclaim rs) = reclaimed k rs

-- an accepted reclaim tells for each block its new number or that it is gone; no other call moves a block
unfoldable pub number_after : BornScript → Change → ℕ → Option ℕ
number_after k (compile c) b = some b
number_after k (reclaim rs) b = cond (eqb (reclaim_refusal k rs) 0) (new_number (lives k rs) b) (some b)

abbrev pub changes : Sheet → Step BornScript Change
changes h = record {
  refusal = λ k x. change_refusal h k x;
  next = λ k x. changed h k x;
  names = names_of;
  given = given_to;
  count = λ k. length k.script.blocks;
  now = λ k x b. number_after k x b;
}
