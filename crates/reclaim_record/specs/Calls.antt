-- A reclaim on a script record in memory with its marks, and lists of compiles and reclaims on it (02, A.4). Assumes nothing: these are definitions.
use Rattle.std.specs.Prelude.{Bool, cond, List, ℕ, eqb, take}
use Rattle.std.proofs.Math.Option.{Option, some}
use Rattle.std.proofs.lemmas.List.Edits.{sets}
use Rattle.model.specs.Sheet.{Sheet}
use Rattle.model.specs.Memory.{Memory, memory_in, script_of, put_blocks}
use Rattle.model.specs.Lists.{Step}
use Rattle.model.specs.RecordCalls.{Born, compile_refusal_in, compiled_in, record_refusal}
use Rattle.reclaim_model.specs.Reclaim.{kept_blocks, moved_words, new_number, reached, reclaim_checks, survivors}
use Rattle.reclaim_model.specs.Changes.{Change, compile, reclaim, given_to, names_of}

unfoldable pub reclaim_refusal_in : Born → List ℕ → ℕ
reclaim_refusal_in k rs = reclaim_checks k.memory.count (record_refusal k.memory) rs

abbrev pub lives_in : Born → List ℕ → List Bool
lives_in k rs = reached (script_of k.memory).blocks rs

-- the arrays as they stand, with nothing in them
abbrev pub emptied : Memory → Memory
emptied m = memory_in m.coded.nodes.words m.coded.nodes.values m.coded.words m.words 0 0 0

-- the survivors put from the start on, each expression as its tree, so that the counts are what the blocks hold; their marks likewise.
-- What lies past the new counts stays as it was
unfoldable pub kept_only_in : List Bool → Born → Born
kept_only_in ms k = record {
  memory = put_blocks (emptied k.memory) (kept_blocks ms (script_of k.memory).blocks);
  births = sets k.births 0 (survivors ms (take k.memory.count k.births));
  compiles = k.compiles;
}

-- "a refused reclaim changes nothing"
unfoldable pub reclaimed_in : Born → List ℕ → Born
reclaimed_in k rs = cond (eqb (reclaim_refusal_in k rs) 0) (kept_only_in (lives_in k rs) k) k

-- the array that tells for each old block its new number and 1, or 0; refused, it is what it was
unfoldable pub moved_in : Born → List ℕ → List ℕ → List ℕ
moved_in k rs moved = cond (eqb (reclaim_refusal_in k rs) 0) (moved_words (lives_in k rs)) moved

-- ---- lists of compiles and reclaims

unfoldable pub change_refusal_in : Sheet → Born → Change → ℕ
change_refusal_in h k (compile c) = compile_refusal_in h k c
change_refusal_in h k (reclaim rs) = reclaim_refusal_in k rs

unfoldable pub changed_in : Sheet → Born → Change → Born
changed_in h k (compile c) = compiled_in h k c
changed_in h k (reclaim rs) = reclaimed_in k rs

unfoldable pub number_after_in : Born → Change → ℕ → Option ℕ
number_after_in k (compile c) b = some b
number_after_in k (reclaim rs) b = cond (eqb (reclaim_refusal_in k rs) 0) (new_number (lives_in k rs) b) (some b)

abbrev pub changes_in : Sheet → Step Born Change
changes_in h = record {
  refusal = λ k x. change_refusal_in h k x;
  next = λ k x. changed_in h k x;
  names = names_of;
  given = given_to;
  count = λ k. k.memory.count;
  now = λ k x b. number_after_in k x b;
}
