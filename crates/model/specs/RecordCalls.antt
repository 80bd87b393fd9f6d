-- The calls on a script record in memory, with all their checks: those of a script, the record's own judgement in the place of 2 to 5 (01, Script and Refusals). Assumes nothing: these are definitions.
use Rattle.std.specs.Prelude.{cond, List, ℕ, suc, eqb, ltb, get_or, length, replicate}
use Rattle.std.proofs.lemmas.List.Edits.{sets}
use Rattle.model.specs.Limits.{most_compiles}
use Rattle.model.specs.Save.{Save}
use Rattle.model.specs.Sheet.{Sheet}
use Rattle.model.specs.Shop.{with_slots}
use Rattle.model.specs.Reading.{refusal_of}
use Rattle.model.specs.Judge.{shared_refusal}
use Rattle.model.specs.Memory.{Memory, script_of, put_blocks, redirect_in}
use Rattle.model.specs.Record.{judged_record}
use Rattle.model.specs.Files.{Wrote, write_checked}
use Rattle.model.specs.Compile.{Call, compile_checks, fresh_blocks, root_of}
use Rattle.model.specs.Run.{Ran, run_checked}
use Rattle.model.specs.Parse.{Parsed, parse_checked}

abbrev pub record_refusal : Memory → ℕ
record_refusal m = refusal_of (judged_record m)

unfoldable pub call_in : Sheet → Memory → ℕ → ℕ
call_in h m b = shared_refusal h (record_refusal m) (script_of m) b

-- ---- compile, which also takes where each block came from (02, A.2)

-- a script record with the birth mark of each place of a block, 0 if it was read or built at the start, else the ordinal of the accepted
-- compile that appended it, and with the count of its accepted compiles; marks past the block count mean nothing
pub record Born : Type 0 where
  pub memory : Memory
  pub births : List ℕ
  pub compiles : ℕ

abbrev pub born_at : Born → ℕ → ℕ
born_at k b = get_or k.births b 0

-- "at 4,294,967,295 it stays, and later compiles give that mark"
abbrev pub one_compile : ℕ → ℕ
one_compile n = cond (ltb n most_compiles) (suc n) most_compiles

unfoldable pub compile_refusal_in : Sheet → Born → Call → ℕ
compile_refusal_in h k c = compile_checks h (record_refusal k.memory) (born_at k c.setup) (script_of k.memory) c

-- the fresh blocks appended at the counts, the setup block emptied and linked to the root
abbrev pub appended_in : Sheet → Memory → Call → Memory
appended_in h m c = redirect_in (put_blocks m (fresh_blocks h (script_of m) c)) c.setup (root_of h (length (script_of m).blocks) 0 (with_slots c.shop))

-- each fresh block bears the new count; every other place, an emptied setup block's too, keeps its mark
abbrev pub births_after : Born → ℕ → List ℕ
births_after k n = sets k.births k.memory.count (replicate n (one_compile k.compiles))

-- refused, nothing changes
unfoldable pub compiled_in : Sheet → Born → Call → Born
compiled_in h k c =
    cond (eqb (compile_refusal_in h k c) 0)
    (record {
      memory = appended_in h k.memory c;
      births = births_after k (length (fresh_blocks h (script_of k.memory) c));
      compiles = one_compile k.compiles;
    })
    k

unfoldable pub run_in : Sheet → Memory → ℕ → Save → ℕ → Ran
run_in h m b s budget = run_checked h (record_refusal m) (script_of m) b s budget

unfoldable pub parse_in : Sheet → Memory → ℕ → Parsed
parse_in h m b = parse_checked h (record_refusal m) (script_of m) b

unfoldable pub write_in : Memory → List ℕ → Wrote
write_in m out = write_checked (record_refusal m) (script_of m) out
