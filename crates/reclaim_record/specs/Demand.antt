-- Demand 3 on a script record in memory for lists that mix compiles and reclaims, on any content of the arrays, counts and marks (02, A.4). Assumes nothing.
use Rattle.std.proofs.Math.Path.{◌≡◌}
use Rattle.std.specs.Prelude.{true, ◌≢◌, length}
use Rattle.std.proofs.Math.Option.{none, some}
use mathlib.Core.List.{List, [], ◌∷◌}
use Prim.Native.Nat.{ℕ, ◌<◌}
use Rattle.model.specs.Limits.{slot_count}
use Rattle.model.specs.Refusal.{accepted, born_later, first_of}
use Rattle.model.specs.Save.{Save}
use Rattle.model.specs.Sheet.{Sheet, all, save_refusal, sheet_refusal}
use Rattle.model.specs.Shop.{Slot, slot_ok}
use Rattle.model.specs.Flags.{flag_answer, shop_inside, until_outside}
use Rattle.model.specs.Reading.{refused}
use Rattle.model.specs.Memory.{block_in}
use Rattle.model.specs.RecordCalls.{Born, born_at, call_in, compile_refusal_in, compiled_in, parse_in, run_in}
use Rattle.model.specs.Compile.{Call}
use Rattle.model.specs.Normal.{normal_shop}
use Rattle.model.specs.Lists.{after_all, last_at, now_at}
use Rattle.model.proofs.Demand.{RunsAs}
use Rattle.reclaim_model.specs.Changes.{Change, compile, changes}
use Rattle.reclaim_model.proofs.Laws.Others.{AsWas}
use Rattle.reclaim_record.specs.Calls.{changes_in}

-- a shop that passed 1 and 8
pub record Given (h : Sheet) (ys : List Slot) : Type 0 where
  pub sheet : sheet_refusal h ≡ 0
  pub twenty : length ys ≡ slot_count
  pub ok : all (slot_ok h) ys ≡ true

-- the clauses of demand 3, in the terms of the calls on a record; b is a block of the start, b' its number after the list
pub record Demand3MixedIn (h : Sheet) (k : Born) (xs : List Change) : Type 0 where
  -- the run from any surviving block where a compile was accepted, under any save that fits the sheet, the flags of the shop's slots with an item lying in the save (A.10)
  pub runs : (b b' : ℕ) (ys : List Slot) → now_at (changes_in h) k xs b ≡ some b' → last_at (changes_in h) k xs b ≡ some ys → shop_inside ys ≡ true → (s : Save) → save_refusal h s ≡ 0
      → RunsAs h s accepted ys (λ budget. run_in h (after_all (changes_in h) k xs).memory b' s budget)
  -- of any shop: 23 exactly where one of them lies outside, and then what the slots before the first such slot mean
  pub ends : (b b' : ℕ) (ys : List Slot) → now_at (changes_in h) k xs b ≡ some b' → last_at (changes_in h) k xs b ≡ some ys → (s : Save) → save_refusal h s ≡ 0
      → RunsAs h s (flag_answer ys) (until_outside ys) (λ budget. run_in h (after_all (changes_in h) k xs).memory b' s budget)
  -- the parser reads there exactly that shop in normal form
  pub parses : (b b' : ℕ) (ys : List Slot) → now_at (changes_in h) k xs b ≡ some b' → last_at (changes_in h) k xs b ≡ some ys
      → parse_in h (after_all (changes_in h) k xs).memory b' ≡ record { answer = 0; slots = normal_shop h ys }
  -- that shop was accepted under this very sheet, so that a preview of it is not refused
  pub given : (b b' : ℕ) (ys : List Slot) → now_at (changes_in h) k xs b ≡ some b' → last_at (changes_in h) k xs b ≡ some ys → Given h ys
  -- every other surviving block of the start is as it was but for its number and the links, which go where the blocks are now that they named
  pub others : (b b' : ℕ) → b < k.memory.count → now_at (changes_in h) k xs b ≡ some b' → last_at (changes_in h) k xs b ≡ none
      → AsWas (now_at (changes_in h) k xs) (block_in k.memory b) (block_in (after_all (changes_in h) k xs).memory b')
  -- every surviving block of the start, an emptied setup block too, keeps its mark
  pub births : (b b' : ℕ) → b < k.memory.count → now_at (changes_in h) k xs b ≡ some b' → born_at (after_all (changes_in h) k xs) b' ≡ born_at k b
  -- a block that was none of the start bears a mark other than 0, and a compile that names it is answered 17
  pub later : (c : Call) → c.setup < (after_all (changes_in h) k xs).memory.count → ((b : ℕ) → b < k.memory.count → now_at (changes_in h) k xs b ≢ some c.setup)
      → (born_at (after_all (changes_in h) k xs) c.setup ≢ 0) × (compile_refusal_in h (after_all (changes_in h) k xs) c ≡ born_later)
  -- at whatever block bears one, the answer is that of 1 to 7, else 17, and nothing changes
  pub marked : (c : Call) → born_at (after_all (changes_in h) k xs) c.setup ≢ 0
      → (compile_refusal_in h (after_all (changes_in h) k xs) c ≡ first_of (call_in h (after_all (changes_in h) k xs).memory c.setup ∷ born_later ∷ []))
      × (compiled_in h (after_all (changes_in h) k xs) c ≡ after_all (changes_in h) k xs)
