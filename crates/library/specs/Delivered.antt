-- Demand 3 over the calls of the library: any list of lk_compile and lk_reclaim as they were made and answered, at any block numbers and for any loaders, then lk_run, lk_parse and lk_preview as they were answered. Each call comes in by its own promise. Assumes nothing.
use Rattle.std.specs.Prelude.{◌≡◌, true, ◌≢◌, List, [], ℕ, suc, ◌≤◌, ◌<◌, ℤ}
use Rattle.std.proofs.Math.Option.{none, some}
use Rattle.model.specs.Limits.{run_blocks}
use Rattle.model.specs.Refusal.{accepted, born_later}
use Rattle.model.specs.Save.{Save}
use Rattle.model.specs.Sheet.{Sheet, save_refusal}
use Rattle.model.specs.Shop.{Slot}
use Rattle.model.specs.Flags.{flag_answer, shop_inside, until_outside}
use Rattle.model.specs.Normal.{normal_shop}
use Rattle.model.specs.Memory.{block_in}
use Rattle.model.specs.Preview.{preview_call}
use Rattle.model.specs.RecordCalls.{Born, born_at, run_in, parse_in}
use Rattle.model.specs.Lists.{Step, after_all, last_at, now_at}
use Rattle.memory.specs.View.{born_of}
use Rattle.shop.specs.Shapes.{slots_of}
use Rattle.shop_arrays.specs.Arrays.{Arrays, shop_from}
use Rattle.compile.specs.Answer.{call_of, CompiledAs}
use Rattle.parse.specs.Answer.{ParsedInto}
use Rattle.preview.specs.Shown.{previewed_of}
use Rattle.preview.specs.Agree.{AgreesCall}
use Rattle.reclaim_model.specs.Changes.{names_of}
use Rattle.reclaim_model.proofs.Laws.Others.{AsWas}
use Rattle.reclaim.specs.Answer.{ReclaimedAs}
use Rattle.capi.specs.declared.Kept.{Kept}
use Rattle.capi.specs.declared.Ran.{Ran}
use Rattle.capi.specs.declared.Previewed.{Previewed}
use Rattle.capi.specs.Answers.{counts_in, loader_by, ran_as, previewed_as}
use Rattle.engine.specs.Delivered as engine

-- what a call was given: lk_compile the loader's number, the setup block and the arrays of a shop, lk_reclaim the roots and the array in which it tells
pub data Asked : Type 0 where
  compile : ℕ → ℕ → Arrays → Asked
  reclaim : List ℕ → List ℕ → Asked

-- a call as it was made: what it was given, what it answered, what it left in the script's arrays, and what lk_reclaim's array told
pub record Made : Type 0 where
  pub asked : Asked
  pub answer : Kept
  pub ws : List ℕ
  pub val : List ℤ
  pub cw : List ℕ
  pub bw : List ℕ
  pub births : List ℕ
  pub told : List ℕ

-- the script as it left it: the arrays, its birth marks among them, and the counts that it answered
abbrev pub left_by : Made → Born
left_by x = born_of x.ws x.val x.cw x.bw (counts_in x.answer) x.births x.answer.compiles

-- the shop that arrays stand for
abbrev pub shop_of : Arrays → List Slot
shop_of a = slots_of (shop_from a)

abbrev pub given_by : Asked → List Slot
given_by (compile o b a) = shop_of a
given_by (reclaim rs mv) = []

-- as the calls that lk_compile and lk_reclaim make
abbrev pub as_call : Asked → engine.Asked
as_call (compile o b a) = engine.compile (loader_by o) b (shop_from a)
as_call (reclaim rs mv) = engine.reclaim rs mv

-- a list of them: what each answered, left and told is what is told of it
abbrev pub made : Step Born Made
made = record {
  refusal = λ k x. x.answer.refusal;
  next = λ k x. left_by x;
  names = λ x b. names_of (engine.as_change (as_call x.asked)) b;
  given = λ x. given_by x.asked;
  count = λ k. k.memory.count;
  now = λ k x b. engine.tells_of (as_call x.asked) x.answer.refusal x.told b;
}

-- x got the script k and answered as lk_compile and lk_reclaim promise
abbrev pub AsPromised : Sheet → Born → Made → Type 0
AsPromised h k x =
    elim x.asked [
      | compile o b a ↦ CompiledAs h k (call_of (loader_by o) b (shop_from a)) x.answer.refusal (left_by x)
      | reclaim rs mv ↦ ReclaimedAs k rs mv x.answer.refusal (left_by x) x.told
    ]

-- b is a block of the start, b' its number after the list
pub record Delivered (h : Sheet) (k : Born) (xs : List Made) : Type 0 where
  -- lk_run from any surviving block where an lk_compile was accepted, the flags of the shop's slots with an item lying in the save (A.10), under any save that fits the sheet and any budget
  pub runs : (b b' : ℕ) (ys : List Slot) → now_at made k xs b ≡ some b' → last_at made k xs b ≡ some ys → shop_inside ys ≡ true → (s : Save) → save_refusal h s ≡ 0
      → (budget : ℕ) (r : Ran) (v : List ℤ) → ran_as r v ≡ run_in h (after_all made k xs).memory b' s budget → engine.RanWell h s accepted ys budget (ran_as r v)
  -- of any shop: 23 exactly where one of them lies outside, and then what the slots before the first such slot mean
  pub ends : (b b' : ℕ) (ys : List Slot) → now_at made k xs b ≡ some b' → last_at made k xs b ≡ some ys → (s : Save) → save_refusal h s ≡ 0
      → (budget : ℕ) (r : Ran) (v : List ℤ) → ran_as r v ≡ run_in h (after_all made k xs).memory b' s budget → engine.RanWell h s (flag_answer ys) (until_outside ys) budget (ran_as r v)
  -- one that its budget does not stop ends the same with any other such budget
  pub same : (b b' : ℕ) (ys : List Slot) → now_at made k xs b ≡ some b' → last_at made k xs b ≡ some ys → (s : Save) → save_refusal h s ≡ 0
      → (budget other : ℕ) (r q : Ran) (v w : List ℤ) → ran_as r v ≡ run_in h (after_all made k xs).memory b' s budget
      → ran_as q w ≡ run_in h (after_all made k xs).memory b' s other → r.refusal ≡ flag_answer ys → q.refusal ≡ flag_answer ys → ran_as r v ≡ ran_as q w
  -- lk_parse leaves there the arrays of exactly that shop in normal form
  pub parses : (b b' : ℕ) (ys : List Slot) → now_at made k xs b ≡ some b' → last_at made k xs b ≡ some ys → (n : ℕ) (t : Arrays) → ParsedInto (parse_in h (after_all made k xs).memory b') n t
      → (n ≡ 0) × (shop_of t ≡ normal_shop h ys)
  -- with a budget of 82 blocks or more the run and lk_preview of arrays that stand for that shop are answered alike, 0 or 23, and where it is 0 the run leaves what lk_preview answers
  pub previews : (b b' : ℕ) (ys : List Slot) → now_at made k xs b ≡ some b' → last_at made k xs b ≡ some ys → (s : Save) → save_refusal h s ≡ 0
      → (budget : ℕ) → run_blocks ≤ budget → (r : Ran) (v : List ℤ) (q : Previewed)
      → ran_as r v ≡ run_in h (after_all made k xs).memory b' s budget → previewed_as q ≡ previewed_of (preview_call h ys s) → AgreesCall (previewed_as q) r.refusal v
  -- every other surviving block of the start is as it was but for its number and the links, which go where the blocks are now that they named
  pub others : (b b' : ℕ) → b < k.memory.count → now_at made k xs b ≡ some b' → last_at made k xs b ≡ none
      → AsWas (now_at made k xs) (block_in k.memory b) (block_in (after_all made k xs).memory b')
  -- every surviving block of the start keeps its mark
  pub births : (b b' : ℕ) → b < k.memory.count → now_at made k xs b ≡ some b' → born_at (after_all made k xs) b' ≡ born_at k b
  -- an lk_compile that names a block which was none of the start is answered 17, and nothing changes
  pub later : (loader setup : ℕ) (shop : Arrays) (n : ℕ) (after : Born) → CompiledAs h (after_all made k xs) (call_of (loader_by loader) setup (shop_from shop)) n after → setup < (after_all made k xs).memory.count
      → ((b : ℕ) → b < k.memory.count → now_at made k xs b ≢ some setup) → (n ≡ born_later) × (after ≡ after_all made k xs)
