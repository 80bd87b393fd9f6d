-- Demand 3 over the exported calls: any list of compiles and reclaims as they were made and answered, at any block numbers, then a run and a parse as they were answered. Each call comes in by its own promise. Assumes nothing.
use Rattle.std.specs.Prelude.{◌≡◌, ◌≢◌, get_or, Result, IfOk}
use Rattle.std.proofs.Math.Bool.{true, cond}
use Rattle.std.proofs.Math.Option.{Option, none, some}
use mathlib.Core.List.{List}
use Prim.Native.Nat.{ℕ, ◌≤◌, ◌<◌}
use Rattle.std.proofs.Math.Dec.{eqb}
use Rattle.model.specs.Limits.{run_blocks}
use Rattle.model.specs.Refusal.{accepted, born_later, budget_spent}
use Rattle.model.specs.Refusals.{refusal_in}
use Rattle.model.specs.declared.Refusal.{Refusal}
use Rattle.model.specs.declared.Loader.{Loader}
use Rattle.model.specs.Save.{Save}
use Rattle.model.specs.Sheet.{Sheet, save_refusal}
use Rattle.model.specs.Shop.{Slot}
use Rattle.model.specs.Flags.{flag_answer, shop_inside, until_outside}
use Rattle.model.specs.Meaning.{Means}
use Rattle.model.specs.Normal.{normal_shop}
use Rattle.model.specs.Run.{Ran}
use Rattle.model.specs.Memory.{block_in}
use Rattle.model.specs.Lists.{Step, after_all, last_at, now_at}
use Rattle.model.specs.RecordCalls.{Born, born_at, parse_in, run_in}
use Rattle.shop.specs.declared.Shop.{Shop}
use Rattle.shop.specs.Shapes.{slots_of}
use Rattle.compile.specs.Answer.{call_of, CompiledAs}
use Rattle.parse.specs.Answer.{HandedOut, ParsedAs, ParsedShop}
use Rattle.model.specs.Preview.{preview_call}
use Rattle.preview.specs.Shown.{Answer, previewed_of}
use Rattle.preview.specs.Agree.{AgreesCall}
use Rattle.reclaim_model.specs.Reclaim.{word_tells}
use Rattle.reclaim_model.specs.Changes as change
use Rattle.reclaim_model.proofs.Laws.Others.{AsWas}
use Rattle.reclaim.specs.Answer.{ReclaimedAs}

-- what a call was given: a compile its loader, its setup block and its shop, a reclaim its roots and the array in which it tells
pub data Asked : Type 0 where
  compile : Loader → ℕ → Shop → Asked
  reclaim : List ℕ → List ℕ → Asked

-- a call as it was made: what it was given, what it answered, the record after it with its marks and count, and what a reclaim's array told
pub record Made : Type 0 where
  pub asked : Asked
  pub refusal : ℕ
  pub after : Born
  pub told : List ℕ

abbrev pub as_change : Asked → change.Change
as_change (compile o b sh) = change.compile (call_of o b sh)
as_change (reclaim rs mv) = change.reclaim rs

-- where a call says that a block is now: an accepted reclaim by its array
abbrev pub tells_of : Asked → ℕ → List ℕ → ℕ → Option ℕ
tells_of (compile o b sh) r t j = some j
tells_of (reclaim rs mv) r t j = cond (eqb r 0) (word_tells (get_or t j 0)) (some j)

-- a list of them: what each answered, left and told is what is told of it
abbrev pub made : Step Born Made
made = record {
  refusal = λ k x. x.refusal;
  next = λ k x. x.after;
  names = λ x b. change.names_of (as_change x.asked) b;
  given = λ x. change.given_to (as_change x.asked);
  count = λ k. k.memory.count;
  now = λ k x b. tells_of x.asked x.refusal x.told b;
}

-- x got the record k and answered as compile and reclaim promise
abbrev pub AsPromised : Sheet → Born → Made → Type 0
AsPromised h k x =
    elim x.asked [
      | compile o b sh ↦ CompiledAs h k (call_of o b sh) x.refusal x.after
      | reclaim rs mv ↦ ReclaimedAs k rs mv x.refusal x.after x.told
    ]

-- r is what a run answered with the variables that it left, as run promises (ran_of of runner/specs/RunIn): n and what the slots xs mean, or 15 where the budget was less than 82 blocks
pub record RanWell (h : Sheet) (s : Save) (n : ℕ) (xs : List Slot) (budget : ℕ) (r : Ran) : Type 0 where
  pub answered : run_blocks ≤ budget → r.answer ≡ n
  pub else_spent : r.answer ≢ n → r.answer ≡ budget_spent
  pub few : r.answer ≡ n → r.entered ≤ run_blocks
  pub means : r.answer ≡ n → Means h s xs s.variables r.variables

-- b is a block of the start, b' its number after the list
pub record Delivered (h : Sheet) (k : Born) (xs : List Made) : Type 0 where
  -- from any surviving block where a compile was accepted, the flags of the shop's slots with an item lying in the save (A.10), under any save that fits the sheet and any budget
  pub runs : (b b' : ℕ) (ys : List Slot) → now_at made k xs b ≡ some b' → last_at made k xs b ≡ some ys → shop_inside ys ≡ true → (s : Save) → save_refusal h s ≡ 0
      → (budget : ℕ) (r : Ran) → r ≡ run_in h (after_all made k xs).memory b' s budget → RanWell h s accepted ys budget r
  -- of any shop: 23 exactly where one of them lies outside, and then what the slots before the first such slot mean
  pub ends : (b b' : ℕ) (ys : List Slot) → now_at made k xs b ≡ some b' → last_at made k xs b ≡ some ys → (s : Save) → save_refusal h s ≡ 0
      → (budget : ℕ) (r : Ran) → r ≡ run_in h (after_all made k xs).memory b' s budget → RanWell h s (flag_answer ys) (until_outside ys) budget r
  -- a run that its budget does not stop ends the same with any other such budget
  pub same : (b b' : ℕ) (ys : List Slot) → now_at made k xs b ≡ some b' → last_at made k xs b ≡ some ys → (s : Save) → save_refusal h s ≡ 0
      → (budget other : ℕ) (r q : Ran) → r ≡ run_in h (after_all made k xs).memory b' s budget
      → q ≡ run_in h (after_all made k xs).memory b' s other → r.answer ≡ flag_answer ys → q.answer ≡ flag_answer ys → r ≡ q
  -- the parser reads there exactly that shop in normal form
  pub parses : (b b' : ℕ) (ys : List Slot) → now_at made k xs b ≡ some b' → last_at made k xs b ≡ some ys → (r : ParsedShop) → ParsedAs (parse_in h (after_all made k xs).memory b') r
      → (r.refusal ≡ 0) × (slots_of r.shop ≡ normal_shop h ys)
  -- and so does what a parse hands out, which is a shop
  pub hands_out : (b b' : ℕ) (ys : List Slot) → now_at made k xs b ≡ some b' → last_at made k xs b ≡ some ys → (r : Result Shop Refusal) → HandedOut (parse_in h (after_all made k xs).memory b') r
      → (refusal_in r ≡ 0) × IfOk r (λ t. slots_of t ≡ normal_shop h ys)
  -- with a budget of 82 blocks or more the run and a preview of that shop are answered alike, 0 or 23, and where it is 0 the run leaves what the preview answers
  pub previews : (b b' : ℕ) (ys : List Slot) → now_at made k xs b ≡ some b' → last_at made k xs b ≡ some ys → (s : Save) → save_refusal h s ≡ 0
      → (budget : ℕ) → run_blocks ≤ budget → (r : Ran) (q : Answer)
      → r ≡ run_in h (after_all made k xs).memory b' s budget → q ≡ previewed_of (preview_call h ys s) → AgreesCall q r.answer r.variables
  -- every other surviving block of the start is as it was but for its number and the links, which go where the blocks are now that they named
  pub others : (b b' : ℕ) → b < k.memory.count → now_at made k xs b ≡ some b' → last_at made k xs b ≡ none
      → AsWas (now_at made k xs) (block_in k.memory b) (block_in (after_all made k xs).memory b')
  -- every surviving block of the start keeps its mark
  pub births : (b b' : ℕ) → b < k.memory.count → now_at made k xs b ≡ some b' → born_at (after_all made k xs) b' ≡ born_at k b
  -- a compile that names a block which was none of the start is answered 17, and nothing changes
  pub later : (loader : Loader) (setup : ℕ) (shop : Shop) (n : ℕ) (after : Born) → CompiledAs h (after_all made k xs) (call_of loader setup shop) n after → setup < (after_all made k xs).memory.count
      → ((b : ℕ) → b < k.memory.count → now_at made k xs b ≢ some setup) → (n ≡ born_later) × (after ≡ after_all made k xs)
