-- Lists of calls that change a script: the script after them, and the last shop accepted at a block (01, Lists of compiles). Assumes nothing: these are definitions.
use Rattle.std.specs.Prelude.{◌≡◌, Bool, false, cond, ◌&&◌, List, [], ◌∷◌, ℕ, ◌≤◌, ◌<◌, eqb, length}
use Rattle.std.proofs.Math.Option.{Option, none, some}
use Rattle.model.specs.Sheet.{Sheet}
use Rattle.model.specs.Shop.{Slot, with_slots}
use Rattle.model.specs.Script.{Script}
use Rattle.model.specs.Compile.{Call, compile_refusal, compiled}

-- what a call of a list does: S is what a script is kept as, C a call as it is made
pub record Step (S C : Type 0) : Type 0 where
  -- the refusal, or 0
  pub refusal : S → C → ℕ
  -- the script as the call returned or left it
  pub next : S → C → S
  -- whether it names a block
  pub names : C → ℕ → Bool
  -- the shop that it is given
  pub given : C → List Slot
  -- how many blocks a script has
  pub count : S → ℕ
  -- what the number of a block is after the call, or that it is gone
  pub now : S → C → ℕ → Option ℕ

abbrev pub following : {A : Type 0} → Option ℕ → (ℕ → Option A) → Option A
following none f = none
following (some k) f = f k

module _ {S C : Type 0} (X : Step S C) where
  -- each later call gets the script as the one before returned or left it
  unfoldable pub after_all : S → List C → S
  after_all s [] = s
  after_all s (c ∷ cs) = after_all (X.next s c) cs

  -- accepted means answered without a refusal
  abbrev pub accepted_at : S → C → ℕ → Bool
  accepted_at s c b = eqb (X.refusal s c) 0 && X.names c b

  -- the shop accepted last at b, where it was o before this call
  abbrev pub latest : S → C → ℕ → Option (List Slot) → Option (List Slot)
  latest s c b o = cond (accepted_at s c b) (some (X.given c)) o

  unfoldable pub last_from : Option (List Slot) → S → List C → ℕ → Option (List Slot)
  last_from o s [] b = o
  last_from o s (c ∷ cs) b = following (X.now s c b) (λ k. last_from (latest s c b o) (X.next s c) cs k)

  -- the shop given to the latest accepted call that named b: calls and answers decide that, nothing kept in the script
  abbrev pub last_at : S → List C → ℕ → Option (List Slot)
  last_at s cs b = last_from none s cs b

  -- the number after the list of what was block b before it
  unfoldable pub now_at : S → List C → ℕ → Option ℕ
  now_at s [] b = some b
  now_at s (c ∷ cs) b = following (X.now s c b) (λ k. now_at (X.next s c) cs k)

  -- of each call and the script that it got
  unfoldable pub Along : (S → C → Type 0) → S → List C → Type 0
  Along P s [] = Unit {0}
  Along P s (c ∷ cs) = P s c × Along P (X.next s c) cs

  -- no call names a block that an earlier one appended, the start having n blocks
  abbrev pub NoneAppended : ℕ → S → List C → Type 0
  NoneAppended n s cs = Along (λ (t : S) (c : C). (b : ℕ) → n ≤ b → b < X.count t → X.names c b ≡ false) s cs

-- compiles: one names its setup block, and every block keeps its number
abbrev pub compiling : {S C : Type 0} → (S → C → ℕ) → (S → C → S) → (C → ℕ) → (C → List Slot) → (S → ℕ) → Step S C
compiling refusal next setup shop count = record { refusal = refusal; next = next; names = λ c b. eqb (setup c) b; given = shop; count = count; now = λ s c b. some b }

abbrev pub compiles : Sheet → Step Script Call
compiles h = compiling (λ sc c. compile_refusal h sc c) (λ sc c. compiled h sc c) (λ c. c.setup) (λ c. with_slots c.shop) (λ sc. length sc.blocks)
