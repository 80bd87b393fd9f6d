-- What the answers of the reader say: what was read and the place after it, or a reason. Assumes nothing: these are definitions.
use Rattle.std.specs.Prelude.{◌≡◌, Bool, true, false, cond, List, [], ◌∷◌, ℕ, ◌+◌, ◌≤◌, ◌<◌, eqb, ℤ, length, drop, Result, Ok, Err, Some, None}
use Rattle.std.specs.Prelude as prelude
use Rattle.std.proofs.Math.Option.{Option}
use Rattle.std.specs.Int.Signed.{mag}
use Rattle.model.specs.Limits.{half32}
use Rattle.model.specs.Reading.{Answer, got, refused}
use Rattle.model.specs.Requirement.{Requirement}
use Rattle.model.specs.Shop
use Rattle.model.specs.declared.ItemId.{ItemId}
use Rattle.shop_codes.specs.Codes.{shift, code_of}
use Rattle.shop.specs.declared.Slot.{Slot}
use Rattle.text_model.specs.Text.{is_digit}
use Rattle.text_read.specs.Faults.{fault_number}
use Rattle.text_read.specs.Shops.{item_for, row_for, slot_for}
use Rattle.text_read.specs.declared.Fault.{Fault}
use Rattle.text_read.specs.declared.Requirements.{Requirements}

-- ---- one byte

-- another byte than those that pass a test, or none
abbrev pub Other : (ℕ → Bool) → List ℕ → Type 0
Other ok [] = Unit {0}
Other ok (c ∷ s) = ok c ≡ false

-- the one byte k
abbrev pub Is : ℕ → ℕ → Bool
Is k c = eqb c k

pub record ByteAt (s : List ℕ) (at c : ℕ) : Type 0 where
  pub place : at < length s
  pub next : drop at s ≡ c ∷ drop (at + 1) s

abbrev pub ByteFound : List ℕ → ℕ → prelude.Option ℕ → Type 0
ByteFound s at (Some c) = ByteAt s at c
ByteFound s at None = drop at s ≡ []

-- whether the byte c stands there
abbrev pub Stands : List ℕ → ℕ → ℕ → Bool → Type 0
Stands s at c true = ByteAt s at c
Stands s at c false = Other (Is c) (drop at s)

pub record Digit (s : List ℕ) (at d : ℕ) : Type 0 where
  pub low : d < 10
  pub place : at < length s
  pub next : drop at s ≡ (48 + d) ∷ drop (at + 1) s

-- a digit, or none
abbrev pub DigitAt : List ℕ → ℕ → prelude.Option ℕ → Type 0
DigitAt s at (Some d) = Digit s at d
DigitAt s at None = Other is_digit (drop at s)

pub record Blank (s : List ℕ) (at p : ℕ) : Type 0 where
  pub after : p ≡ at + 1
  pub next : drop at s ≡ 32 ∷ drop p s

pub record NoBlank (s : List ℕ) (at : ℕ) (e f : Fault) : Type 0 where
  pub same : f ≡ e
  pub other : Other (Is 32) (drop at s)

-- the place behind a blank, or the reason that was given
abbrev pub BlankAt : List ℕ → ℕ → Fault → Result ℕ Fault → Type 0
BlankAt s at e (Ok p) = Blank s at p
BlankAt s at e (Err f) = NoBlank s at e f

-- the kind of requirement of a letter
abbrev pub kind_for : ℕ → prelude.Option ℕ
kind_for c = cond (eqb c 73) (Some 0) (cond (eqb c 105) (Some 1) (cond (eqb c 65) (Some 2) (cond (eqb c 97) (Some 3) (cond (eqb c 70) (Some 4) (cond (eqb c 102) (Some 5) None)))))

-- ---- what is told of something that is read

-- what a number is read with: a bound that every digit is below
pub record Bound (b : ℕ) : Type 0 where
  pub least : 10 ≤ b
  pub most : b ≤ half32 + 1

pub record Took {A : Type 0} (s : List ℕ) (a : Answer A) (P : A → Type 0) (p : ℕ) : Type 0 where
  pub value : A
  pub is : P value
  pub read : a ≡ got value (drop p s)

abbrev pub Told : {A V : Type 0} → List ℕ → Answer A → (V → A → Type 0) → Result (V × ℕ) Fault → Type 0
Told s a P (Ok x) = Took s a (P x.0) x.1
Told s a P (Err e) = a ≡ refused (fault_number e)

pub record IsNumber (b v n : ℕ) : Type 0 where
  pub same : n ≡ v
  pub low : n < b

abbrev pub ToldNumber : List ℕ → Answer ℕ → ℕ → Result (ℕ × ℕ) Fault → Type 0
ToldNumber s a b r = Told s a (λ v n. IsNumber b v n) r

-- .. moved up by 2 ^ 31
pub record IsSigned (b v : ℕ) (z : ℤ) : Type 0 where
  pub same : shift z ≡ v
  pub low : mag z < b

abbrev pub ToldSigned : List ℕ → Answer ℤ → ℕ → Result (ℕ × ℕ) Fault → Type 0
ToldSigned s a b r = Told s a (λ v z. IsSigned b v z) r

-- a slot's number is known before it is read
abbrev pub Any : ℕ → Type 0
Any n = Unit {0}

abbrev pub ToldStart : List ℕ → Answer ℕ → Result ℕ Fault → Type 0
ToldStart s a (Ok p) = Took s a Any p
ToldStart s a (Err e) = a ≡ refused (fault_number e)

abbrev pub IsItem : prelude.Option ItemId → Option ℕ → Type 0
IsItem x o = item_for o ≡ x

abbrev pub ToldItem : List ℕ → Answer (Option ℕ) → Result (prelude.Option ItemId × ℕ) Fault → Type 0
ToldItem s a r = Told s a IsItem r

pub record IsRequirement (v : ℕ) (r : Requirement) : Type 0 where
  pub same : code_of r ≡ v

abbrev pub ToldRequirement : List ℕ → Answer Requirement → Result (ℕ × ℕ) Fault → Type 0
ToldRequirement s a r = Told s a (λ v q. IsRequirement v q) r

pub record AreRequirements (row : List ℕ) (n : ℕ) (rs : List Requirement) : Type 0 where
  pub codes : row_for rs ≡ row
  pub long : length rs ≡ n

abbrev pub ToldRequirements : List ℕ → Answer (List Requirement) → Result Requirements Fault → Type 0
ToldRequirements s a (Ok r) = Took s a (λ rs. AreRequirements r.row r.len rs) r.at
ToldRequirements s a (Err e) = a ≡ refused (fault_number e)

abbrev pub IsSlot : Slot → Shop.Slot → Type 0
IsSlot x m = slot_for m ≡ x

abbrev pub ToldLine : List ℕ → Answer Shop.Slot → Result (Slot × ℕ) Fault → Type 0
ToldLine s a r = Told s a IsSlot r
