-- What reading the sheet and the setup number promises (01, Image and printer and Refusals 1 and 2). Assumes nothing: these are definitions.
use Rattle.std.specs.Prelude.{List, ℕ, ◌≤◌, length, take, drop, replicate, Result, Ok, Err}
use Rattle.model.specs.Limits.{most_items, wide}
use Rattle.model.specs.Refusals.{refusal_number}
use Rattle.model.specs.declared.Refusal.{Refusal}
use Rattle.model.specs.Reading.{Answer, got, refused, onward, number}
use Rattle.model.specs.Sheet
use Rattle.model.specs.Sheet.{item_count}
use Rattle.model.specs.Printer.{read_sheet}
use Rattle.shop.specs.Shapes.{sheet_of}
use Rattle.slots_sheet.specs.declared.Heading.{Heading}

-- what stands before the image
pub record Head : Type 0 where
  pub sheet : Sheet.Sheet
  pub setup : ℕ

-- the sheet, then the setup number
unfoldable pub read_head : List ℕ → Answer Head
read_head s = onward (read_sheet s) (λ h r. onward (number wide r) (λ b t. got (record { sheet = h; setup = b }) t))

-- what was read with the bytes left and what the array holds past the items, or a refusal with what it leaves in the array
pub data Outcome : Type 0 where
  held : Head → List ℕ → List ℕ → Outcome
  nothing : ℕ → List ℕ → Outcome

-- what lies past the items stays; on a refusal the array is zero
abbrev pub into : List ℕ → Answer Head → Outcome
into ks (got h r) = held h r (drop (item_count h.sheet) ks)
into ks (refused e) = nothing e (replicate most_items 0)

unfoldable pub read_into : List ℕ → List ℕ → Outcome
read_into s ks = into ks (read_head s)

-- the head of an answer: the array holds the atcs of its first items
abbrev pub head_of : Heading → List ℕ → Head
head_of r ks = record { sheet = sheet_of (take r.items ks) r.sheet; setup = r.setup }

-- what the program answers and leaves in its array
unfoldable pub outcome : List ℕ → Result Heading Refusal → List ℕ → Outcome
outcome s (Ok r) ks = held (head_of r ks) (drop r.at s) (drop r.items ks)
outcome s (Err e) ks = nothing (refusal_number e) ks

-- the place lies in the bytes, and the items in the array, so that their part of it can be lent
pub record Within (s : List ℕ) (r : Heading) (ks : List ℕ) : Type 0 where
  pub place : r.at ≤ length s
  pub few : r.items ≤ most_items
  pub lent : r.items ≤ length ks
