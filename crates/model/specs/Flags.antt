-- Which shops read a flag outside the save, and how far the run of such a shop gets (02, A.10). Assumes nothing: these are definitions.
use Rattle.std.specs.Prelude.{Bool, true, cond, List, [], ◌∷◌, ℕ}
use Rattle.std.proofs.Math.Option.{Option, none, some}
use Rattle.model.specs.Refusal.{check, no_flag}
use Rattle.model.specs.Save.{flag_inside}
use Rattle.model.specs.Sheet.{all}
use Rattle.model.specs.Requirement.{Requirement, haveItem, missingItem, haveAtc, missingAtc, haveFlag, missingFlag}
use Rattle.model.specs.Shop.{Slot}

-- a requirement whose flag, if it has one, is in the save
abbrev pub req_inside : Requirement → Bool
req_inside (haveItem i) = true
req_inside (missingItem i) = true
req_inside (haveAtc a) = true
req_inside (missingAtc a) = true
req_inside (haveFlag f) = flag_inside f
req_inside (missingFlag f) = flag_inside f

-- a slot without an item compiles to no test, so none of its flags is read
abbrev pub inside_for : Option ℕ → List Requirement → Bool
inside_for none rs = true
inside_for (some w) rs = all req_inside rs

unfoldable pub slot_inside : Slot → Bool
slot_inside x = inside_for x.item x.requirements

-- every flag of a slot with an item is in the save
abbrev pub shop_inside : List Slot → Bool
shop_inside xs = all slot_inside xs

-- the slots before the first that reads a flag outside: all of them where none does
abbrev pub until_outside : List Slot → List Slot
until_outside [] = []
until_outside (x ∷ xs) = cond (slot_inside x) (x ∷ until_outside xs) []

-- what the run of the compiled shop answers: every slot with an item has all its tests evaluated, whatever the save
abbrev pub flag_answer : List Slot → ℕ
flag_answer xs = check (shop_inside xs) no_flag
