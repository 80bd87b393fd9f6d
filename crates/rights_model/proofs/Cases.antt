-- Small edits and what is shown, computed from the definitions. Assumes nothing.
use Rattle.std.specs.Prelude.{◌≡◌, refl, false, ◌&&◌, List, [], ◌∷◌, ℕ, eqb, replicate, set, pos}
use Rattle.std.proofs.Math.Option.{none, some}
use Rattle.model.specs.Limits.{slot_count}
use Rattle.model.specs.Refusal.{bad_sheet, bad_shop, no_right, no_user}
use Rattle.model.specs.Requirement.{Requirement, haveFlag, haveItem}
use Rattle.model.specs.Sheet.{Sheet, sheet_ok}
use Rattle.model.specs.Shop.{Slot, empty_slot}
use Rattle.rights_model.specs.Rights.{Content, Edit, Table, after_edits, answers, edit_call, edit_refusal, new_item, new_limit, new_requirements, show_call, shown_from}

-- three items, no atcs; and a sheet of no items
abbrev sheet : Sheet
sheet = record { atc_of = none ∷ none ∷ none ∷ []; atc_count = 0; timer5 = 0; timer10 = 1; timer15 = 2 }

abbrev no_sheet : Sheet
no_sheet = record { atc_of = []; atc_count = 0; timer5 = 0; timer10 = 1; timer15 = 2 }

-- user 3 changes item and requirements of slot 0 without seeing it; user 1 sees slot 0 and changes nothing
abbrev table : Table
table u i = record { see = eqb u 1 && eqb i 0; item = eqb u 3 && eqb i 0; limit = false; requirements = eqb u 3 && eqb i 0 }

abbrev edit : ℕ → ℕ → Content → Edit
edit u i c = record { user = u; slot = i; content = c }

abbrev twice : List Requirement
twice = haveFlag (pos 2) ∷ haveFlag (pos 1) ∷ haveFlag (pos 1) ∷ []

-- slot 0 holds an item that is not on the sheet; slot 1, which nobody sees, holds item o
abbrev shop : ℕ → List Slot
shop o = set (set (replicate slot_count empty_slot) 0 (record { item = some 7; limit = pos 2; requirements = [] })) 1 (record { item = some o; limit = pos 1; requirements = [] })

-- ---- the order of the refusals

pub sheet_first : edit_refusal table no_sheet (edit 16 20 (new_item (some 9))) ≡ bad_sheet
unfolding edit_refusal sheet_ok
sheet_first = refl

pub user_16 : edit_refusal table sheet (edit 16 20 (new_item (some 9))) ≡ no_user
unfolding edit_refusal sheet_ok
user_16 = refl

pub slot_20 : edit_refusal table sheet (edit 3 20 (new_item (some 1))) ≡ no_right
unfolding edit_refusal sheet_ok
slot_20 = refl

-- the right to change the item is none to change the limit, and seeing none to change anything
pub other_field : edit_refusal table sheet (edit 3 0 (new_limit (pos 5))) ≡ no_right
unfolding edit_refusal sheet_ok
other_field = refl

pub sees_only : edit_refusal table sheet (edit 1 0 (new_item (some 1))) ≡ no_right
unfolding edit_refusal sheet_ok
sees_only = refl

-- 8 after 21: item 3 is not on the sheet
pub right_first : edit_refusal table sheet (edit 1 0 (new_item (some 3))) ≡ no_right
unfolding edit_refusal sheet_ok
right_first = refl

pub content_last : edit_refusal table sheet (edit 3 0 (new_item (some 3))) ≡ bad_shop
unfolding edit_refusal sheet_ok
content_last = refl

-- fourteen entries may be given, fifteen not, and none with an id outside the sheet
pub fourteen : edit_refusal table sheet (edit 3 0 (new_requirements (replicate 14 (haveItem 2)))) ≡ 0
unfolding edit_refusal sheet_ok
fourteen = refl

pub fifteen : edit_refusal table sheet (edit 3 0 (new_requirements (replicate 15 (haveItem 2)))) ≡ bad_shop
unfolding edit_refusal sheet_ok
fifteen = refl

pub outside : edit_refusal table sheet (edit 3 0 (new_requirements (haveItem 3 ∷ []))) ≡ bad_shop
unfolding edit_refusal sheet_ok
outside = refl

-- ---- a bad start shop is edited and shown all the same

-- stored as given, repeats too; item and limit stay
pub as_given : edit_call table sheet (shop 9) (edit 3 0 (new_requirements twice)) ≡ record { answer = 0; slots = set (shop 9) 0 (record { item = some 7; limit = pos 2; requirements = twice }) }
unfolding edit_call edit_refusal sheet_ok
as_given = refl

pub refused_stays : edit_call table sheet (shop 9) (edit 3 0 (new_item (some 3))) ≡ record { answer = bad_shop; slots = shop 9 }
unfolding edit_call edit_refusal sheet_ok
refused_stays = refl

pub shown_1 : show_call table (shop 9) 1 ≡ record { answer = 0; slots = set (replicate slot_count empty_slot) 0 (record { item = some 7; limit = pos 2; requirements = [] }) }
unfolding show_call shown_from
shown_1 = refl

-- who edits need not see
pub shown_3 : show_call table (shop 9) 3 ≡ record { answer = 0; slots = replicate slot_count empty_slot }
unfolding show_call shown_from
shown_3 = refl

pub shown_16 : show_call table (shop 9) 16 ≡ record { answer = no_user; slots = [] }
unfolding show_call
shown_16 = refl

-- ---- two start shops that differ in a slot that nobody sees

abbrev list : List Edit
list = edit 3 0 (new_item (some 2)) ∷ edit 3 1 (new_item (some 2)) ∷ edit 3 0 (new_requirements twice) ∷ []

pub both_shown : show_call table (after_edits table sheet list (shop 9)) 1 ≡ show_call table (after_edits table sheet list (shop 1)) 1
unfolding show_call shown_from after_edits edit_call edit_refusal sheet_ok
both_shown = refl

pub both_answered : answers table sheet list (shop 9) ≡ 0 ∷ no_right ∷ 0 ∷ []
unfolding answers edit_call edit_refusal sheet_ok
both_answered = refl
