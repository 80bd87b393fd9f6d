-- Who may edit what (02, A.7): rights, edits and their checks, a list of edits, and what a user is shown. Assumes nothing: these are definitions.
use Rattle.std.specs.Prelude.{◌≡◌, Bool, true, not, cond, ◌&&◌, List, [], ◌∷◌, ◌++◌, ℕ, zero, suc, ◌<◌, ltb, leb, eqb, get_or, set, length, ℤ}
use Rattle.std.proofs.Math.Option.{Option}
use Rattle.model.specs.Limits.{slot_count, entry_limit, user_count}
use Rattle.model.specs.Refusal.{check, first_of, bad_shop, no_right, no_user}
use Rattle.model.specs.Sheet.{Sheet, all, sheet_refusal}
use Rattle.model.specs.Requirement.{Requirement}
use Rattle.model.specs.Shop.{Slot, empty_slot, item_known, req_known}

-- ---- rights

-- for each user and slot there are four rights
pub record Rights : Type 0 where
  pub see : Bool
  pub item : Bool
  pub limit : Bool
  pub requirements : Bool

-- by user, then by slot
abbrev pub Table : Type 0
Table = ℕ → ℕ → Rights

-- ---- edits

pub data Field : Type 0 where
  itemField limitField requirementsField : Field

-- the new content of one field; requirements as they are given, repeats and order included
pub data Content : Type 0 where
  new_item : Option ℕ → Content
  new_limit : ℤ → Content
  new_requirements : List Requirement → Content

abbrev pub field_of : Content → Field
field_of (new_item o) = itemField
field_of (new_limit z) = limitField
field_of (new_requirements rs) = requirementsField

-- an edit names user, slot, one field and the new content
pub record Edit : Type 0 where
  pub user : ℕ
  pub slot : ℕ
  pub content : Content

-- what a field of a slot holds
abbrev pub field_in : Field → Slot → Content
field_in itemField x = new_item x.item
field_in limitField x = new_limit x.limit
field_in requirementsField x = new_requirements x.requirements

-- it puts that content in that field and changes nothing else
abbrev pub put : Content → Slot → Slot
put (new_item o) x = record { item = o; limit = x.limit; requirements = x.requirements }
put (new_limit z) x = record { item = x.item; limit = z; requirements = x.requirements }
put (new_requirements rs) x = record { item = x.item; limit = x.limit; requirements = rs }

-- see is not needed
abbrev pub may_change : Rights → Field → Bool
may_change r itemField = r.item
may_change r limitField = r.limit
may_change r requirementsField = r.requirements

-- refusal 8 judges an edit's new content alone
abbrev pub content_ok : Sheet → Content → Bool
content_ok h (new_item o) = item_known h o
content_ok h (new_limit z) = true
content_ok h (new_requirements rs) = leb (length rs) entry_limit && all (req_known h) rs

abbrev pub right_check : Table → Edit → ℕ
right_check t e = check (ltb e.slot slot_count && may_change (t e.user e.slot) (field_of e.content)) no_right

abbrev pub content_check : Sheet → Edit → ℕ
content_check h e = check (content_ok h e.content) bad_shop

-- 1, then 20, then 21, then 8
unfoldable pub edit_refusal : Table → Sheet → Edit → ℕ
edit_refusal t h e = first_of (sheet_refusal h ∷ check (ltb e.user user_count) no_user ∷ right_check t e ∷ content_check h e ∷ [])

pub record Edited : Type 0 where
  pub answer : ℕ
  pub slots : List Slot

-- refused, it changes nothing
abbrev pub edited_of : ℕ → List Slot → List Slot → Edited
edited_of zero new old = record { answer = 0; slots = new }
edited_of (suc n) new old = record { answer = suc n; slots = old }

unfoldable pub edit_call : Table → Sheet → List Slot → Edit → Edited
edit_call t h xs e = edited_of (edit_refusal t h e) (set xs e.slot (put e.content (get_or xs e.slot empty_slot))) xs

-- ---- lists of edits: each is given the shop that the one before returned

unfoldable pub after_edits : Table → Sheet → List Edit → List Slot → List Slot
after_edits t h [] xs = xs
after_edits t h (e ∷ es) xs = after_edits t h es (edit_call t h xs e).slots

unfoldable pub answers : Table → Sheet → List Edit → List Slot → List ℕ
answers t h [] xs = []
answers t h (e ∷ es) xs = (edit_call t h xs e).answer ∷ answers t h es (edit_call t h xs e).slots

-- ---- being shown

-- with see, a slot is shown as it stands, without, as an empty one
abbrev pub shown_slot : Rights → Slot → Slot
shown_slot r x = cond r.see x empty_slot

-- the slots from number i on
unfoldable pub shown_from : Table → ℕ → ℕ → List Slot → List Slot
shown_from t u i [] = []
shown_from t u i (x ∷ xs) = shown_slot (t u i) x ∷ shown_from t u (suc i) xs

abbrev pub shown_of : ℕ → List Slot → Edited
shown_of zero xs = record { answer = 0; slots = xs }
shown_of (suc n) xs = record { answer = suc n; slots = [] }

-- 20 only
unfoldable pub show_call : Table → List Slot → ℕ → Edited
show_call t xs u = shown_of (check (ltb u user_count) no_user) (shown_from t u 0 xs)

-- ---- which edits touch a field of a slot

abbrev pub field_code : Field → ℕ
field_code itemField = 0
field_code limitField = 1
field_code requirementsField = 2

-- accepted, of that slot and that field
unfoldable pub touches : Table → Sheet → ℕ → Field → Edit → Bool
touches t h i f e = eqb (edit_refusal t h e) 0 && (eqb e.slot i && eqb (field_code (field_of e.content)) (field_code f))

-- e is in the list, is the last that touches the field, and was made by a user with that right
pub record LastEdit (t : Table) (h : Sheet) (es : List Edit) (i : ℕ) (f : Field) (e : Edit) : Type 0 where
  pub earlier : List Edit
  pub later : List Edit
  pub inside : es ≡ earlier ++ e ∷ later
  pub accepted : edit_refusal t h e ≡ 0
  pub slot : e.slot ≡ i
  pub field : field_of e.content ≡ f
  pub user : e.user < user_count
  pub right : may_change (t e.user i) f ≡ true
  pub last : all (λ d. not (touches t h i f d)) later ≡ true
