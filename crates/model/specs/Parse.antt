-- The parser as parse_block, and the call with its checks (01, Parser). Assumes nothing: these are definitions.
use Rattle.std.specs.Prelude.{Bool, true, false, not, cond, ◌||◌, List, [], ◌∷◌, ℕ, zero, suc, ◌-◌, ◌+◌, ltb, leb, eqb, get_or, set, length, replicate, ℤ, pos, negsuc}
use Rattle.std.proofs.Math.Option.{Option, none, some}
use Rattle.model.specs.Limits.{slot_count, entry_limit, item_first, count_first}
use Rattle.model.specs.Refusal.{parse_not_code, parse_too_many}
use Rattle.model.specs.Signed.{is_zero, cut16}
use Rattle.model.specs.Expr.{Expr, two, one, imm16, imm32, other, negate}
use Rattle.model.specs.declared.Op2.{Op2}
use Rattle.model.specs.declared.Op2.TheVariants.{Equal, NotEqual, Less, LessEqual, Greater, GreaterEqual, Add, Subtract, BitAnd, BitOr}
use Rattle.model.specs.declared.Op1.{Op1}
use Rattle.model.specs.declared.Op1.TheVariants.{Not, Flag, Variable, Item, Atc, Time}
use Rattle.model.specs.Sheet.{Sheet, item_count, all}
use Rattle.model.specs.Requirement.{Requirement, haveItem, haveAtc, haveFlag, negate_req, insert, settled, extend}
use Rattle.model.specs.Shop.{Slot, empty_slot}
use Rattle.model.specs.Script.{Command, return, goto, set_variable, set_other, if_else, end_if, other_command, Block, placeholder, code, data_block, Script, block_at}
use Rattle.model.specs.Judge.{script_refusal, shared_refusal}

-- ---- requirements of a condition

-- the number of an Imm
abbrev pub value : Expr → Option ℤ
value (two o a b) = none
value (one o a) = none
value (imm16 z) = some z
value (imm32 z) = some z
value other = none

-- an expression names an id if it is Imm16 or Imm32 with such a value
abbrev pub id_below : ℕ → (ℕ → Requirement) → Option ℤ → Option Requirement
id_below n f none = none
id_below n f (some (negsuc k)) = none
id_below n f (some (pos k)) = cond (ltb k n) (some (f k)) none

abbrev pub flag_req : Option ℤ → Option Requirement
flag_req none = none
flag_req (some z) = some (haveFlag z)

abbrev pub read_req : Sheet → Op1 → Option ℤ → Option Requirement
read_req h Item o = id_below (item_count h) haveItem o
read_req h Atc o = id_below h.atc_count haveAtc o
read_req h Flag o = flag_req o
read_req h Variable o = none
read_req h Time o = none
read_req h Not o = none

abbrev pub map_req : (Requirement → Requirement) → Option Requirement → Option Requirement
map_req f none = none
map_req f (some r) = some (f r)

-- a comparison counts where its right side is 0
abbrev pub if_zero : Option ℤ → Option Requirement → Option Requirement
if_zero none o = none
if_zero (some z) o = cond (is_zero z) o none

abbrev pub compare_req : Op2 → Option Requirement → Option ℤ → Option Requirement
compare_req NotEqual o z = if_zero z o
compare_req Greater o z = if_zero z o
compare_req Equal o z = if_zero z (map_req negate_req o)
compare_req LessEqual o z = if_zero z (map_req negate_req o)
compare_req Less o z = none
compare_req GreaterEqual o z = none
compare_req Add o z = none
compare_req Subtract o z = none
compare_req BitAnd o z = none
compare_req BitOr o z = none

-- comparisons with 0 as parse_requirement
abbrev pub parse_requirement : Sheet → Expr → Option Requirement
parse_requirement h (two o a b) = compare_req o (parse_requirement h a) (value b)
parse_requirement h (one o a) = read_req h o (value a)
parse_requirement h (imm16 z) = none
parse_requirement h (imm32 z) = none
parse_requirement h other = none

abbrev pub signed : Bool → Requirement → Requirement
signed true r = negate_req r
signed false r = r

abbrev pub add_req : Bool → Option Requirement → List Requirement → List Requirement
add_req n none rs = rs
add_req n (some r) rs = insert (signed n r) rs

abbrev pub is_join : Op2 → Bool
is_join BitAnd = true
is_join BitOr = true
is_join Equal = false
is_join NotEqual = false
is_join Less = false
is_join LessEqual = false
is_join Greater = false
is_join GreaterEqual = false
is_join Add = false
is_join Subtract = false

abbrev pub is_not : Op1 → Bool
is_not Not = true
is_not Flag = false
is_not Variable = false
is_not Item = false
is_not Atc = false
is_not Time = false

-- And and Or both join, Not toggles the sign n; as do_parse_requirements
unfoldable pub gather : Sheet → Expr → Bool → List Requirement → List Requirement
gather h (two o a b) n rs = cond (is_join o) (gather h b n (gather h a n rs)) (add_req n (parse_requirement h (two o a b)) rs)
gather h (one o a) n rs = cond (is_not o) (gather h a (not n) rs) (add_req n (parse_requirement h (one o a)) rs)
gather h (imm16 z) n rs = rs
gather h (imm32 z) n rs = rs
gather h other n rs = rs

-- of a condition: contradicting pairs drop
unfoldable pub parse_requirements : Sheet → Option Expr → List Requirement
parse_requirements h none = []
parse_requirements h (some e) = settled (gather h e false [])

abbrev pub join : Option Expr → Expr → Expr
join none e = e
join (some c) e = two BitAnd c e

-- ---- one block: its variables, the current limit, and the conditions of next and else

pub data Place : Type 0 where
  temp elsewhere : Place
  itemVar countVar : ℕ → Place

-- target numbers are not cut
unfoldable pub place_of : ℕ → Place
place_of n =
    cond (eqb n 0) temp
    (cond (ltb n item_first) elsewhere
    (cond (ltb n (item_first + slot_count)) (itemVar (n - item_first))
    (cond (ltb n count_first) elsewhere
    (cond (ltb n (count_first + slot_count)) (countVar (n - count_first)) elsewhere))))

-- of set targets only Imm variables count
abbrev pub place : Option ℤ → Place
place none = elsewhere
place (some (negsuc n)) = elsewhere
place (some (pos n)) = place_of n

-- items and counts written, where a bit of their mask is set
pub record Scan : Type 0 where
  pub items : List (Option ℤ)
  pub counts : List (Option ℤ)
  pub limit : ℤ
  pub on_next : Option Expr
  pub on_else : Option Expr

-- the Imm in variable 0 := Imm − item[Imm]
abbrev pub limit_in : Option ℤ → Option ℤ → ℤ → ℤ
limit_in (some z) (some k) old = cut16 z
limit_in (some z) none old = old
limit_in none k old = old

abbrev pub item_index : Expr → Option ℤ
item_index (two o a b) = none
item_index (one Item a) = value a
item_index (one Not a) = none
item_index (one Flag a) = none
item_index (one Variable a) = none
item_index (one Atc a) = none
item_index (one Time a) = none
item_index (imm16 z) = none
item_index (imm32 z) = none
item_index other = none

abbrev pub is_subtract : Op2 → Bool
is_subtract Subtract = true
is_subtract Equal = false
is_subtract NotEqual = false
is_subtract Less = false
is_subtract LessEqual = false
is_subtract Greater = false
is_subtract GreaterEqual = false
is_subtract Add = false
is_subtract BitAnd = false
is_subtract BitOr = false

abbrev pub new_limit : Expr → ℤ → ℤ
new_limit (two o a b) old = cond (is_subtract o) (limit_in (value a) (item_index b) old) old
new_limit (one o a) old = old
new_limit (imm16 z) old = old
new_limit (imm32 z) old = old
new_limit other old = old

-- var[0] reads as the last limit
abbrev pub if_first : Option ℤ → ℤ → Option ℤ
if_first none l = none
if_first (some z) l = cond (is_zero z) (some l) none

-- Imm32 values written are cut to 16 bits
abbrev pub written : Expr → ℤ → Option ℤ
written (imm16 z) l = some z
written (imm32 z) l = some (cut16 z)
written (one Variable a) l = if_first (value a) l
written (one Not a) l = none
written (one Flag a) l = none
written (one Item a) l = none
written (one Atc a) l = none
written (one Time a) l = none
written (two o a b) l = none
written other l = none

abbrev pub put_at : List (Option ℤ) → ℕ → Option ℤ → List (Option ℤ)
put_at l i none = l
put_at l i (some z) = set l i (some z)

-- as evaluate_set
abbrev pub evaluate_set : Place → Expr → Scan → Scan
evaluate_set temp e k = record { items = k.items; counts = k.counts; limit = new_limit e k.limit; on_next = k.on_next; on_else = k.on_else }
evaluate_set elsewhere e k = k
evaluate_set (itemVar i) e k = record { items = put_at k.items i (written e k.limit); counts = k.counts; limit = k.limit; on_next = k.on_next; on_else = k.on_else }
evaluate_set (countVar i) e k = record { items = k.items; counts = put_at k.counts i (written e k.limit); limit = k.limit; on_next = k.on_next; on_else = k.on_else }

-- a condition is joined only through If, negated for the else; the last If in a block counts
abbrev pub scan_one : Option Expr → Command → Scan → Scan
scan_one c return k = k
scan_one c (goto b) k = k
scan_one c (set_variable t e) k = evaluate_set (place (value t)) e k
scan_one c (set_other e) k = k
scan_one c (if_else e b) k = record { items = k.items; counts = k.counts; limit = k.limit; on_next = some (join c e); on_else = some (join c (negate e)) }
scan_one c (end_if b) k = k
scan_one c other_command k = k

abbrev pub scan : Option Expr → List Command → Scan → Scan
scan c [] k = k
scan c (x ∷ xs) k = scan c xs (scan_one c x k)

abbrev pub blank : List (Option ℤ)
blank = replicate slot_count none

-- ---- slots, as update_slots

-- a known item fills a slot without one
abbrev pub fill_item : Option ℕ → ℕ → Bool → Option ℕ
fill_item (some w) k b = some w
fill_item none k b = cond b (some k) none

-- a count above 0 replaces the limit, known item or not
abbrev pub new_count : ℤ → ℤ → ℤ
new_count (negsuc n) old = old
new_count (pos n) old = cond (eqb n 0) old (pos n)

-- item below 0 or absent adds the negated requirements
abbrev pub update_item : Sheet → List Requirement → Option ℤ → ℤ → Slot → Slot
update_item h rs none z x = record { item = x.item; limit = x.limit; requirements = extend x.requirements rs }
update_item h rs (some (negsuc k)) z x = record { item = x.item; limit = x.limit; requirements = extend x.requirements rs }
update_item h rs (some (pos k)) z x = record { item = fill_item x.item k (ltb k (item_count h)); limit = new_count z x.limit; requirements = x.requirements }

-- no count, no update
abbrev pub update_slot : Sheet → List Requirement → Option ℤ → Option ℤ → Slot → Slot
update_slot h rs o none x = x
update_slot h rs o (some z) x = update_item h rs o z x

abbrev pub update_slots : Sheet → List Requirement → List (Option ℤ) → List (Option ℤ) → List Slot → List Slot
update_slots h rs (a ∷ ms) (b ∷ bs) (x ∷ xs) = update_slot h rs a b x ∷ update_slots h rs ms bs xs
update_slots h rs (a ∷ ms) (b ∷ bs) [] = []
update_slots h rs (a ∷ ms) [] xs = xs
update_slots h rs [] bs xs = xs

abbrev pub few_entries : Slot → Bool
few_entries x = leb (length x.requirements) entry_limit

-- ---- the walk

-- what parsing has so far: the slots, the marks of visited blocks, the current limit, the refusal or 0
pub record State : Type 0 where
  pub slots : List Slot
  pub marks : List Bool
  pub current : ℤ
  pub answer : ℕ

abbrev pub refuse : ℕ → State → State
refuse n st = record { slots = st.slots; marks = st.marks; current = st.current; answer = n }

abbrev pub scanned : Option Expr → List Command → State → Scan
scanned c cs st = scan c cs (record { items = blank; counts = blank; limit = st.current; on_next = none; on_else = none })

abbrev pub slots_after : Sheet → Option Expr → List Command → State → List Slot
slots_after h c cs st = update_slots h (parse_requirements h c) (scanned c cs st).items (scanned c cs st).counts st.slots

-- a code block was visited: 11 where a slot has over entry_limit requirements
unfoldable pub visited : Sheet → ℕ → Option Expr → List Command → State → State
visited h b c cs st = record {
  slots = slots_after h c cs st;
  marks = set st.marks b true;
  current = (scanned c cs st).limit;
  answer = cond (all few_entries (slots_after h c cs st)) 0 parse_too_many;
}

abbrev pub passed_over : State → ℕ → Bool
passed_over st b = get_or st.marks b false || not (eqb st.answer 0)

-- each block once, next before else, else only where there is a next; f bounds the depth
unfoldable pub parse_block : Sheet → List Block → ℕ → ℕ → Option Expr → State → State
parse_block h bs zero b c st = st
parse_block h bs (suc f) b c st =
    elim (passed_over st b) [
      | true ↦ st
      | false ↦ elim (block_at bs b) [
        | placeholder ↦ refuse parse_not_code st
        | data_block ↦ refuse parse_not_code st
        | code cs nx el ↦ elim nx [
          | none ↦ visited h b c cs st
          | some k ↦ elim el [
            | none ↦ parse_block h bs f k (scanned c cs st).on_next (visited h b c cs st)
            | some j ↦ parse_block h bs f j (scanned c cs st).on_else (parse_block h bs f k (scanned c cs st).on_next (visited h b c cs st))
          ]
        ]
      ]
    ]

abbrev pub start : List Block → State
start bs = record { slots = replicate slot_count empty_slot; marks = replicate (length bs) false; current = pos 0; answer = 0 }

-- each level of the walk marks one more block, so one level more than there are blocks is enough
unfoldable pub parse : Sheet → List Block → ℕ → State
parse h bs b = parse_block h bs (suc (length bs)) b none (start bs)

-- ---- the call: 1 to 7, then 10 and 11 as first met; a refused parse hands out nothing

pub record Parsed : Type 0 where
  pub answer : ℕ
  pub slots : List Slot

abbrev pub handed_out : ℕ → List Slot → Parsed
handed_out zero xs = record { answer = 0; slots = xs }
handed_out (suc n) xs = record { answer = suc n; slots = [] }

abbrev pub after_checks : ℕ → State → Parsed
after_checks zero st = handed_out st.answer st.slots
after_checks (suc n) st = record { answer = suc n; slots = [] }

-- j is what the judgement of the script answered
unfoldable pub parse_checked : Sheet → ℕ → Script → ℕ → Parsed
parse_checked h j sc b = after_checks (shared_refusal h j sc b) (parse h sc.blocks b)

abbrev pub parse_call : Sheet → Script → ℕ → Parsed
parse_call h sc b = parse_checked h (script_refusal sc) sc b
