-- The text of a shop read back: the slots of twenty lines as the program slots prints them, or the line that is none of these and why. Assumes nothing: these are definitions.
use Rattle.std.specs.Prelude.{Bool, true, cond, ◌&&◌, List, [], ◌∷◌, ℕ, zero, suc, ◌+◌, ◌-◌, ◌*◌, ltb, leb, eqb, length, ℤ, pos, negsuc}
use Rattle.std.proofs.Math.Option.{Option, none, some}
use Rattle.std.specs.Int.{w16, w32}
use Rattle.model.specs.Limits.{slot_count, entry_limit, wide16, half16, half32}
use Rattle.model.specs.Reading.{Answer, got, refused, onward}
use Rattle.model.specs.Requirement.{Requirement, haveItem, missingItem, haveAtc, missingAtc, haveFlag, missingFlag, number}
use Rattle.model.specs.Sheet.{all}
use Rattle.model.specs.Shop.{Slot}
use Rattle.model.specs.Signed.{in_range}

-- ---- why a line is none: the reasons, in the order in which a line is read

-- it does not begin with its slot's number and a blank
abbrev pub no_slot : ℕ
no_slot = 1

-- then neither - nor an item's number, and a blank
abbrev pub no_item : ℕ
no_item = 2

-- then no limit
abbrev pub no_limit : ℕ
no_limit = 3

-- behind a blank no letter of I i A a F f with a number
abbrev pub no_requirement : ℕ
no_requirement = 4

-- more requirements than a slot may have
abbrev pub many_requirements : ℕ
many_requirements = 5

-- something else than a blank or the line's end, or the text ends
abbrev pub no_end : ℕ
no_end = 6

-- text behind the last line
abbrev pub more_text : ℕ
more_text = 7

-- ---- numbers in the form that is printed: no 0 in front, and no sign but a minus

abbrev pub is_digit : ℕ → Bool
is_digit c = leb 48 c && leb c 57

-- the digits behind n, which with them stays below b
unfoldable pub read_digits : ℕ → ℕ → ℕ → List ℕ → Answer ℕ
read_digits e b n [] = got n []
read_digits e b n (c ∷ s) = cond (is_digit c) (cond (ltb (10 * n + (c - 48)) b) (read_digits e b (10 * n + (c - 48)) s) (refused e)) (got n (c ∷ s))

-- a number below b, which is at least 10; a 0 stands alone: what follows it is the next thing on the line
unfoldable pub read_natural : ℕ → ℕ → List ℕ → Answer ℕ
read_natural e b [] = refused e
read_natural e b (c ∷ s) = cond (eqb c 48) (got 0 s) (cond (is_digit c) (read_digits e b (c - 48) s) (refused e))

-- behind a minus: -0 is no number
abbrev pub negative : ℕ → ℕ → List ℕ → Answer ℤ
negative e zero s = refused e
negative e (suc n) s = got (negsuc n) s

-- from minus b to below b
unfoldable pub read_signed : ℕ → ℕ → List ℕ → Answer ℤ
read_signed e b [] = refused e
read_signed e b (c ∷ s) = cond (eqb c 45) (onward (read_natural e (suc b) s) (λ n r. negative e n r)) (onward (read_natural e b (c ∷ s)) (λ n r. got (pos n) r))

-- ---- a line: the slot's number, its item or -, its limit, its requirements

-- what was read has a blank behind it
abbrev pub blank_behind : {A : Type 0} → ℕ → Answer A → Answer A
blank_behind e (got x []) = refused e
blank_behind e (got x (c ∷ s)) = cond (eqb c 32) (got x s) (refused e)
blank_behind e (refused n) = refused n

-- the line of slot i begins with i
unfoldable pub read_number : ℕ → List ℕ → Answer ℕ
read_number i s = onward (read_natural no_slot slot_count s) (λ n r. cond (eqb n i) (got n r) (refused no_slot))

unfoldable pub read_item : List ℕ → Answer (Option ℕ)
read_item [] = refused no_item
read_item (c ∷ s) = cond (eqb c 45) (got none s) (onward (read_natural no_item wide16 (c ∷ s)) (λ n r. got (some n) r))

abbrev pub read_id : (ℕ → Requirement) → List ℕ → Answer Requirement
read_id k s = onward (read_natural no_requirement half32 s) (λ n r. got (k n) r)

abbrev pub read_flag : (ℤ → Requirement) → List ℕ → Answer Requirement
read_flag k s = onward (read_signed no_requirement half32 s) (λ z r. got (k z) r)

-- I i A a F f, each with its number
unfoldable pub read_requirement : List ℕ → Answer Requirement
read_requirement [] = refused no_requirement
read_requirement (c ∷ s) =
    cond (eqb c 73) (read_id haveItem s) (cond (eqb c 105) (read_id missingItem s)
    (cond (eqb c 65) (read_id haveAtc s) (cond (eqb c 97) (read_id missingAtc s)
    (cond (eqb c 70) (read_flag haveFlag s) (cond (eqb c 102) (read_flag missingFlag s) (refused no_requirement))))))

-- to the line's end, at most k of them, in any order
unfoldable pub read_requirements : ℕ → List ℕ → Answer (List Requirement)
read_requirements zero [] = refused no_end
read_requirements zero (c ∷ s) = cond (eqb c 10) (got [] s) (refused (cond (eqb c 32) many_requirements no_end))
read_requirements (suc k) [] = refused no_end
read_requirements (suc k) (c ∷ s) =
    cond (eqb c 10) (got [] s)
    (cond (eqb c 32) (onward (read_requirement s) (λ r t. onward (read_requirements k t) (λ rs u. got (r ∷ rs) u))) (refused no_end))

unfoldable pub read_slot : ℕ → List ℕ → Answer Slot
read_slot i s =
    onward (blank_behind no_slot (read_number i s)) (λ n r.
    onward (blank_behind no_item (read_item r)) (λ o t.
    onward (read_signed no_limit half16 t) (λ z u.
    onward (read_requirements entry_limit u) (λ rs v. got (record { item = o; limit = z; requirements = rs }) v))))

-- ---- the whole

-- the shop's slots, or the line, counted from 1, and the reason
pub data ReadText : Type 0 where
  slots : List Slot → ReadText
  bad : ℕ → ℕ → ReadText

abbrev pub before : Slot → ReadText → ReadText
before x (slots xs) = slots (x ∷ xs)
before x (bad l e) = bad l e

-- the line of slot i, and the lines behind it
abbrev pub line_then : ℕ → Answer Slot → (List ℕ → ReadText) → ReadText
line_then i (got x r) k = before x (k r)
line_then i (refused e) k = bad (suc i) e

-- n lines, from that of slot i on
unfoldable pub read_lines : ℕ → ℕ → List ℕ → ReadText
read_lines zero i [] = slots []
read_lines zero i (c ∷ s) = bad (suc i) more_text
read_lines (suc n) i s = line_then i (read_slot i s) (λ r. read_lines n (suc i) r)

unfoldable pub read_text : List ℕ → ReadText
read_text s = read_lines slot_count 0 s

-- ---- the shops that are printed and read: item and limit of 16 bits, as many requirements as a slot may have, their numbers signed of 32 bits

abbrev pub item_printable : Option ℕ → Bool
item_printable none = true
item_printable (some i) = ltb i wide16

abbrev pub req_printable : Requirement → Bool
req_printable r = in_range w32 (number r)

abbrev pub slot_printable : Slot → Bool
slot_printable x = item_printable x.item && (in_range w16 x.limit && (leb (length x.requirements) entry_limit && all req_printable x.requirements))

abbrev pub printable : List Slot → Bool
printable xs = eqb (length xs) slot_count && all slot_printable xs
