-- Small texts read, computed from the definitions: a line of slot 0 with each reason, and numbers at their bounds. Assumes nothing.
use Rattle.std.specs.Prelude.{◌≡◌, refl, List, [], ◌∷◌, ℕ, zero, suc, replicate, pos, negsuc}
use Rattle.std.proofs.Math.Option.{some}
use Rattle.model.specs.Limits.{entry_limit, slot_count}
use Rattle.model.specs.Reading.{got, refused}
use Rattle.model.specs.Requirement.{haveAtc, haveFlag, missingFlag, missingItem}
use Rattle.model.specs.Shop.{Slot, empty_slot}
use Rattle.model.specs.Printer.{decimal, digits_to, item_text, requirements_text, signed_decimal, slot_line, slot_lines}
use Rattle.text_model.specs.Text.{bad, many_requirements, more_text, no_end, no_item, no_limit, no_requirement, no_slot, read_digits, read_item, read_lines, read_natural, read_number, read_requirement, read_requirements, read_signed, read_slot, read_text, slots}
use Rattle.text_model.proofs.Inverse.{printed_reads}

-- what follows "0 - 0" on a line
abbrev then : List ℕ → List ℕ
then s = 48 ∷ 32 ∷ 45 ∷ 32 ∷ 48 ∷ s

-- what follows "0 " and "0 - "
abbrev item_then : List ℕ → List ℕ
item_then s = 48 ∷ 32 ∷ s

abbrev limit_then : List ℕ → List ℕ
limit_then s = 48 ∷ 32 ∷ 45 ∷ 32 ∷ s

-- " F0", n times
abbrev flags : ℕ → List ℕ
flags zero = 10 ∷ []
flags (suc n) = 32 ∷ 70 ∷ 48 ∷ flags n

-- ---- lines that are read

pub empty_line_lem : read_slot 0 (then (10 ∷ [])) ≡ got empty_slot []
unfolding read_slot read_number read_natural read_digits read_item read_signed read_requirements
empty_line_lem = refl

-- 0 65535 -32768 i12 A0 f-2147483648 F2147483647: the requirements stay in this order
pub bounds : read_slot 0 (item_then (54 ∷ 53 ∷ 53 ∷ 51 ∷ 53 ∷ 32 ∷ 45 ∷ 51 ∷ 50 ∷ 55 ∷ 54 ∷ 56 ∷ 32 ∷ 105 ∷ 49 ∷ 50 ∷ 32 ∷ 65 ∷ 48 ∷ 32 ∷ 102 ∷ 45 ∷ 50 ∷ 49 ∷ 52 ∷ 55 ∷ 52 ∷ 56 ∷ 51 ∷ 54 ∷ 52 ∷ 56 ∷ 32 ∷ 70 ∷ 50 ∷ 49 ∷ 52 ∷ 55 ∷ 52 ∷ 56 ∷ 51 ∷ 54 ∷ 52 ∷ 55 ∷ 10 ∷ []))
    ≡ got (record { item = some 65535; limit = negsuc 32767; requirements = missingItem 12 ∷ haveAtc 0 ∷ missingFlag (negsuc 2147483647) ∷ haveFlag (pos 2147483647) ∷ [] }) []
unfolding read_slot read_number read_natural read_digits read_item read_signed read_requirements read_requirement
bounds = refl

-- ---- each reason

-- the line of slot 1 in the place of that of slot 0, and a 0 in front
pub other_slot : read_slot 0 (49 ∷ 32 ∷ 45 ∷ 32 ∷ 48 ∷ 10 ∷ []) ≡ refused no_slot
unfolding read_slot read_number read_natural read_digits
other_slot = refl

pub zero_slot : read_slot 0 (48 ∷ then (10 ∷ [])) ≡ refused no_slot
unfolding read_slot read_number read_natural
zero_slot = refl

-- 0 07 1 and 0 65536 1
pub zero_item : read_slot 0 (item_then (48 ∷ 55 ∷ 32 ∷ 49 ∷ 10 ∷ [])) ≡ refused no_item
unfolding read_slot read_number read_natural read_item
zero_item = refl

pub wide_item : read_slot 0 (item_then (54 ∷ 53 ∷ 53 ∷ 51 ∷ 54 ∷ 32 ∷ 49 ∷ 10 ∷ [])) ≡ refused no_item
unfolding read_slot read_number read_natural read_digits read_item
wide_item = refl

-- 0 - -0, 0 - 32768 and 0 - -32769
pub minus_zero : read_slot 0 (limit_then (45 ∷ 48 ∷ 10 ∷ [])) ≡ refused no_limit
unfolding read_slot read_number read_natural read_item read_signed
minus_zero = refl

pub high_limit : read_slot 0 (limit_then (51 ∷ 50 ∷ 55 ∷ 54 ∷ 56 ∷ 10 ∷ [])) ≡ refused no_limit
unfolding read_slot read_number read_natural read_digits read_item read_signed
high_limit = refl

pub low_limit : read_slot 0 (limit_then (45 ∷ 51 ∷ 50 ∷ 55 ∷ 54 ∷ 57 ∷ 10 ∷ [])) ≡ refused no_limit
unfolding read_slot read_number read_natural read_digits read_item read_signed
low_limit = refl

-- 0 - 0 X1, 0 - 0 I-1 and a blank at the end
pub other_letter : read_slot 0 (then (32 ∷ 88 ∷ 49 ∷ 10 ∷ [])) ≡ refused no_requirement
unfolding read_slot read_number read_natural read_digits read_item read_signed read_requirements read_requirement
other_letter = refl

pub negative_item : read_slot 0 (then (32 ∷ 73 ∷ 45 ∷ 49 ∷ 10 ∷ [])) ≡ refused no_requirement
unfolding read_slot read_number read_natural read_digits read_item read_signed read_requirements read_requirement
negative_item = refl

pub blank_last : read_slot 0 (then (32 ∷ 10 ∷ [])) ≡ refused no_requirement
unfolding read_slot read_number read_natural read_digits read_item read_signed read_requirements read_requirement
blank_last = refl

pub one_too_many : read_slot 0 (then (flags (suc entry_limit))) ≡ refused many_requirements
unfolding read_slot read_number read_natural read_digits read_item read_signed read_requirements read_requirement
one_too_many = refl

-- 0 - 00, and a last line without its end
pub zero_limit : read_slot 0 (then (48 ∷ 10 ∷ [])) ≡ refused no_end
unfolding read_slot read_number read_natural read_digits read_item read_signed read_requirements
zero_limit = refl

pub no_end_lem : read_slot 0 (then []) ≡ refused no_end
unfolding read_slot read_number read_natural read_digits read_item read_signed read_requirements
no_end_lem = refl

-- ---- lines: two empty slots, the second at fault, text behind them, and none

pub two_lines : read_lines 2 0 (then (10 ∷ 49 ∷ 32 ∷ 45 ∷ 32 ∷ 48 ∷ 10 ∷ [])) ≡ slots (empty_slot ∷ empty_slot ∷ [])
unfolding read_lines read_slot read_number read_natural read_digits read_item read_signed read_requirements
two_lines = refl

pub second_line : read_lines 2 0 (then (10 ∷ then (10 ∷ []))) ≡ bad 2 no_slot
unfolding read_lines read_slot read_number read_natural read_digits read_item read_signed read_requirements
second_line = refl

pub behind_last : read_lines 1 0 (then (10 ∷ 10 ∷ [])) ≡ bad 2 more_text
unfolding read_lines read_slot read_number read_natural read_digits read_item read_signed read_requirements
behind_last = refl

pub no_text_lem : read_text [] ≡ bad 1 no_slot
unfolding read_text read_lines read_slot read_number read_natural
no_text_lem = refl

-- ---- whole texts: twenty empty slots, by reading; twenty that are as full and as wide as a slot can be, by the theorem

pub all_empty : read_text (slot_lines 0 (replicate slot_count empty_slot)) ≡ slots (replicate slot_count empty_slot)
unfolding read_text read_lines read_slot read_number read_natural read_digits read_item read_signed read_requirements slot_lines slot_line decimal digits_to item_text signed_decimal requirements_text
all_empty = refl

abbrev fullest : Slot
fullest = record { item = some 65535; limit = negsuc 32767; requirements = replicate entry_limit (missingFlag (negsuc 2147483647)) }

pub all_full : read_text (slot_lines 0 (replicate slot_count fullest)) ≡ slots (replicate slot_count fullest)
all_full = printed_reads (replicate slot_count fullest) refl
