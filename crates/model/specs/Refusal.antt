-- The refusals of documents 01 and 02 by number, and the order in which checks answer. Assumes nothing: these are definitions.
use Rattle.std.specs.Prelude.{Bool, true, false, List, [], ◌∷◌, ℕ, zero, suc}

-- answered without a refusal
abbrev pub accepted : ℕ
accepted = 0

abbrev pub bad_sheet : ℕ
bad_sheet = 1

abbrev pub bad_image : ℕ
bad_image = 2

abbrev pub over_limit : ℕ
over_limit = 3

abbrev pub too_deep : ℕ
too_deep = 4

abbrev pub no_such_link : ℕ
no_such_link = 5

abbrev pub not_block : ℕ
not_block = 6

abbrev pub not_code : ℕ
not_code = 7

abbrev pub bad_shop : ℕ
bad_shop = 8

abbrev pub no_room : ℕ
no_room = 9

abbrev pub parse_not_code : ℕ
parse_not_code = 10

abbrev pub parse_too_many : ℕ
parse_too_many = 11

abbrev pub bad_save : ℕ
bad_save = 12

abbrev pub met_other : ℕ
met_other = 13

abbrev pub no_next : ℕ
no_next = 14

abbrev pub budget_spent : ℕ
budget_spent = 15

abbrev pub slice_short : ℕ
slice_short = 16

-- 02, A.2: a compile at a block whose birth mark is not 0
abbrev pub born_later : ℕ
born_later = 17

-- 02, A.4: a reclaim whose list of roots is too long, or with a root that is not a block
abbrev pub bad_roots : ℕ
bad_roots = 18

-- 02, A.6: the loader is demo and the result of a compile passes a demo limit
abbrev pub demo_full : ℕ
demo_full = 19

-- 02, A.7: a user outside 0 to 15, editing or being shown
abbrev pub no_user : ℕ
no_user = 20

-- 02, A.7: an edit with a slot outside 0 to 19, or without the right to change that field
abbrev pub no_right : ℕ
no_right = 21

-- 02, A.8: 0 or more than 64 saves, or a block that is led to has a link that does not go to a lower number
abbrev pub bad_walk : ℕ
bad_walk = 22

-- 02, A.10: a run reads a flag outside the save
abbrev pub no_flag : ℕ
no_flag = 23

-- 02, A.11: a price or discount out of range, or a tariff without exactly one price per item
abbrev pub bad_tariff : ℕ
bad_tariff = 24

-- 02, A.11: a basket number below 0, above its count, or above 0 where the slot's item is not on the sheet
abbrev pub bad_basket : ℕ
bad_basket = 25

-- 02, A.13: a list of wishes over its limit
abbrev pub too_many_wishes : ℕ
too_many_wishes = 26

-- 02, A.13: a wished slot outside 0 to 19
abbrev pub no_such_wish : ℕ
no_such_wish = 27

-- 02, A.13: money out of range
abbrev pub bad_money : ℕ
bad_money = 28

-- a check refuses with its number where its test fails
abbrev pub check : Bool → ℕ → ℕ
check true n = accepted
check false n = n

-- checks in their order: the first that refuses answers
abbrev pub first_of : List ℕ → ℕ
first_of [] = accepted
first_of (zero ∷ ns) = first_of ns
first_of (suc n ∷ ns) = suc n
