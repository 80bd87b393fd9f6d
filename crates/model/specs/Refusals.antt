-- What the code answers, as the numbers of the definitions: a reason's number, and 0 where a call accepts. Assumes nothing.
use Rattle.std.specs.Prelude.{◌≡◌, ℕ, Result, Ok, Err}
use Rattle.std.proofs.Common.{arith}
use Rattle.model.specs.Refusal.{accepted, bad_sheet, bad_image, over_limit, too_deep, no_such_link, not_block, not_code, bad_shop, no_room, parse_not_code, parse_too_many, bad_save, met_other, no_next, budget_spent, slice_short, born_later, bad_roots, demo_full, no_user, no_right, bad_walk, no_flag, bad_tariff, bad_basket, too_many_wishes, no_such_wish, bad_money}
use Rattle.model.specs.declared.Refusal.{Refusal}
use Rattle.model.specs.declared.Refusal.TheVariants.{BadSheet, BadImage, OverLimit, TooDeep, NoSuchLink, NotBlock, NotCode, BadShop, NoRoom, ParseNotCode, ParseTooMany, BadSave, MetOther, NoNext, BudgetSpent, SliceShort, BornLater, BadRoots, DemoFull, NoUser, NoRight, BadWalk, NoFlag, BadTariff, BadBasket, TooManyWishes, NoSuchWish, BadMoney}

-- the number that documents 01 and 02 give a reason
abbrev pub refusal_number : Refusal → ℕ
refusal_number BadSheet = bad_sheet
refusal_number BadImage = bad_image
refusal_number OverLimit = over_limit
refusal_number TooDeep = too_deep
refusal_number NoSuchLink = no_such_link
refusal_number NotBlock = not_block
refusal_number NotCode = not_code
refusal_number BadShop = bad_shop
refusal_number NoRoom = no_room
refusal_number ParseNotCode = parse_not_code
refusal_number ParseTooMany = parse_too_many
refusal_number BadSave = bad_save
refusal_number MetOther = met_other
refusal_number NoNext = no_next
refusal_number BudgetSpent = budget_spent
refusal_number SliceShort = slice_short
refusal_number BornLater = born_later
refusal_number BadRoots = bad_roots
refusal_number DemoFull = demo_full
refusal_number NoUser = no_user
refusal_number NoRight = no_right
refusal_number BadWalk = bad_walk
refusal_number NoFlag = no_flag
refusal_number BadTariff = bad_tariff
refusal_number BadBasket = bad_basket
refusal_number TooManyWishes = too_many_wishes
refusal_number NoSuchWish = no_such_wish
refusal_number BadMoney = bad_money

-- the refusal of an answer, 0 where there is none
abbrev pub refusal_in : {A : Type 0} → Result A Refusal → ℕ
refusal_in (Ok x) = accepted
refusal_in (Err e) = refusal_number e

-- no reason has the number of acceptance
pub refuses : (e : Refusal) → refusal_number e ≡ accepted → ⊥
refuses BadSheet h = absurd (omega arith)
refuses BadImage h = absurd (omega arith)
refuses OverLimit h = absurd (omega arith)
refuses TooDeep h = absurd (omega arith)
refuses NoSuchLink h = absurd (omega arith)
refuses NotBlock h = absurd (omega arith)
refuses NotCode h = absurd (omega arith)
refuses BadShop h = absurd (omega arith)
refuses NoRoom h = absurd (omega arith)
refuses ParseNotCode h = absurd (omega arith)
refuses ParseTooMany h = absurd (omega arith)
refuses BadSave h = absurd (omega arith)
refuses MetOther h = absurd (omega arith)
refuses NoNext h = absurd (omega arith)
refuses BudgetSpent h = absurd (omega arith)
refuses SliceShort h = absurd (omega arith)
refuses BornLater h = absurd (omega arith)
refuses BadRoots h = absurd (omega arith)
refuses DemoFull h = absurd (omega arith)
refuses NoUser h = absurd (omega arith)
refuses NoRight h = absurd (omega arith)
refuses BadWalk h = absurd (omega arith)
refuses NoFlag h = absurd (omega arith)
refuses BadTariff h = absurd (omega arith)
refuses BadBasket h = absurd (omega arith)
refuses TooManyWishes h = absurd (omega arith)
refuses NoSuchWish h = absurd (omega arith)
refuses BadMoney h = absurd (omega arith)
