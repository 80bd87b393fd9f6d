-- The blocks of each shape of slot, written out as document 01 lists them and compared with what the definitions give. Assumes nothing.
use Rattle.std.specs.Prelude.{◌≡◌, refl, List, [], ◌∷◌, ℕ, pos, negsuc}
use Rattle.std.proofs.Math.Option.{none, some}
use Rattle.model.specs.Limits.{item_first, count_first}
use Rattle.model.specs.Expr.{Expr, two, one, imm16, imm32}
use Rattle.model.specs.declared.Op2.TheVariants.{Equal, NotEqual, Less, Subtract, BitAnd, BitOr}
use Rattle.model.specs.declared.Op1.TheVariants.{Not, Flag, Variable, Item, Atc, Time}
use Rattle.model.specs.Requirement.{haveItem, missingAtc, haveFlag, missingFlag}
use Rattle.model.specs.Shop.{Slot}
use Rattle.model.specs.Script.{Command, set_variable, if_else, end_if, Block, code}
use Rattle.model.specs.Compile.{slot_blocks, acquired_expr}
use Rattle.model.proofs.Cases.{sheet, slot_of, opened}

-- slot 0 after block 4, which is End
pub blocks_of : Slot → List Block
blocks_of x = slot_blocks sheet 0 4 x

-- the two writes of slot 0
abbrev writes : Expr → Expr → List Command → List Command
writes a b cs = set_variable (imm16 (pos item_first)) a ∷ set_variable (imm16 (pos count_first)) b ∷ cs

abbrev num : ℕ → Expr
num n = imm16 (pos n)

-- item[i] != 0 and its negation, flag[f] and its negation
abbrev has : ℕ → Expr
has i = two NotEqual (one Item (num i)) (num 0)

abbrev lacks : ℕ → Expr
lacks i = two Equal (one Item (num i)) (num 0)

abbrev var0 : Expr
var0 = one Variable (num 0)

abbrev hide : Block
hide = code (writes (imm16 (negsuc 0)) (num 0) []) (some 4) none

-- no item: H alone, its requirements lost
pub no_item : blocks_of (record { item = none; limit = pos 3; requirements = haveFlag (pos 9) ∷ [] }) ≡ hide ∷ []
unfolding opened blocks_of
no_item = refl

-- limit 1 without requirements: D, N, V; D has no EndIf
pub unique_bare : blocks_of (slot_of 7 (pos 1) []) ≡
    code (writes (num 7) (num 0) []) (some 4) none
    ∷ code (writes (num 7) (num 1) (end_if 4 ∷ [])) (some 4) none
    ∷ code (if_else (lacks 7) 5 ∷ []) (some 6) (some 5)
    ∷ []
unfolding opened blocks_of
unique_bare = refl

-- limit 1 with requirements: H, D, E, N, V
pub unique_hidden : blocks_of (slot_of 7 (pos 1) (haveFlag (pos 9) ∷ haveItem 4 ∷ haveFlag (pos 9) ∷ [])) ≡
    hide
    ∷ code (writes (num 7) (num 0) (end_if 4 ∷ [])) (some 4) none
    ∷ code (if_else (has 7) 5 ∷ []) (some 6) (some 5)
    ∷ code (writes (num 7) (num 1) (end_if 4 ∷ [])) (some 4) none
    ∷ code (if_else (two BitAnd (lacks 7) (two BitAnd (has 4) (one Flag (num 9)))) 7 ∷ []) (some 8) (some 7)
    ∷ []
unfolding opened blocks_of
unique_hidden = refl

-- an item with an atc: its test is the atc's
pub unique_atc : blocks_of (slot_of 3 (pos 5) []) ≡
    code (writes (num 3) (num 0) []) (some 4) none
    ∷ code (writes (num 3) (num 1) (end_if 4 ∷ [])) (some 4) none
    ∷ code (if_else (two Equal (one Atc (num 0)) (num 0)) 5 ∷ []) (some 6) (some 5)
    ∷ []
unfolding opened blocks_of
unique_atc = refl

abbrev rate : ℕ → Expr
rate r = two Equal (one Time (num 2)) (num r)

-- Timer5: D, N, D2, T, V
pub unique_timer5 : blocks_of (slot_of 0 (pos 1) []) ≡
    code (writes (num 0) (num 0) []) (some 4) none
    ∷ code (writes (num 0) (num 1) (end_if 4 ∷ [])) (some 4) none
    ∷ code (writes (num 0) (num 0) (end_if 4 ∷ [])) (some 4) none
    ∷ code (if_else (two BitAnd (lacks 1) (lacks 2)) 6 ∷ []) (some 7) (some 6)
    ∷ code (if_else (two BitAnd (lacks 0) (two NotEqual (one Time (num 2)) (num 200))) 5 ∷ []) (some 8) (some 5)
    ∷ []
unfolding opened blocks_of
unique_timer5 = refl

-- Timer10 and Timer15 with requirements: E asks for the item or the rate
pub unique_timer10 : blocks_of (slot_of 1 (pos 9) (missingAtc 0 ∷ [])) ≡
    hide
    ∷ code (writes (num 1) (num 0) (end_if 4 ∷ [])) (some 4) none
    ∷ code (if_else (two BitOr (has 1) (rate 100)) 5 ∷ []) (some 6) (some 5)
    ∷ code (writes (num 1) (num 1) (end_if 4 ∷ [])) (some 4) none
    ∷ code (if_else (two BitAnd (two BitAnd (lacks 1) (two NotEqual (one Time (num 2)) (num 100))) (two Equal (one Atc (num 0)) (num 0))) 7 ∷ []) (some 8) (some 7)
    ∷ []
unfolding opened blocks_of
unique_timer10 = refl

pub rate_of_timer15 : acquired_expr sheet 2 ≡ two BitOr (has 2) (rate 67)
unfolding opened
rate_of_timer15 = refl

-- limit above 1 without requirements: S, Z, M
pub limit_bare : blocks_of (slot_of 7 (pos 3) []) ≡
    code (writes (num 7) var0 []) (some 4) none
    ∷ code (set_variable (num 0) (num 0) ∷ []) (some 5) none
    ∷ code (set_variable (num 0) (two Subtract (num 3) (one Item (num 7))) ∷ if_else (two Less var0 (num 0)) 5 ∷ []) (some 6) (some 5)
    ∷ []
unfolding opened blocks_of
limit_bare = refl

-- with requirements: H, S, Z, M, If R; a flag of over 16 bits is an Imm32
pub limit_hidden : blocks_of (slot_of 7 (pos 10) (missingFlag (pos 40) ∷ haveFlag (pos 40000) ∷ [])) ≡
    hide
    ∷ code (writes (num 7) var0 (end_if 4 ∷ [])) (some 4) none
    ∷ code (set_variable (num 0) (num 0) ∷ []) (some 6) none
    ∷ code (set_variable (num 0) (two Subtract (num 10) (one Item (num 7))) ∷ if_else (two Less var0 (num 0)) 6 ∷ []) (some 7) (some 6)
    ∷ code (if_else (two BitAnd (one Flag (imm32 (pos 40000))) (one Not (one Flag (num 40)))) 5 ∷ []) (some 8) (some 5)
    ∷ []
unfolding opened blocks_of
limit_hidden = refl
