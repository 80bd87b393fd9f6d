-- The blocks of a slot from its context and the codes of its requirements, in the order in which the code pushes them. Assumes nothing: these are definitions.
-- Block numbers are counted from End, as the code counts them; Same.antt holds them against the definition.
use Rattle.std.specs.Prelude.{◌≡◌, Bool, true, false, cond, List, [], ◌∷◌, ◌++◌, map, ℕ, zero, suc, ◌+◌, ◌≤◌, ◌<◌, leb, ℤ, pos, length, take}
use Rattle.model.specs.Limits.{slot_count, entry_limit, half16}
use Rattle.model.specs.Expr.{Expr, imm16}
use Rattle.model.specs.Script.{Block}
use Rattle.model.specs.Requirement.{Requirement}
use Rattle.model.specs.Sheet as Model
use Rattle.model.specs.Shop.{Timer, plain, five, ten, fifteen, timer_of, limit_of}
use Rattle.model.specs.Compile.{acquired_expr, item_expr, hide_block, if_block, temp_var, reset_block, remaining_block}
use Rattle.shop_codes.specs.Codes.{requirement_of}
use Rattle.expr_build.specs.Tests.{acquired_of, missing_and, both_missing, join_codes}
use Rattle.compile_emit.specs.Values.{slot_block}
use Rattle.compile_slots.specs.declared.ItemContext.{ItemContext}

-- D, N, D2 and S: item and count v, by EndIf or not
abbrev pub item_block : ItemContext → Bool → Expr → Block
item_block x b v = slot_block b x.end.0 x.index (item_expr x.item.0) v

-- above N, which is block n: for Timer5 D2 and T, then V, whose else is k
abbrev pub enable_by : Bool → ItemContext → List ℕ → ℕ → ℕ → List Block
enable_by false x cs k n = if_block n (missing_and x.acquired cs x.len) k ∷ []
enable_by true x cs k n =
    item_block x true (imm16 (pos 0))
    ∷ if_block (n + 1) (both_missing x.ten.0 x.fifteen.0) n
    ∷ if_block (n + 2) (missing_and x.acquired cs x.len) k
    ∷ []

abbrev pub enable_of : ItemContext → List ℕ → ℕ → ℕ → List Block
enable_of x cs k n = enable_by x.five x cs k n

-- D, [E] and N, by the number of requirements
abbrev pub once_by : ℕ → ItemContext → List Block
once_by zero x = item_block x false (imm16 (pos 0)) ∷ item_block x true (imm16 (pos 1)) ∷ []
once_by (suc n) x = item_block x true (imm16 (pos 0)) ∷ if_block (x.end.0 + 2) (acquired_of x.acquired) (x.end.0 + 1) ∷ item_block x true (imm16 (pos 1)) ∷ []

abbrev pub once_of : ItemContext → List Block
once_of x = once_by x.len x

-- how many blocks stand between End and N: D, or H, D and E
abbrev pub before_by : ℕ → ℕ
before_by zero = 1
before_by (suc n) = 3

-- what follows H: the block before N is V's else
abbrev pub unique_by : ℕ → ItemContext → List ℕ → List Block
unique_by n x cs = once_by n x ++ enable_of x cs (x.end.0 + before_by n) (x.end.0 + before_by n + 1)

abbrev pub unique_of : ItemContext → List ℕ → List Block
unique_of x cs = unique_by x.len x cs

abbrev pub limit_by : ℕ → ItemContext → List ℕ → List Block
limit_by zero x cs = item_block x false temp_var ∷ reset_block (x.end.0 + 1) ∷ remaining_block x.limit x.item.0 (x.end.0 + 1) ∷ []
limit_by (suc n) x cs =
    item_block x true temp_var
    ∷ reset_block (x.end.0 + 2)
    ∷ remaining_block x.limit x.item.0 (x.end.0 + 2)
    ∷ if_block (x.end.0 + 4) (join_codes cs x.len) (x.end.0 + 1)
    ∷ []

abbrev pub limit_in : ItemContext → List ℕ → List Block
limit_in x cs = limit_by x.len x cs

abbrev pub sold_of : ItemContext → List ℕ → List Block
sold_of x cs = cond (leb x.limit 1) (unique_of x cs) (limit_in x cs)

abbrev pub filled_by : ℕ → ItemContext → List ℕ → List Block
filled_by zero x cs = sold_of x cs
filled_by (suc n) x cs = hide_block x.end.0 x.index ∷ sold_of x cs

abbrev pub filled_of : ItemContext → List ℕ → List Block
filled_of x cs = filled_by x.len x cs

-- what the functions want of a context
pub record Fitting (x : ItemContext) : Type 0 where
  pub index : x.index < slot_count
  pub few : x.len ≤ entry_limit
  pub rate : x.acquired.rate < half16

abbrev pub is_five : Timer → Bool
is_five plain = false
is_five five = true
is_five ten = false
is_five fifteen = false

-- a context on sheet h: limit z as given
pub record Stands (x : ItemContext) (h : Model.Sheet) (z : ℤ) : Type 0 where
  pub limit : x.limit ≡ limit_of h x.item.0 z
  pub acquired : acquired_of x.acquired ≡ acquired_expr h x.item.0
  pub rate : x.acquired.rate < half16
  pub five : x.five ≡ is_five (timer_of h x.item.0)
  pub ten : x.ten.0 ≡ h.timer10
  pub fifteen : x.fifteen.0 ≡ h.timer15

-- the first n codes of an array are those of the requirements rs
pub record Listed (cs : List ℕ) (n : ℕ) (rs : List Requirement) : Type 0 where
  pub few : n ≤ entry_limit
  pub long : length cs ≡ entry_limit
  pub is : map requirement_of (take n cs) ≡ rs
