-- The value of an expression for each lane of a walk, in two arrays: a number, and the refusal that stopped the lane, or 0 (02, A.8). Assumes nothing: these are definitions.
use Rattle.std.specs.Prelude.{◌≡◌, Bool, true, false, cond, Option, Some, None, List, map, ℕ, zero, suc, ◌+◌, ◌*◌, ◌≤◌, ◌<◌, ltb, get_or, length, ℤ, pos, negsuc}
use Rattle.model.specs.Limits.{flag_count, time_count, variable_count, most_saves}
use Rattle.model.specs.Refusal.{no_flag}
use Rattle.model.specs.Save.{Save, flag_inside, int_at}
use Rattle.model.specs.Expr.{Expr, Value, ok, stop, apply1, readable, eval}
use Rattle.model.specs.declared.Op1.{Op1}
use Rattle.model.specs.declared.Op1.TheVariants.{Not, Flag, Variable, Item, Atc, Time}
use Rattle.lanes_model.specs.Flat.{part, save_in}

-- ---- what a lane reads: its parts of the saves f, which lie one behind another, and of their variables vs

-- the parts of lane l lie in the lists
pub record Lies (n m : ℕ) (f : Save) (vs : List ℤ) (l : ℕ) : Type 0 where
  pub items : l * n + n ≤ length f.items
  pub atcs : l * m + m ≤ length f.atcs
  pub flags : l * flag_count + flag_count ≤ length f.flags
  pub times : l * time_count + time_count ≤ length f.times
  pub variables : l * variable_count + variable_count ≤ length vs

-- the first s numbers of ls are lanes: of a list of parts of width w
pub record Parts {A : Type 0} (w : ℕ) (ls : List ℕ) (s : ℕ) (xs : List A) : Type 0 where
  pub few : s ≤ most_saves
  pub lie : (j : ℕ) → j < s → get_or ls j 0 * w + w ≤ length xs

-- and of the saves
pub record Stand (n m : ℕ) (f : Save) (vs : List ℤ) (ls : List ℕ) (s : ℕ) : Type 0 where
  pub few : s ≤ most_saves
  pub lie : (j : ℕ) → j < s → Lies n m f vs (get_or ls j 0)

-- where element x of part l stands in a list of parts of that width
abbrev pub place_in : ℕ → ℕ → ℤ → Option ℕ
place_in w l (pos k) = cond (ltb k w) (Some (l * w + k)) None
place_in w l (negsuc k) = None

-- what that element is worth, and 0 outside the part
abbrev pub worth_in : {A : Type 0} → (A → ℤ) → ℕ → ℕ → List A → ℤ → ℤ
worth_in f w l xs x = int_at (part w l (map f xs)) x

abbrev pub apply_in : ℕ → ℕ → Save → List ℤ → Op1 → ℕ → ℤ → ℤ
apply_in n m f vs o l x = apply1 (save_in n m f l) (part variable_count l vs) o x

abbrev pub eval_in : ℕ → ℕ → Save → List ℤ → Expr → ℕ → Value
eval_in n m f vs e l = eval (save_in n m f l) (part variable_count l vs) e

-- ---- a lane that has stopped keeps its first refusal

abbrev pub lane_value : ℕ → ℤ → Value
lane_value zero x = ok x
lane_value (suc r) x = stop (suc r)

abbrev pub first_stop : ℕ → Value → Value
first_stop zero v = v
first_stop (suc r) v = stop (suc r)

-- the same of two refusals
abbrev pub first_of2 : ℕ → ℕ → ℕ
first_of2 zero r = r
first_of2 (suc a) r = suc a

-- ---- A.10: a flag outside the save stops the lane that reads it

abbrev pub reads_flag : Op1 → Bool
reads_flag Not = false
reads_flag Flag = true
reads_flag Variable = false
reads_flag Item = false
reads_flag Atc = false
reads_flag Time = false

-- what reading flag x stops a lane with, or 0
abbrev pub flag_stop : ℤ → ℕ
flag_stop x = cond (flag_inside x) 0 no_flag

-- the same of an operator on x
abbrev pub read_stop : Op1 → ℤ → ℕ
read_stop o x = cond (readable o x) 0 no_flag

-- ---- all lanes

-- the first s lanes have the value v after the refusals in rs; the other places of rs are as they were
pub record Valued (s : ℕ) (v : ℕ → Value) (rs rs' : List ℕ) (xs : List ℤ) : Type 0 where
  pub is : (j : ℕ) → j < s → lane_value (get_or rs' j 0) (get_or xs j (pos 0)) ≡ first_stop (get_or rs j 0) (v j)
  pub rest : (j : ℕ) → s ≤ j → get_or rs' j 0 ≡ get_or rs j 0
