-- How many settings list and hide a slot, in closed form (02, A.9). Assumes nothing: these are definitions.
use Rattle.std.specs.Prelude.{Bool, cond, List, ℕ, suc, ◌-◌, ◌^◌, leb, length, ℤ}
use Rattle.std.proofs.Math.Option.{Option, none, some}
use Rattle.model.specs.Sheet.{Sheet}
use Rattle.model.specs.Requirement.{Requirement}
use Rattle.model.specs.Shop.{Slot, limit_of, timer_of}
use Rattle.model.specs.Compile.{rate_of}
use Rattle.faithful_model.specs.Faithful.{faithful_filled}
use Rattle.settings_model.specs.Settings.{rates, subjects, subjects_filled}

abbrev pub bit : Bool → ℕ
bit b = cond b 1 0

-- the subjects that are acquired ones: none above limit 1, one at limit 1, two for a timer
abbrev pub acquired_filled : Sheet → ℕ → Bool → ℕ
acquired_filled h w one = cond one (suc (length (rates (rate_of (timer_of h w))))) 0

-- hidden where nothing is acquired and R fails: of the other subjects' combinations all but the one that meets R, if there is one
abbrev pub hidden_filled : Sheet → ℕ → Bool → List Requirement → ℕ
hidden_filled h w one rs = 2 ^ (length (subjects_filled h w one rs) - acquired_filled h w one) - bit (faithful_filled h w one rs)

abbrev pub hidden_for : Sheet → Option ℕ → ℤ → List Requirement → ℕ
hidden_for h none z rs = 1
hidden_for h (some w) z rs = hidden_filled h w (leb (limit_of h w z) 1) rs

unfoldable pub hidden_closed : Sheet → Slot → ℕ
hidden_closed h x = hidden_for h x.item x.limit x.requirements

unfoldable pub listed_closed : Sheet → Slot → ℕ
listed_closed h x = 2 ^ length (subjects h x) - hidden_closed h x
