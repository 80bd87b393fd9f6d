-- Targets and values of a Set that are Imms. Assumes nothing.
use mathlib.Core.Path.{◌≡◌, sym, ap, ◌∙◌}
use mathlib.Core.Option.{some}
use mathlib.Core.List.{List}
use Prim.Native.Nat.{ℕ}
use lib.ListN.{get_or}
use lib.IntN.{ℤ}
use Rattle.model.specs.Limits.{variable_count}
use Rattle.model.specs.Save.{Save}
use Rattle.model.specs.Expr.{Expr, ok}
use Rattle.model.specs.Parse.{value}
use Rattle.lanes_model.specs.Flat.{part}
use Rattle.lanes_expr.specs.Lanes.{first_stop}
use Rattle.lanes_expr.proofs.Values.{imm_worth, ok_lane}
use Rattle.lanes_block.specs.Ways.{Always, Worth}

pub imm_always : (e : Expr) (z : ℤ) → some z ≡ value e → Always e z
imm_always e z p f v = sym (imm_worth f v e z p)

-- it stops no lane
pub always_worth : {save : ℕ → Save} {ls : List ℕ} {s : ℕ} {vs : List ℤ} {e : Expr} {rs : List ℕ} {z k : ℤ} → z ≡ k → Always e k → Worth save ls s vs e rs rs (λ _. z)
always_worth {save = save} {ls = ls} {vs = vs} {rs = rs} {z = z} q p = record { is = λ j h. ok_lane (get_or rs j 0) z ∙ ap (first_stop (get_or rs j 0)) (ap ok q ∙ sym (p (save (get_or ls j 0)) (part variable_count (get_or ls j 0) vs))) }
