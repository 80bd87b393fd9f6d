-- What the function that appends a number promises. The count follows from the rest. Assumes nothing: this is a definition.
use Rattle.std.specs.Prelude.{◌≡◌, ◌+◌, ℤ}
use Rattle.model.specs.Expr.{imm}
use Rattle.model.specs.Memory.{Nodes, put_expr}

-- Imm16 or Imm32, as the number wants
pub record PutImm (s : Nodes) (z : ℤ) (t : Nodes) : Type 0 where
  pub is : t ≡ put_expr s (imm z)
  pub counted : t.count ≡ s.count + 1
