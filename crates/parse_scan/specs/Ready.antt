-- What reading a block's commands wants of the arrays. Assumes nothing: these are definitions.
use Rattle.std.specs.Prelude.{◌≡◌, true, List, ℕ, ◌+◌, ◌*◌, ◌≤◌, ◌<◌, ℤ, pos, get_or}
use Rattle.std.specs.Int.{w16}
use Rattle.model.specs.Limits.{command_limit, node_limit}
use Rattle.model.specs.Signed.{in_range}

-- the value v of a Set is a node of the arrays, and an Imm16 has 16 bits
pub record ReadyValue (ws : List ℕ) (vs : List ℤ) (v : ℕ) : Type 0 where
  pub low : v < node_limit
  pub short : get_or ws (3 * v) 0 ≡ 11 → in_range w16 (get_or vs v (pos 0)) ≡ true

-- target t and value v of a Set
pub record ReadySet (ws : List ℕ) (vs : List ℤ) (t v : ℕ) : Type 0 where
  pub target : t < node_limit
  pub value : ReadyValue ws vs v

-- command c is in its array: a Set of a variable, or an If
pub record ReadyCommand (ws : List ℕ) (vs : List ℤ) (cw : List ℕ) (c : ℕ) : Type 0 where
  pub low : c < command_limit
  pub sets : get_or cw (4 * c) 0 ≡ 2 → get_or cw (4 * c + 3) 0 ≡ 0 → ReadySet ws vs (get_or cw (4 * c + 1) 0) (get_or cw (4 * c + 2) 0)
  pub tests : get_or cw (4 * c) 0 ≡ 3 → get_or cw (4 * c + 1) 0 < node_limit

-- h commands from command f on
pub record Ready (ws : List ℕ) (vs : List ℤ) (cw : List ℕ) (h f : ℕ) : Type 0 where
  pub each : (c : ℕ) → f ≤ c → c < f + h → ReadyCommand ws vs cw c
