-- What the functions that append promise: the arrays and the count are those of the definitions. The count follows from the rest. Assumes nothing: these are definitions.
use Rattle.std.specs.Prelude.{◌≡◌, List, ℕ, ◌+◌, ℤ}
use Rattle.model.specs.Expr.{Expr, size}
use Rattle.model.specs.Script.{Command, command_nodes}
use Rattle.model.specs.Memory.{Nodes, Coded, push_node, put_expr, put_command, command_words, block_words}

pub record PushedNode (s : Nodes) (o l r : ℕ) (z : ℤ) (t : Nodes) : Type 0 where
  pub is : t ≡ push_node s o l r z
  pub counted : t.count ≡ s.count + 1

pub record PutExpr (s : Nodes) (e : Expr) (t : Nodes) : Type 0 where
  pub is : t ≡ put_expr s e
  pub counted : t.count ≡ s.count + size e

pub record PushedCommand (w : List ℕ) (n k a b t : ℕ) (w' : List ℕ) (m : ℕ) : Type 0 where
  pub is : w' ≡ command_words w n k a b t
  pub counted : m ≡ n + 1

pub record PutCommand (s : Coded) (c : Command) (t : Coded) : Type 0 where
  pub is : t ≡ put_command s c
  pub counted : t.count ≡ s.count + 1
  pub nodes_counted : t.nodes.count ≡ s.nodes.count + command_nodes c

pub record PushedBlock (w : List ℕ) (n k f h nx el : ℕ) (w' : List ℕ) (m : ℕ) : Type 0 where
  pub is : w' ≡ block_words w n k f h nx el
  pub counted : m ≡ n + 1
