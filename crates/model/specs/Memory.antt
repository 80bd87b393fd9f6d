-- The script record in memory: its arrays and kept counts, the trees that they stand for, what appending leaves (01, Boxes, sets and the borrowed script). Assumes nothing: these are definitions.
use Rattle.std.specs.Prelude.{Bool, true, false, List, [], ◌∷◌, ℕ, zero, suc, ◌+◌, ◌-◌, ◌*◌, ltb, get_or, set, length, ℤ, pos}
use Rattle.std.proofs.Math.Option.{Option, none, some}
use Rattle.model.specs.Expr.{Expr, two, one, imm16, imm32, other}
use Rattle.model.specs.declared.Kind.{Kind}
use Rattle.model.specs.declared.Kind.TheVariants.{Two, One, Imm16, Imm32, Other}
use Rattle.model.specs.Script.{Command, return, goto, set_variable, set_other, if_else, end_if, other_command, Block, placeholder, code, data_block, Script}
use Rattle.model.specs.Image.{kind_of, code2, code1}

-- three words a node: code, left operand, right operand; one value a node
pub record Nodes : Type 0 where
  pub words : List ℕ
  pub values : List ℤ
  pub count : ℕ

-- four words a command: code, two expressions, a block; of a Set the fourth is 0 for a target Variable, else 1
pub record Coded : Type 0 where
  pub nodes : Nodes
  pub words : List ℕ
  pub count : ℕ

-- five words a block: kind, first command, how many, next and else (0 none, k + 1 block k)
pub record Memory : Type 0 where
  pub coded : Coded
  pub words : List ℕ
  pub count : ℕ

abbrev pub nodes_in : List ℕ → List ℤ → ℕ → Nodes
nodes_in ws vs n = record { words = ws; values = vs; count = n }

abbrev pub coded_in : List ℕ → List ℤ → List ℕ → ℕ → ℕ → Coded
coded_in ws vs cw n c = record { nodes = nodes_in ws vs n; words = cw; count = c }

abbrev pub memory_in : List ℕ → List ℤ → List ℕ → List ℕ → ℕ → ℕ → ℕ → Memory
memory_in ws vs cw bw n c b = record { coded = coded_in ws vs cw n c; words = bw; count = b }

-- ---- the trees: operands lie below their parent, what does not is Other

abbrev pub code_at : Nodes → ℕ → ℕ
code_at ns i = get_or ns.words (3 * i) 0

abbrev pub left_at : Nodes → ℕ → ℕ
left_at ns i = get_or ns.words (3 * i + 1) 0

abbrev pub right_at : Nodes → ℕ → ℕ
right_at ns i = get_or ns.words (3 * i + 2) 0

abbrev pub value_at : Nodes → ℕ → ℤ
value_at ns i = get_or ns.values i (pos 0)

unfoldable pub node_of : Kind → Expr → Expr → ℤ → Expr
node_of (Two o) a b z = two o a b
node_of (One o) a b z = one o a
node_of Imm16 a b z = imm16 z
node_of Imm32 a b z = imm32 z
node_of Other a b z = other

abbrev pub operand : Bool → Expr → Expr
operand true e = e
operand false e = other

-- node i, at most d levels deep
unfoldable pub tree_to : Nodes → ℕ → ℕ → Expr
tree_to ns zero i = other
tree_to ns (suc d) i =
    let a = tree_to ns d (left_at ns i) in
    let b = tree_to ns d (right_at ns i) in
    node_of (kind_of (code_at ns i)) (operand (ltb (left_at ns i) i) a) (operand (ltb (right_at ns i) i) b) (value_at ns i)

-- operands lie below, so i + 1 levels are enough
unfoldable pub tree : Nodes → ℕ → Expr
tree ns i = tree_to ns (suc i) i

abbrev pub command_word : Coded → ℕ → ℕ → ℕ
command_word co c j = get_or co.words (4 * c + j) 0

unfoldable pub set_in : Coded → ℕ → ℕ → Command
set_in co c zero = set_variable (tree co.nodes (command_word co c 1)) (tree co.nodes (command_word co c 2))
set_in co c (suc t) = set_other (tree co.nodes (command_word co c 2))

unfoldable pub command_by : Coded → ℕ → ℕ → Command
command_by co c zero = return
command_by co c (suc zero) = goto (command_word co c 3)
command_by co c (suc (suc zero)) = set_in co c (command_word co c 3)
command_by co c (suc (suc (suc zero))) = if_else (tree co.nodes (command_word co c 1)) (command_word co c 3)
command_by co c (suc (suc (suc (suc zero)))) = end_if (command_word co c 3)
command_by co c (suc (suc (suc (suc (suc k))))) = other_command

unfoldable pub command_in : Coded → ℕ → Command
command_in co c = command_by co c (command_word co c 0)

-- h commands from command c on
unfoldable pub commands_in : Coded → ℕ → ℕ → List Command
commands_in co zero c = []
commands_in co (suc h) c = command_in co c ∷ commands_in co h (suc c)

abbrev pub block_word : Memory → ℕ → ℕ → ℕ
block_word m b j = get_or m.words (5 * b + j) 0

abbrev pub link_in : ℕ → Option ℕ
link_in zero = none
link_in (suc k) = some k

unfoldable pub block_by : Memory → ℕ → ℕ → Block
block_by m b zero = placeholder
block_by m b (suc zero) = code (commands_in m.coded (block_word m b 2) (block_word m b 1)) (link_in (block_word m b 3)) (link_in (block_word m b 4))
block_by m b (suc (suc k)) = data_block

unfoldable pub block_in : Memory → ℕ → Block
block_in m b = block_by m b (block_word m b 0)

-- h blocks from block b on
unfoldable pub blocks_in : Memory → ℕ → ℕ → List Block
blocks_in m zero b = []
blocks_in m (suc h) b = block_in m b ∷ blocks_in m h (suc b)

unfoldable pub script_of : Memory → Script
script_of m = record { blocks = blocks_in m m.count 0; commands = m.coded.count; nodes = m.coded.nodes.count }

-- ---- appending: an expression's operands first, the parent last; nothing else changes

abbrev pub push_node : Nodes → ℕ → ℕ → ℕ → ℤ → Nodes
push_node s o l r z =
    nodes_in (set (set (set s.words (3 * s.count) o) (3 * s.count + 1) l) (3 * s.count + 2) r) (set s.values s.count z) (s.count + 1)

unfoldable pub put_expr : Nodes → Expr → Nodes
put_expr s (two o a b) = push_node (put_expr (put_expr s a) b) (code2 o) ((put_expr s a).count - 1) ((put_expr (put_expr s a) b).count - 1) (pos 0)
put_expr s (one o a) = push_node (put_expr s a) (code1 o) ((put_expr s a).count - 1) 0 (pos 0)
put_expr s (imm16 z) = push_node s 11 0 0 z
put_expr s (imm32 z) = push_node s 12 0 0 z
put_expr s other = push_node s 18 0 0 (pos 0)

abbrev pub command_words : List ℕ → ℕ → ℕ → ℕ → ℕ → ℕ → List ℕ
command_words w c k a b t = set (set (set (set w (4 * c) k) (4 * c + 1) a) (4 * c + 2) b) (4 * c + 3) t

abbrev pub push_command : Coded → Nodes → ℕ → ℕ → ℕ → ℕ → Coded
push_command s ns k a b t = record { nodes = ns; words = command_words s.words s.count k a b t; count = s.count + 1 }

unfoldable pub put_command : Coded → Command → Coded
put_command s return = push_command s s.nodes 0 0 0 0
put_command s (goto k) = push_command s s.nodes 1 0 0 k
put_command s (set_variable t e) =
    push_command s (put_expr (put_expr s.nodes t) e) 2 ((put_expr s.nodes t).count - 1) ((put_expr (put_expr s.nodes t) e).count - 1) 0
put_command s (set_other e) = push_command s (put_expr s.nodes e) 2 0 ((put_expr s.nodes e).count - 1) 1
put_command s (if_else e k) = push_command s (put_expr s.nodes e) 3 ((put_expr s.nodes e).count - 1) 0 k
put_command s (end_if k) = push_command s s.nodes 4 0 0 k
put_command s other_command = push_command s s.nodes 5 0 0 0

unfoldable pub put_commands : Coded → List Command → Coded
put_commands s [] = s
put_commands s (c ∷ cs) = put_commands (put_command s c) cs

abbrev pub block_words : List ℕ → ℕ → ℕ → ℕ → ℕ → ℕ → ℕ → List ℕ
block_words w b k f h nx el = set (set (set (set (set w (5 * b) k) (5 * b + 1) f) (5 * b + 2) h) (5 * b + 3) nx) (5 * b + 4) el

abbrev pub link_word : Option ℕ → ℕ
link_word none = 0
link_word (some k) = suc k

abbrev pub push_block : Memory → Coded → ℕ → ℕ → ℕ → ℕ → ℕ → Memory
push_block s co k f h nx el = record { coded = co; words = block_words s.words s.count k f h nx el; count = s.count + 1 }

unfoldable pub put_block : Memory → Block → Memory
put_block s placeholder = push_block s s.coded 0 0 0 0 0
put_block s (code cs nx el) = push_block s (put_commands s.coded cs) 1 s.coded.count (length cs) (link_word nx) (link_word el)
put_block s data_block = push_block s s.coded 2 0 0 0 0

unfoldable pub put_blocks : Memory → List Block → Memory
put_blocks s [] = s
put_blocks s (x ∷ xs) = put_blocks (put_block s x) xs

-- block b emptied and linked to block k; what it held still counts
unfoldable pub redirect_in : Memory → ℕ → ℕ → Memory
redirect_in m b k = record { coded = m.coded; words = block_words m.words b 1 0 0 (suc k) 0; count = m.count }
