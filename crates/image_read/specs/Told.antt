-- What the answers of the reader say: what was read, the place after it, and what the arrays hold then. Of a refusal nothing is said of the arrays. Assumes nothing: these are definitions.
use Rattle.std.specs.Prelude.{◌≡◌, Result, Ok, Err, List, ℕ, ◌+◌, ◌-◌, ◌≤◌, ◌<◌, ℤ, length, drop}
use Rattle.std.proofs.Math.Option.{Option}
use Rattle.model.specs.Limits.{command_limit, node_limit, depth_limit, wide}
use Rattle.model.specs.Refusal.{bad_image}
use Rattle.model.specs.Reading.{Answer, got, refused, number, zag}
use Rattle.model.specs.Expr.{Expr}
use Rattle.model.specs.Script.{Command, command_nodes, Block}
use Rattle.model.specs.Image.{Limits, limits, read_expr, read_link, command_of, block_of}
use Rattle.model.specs.Memory.{Nodes, nodes_in, push_node, put_expr, Coded, coded_in, command_words, put_command, put_commands, Memory, memory_in, link_word, put_block, put_blocks}
use Rattle.model.specs.Refusals.{refusal_number}
use Rattle.model.specs.declared.Refusal.{Refusal}

-- ---- numbers

-- a number below a limit and the place after it; what is none is refused as a bad image
unfoldable pub ToldNumber : List ℕ → Answer ℕ → Result (ℕ × ℕ) Refusal → Type 0
ToldNumber s a (Ok (k, p)) = (a ≡ got k (drop p s)) × (p ≤ length s)
ToldNumber s a (Err e) = (a ≡ refused bad_image) × (refusal_number e ≡ bad_image)

-- ---- expressions

-- a number read and pushed as a node of code o
pub record PutImm (s : List ℕ) (ns : Nodes) (o : ℕ) (a : Answer ℕ) (p : ℕ) (t : Nodes) : Type 0 where
  pub value : ℕ
  pub read : a ≡ got value (drop p s)
  pub place : p ≤ length s
  pub after : t ≡ push_node ns o 0 0 (zag value)

unfoldable pub ToldImm : List ℕ → Nodes → ℕ → Answer ℕ → Result (ℕ × ℕ) Refusal → List ℕ → List ℤ → Type 0
ToldImm s ns o a (Ok (m, p)) w v = PutImm s ns o a p (nodes_in w v m)
ToldImm s ns o a (Err e) w v = (a ≡ refused bad_image) × (refusal_number e ≡ bad_image)

-- what stands at a place, with n nodes pushed and o parents still to be pushed: their sum is the running count
abbrev pub read_at : List ℕ → ℕ → ℕ → ℕ → Answer Expr
read_at s at n o = read_expr node_limit (depth_limit - o) (n + o) (drop at s)

-- a known code with room for its node and its level
pub record Head (s : List ℕ) (at n o c p : ℕ) : Type 0 where
  pub read : number 19 (drop at s) ≡ got c (drop p s)
  pub place : p ≤ length s
  pub low : c < 19
  pub room : n + o < node_limit
  pub level : o < depth_limit

unfoldable pub ToldHead : List ℕ → ℕ → ℕ → ℕ → Result (ℕ × ℕ) Refusal → Type 0
ToldHead s at n o (Ok (c, p)) = Head s at n o c p
ToldHead s at n o (Err e) = read_at s at n o ≡ refused (refusal_number e)

-- an expression put after the nodes that there were
pub record PutTerm (s : List ℕ) (ns : Nodes) (a : Answer Expr) (p : ℕ) (t : Nodes) : Type 0 where
  pub tree : Expr
  pub read : a ≡ got tree (drop p s)
  pub place : p ≤ length s
  pub after : t ≡ put_expr ns tree

unfoldable pub ToldExpr : List ℕ → Nodes → Answer Expr → Result (ℕ × ℕ) Refusal → List ℕ → List ℤ → Type 0
ToldExpr s ns a (Ok (m, p)) w v = PutTerm s ns a p (nodes_in w v m)
ToldExpr s ns a (Err e) w v = a ≡ refused (refusal_number e)

-- ---- commands

-- so many blocks, and the limits of a script
abbrev pub limits_of : ℕ → Limits
limits_of b = limits b command_limit node_limit

unfoldable pub ToldNo : List ℕ → Answer ℕ → Result (ℕ × ℕ) Refusal → Type 0
ToldNo s a (Ok (k, p)) = (a ≡ got k (drop p s)) × (p ≤ length s)
ToldNo s a (Err e) = a ≡ refused (refusal_number e)

-- a block's number read and pushed as command m of code o, which holds no node
pub record PutJump (s : List ℕ) (a : Answer ℕ) (w : List ℕ) (m o p : ℕ) (w' : List ℕ) : Type 0 where
  pub to : ℕ
  pub read : a ≡ got to (drop p s)
  pub place : p ≤ length s
  pub after : w' ≡ command_words w m o 0 0 to

unfoldable pub ToldJump : List ℕ → Answer ℕ → List ℕ → ℕ → ℕ → ℕ → Result (ℕ × ℕ) Refusal → List ℕ → Type 0
ToldJump s a w n m o (Ok (k, p)) w' = (k ≡ n) × PutJump s a w m o p w'
ToldJump s a w n m o (Err e) w' = a ≡ refused (refusal_number e)

pub record PutOne (s : List ℕ) (co : Coded) (a : Answer Command) (p : ℕ) (t : Coded) : Type 0 where
  pub tree : Command
  pub read : a ≡ got tree (drop p s)
  pub place : p ≤ length s
  pub after : t ≡ put_command co tree
  pub counted : t.nodes.count ≡ co.nodes.count + command_nodes tree
  pub low : t.nodes.count ≤ node_limit

unfoldable pub ToldCommand : List ℕ → Coded → Answer Command → Result (ℕ × ℕ) Refusal → List ℕ → List ℤ → List ℕ → ℕ → Type 0
ToldCommand s co a (Ok (n, p)) w v c m = PutOne s co a p (coded_in w v c n m)
ToldCommand s co a (Err e) w v c m = a ≡ refused (refusal_number e)

-- a Set names no block, so it is the same however many there are
unfoldable pub ToldSet : List ℕ → Coded → ℕ → ℕ → Result (ℕ × ℕ) Refusal → List ℕ → List ℤ → List ℕ → ℕ → Type 0
ToldSet s co n at r w v c m = (b : ℕ) → ToldCommand s co (command_of (limits_of b) n 2 (drop at s)) r w v c m

pub record PutMany (s : List ℕ) (co : Coded) (a : Answer (List Command)) (p : ℕ) (t : Coded) : Type 0 where
  pub trees : List Command
  pub read : a ≡ got trees (drop p s)
  pub place : p ≤ length s
  pub after : t ≡ put_commands co trees
  pub low : t.nodes.count ≤ node_limit

unfoldable pub ToldCommands : List ℕ → Coded → Answer (List Command) → Result (ℕ × ℕ) Refusal → List ℕ → List ℤ → List ℕ → ℕ → Type 0
ToldCommands s co a (Ok (n, p)) w v c m = PutMany s co a p (coded_in w v c n m)
ToldCommands s co a (Err e) w v c m = a ≡ refused (refusal_number e)

-- ---- blocks

-- a link read, as the word that stands for it
pub record PutLink (s : List ℕ) (a : Answer (Option ℕ)) (k p : ℕ) : Type 0 where
  pub to : Option ℕ
  pub read : a ≡ got to (drop p s)
  pub place : p ≤ length s
  pub word : k ≡ link_word to

unfoldable pub ToldLink : List ℕ → Answer (Option ℕ) → Result (ℕ × ℕ) Refusal → Type 0
ToldLink s a (Ok (k, p)) = PutLink s a k p
ToldLink s a (Err e) = a ≡ refused (refusal_number e)

-- next, then else
pub record PutLinks (s : List ℕ) (b at x y p : ℕ) : Type 0 where
  pub middle : ℕ
  pub next : PutLink s (read_link b (drop at s)) x middle
  pub else : PutLink s (read_link b (drop middle s)) y p

-- the first link is refused, or the second after it
pub data LinksRefused (s : List ℕ) (b at k : ℕ) : Type 0 where
  first : read_link b (drop at s) ≡ refused k → LinksRefused s b at k
  second : (x p : ℕ) → PutLink s (read_link b (drop at s)) x p → read_link b (drop p s) ≡ refused k → LinksRefused s b at k

unfoldable pub ToldLinks : List ℕ → ℕ → ℕ → Result (ℕ × ℕ × ℕ) Refusal → Type 0
ToldLinks s b at (Ok (x, y, p)) = PutLinks s b at x y p
ToldLinks s b at (Err e) = LinksRefused s b at (refusal_number e)

-- the declared commands of a code block, counted as their number is read
pub record Declared (s : List ℕ) (m at h p : ℕ) : Type 0 where
  pub read : number wide (drop at s) ≡ got h (drop p s)
  pub place : p ≤ length s
  pub room : m + h ≤ command_limit

unfoldable pub ToldCount : List ℕ → ℕ → ℕ → Result (ℕ × ℕ) Refusal → Type 0
ToldCount s m at (Ok (h, p)) = Declared s m at h p
ToldCount s m at (Err e) = (b n : ℕ) → block_of (limits_of b) m n 1 (drop at s) ≡ refused (refusal_number e)

pub record PutBlock (s : List ℕ) (me : Memory) (a : Answer Block) (p : ℕ) (t : Memory) : Type 0 where
  pub tree : Block
  pub read : a ≡ got tree (drop p s)
  pub place : p ≤ length s
  pub after : t ≡ put_block me tree
  pub nodes_low : t.coded.nodes.count ≤ node_limit
  pub commands_low : t.coded.count ≤ command_limit

unfoldable pub ToldBlock : List ℕ → Memory → Answer Block → Result (ℕ × ℕ × ℕ) Refusal → List ℕ → List ℤ → List ℕ → List ℕ → ℕ → Type 0
ToldBlock s me a (Ok (n, m, p)) w v c b q = PutBlock s me a p (memory_in w v c b n m q)
ToldBlock s me a (Err e) w v c b q = a ≡ refused (refusal_number e)

pub record PutBlocks (s : List ℕ) (me : Memory) (a : Answer (List Block)) (p : ℕ) (t : Memory) : Type 0 where
  pub trees : List Block
  pub read : a ≡ got trees (drop p s)
  pub place : p ≤ length s
  pub after : t ≡ put_blocks me trees

unfoldable pub ToldBlocks : List ℕ → Memory → Answer (List Block) → Result (ℕ × ℕ × ℕ) Refusal → List ℕ → List ℤ → List ℕ → List ℕ → ℕ → Type 0
ToldBlocks s me a (Ok (n, m, p)) w v c b q = PutBlocks s me a p (memory_in w v c b n m q)
ToldBlocks s me a (Err e) w v c b q = a ≡ refused (refusal_number e)
