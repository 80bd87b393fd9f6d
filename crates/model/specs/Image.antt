-- The image of a script: its writer, and its reader with refusals 2 to 5 as first met (01, Image and printer). Assumes nothing: these are definitions.
use Rattle.std.specs.Prelude.{cond, List, [], ◌∷◌, ◌++◌, ℕ, zero, suc, ◌+◌, ltb, leb, get_or, length}
use Rattle.std.proofs.Math.Option.{Option, none, some}
use Rattle.model.specs.Limits.{block_limit, command_limit, node_limit, depth_limit, wide, wide16}
use Rattle.model.specs.Refusal.{bad_image, over_limit, too_deep, no_such_link}
use Rattle.model.specs.Reading.{Answer, got, refused, onward, number, word, zig, zag}
use Rattle.model.specs.Expr.{Expr, two, one, imm16, imm32, other, size}
use Rattle.model.specs.Script.{Command, return, goto, set_variable, set_other, if_else, end_if, other_command, Block, placeholder, code, data_block, command_nodes, block_nodes, block_commands}
use Rattle.model.specs.declared.Op2.{Op2}
use Rattle.model.specs.declared.Op2.TheVariants.{Equal, NotEqual, Less, LessEqual, Greater, GreaterEqual, Add, Subtract, BitAnd, BitOr}
use Rattle.model.specs.declared.Op1.{Op1}
use Rattle.model.specs.declared.Op1.TheVariants.{Not, Flag, Variable, Item, Atc, Time}
use Rattle.model.specs.declared.Kind.{Kind}
use Rattle.model.specs.declared.Kind.TheVariants.{Two, One, Imm16, Imm32, Other}

-- ---- codes 0 to 18 in the order of 01's Expressions

unfoldable pub kinds : List Kind
kinds = Two Equal ∷ Two NotEqual ∷ Two Less ∷ Two LessEqual ∷ Two Greater ∷ Two GreaterEqual ∷ One Not ∷ Two Add ∷ Two Subtract ∷ Two BitAnd ∷ Two BitOr ∷ Imm16 ∷ Imm32 ∷ One Flag ∷ One Variable ∷ One Item ∷ One Atc ∷ One Time ∷ Other ∷ []

unfoldable pub kind_of : ℕ → Kind
kind_of n = get_or kinds n Other

abbrev pub code2 : Op2 → ℕ
code2 Equal = 0
code2 NotEqual = 1
code2 Less = 2
code2 LessEqual = 3
code2 Greater = 4
code2 GreaterEqual = 5
code2 Add = 7
code2 Subtract = 8
code2 BitAnd = 9
code2 BitOr = 10

abbrev pub code1 : Op1 → ℕ
code1 Not = 6
code1 Flag = 13
code1 Variable = 14
code1 Item = 15
code1 Atc = 16
code1 Time = 17

unfoldable pub code_of : Kind → ℕ
code_of (Two o) = code2 o
code_of (One o) = code1 o
code_of Imm16 = 11
code_of Imm32 = 12
code_of Other = 18

-- ---- the writer: expressions in prefix, left first

unfoldable pub expr_image : Expr → List ℕ
expr_image (two o a b) = word (code2 o) ++ (expr_image a ++ expr_image b)
expr_image (one o a) = word (code1 o) ++ expr_image a
expr_image (imm16 z) = word 11 ++ word (zig z)
expr_image (imm32 z) = word 12 ++ word (zig z)
expr_image other = word 18

unfoldable pub command_image : Command → List ℕ
command_image return = word 0
command_image (goto k) = word 1 ++ word k
command_image (set_variable t e) = word 2 ++ (word 0 ++ (expr_image t ++ expr_image e))
command_image (set_other e) = word 2 ++ (word 1 ++ expr_image e)
command_image (if_else e k) = word 3 ++ (expr_image e ++ word k)
command_image (end_if k) = word 4 ++ word k
command_image other_command = word 5

unfoldable pub commands_image : List Command → List ℕ
commands_image [] = []
commands_image (c ∷ cs) = command_image c ++ commands_image cs

-- 0 none, k + 1 block k
unfoldable pub link_image : Option ℕ → List ℕ
link_image none = word 0
link_image (some k) = word (suc k)

unfoldable pub block_image : Block → List ℕ
block_image placeholder = word 0
block_image (code cs nx el) = word 1 ++ (word (length cs) ++ (commands_image cs ++ (link_image nx ++ link_image el)))
block_image data_block = word 2

unfoldable pub blocks_image : List Block → List ℕ
blocks_image [] = []
blocks_image (b ∷ bs) = block_image b ++ blocks_image bs

unfoldable pub image : List Block → List ℕ
image bs = word (length bs) ++ blocks_image bs

-- ---- the reader of expressions: unknown code first, then 3, then 4

unfoldable pub read_kind : List ℕ → Answer Kind
read_kind s = onward (number 19 s) (λ c r. got (kind_of c) r)

-- of the bytes after a code, f reads an operand; n nodes were counted before this one
unfoldable pub read_operands : (ℕ → List ℕ → Answer Expr) → ℕ → Kind → List ℕ → Answer Expr
read_operands f n (Two o) s = onward (f (suc n) s) (λ a r. onward (f (suc n + size a) r) (λ b t. got (two o a b) t))
read_operands f n (One o) s = onward (f (suc n) s) (λ a r. got (one o a) r)
read_operands f n Imm16 s = onward (number wide16 s) (λ v r. got (imm16 (zag v)) r)
read_operands f n Imm32 s = onward (number wide s) (λ v r. got (imm32 (zag v)) r)
read_operands f n Other s = got other s

-- at most l nodes in all, of which n were counted, and d levels
unfoldable pub read_expr : ℕ → ℕ → ℕ → List ℕ → Answer Expr
read_expr l zero n s = onward (read_kind s) (λ k r. cond (ltb n l) (refused too_deep) (refused over_limit))
read_expr l (suc d) n s = onward (read_kind s) (λ k r. cond (ltb n l) (read_operands (read_expr l d) n k r) (refused over_limit))

-- ---- the reader of commands and blocks

-- the blocks that there are, and the commands and nodes that there may be
pub record Limits : Type 0 where
  pub blocks : ℕ
  pub commands : ℕ
  pub nodes : ℕ

abbrev pub limits : ℕ → ℕ → ℕ → Limits
limits b c n = record { blocks = b; commands = c; nodes = n }

unfoldable pub read_block_no : ℕ → List ℕ → Answer ℕ
read_block_no m s = onward (number wide s) (λ k r. cond (ltb k m) (got k r) (refused no_such_link))

unfoldable pub link_of : ℕ → ℕ → List ℕ → Answer (Option ℕ)
link_of m zero s = got none s
link_of m (suc k) s = cond (ltb k m) (got (some k) s) (refused no_such_link)

unfoldable pub read_link : ℕ → List ℕ → Answer (Option ℕ)
read_link m s = onward (number wide s) (λ k r. link_of m k r)

module _ (l : Limits) where
  -- an expression of a command, where n nodes were counted before
  unfoldable pub read_term : ℕ → List ℕ → Answer Expr
  read_term n s = read_expr l.nodes depth_limit n s

  unfoldable pub set_of : ℕ → ℕ → List ℕ → Answer Command
  set_of n zero s = onward (read_term n s) (λ t r. onward (read_term (n + size t) r) (λ e u. got (set_variable t e) u))
  set_of n (suc k) s = onward (read_term n s) (λ e u. got (set_other e) u)

  unfoldable pub command_of : ℕ → ℕ → List ℕ → Answer Command
  command_of n zero s = got return s
  command_of n (suc zero) s = onward (read_block_no l.blocks s) (λ k r. got (goto k) r)
  command_of n (suc (suc zero)) s = onward (number 2 s) (λ k r. set_of n k r)
  command_of n (suc (suc (suc zero))) s = onward (read_term n s) (λ e r. onward (read_block_no l.blocks r) (λ k u. got (if_else e k) u))
  command_of n (suc (suc (suc (suc zero)))) s = onward (read_block_no l.blocks s) (λ k r. got (end_if k) r)
  command_of n (suc (suc (suc (suc (suc k))))) s = got other_command s

  unfoldable pub read_command : ℕ → List ℕ → Answer Command
  read_command n s = onward (number 6 s) (λ k r. command_of n k r)

  -- c commands
  unfoldable pub read_commands : ℕ → ℕ → List ℕ → Answer (List Command)
  read_commands zero n s = got [] s
  read_commands (suc c) n s = onward (read_command n s) (λ x r. onward (read_commands c (n + command_nodes x) r) (λ xs u. got (x ∷ xs) u))

  -- a code block of c commands
  unfoldable pub read_code : ℕ → ℕ → List ℕ → Answer Block
  read_code n c s = onward (read_commands c n s) (λ cs r. onward (read_link l.blocks r) (λ nx t. onward (read_link l.blocks t) (λ el u. got (code cs nx el) u)))

  -- declared commands count when their number is read
  unfoldable pub block_of : ℕ → ℕ → ℕ → List ℕ → Answer Block
  block_of m n zero s = got placeholder s
  block_of m n (suc zero) s = onward (number wide s) (λ c r. cond (leb (m + c) l.commands) (read_code n c r) (refused over_limit))
  block_of m n (suc (suc k)) s = got data_block s

  -- m commands and n nodes were counted before
  unfoldable pub read_block : ℕ → ℕ → List ℕ → Answer Block
  read_block m n s = onward (number 3 s) (λ k r. block_of m n k r)

  -- b blocks
  unfoldable pub read_blocks : ℕ → ℕ → ℕ → List ℕ → Answer (List Block)
  read_blocks zero m n s = got [] s
  read_blocks (suc b) m n s = onward (read_block m n s) (λ x r. onward (read_blocks b (m + block_commands x) (n + block_nodes x) r) (λ xs u. got (x ∷ xs) u))

-- bytes left over are 2
unfoldable pub ended : List Block → List ℕ → Answer (List Block)
ended bs [] = got bs []
ended bs (x ∷ s) = refused bad_image

-- an image of at most so many commands and nodes; declared blocks count when their number is read
unfoldable pub read_within : ℕ → ℕ → List ℕ → Answer (List Block)
read_within c n s = onward (number wide s) (λ b r. cond (leb b block_limit) (onward (read_blocks (limits b c n) b 0 0 r) ended) (refused over_limit))

unfoldable pub read_image : List ℕ → Answer (List Block)
read_image s = read_within command_limit node_limit s
