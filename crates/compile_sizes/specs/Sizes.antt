-- What blocks take of a script, worked out without the blocks (01, refusal 9: "9 is an exact count"). Assumes nothing: these are definitions.
use Rattle.std.specs.Prelude.{◌≡◌, cond, List, [], ◌∷◌, ℕ, zero, suc, ◌+◌, ◌-◌, ◌*◌, ◌≤◌, leb, ℤ, length}
use Rattle.std.proofs.Math.Option.{Option, none, some}
use Rattle.model.specs.Limits.{entry_limit}
use Rattle.model.specs.Script.{Block, sum_of, block_commands, block_nodes}
use Rattle.model.specs.Requirement.{Requirement, haveItem, missingItem, haveAtc, missingAtc, haveFlag, missingFlag, sorted}
use Rattle.model.specs.Sheet.{Sheet}
use Rattle.model.specs.Shop.{Slot, Timer, plain, five, ten, fifteen, timer_of, limit_of}
use Rattle.compile_sizes.specs.declared.Size.{Size}

-- what some blocks take
pub record SizeOf (r : Size) (xs : List Block) : Type 0 where
  pub blocks : r.blocks ≡ length xs
  pub commands : r.commands ≡ sum_of block_commands xs
  pub nodes : r.nodes ≡ sum_of block_nodes xs

-- no number above n, so that sums do not wrap
pub record AtMost (r : Size) (n : ℕ) : Type 0 where
  pub blocks : r.blocks ≤ n
  pub commands : r.commands ≤ n
  pub nodes : r.nodes ≤ n

-- blocks, commands, nodes
abbrev pub sized : ℕ → ℕ → ℕ → Size
sized b c n = record { blocks = b; commands = c; nodes = n }

abbrev pub plus : Size → Size → Size
plus a b = sized (a.blocks + b.blocks) (a.commands + b.commands) (a.nodes + b.nodes)

-- ---- tests

abbrev pub test_nodes : Requirement → ℕ
test_nodes (haveItem i) = 4
test_nodes (missingItem i) = 4
test_nodes (haveAtc a) = 4
test_nodes (missingAtc a) = 4
test_nodes (haveFlag f) = 2
test_nodes (missingFlag f) = 3

-- each with the node that joins it to what stands before it
unfoldable pub tests_nodes : List Requirement → ℕ
tests_nodes rs = sum_of (λ r. test_nodes r + 1) rs

-- .. of a slot, at most: a test has four nodes and the one that joins it
abbrev pub tests_most : ℕ
tests_most = 5 * entry_limit

-- acquired or not; a timer's rate is compared too
abbrev pub acquired_nodes : Timer → ℕ
acquired_nodes plain = 4
acquired_nodes five = 9
acquired_nodes ten = 9
acquired_nodes fifteen = 9

-- ---- blocks: a sum has a term for each block, in the order in which they are pushed

-- H: two Sets, each of a variable and an Imm
abbrev pub hide_size : Size
hide_size = sized 1 2 4

-- D, N; or H, D, E, N: by how many requirements there are; the acquired test has a nodes. An EndIf is a command more
abbrev pub sold_size : ℕ → ℕ → Size
sold_size zero a = sized 2 (2 + 3) (4 + 4)
sold_size (suc n) a = sized 4 (2 + 3 + 1 + 3) (4 + 4 + 4 + a)

-- V, whose condition has v nodes; for Timer5 D2 and T before it
abbrev pub enable_size : Timer → ℕ → Size
enable_size plain v = sized 1 1 v
enable_size five v = sized 3 (3 + 1 + 1) (4 + 9 + v)
enable_size ten v = sized 1 1 v
enable_size fifteen v = sized 1 1 v

-- limit 1: n requirements, whose tests have v nodes; one of them joins R to the negated acquired test
abbrev pub unique_size : Timer → ℕ → ℕ → Size
unique_size t n v = plus (sold_size n (acquired_nodes t)) (enable_size t (acquired_nodes t + v))

-- limit above 1: S, Z, M; or H, S, Z, M, If R, where the first test is joined to nothing
abbrev pub limit_size : ℕ → ℕ → Size
limit_size zero v = sized 3 (2 + 1 + 2) (5 + 2 + 9)
limit_size (suc n) v = sized 5 (2 + 3 + 1 + 2 + 1) (4 + 5 + 2 + 9 + v - 1)

-- ---- the slot, the shop

abbrev pub filled_size : Timer → ℕ → ℕ → ℕ → Size
filled_size t l n v = cond (leb l 1) (unique_size t n v) (limit_size n v)

-- no item: H alone
abbrev pub size_for : Sheet → Option ℕ → ℤ → List Requirement → Size
size_for h none z rs = hide_size
size_for h (some w) z rs = filled_size (timer_of h w) (limit_of h w z) (length rs) (tests_nodes rs)

unfoldable pub slot_size : Sheet → Slot → Size
slot_size h x = size_for h x.item x.limit (sorted x.requirements)

abbrev pub return_size : Size
return_size = sized 1 1 0

-- the Return block and the slots
unfoldable pub shop_size : Sheet → List Slot → Size
shop_size h [] = return_size
shop_size h (x ∷ xs) = plus (slot_size h x) (shop_size h xs)
