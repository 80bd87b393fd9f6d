-- The walk as the code keeps it: a stack of blocks with the numbers of their conditions, and what the loop keeps and answers. Assumes nothing: these are definitions.
use Rattle.std.specs.Prelude.{◌≡◌, Ok, Bool, List, map, ℕ, ◌+◌, ◌*◌, ◌≤◌, ◌<◌, pos, length, take}
use Rattle.std.proofs.Math.Option.{Option, none}
use Rattle.model.specs.Limits.{block_limit, node_limit}
use Rattle.model.specs.Expr.{Expr}
use Rattle.model.specs.Script.{block_nodes}
use Rattle.model.specs.Sheet.{Sheet}
use Rattle.model.specs.Memory.{Memory, script_of}
use Rattle.model.specs.Parse.{State, parse}
use Rattle.expr.specs.Requirement.{Has}
use Rattle.shop.specs.Shapes.{slots_of}
use Rattle.shop.specs.declared.Shop.{Shop}
use Rattle.shop.specs.Good.{GoodShop}
use Rattle.reach.specs.Dfs.{Entry, entry}
use Rattle.model.proofs.Laws.Marks.{unmarked}
use Rattle.reach.specs.Weights.{weight_of}
use Rattle.reach.specs.Stacks.{stack_of, AllLow}
use Rattle.parse_keys.specs.declared.Known.{Known}
use Rattle.parse_visit.specs.declared.Walk.{Walk}
use Rattle.parse_visit.specs.State.{Accepted, no_room, answer_in, Stored, Holding, state_of}
use Rattle.parse_walk.specs.Steps.{walks}

-- ---- what the stack stands for

abbrev pub under : (ℕ → Option Expr) → Entry ℕ → Entry (Option Expr)
under f e = entry e.block (f e.under)

abbrev pub walks_in : Sheet → Memory → List Bool → (ℕ → Option Expr) → List ℕ → ℕ → Shop → Walk → State
walks_in h m marks f stack depth s w = walks h (script_of m).blocks (map (under f) (stack_of stack depth)) (state_of m.count marks s w)

-- ---- the loop

-- the nodes of the blocks that are not marked
abbrev pub nodes_left : Memory → List Bool → ℕ
nodes_left m marks = weight_of block_nodes (take m.count marks) (script_of m).blocks

-- nothing is refused; each block that is not marked may still take a cell and a place on the stack, and its nodes bound the entries that it may add
pub record Ready (m : Memory) (marks : List Bool) (stack : List ℕ) (s : Shop) (w : Walk) (depth : ℕ) : Type 0 where
  pub accepted : Accepted m
  pub long : length (take m.count marks) ≡ m.count
  pub tall : 2 * depth ≤ length stack
  pub room : depth + unmarked (take m.count marks) ≤ m.count + 1
  pub free : w.cells + unmarked (take m.count marks) ≤ m.count
  pub spent : 3 * w.used + nodes_left m marks ≤ node_limit + w.cells
  pub fine : answer_in w.outcome ≡ 0
  pub good : GoodShop s
  pub low : AllLow w.cells (stack_of stack depth)

-- what is on the stack is still to be walked, from what there is so far: this is the parse from block b
pub record Turning (known : Known) (m : Memory) (b : ℕ) (t : Stored) (marks : List Bool) (stack : List ℕ) (s : Shop) (w : Walk) (depth : ℕ) : Type 0 where
  pub conditions : ℕ → Option Expr
  pub holding : Holding known t w conditions
  pub ready : Ready m marks stack s w depth
  pub parses : (h : Sheet) → Has h known.items known.atcs → walks_in h m marks conditions stack depth s w ≡ parse h (script_of m).blocks b

-- the tables keep their lengths
pub record Lengths (t : Stored) (stack : List ℕ) (t₀ : Stored) (stack₀ : List ℕ) : Type 0 where
  pub keys : length t.keys ≡ length t₀.keys
  pub kids : length t.kids ≡ length t₀.kids
  pub companions : length t.companions ≡ length t₀.companions
  pub list : length t.list ≡ length t₀.list
  pub seen : length t.seen ≡ length t₀.seen
  pub alive : length t.alive ≡ length t₀.alive
  pub cells : length t.cells ≡ length t₀.cells
  pub entries : length stack ≡ length stack₀

-- room for a cell a block and for all entries that a script can have; the stack takes one entry more than there are blocks, as a visit takes one off it and puts two on
pub record Large (m : Memory) (t : Stored) (stack : List ℕ) : Type 0 where
  pub rows : 3 * m.count ≤ length t.cells
  pub words : node_limit + block_limit ≤ 3 * length t.list
  pub keys : length t.list < length t.keys
  pub tall : 2 * m.count + 2 ≤ length stack

abbrev pub start_walk : Walk
start_walk = record { limit = pos 0; cells = 0; outcome = Ok tt; used = 0; keyed = 0; marked = record { first = 0; alive = 0 } }

-- no condition is known but 0, which is none
abbrev pub none_yet : ℕ → Option Expr
none_yet c = none

-- ---- what it answers

-- the answer a; where there is a refusal only the answer counts
pub record Came (st : State) (s : Shop) (a : ℕ) : Type 0 where
  pub answer : a ≡ st.answer
  pub slots : a ≡ 0 → slots_of s ≡ st.slots
  pub good : a ≡ 0 → GoodShop s

-- the script of m parsed from block b
abbrev pub Walked : Sheet → Memory → ℕ → Shop → ℕ → Type 0
Walked h m b s a = Came (parse h (script_of m).blocks b) s a

-- for every sheet of so many items and atcs, where there was room
abbrev pub WalkedIf : Known → Memory → ℕ → Shop → ℕ → Type 0
WalkedIf known m b s a = (a ≡ no_room → ⊥) → (h : Sheet) → Has h known.items known.atcs → Walked h m b s a

-- .. and in large tables there is
pub record Ends (known : Known) (m : Memory) (b : ℕ) (t : Stored) (stack : List ℕ) (s : Shop) (a : ℕ) : Type 0 where
  pub walked : WalkedIf known m b s a
  pub room : Large m t stack → a ≡ no_room → ⊥
