-- What a parse has so far as the code keeps it, and what a visit of one block leaves of it. Assumes nothing.
use Rattle.std.specs.Prelude.{◌≡◌, refl, Result, Ok, Err, Bool, true, false, List, [], ℕ, ◌+◌, ◌*◌, ◌≤◌, ◌<◌, length, set, take}
use Rattle.std.proofs.Common.{arith}
use Rattle.std.proofs.Math.Option.{Option, none, some}
use Rattle.model.specs.Expr.{Expr}
use Rattle.model.specs.Sheet.{Sheet}
use Rattle.model.specs.Requirement.{Requirement}
use Rattle.model.specs.Script.{Block, Command, block_at, block_nodes}
use Rattle.model.specs.Reading.{got}
use Rattle.model.specs.Memory.{Memory, commands_in, block_word, script_of}
use Rattle.model.specs.Record.{judged_record}
use Rattle.model.specs.Parse.{State, Scan, scanned, visited}
use Rattle.model.specs.Refusals.{refuses}
use Rattle.model.specs.Refusals.{refusal_number, refusal_in}
use Rattle.model.specs.declared.Refusal.{Refusal}
use Rattle.expr.specs.Requirement.{Has}
use Rattle.shop.specs.Shapes.{slots_of}
use Rattle.shop.specs.declared.Shop.{Shop}
use Rattle.shop.specs.Good.{GoodShop}
use Rattle.parse_keys.specs.Tables.{Tables}
use Rattle.parse_keys.specs.declared.Known.{Known}
use Rattle.parse_scan.specs.declared.Scanned.{Scanned}
use Rattle.parse_conditions.specs.Gathered.{gathered}
use Rattle.parse_filter.specs.Chains.{entries_in, Chains}
use Rattle.parse_filter.specs.Marks.{MarkedAs}
use Rattle.parse_visit.specs.Entries.{Reads}
use Rattle.parse_visit.specs.declared.Stop.{Stop}
use Rattle.parse_visit.specs.declared.Stop.TheVariants.{Refused, NoRoom}
use Rattle.parse_visit.specs.declared.Walk.{Walk}
use Rattle.parse_visit.specs.declared.Visited.{Visited}
use Rattle.parse_visit.specs.declared.Slotted.{Slotted}

-- 2 to 5 do not refuse the record
pub record Accepted (m : Memory) : Type 0 where
  pub blocks : List Block
  pub rest : List ℕ
  pub is : judged_record m ≡ got blocks rest

-- the answer for: no room in the tables
abbrev pub no_room : ℕ
no_room = 255

abbrev pub stop_number : Stop → ℕ
stop_number (Refused r) = refusal_number r
stop_number NoRoom = no_room

-- the refusal of a walk, 255 where it had no room, and 0 where nothing stopped it
abbrev pub answer_in : {A : Type 0} → Result A Stop → ℕ
answer_in (Ok x) = 0
answer_in (Err s) = stop_number s

pub stops : (s : Stop) → stop_number s ≡ 0 → ⊥
stops (Refused e) h = refuses e h
stops NoRoom h = absurd (omega arith)

-- a refusal stops the walk
abbrev pub stopped_by : {A : Type 0} → Result A Refusal → Result A Stop
stopped_by (Ok x) = Ok x
stopped_by (Err r) = Err (Refused r)

pub stopped_as : {A : Type 0} (o : Result A Refusal) → answer_in (stopped_by o) ≡ refusal_in o
stopped_as (Ok x) = refl
stopped_as (Err r) = refl

abbrev pub with_outcome : Walk → Result Unit Stop → Walk
with_outcome w o = record { limit = w.limit; cells = w.cells; outcome = o; used = w.used; keyed = w.keyed; marked = w.marked }

-- after an If was read: so many entries and keys
abbrev pub one_cell_more : Walk → ℕ → ℕ → Walk
one_cell_more w used keyed = record { limit = w.limit; cells = w.cells + 1; outcome = w.outcome; used = used; keyed = keyed; marked = w.marked }

-- after the block's commands and slots
abbrev pub scanned_walk : Walk → Scanned → Slotted → Walk
scanned_walk w s a = record { limit = s.limit; cells = w.cells; outcome = stopped_by a.outcome; used = w.used; keyed = w.keyed; marked = a.marked }

-- ---- the tables

pub record Stored : Type 0 where
  pub keys : List ℕ
  pub kids : List ℕ
  pub companions : List ℕ
  pub list : List ℕ
  pub seen : List Bool
  pub alive : List ℕ
  pub cells : List ℕ

abbrev pub stored_in : List ℕ → List ℕ → List ℕ → List ℕ → List Bool → List ℕ → List ℕ → Stored
stored_in keys kids companions list seen alive cells = record { keys = keys; kids = kids; companions = companions; list = list; seen = seen; alive = alive; cells = cells }

-- how long they are: two marks a key, and as many words alive as the list has at most
pub record Sized (t : Stored) : Type 0 where
  pub marks : 2 * length t.keys ≤ length t.seen
  pub room : length t.list ≤ length t.alive
  pub small : length t.list ≤ 65535

-- those of a condition
abbrev pub gathered_of : Sheet → Option Expr → List Requirement
gathered_of h none = []
gathered_of h (some e) = gathered h e false

-- what the tables hold: under the number c the entries of the condition f c, for every sheet of so many items and atcs
pub record Holding (known : Known) (t : Stored) (w : Walk) (f : ℕ → Option Expr) : Type 0 where
  pub tables : Tables t.keys t.kids t.companions w.keyed
  pub chains : Chains t.companions t.cells t.list (length t.seen) (2 * w.cells) w.keyed w.used
  pub marked : MarkedAs t.companions t.cells t.list t.seen t.alive w.marked
  pub below : w.marked.first ≤ 2 * w.cells
  pub few : w.keyed ≤ w.used
  pub sized : Sized t
  pub nothing : f 0 ≡ none
  pub reads : (h : Sheet) → Has h known.items known.atcs → (c : ℕ) → c ≤ 2 * w.cells
      → Reads t.keys w.keyed (entries_in t.companions t.cells t.list c) (gathered_of h (f c))

-- .. of some conditions
pub record Held (known : Known) (t : Stored) (w : Walk) : Type 0 where
  pub conditions : ℕ → Option Expr
  pub holding : Holding known t w conditions

-- ---- a visit

-- the definition's state, s being the slots; marks past the blocks are never set
abbrev pub state_of : ℕ → List Bool → Shop → Walk → State
state_of n marks s w = record { slots = slots_of s; marks = take n marks; current = w.limit; answer = answer_in w.outcome }

abbrev pub commands_of : Memory → ℕ → List Command
commands_of m b = commands_in m.coded (block_word m b 2) (block_word m b 1)

-- block b, which is code, read under condition e
abbrev pub scan_in : Memory → List Bool → Option Expr → Shop → Walk → ℕ → Scan
scan_in m marks e s w b = scanned e (commands_of m b) (state_of m.count marks s w)

abbrev pub state_after : Sheet → Memory → List Bool → Option Expr → Shop → Walk → ℕ → State
state_after h m marks e s w b = visited h b e (commands_of m b) (state_of m.count marks s w)

-- what a visit of block b under condition c wants
pub record Open (m : Memory) (s : Shop) (w : Walk) (b c : ℕ) : Type 0 where
  pub accepted : Accepted m
  pub block : b < m.count
  pub code : block_word m b 0 ≡ 1
  pub fine : answer_in w.outcome ≡ 0
  pub free : w.cells < m.count
  pub low : c ≤ 2 * w.cells
  pub good : GoodShop s

-- what it leaves; where it refuses only the answer counts
pub record Entered (h : Sheet) (m : Memory) (marks : List Bool) (f : ℕ → Option Expr) (s : Shop) (w : Walk) (b c : ℕ) (marks' : List Bool) (f' : ℕ → Option Expr) (s' : Shop) (r : Visited) : Type 0 where
  pub answer : answer_in r.walk.outcome ≡ (state_after h m marks (f c) s w b).answer
  pub state : answer_in r.walk.outcome ≡ 0 → state_of m.count marks' s' r.walk ≡ state_after h m marks (f c) s w b
  pub good : answer_in r.walk.outcome ≡ 0 → GoodShop s'
  pub on_next : answer_in r.walk.outcome ≡ 0 → (r.next.0 ≡ 0 → ⊥) → f' r.then.0 ≡ (scan_in m marks (f c) s w b).on_next
  pub on_else : answer_in r.walk.outcome ≡ 0 → (r.next.0 ≡ 0 → ⊥) → f' r.otherwise.0 ≡ (scan_in m marks (f c) s w b).on_else
  pub next : r.next.0 ≡ block_word m b 3
  pub other : r.other.0 ≡ block_word m b 4
  pub marked : marks' ≡ set marks b true
  pub same : (k : ℕ) → k ≤ 2 * w.cells → f' k ≡ f k
  pub more : w.cells ≤ r.walk.cells
  pub most : r.walk.cells ≤ w.cells + 1
  pub low_next : r.then.0 ≤ 2 * r.walk.cells
  pub low_else : r.otherwise.0 ≤ 2 * r.walk.cells

-- there is room for one cell more, and for the entries of an If of at most n nodes: an If of e entries has 3 * e - 1 at least
pub record Roomy (t : Stored) (w : Walk) (n : ℕ) : Type 0 where
  pub rows : 3 * w.cells + 3 ≤ length t.cells
  pub words : 3 * w.used + n + 1 ≤ 3 * length t.list
  pub keys : length t.list < length t.keys

abbrev pub nodes_at : Memory → ℕ → ℕ
nodes_at m b = block_nodes (block_at (script_of m).blocks b)

-- .. under the conditions f
pub record Leaves (m : Memory) (known : Known) (t : Stored) (marks : List Bool) (s : Shop) (w : Walk) (b c : ℕ) (f : ℕ → Option Expr) (t' : Stored) (marks' : List Bool) (s' : Shop) (r : Visited) : Type 0 where
  pub conditions : ℕ → Option Expr
  pub holding : answer_in r.walk.outcome ≡ 0 → Holding known t' r.walk conditions
  pub spent : answer_in r.walk.outcome ≡ 0 → 3 * r.walk.used + w.cells ≤ 3 * w.used + nodes_at m b + r.walk.cells
  pub entered : (answer_in r.walk.outcome ≡ no_room → ⊥) → (h : Sheet) → Has h known.items known.atcs → Entered h m marks f s w b c marks' conditions s' r
  pub room : Roomy t w (nodes_at m b) → answer_in r.walk.outcome ≡ no_room → ⊥

abbrev pub Visits : Memory → Known → Stored → List Bool → Shop → Walk → ℕ → ℕ → Stored → List Bool → Shop → Visited → Type 0
Visits m known t marks s w b c t' marks' s' r = (f : ℕ → Option Expr) → Holding known t w f → Leaves m known t marks s w b c f t' marks' s' r
