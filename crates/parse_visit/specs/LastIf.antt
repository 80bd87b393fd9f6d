-- The last If of a block: its root lies below the kept count, and its nodes are among those of the block, as the judgement counts them. Assumes nothing.
use Rattle.std.specs.Prelude.{◌≡◌, refl, Bool, true, false, cond, List, ℕ, zero, suc, ◌+◌, ◌*◌, ◌≤◌, ◌<◌, eqb}
use Rattle.std.proofs.Math.Path.{ap}
use Rattle.std.proofs.Common.{◌∙◌, add-zero, arith, eqb-true}
use Rattle.std.proofs.Math.Decide.{ℕ_discrete}
use Rattle.std.proofs.Math.ListN.{get_or}
use Rattle.model.specs.Reading.{got}
use Rattle.model.specs.Limits.{node_limit}
use Rattle.model.specs.Expr.{size}
use Rattle.model.specs.Script.{Block, block_at, sum_of, command_nodes, commands_nodes, block_nodes}
use Rattle.model.specs.Memory.{Memory, Coded, tree, command_word, command_by, command_in, commands_in, block_word, block_by, block_in, script_of}
use Rattle.model.specs.Record.{judged_record}
use Rattle.memory.specs.Sound.{Root, SoundBy, SoundCommand, SoundCommands, SoundKind}
use Rattle.model.proofs.Laws.Judged.{accepted_held}
use Rattle.memory.specs.RecordLaws.{block_at_lem, judged_sound}
use Rattle.memory.specs.Transfer.{accepted_script}
use Rattle.parse_scan.specs.LastIf.{last_if}

-- the roots of the Ifs among h commands from command f on lie below n
pub record Rooted (n : ℕ) (cw : List ℕ) (h f : ℕ) : Type 0 where
  pub root : (c : ℕ) → f ≤ c → c < f + h → get_or cw (4 * c) 0 ≡ 3 → get_or cw (4 * c + 1) 0 < n

pub last_low : (n : ℕ) (cw : List ℕ) (h f : ℕ) → Rooted n cw h f → (i : ℕ) → last_if cw h f ≡ suc i → i < n
unfolding last_if
last_low n cw zero f r i e = absurd (omega arith)
last_low n cw (suc h) f r i e = by (eqb (get_or cw (4 * (f + h)) 0) 3) refl e (last_low n cw h f (record { root = λ c a b. r.root c a (omega arith) }) i)
  where
    by : (t : Bool) → eqb (get_or cw (4 * (f + h)) 0) 3 ≡ t → cond t (suc (get_or cw (4 * (f + h) + 1) 0)) (last_if cw h f) ≡ suc i → (last_if cw h f ≡ suc i → i < n) → i < n
    by true p q ih = let l = r.root (f + h) (omega arith) (omega arith) (eqb-true (get_or cw (4 * (f + h)) 0) 3 p) in omega arith
    by false p q ih = ih q

-- in a code block of an accepted record
module _ (m : Memory) (bs : List Block) (r : List ℕ) (p : judged_record m ≡ got bs r) (b : ℕ) (low : b < m.count) (e : block_word m b 0 ≡ 1) where
  sound : SoundCommands m.coded (block_word m b 2) (block_word m b 1)
  unfolding SoundKind
  sound = rw e at ((judged_sound m bs r p).sound.block b low)

  root_of_lem : (c : ℕ) → SoundCommand m.coded c → get_or m.coded.words (4 * c) 0 ≡ 3 → get_or m.coded.words (4 * c + 1) 0 < m.coded.nodes.count
  unfolding SoundBy
  root_of_lem c s q =
      let w : command_word m.coded c 0 ≡ 3 = ap (λ i. get_or m.coded.words i 0) (add-zero (4 * c)) ∙ q in
      let t : Root m.coded.nodes (command_word m.coded c 1) = rw w at s.by in
      t.low

  pub block_rooted : Rooted m.coded.nodes.count m.coded.words (block_word m b 2) (block_word m b 1)
  block_rooted = record { root = λ c l u. root_of_lem c (sound c l u) }

-- ---- its nodes

-- command c, an If of root i, is among h commands from command f on
record IfAt (cw : List ℕ) (h f i : ℕ) : Type 0 where
  at : ℕ
  from : f ≤ at
  before : at < f + h
  code : get_or cw (4 * at) 0 ≡ 3
  root : get_or cw (4 * at + 1) 0 ≡ i

if_at : (cw : List ℕ) (h f i : ℕ) → last_if cw h f ≡ suc i → IfAt cw h f i
unfolding last_if
if_at cw zero f i e = absurd (omega arith)
if_at cw (suc h) f i e = by (eqb (get_or cw (4 * (f + h)) 0) 3) refl e (if_at cw h f i)
  where
    by : (t : Bool) → eqb (get_or cw (4 * (f + h)) 0) 3 ≡ t → cond t (suc (get_or cw (4 * (f + h) + 1) 0)) (last_if cw h f) ≡ suc i → (last_if cw h f ≡ suc i → IfAt cw h f i) → IfAt cw (suc h) f i
    by true p q ih = record { at = f + h; from = omega arith; before = omega arith; code = eqb-true (get_or cw (4 * (f + h)) 0) 3 p; root = omega arith }
    by false p q ih = let a = ih q in record { at = a.at; from = a.from; before = omega (arith, a.before); code = a.code; root = a.root }

-- a command's nodes are among those of the commands
nodes_at_lem : (co : Coded) (h f c : ℕ) → f ≤ c → c < f + h → command_nodes (command_in co c) ≤ commands_nodes (commands_in co h f)
unfolding commands_in commands_nodes
nodes_at_lem co zero f c l u = absurd (omega arith)
nodes_at_lem co (suc h) f c l u = by (ℕ_discrete f c) (nodes_at_lem co h (suc f) c)
  where
    by : Dec (f ≡ c) → (suc f ≤ c → c < suc f + h → command_nodes (command_in co c) ≤ commands_nodes (commands_in co h (suc f)))
        → command_nodes (command_in co c) ≤ command_nodes (command_in co f) + commands_nodes (commands_in co h (suc f))
    by (yes e) ih = rw e (omega arith)
    by (no n) ih = omega (arith, ih (omega arith) (omega arith))

if_nodes : (co : Coded) (c : ℕ) → get_or co.words (4 * c) 0 ≡ 3 → command_nodes (command_in co c) ≡ size (tree co.nodes (get_or co.words (4 * c + 1) 0))
unfolding command_in command_by command_nodes
if_nodes co c e =
    let w : command_word co c 0 ≡ 3 = ap (λ i. get_or co.words i 0) (add-zero (4 * c)) ∙ e in
    ap (λ k. command_nodes (command_by co c k)) w

pub last_nodes : (m : Memory) (b i : ℕ) → b < m.count → block_word m b 0 ≡ 1 → last_if m.coded.words (block_word m b 2) (block_word m b 1) ≡ suc i
    → size (tree m.coded.nodes i) ≤ block_nodes (block_at (script_of m).blocks b)
unfolding block_in block_by block_nodes
last_nodes m b i low e q =
    let a = if_at m.coded.words (block_word m b 2) (block_word m b 1) i q in
    let n = nodes_at_lem m.coded (block_word m b 2) (block_word m b 1) a.at a.from a.before in
    let s = if_nodes m.coded a.at a.code ∙ ap (λ k. size (tree m.coded.nodes k)) a.root in
    let k : block_nodes (block_at (script_of m).blocks b) ≡ commands_nodes (commands_in m.coded (block_word m b 2) (block_word m b 1)) = ap block_nodes (block_at_lem m b low ∙ ap (block_by m b) e) in
    omega (arith, n, s, k)

-- all of them together
pub nodes_few : (m : Memory) (bs : List Block) (r : List ℕ) → judged_record m ≡ got bs r → sum_of block_nodes (script_of m).blocks ≤ node_limit
unfolding script_of
nodes_few m bs r p = let a = accepted_held (script_of m) (accepted_script m bs r p) in omega (arith, a.0.nodes, a.1.nodes)
