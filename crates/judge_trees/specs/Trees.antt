-- What the table tells of a node's tree: how many nodes it has, its operands lying below it. Assumes nothing: these are definitions.
use Rattle.std.specs.Prelude.{◌≡◌, true, false, List, ℕ, zero, suc, ◌+◌, ◌-◌, ◌*◌, ◌≤◌, ◌<◌, T as Holds, ℤ, pos, length, get_or, Ok}
use Rattle.std.proofs.Common.{sym, subst}
use Rattle.model.specs.Limits.{wide, wide16}
use Rattle.model.specs.Reading.{zig}
use Rattle.model.specs.Expr.{size}
use Rattle.model.specs.Image.{kind_of, read_expr}
use Rattle.model.specs.Memory.{nodes_in}
use Rattle.model.specs.Record.{node_image}
use Rattle.model.specs.declared.Op2.{Op2}
use Rattle.model.specs.declared.Op1.{Op1}
use Rattle.model.specs.declared.Kind.TheVariants.{Two, One, Imm16, Imm32, Other}
use Rattle.judge_terms.specs.Told.{Told}

-- ---- a node of r nodes, those below it being told by the table

-- a number whose image is below the limit
pub record Number (z : ℤ) (lim r : ℕ) : Type 0 where
  pub leaf : r ≡ 1
  pub low : zig z < lim

-- node i above the tree of node a
pub record AboveOne (t : List ℕ) (i a r : ℕ) : Type 0 where
  pub below : a < i
  pub size : r ≡ get_or t a 0 + 1

-- node i above the trees of nodes a and b
pub record AboveTwo (t : List ℕ) (i a b r : ℕ) : Type 0 where
  pub left : a < i
  pub right : b < i
  pub size : r ≡ get_or t a 0 + get_or t b 0 + 1

pub data Node (ws : List ℕ) (vs : List ℤ) (t : List ℕ) (i r : ℕ) : Type 0 where
  two : (x : Op2) → Two x ≡ kind_of (get_or ws (3 * i) 0) → AboveTwo t i (get_or ws (3 * i + 1) 0) (get_or ws (3 * i + 2) 0) r → Node ws vs t i r
  one : (x : Op1) → One x ≡ kind_of (get_or ws (3 * i) 0) → AboveOne t i (get_or ws (3 * i + 1) 0) r → Node ws vs t i r
  imm16 : Imm16 ≡ kind_of (get_or ws (3 * i) 0) → Number (get_or vs i (pos 0)) wide16 r → Node ws vs t i r
  imm32 : Imm32 ≡ kind_of (get_or ws (3 * i) 0) → Number (get_or vs i (pos 0)) wide r → Node ws vs t i r
  other : Other ≡ kind_of (get_or ws (3 * i) 0) → r ≡ 1 → Node ws vs t i r

-- its code is known, and no tree has more nodes than there are up to its root
pub record Tree (ws : List ℕ) (vs : List ℤ) (t : List ℕ) (i r : ℕ) : Type 0 where
  pub known : get_or ws (3 * i) 0 < 19
  pub few : r ≤ i + 1
  pub node : Node ws vs t i r

-- the table tells the trees of the first n nodes
pub record Trees (ws : List ℕ) (vs : List ℤ) (t : List ℕ) (n : ℕ) : Type 0 where
  pub long : n ≤ length t
  pub each : (j : ℕ) → j < n → Tree ws vs t j (get_or t j 0)

-- ---- levels

-- so it is of the operands of node i
pub record Operands (P : ℕ → Type 0) (ws : List ℕ) (i : ℕ) : Type 0 where
  pub only : (x : Op1) → One x ≡ kind_of (get_or ws (3 * i) 0) → P (get_or ws (3 * i + 1) 0)
  pub left : (x : Op2) → Two x ≡ kind_of (get_or ws (3 * i) 0) → P (get_or ws (3 * i + 1) 0)
  pub right : (x : Op2) → Two x ≡ kind_of (get_or ws (3 * i) 0) → P (get_or ws (3 * i + 2) 0)

-- the tree of node i has at most d levels
unfoldable pub Shallow : List ℕ → ℕ → ℕ → Type 0
Shallow ws zero i = ⊥
Shallow ws (suc d) i = Operands (Shallow ws d) ws i

-- ---- what that is for

-- node i, which has to be below b, is read fine from there on, and its nodes come on top of n; how many bytes that takes is not kept
pub record Reads (ws : List ℕ) (vs : List ℤ) (l b i n at o k : ℕ) : Type 0 where
  pub to : ℕ
  pub told : Told (read_expr l (64 - o) n) size (node_image (nodes_in ws vs l) b i) l 0 n at (Ok (n + k, to))

-- an answer of false says nothing
pub never : {A : Type 0} → false ≡ true → A
never e = absurd (subst Holds (sym e) tt)
