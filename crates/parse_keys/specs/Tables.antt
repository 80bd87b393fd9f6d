-- The tables of keys that a walk fills as it reads conditions: the keys, the links of their search, and the companion of each entry (01, Parser). Assumes nothing: these are definitions.
use Rattle.std.specs.Prelude.{◌≡◌, Bool, true, List, ℕ, ◌+◌, ◌*◌, ◌/◌, ◌≤◌, ◌<◌, get_or, length, ℤ}
use Rattle.std.proofs.Math.Option.{none}
use Rattle.model.specs.Sheet.{Sheet}
use Rattle.model.specs.Expr.{Expr}
use Rattle.model.specs.Memory.{nodes_in}
use Rattle.model.specs.Parse.{map_req, signed, parse_requirement}
use Rattle.shop_codes.specs.Codes.{requirement_of}
use Rattle.expr.specs.Requirement.{Has}
use Rattle.expr.specs.Tree.{tree_below}
use Rattle.parse_keys.specs.Entries.{odd, turned, Valid, Stand, Leaf}
use Rattle.parse_keys.specs.Search.{Table}
use Rattle.parse_keys.specs.declared.Known.{Known}
use Rattle.parse_keys.specs.declared.Word.{Word}

-- each entry of m keys has its word, the entry of the other sign
abbrev pub Companions : List ℕ → ℕ → Type 0
Companions cs m = (k : ℕ) → Valid m k → get_or cs k 0 ≡ turned true k

-- m keys in tables that have room for one at least
pub record Tables (ks kd cs : List ℕ) (m : ℕ) : Type 0 where
  pub table : Table ks kd m
  pub companions : Companions cs m
  pub room : m < length ks
  pub small : length ks ≤ 32767
  pub kids : 2 * length ks ≤ length kd
  pub others : 2 * length ks ≤ length cs

-- m keys became n; those that there were stay
pub record Grown (ks : List ℕ) (m : ℕ) (ks' : List ℕ) (n : ℕ) : Type 0 where
  pub up : m ≤ n
  pub long : length ks' ≡ length ks
  pub same : (j : ℕ) → j ≤ m → get_or ks' j 0 ≡ get_or ks j 0

-- the word for: no room for another key
abbrev pub no_room : ℕ
no_room = 65535

-- a fact of node i, as an operand of node b, for every sheet of so many items and atcs
abbrev pub OfNode : List ℕ → List ℤ → Known → ℕ → ℕ → (Sheet → Expr → Type 0) → Type 0
OfNode ws vs k b i P = (h : Sheet) (n : ℕ) → Has h k.items k.atcs → P h (tree_below (nodes_in ws vs n) b i)

-- the entry of a subject's code with its sign
pub record Entered (x m : ℕ) (ks ks' kd' cs' : List ℕ) (r : Word) : Type 0 where
  pub tables : Tables ks' kd' cs' r.count
  pub grown : Grown ks m ks' r.count
  pub few : r.count ≤ m + 1
  pub stand : (r.word ≡ no_room → ⊥) → Stand ks' r.count r.word (signed (odd x) (requirement_of (x / 2)))
  pub full : r.word ≡ no_room → length ks ≤ m + 1

-- the entry of node i under a sign: 0 where it is no requirement
pub record ReadEntry (ws : List ℕ) (vs : List ℤ) (k : Known) (b i : ℕ) (neg : Bool) (m : ℕ) (ks ks' kd' cs' : List ℕ) (r : Word) : Type 0 where
  pub tables : Tables ks' kd' cs' r.count
  pub grown : Grown ks m ks' r.count
  pub few : r.count ≤ m + 1
  pub still : r.word ≡ 0 → r.count ≡ m
  pub leaf : (r.word ≡ no_room → ⊥) → OfNode ws vs k b i (λ h e. Leaf ks' r.count r.word (map_req (signed neg) (parse_requirement h e)))
  pub full : r.word ≡ no_room → length ks ≤ m + 1
  pub wants : r.word ≡ no_room → OfNode ws vs k b i (λ h e. parse_requirement h e ≡ none → ⊥)
