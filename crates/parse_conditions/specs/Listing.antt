-- Lists of entries in one array, one list after the other: what reading a condition adds (01, Parser). Assumes nothing: these are definitions.
use Rattle.std.specs.Prelude.{Option, Some, None, ◌≡◌, Bool, not, List, [], ◌∷◌, ℕ, suc, ◌+◌, ◌/◌, ◌%◌, ◌≤◌, ◌<◌, get_or, length, ℤ}
use Rattle.model.specs.Limits.{wide16}
use Rattle.model.specs.Requirement.{Requirement}
use Rattle.model.specs.Sheet.{Sheet}
use Rattle.model.specs.Expr.{Expr}
use Rattle.model.specs.Image.{kind_of}
use Rattle.model.specs.Memory.{nodes_in, code_at}
use Rattle.expr.specs.Tree.{tree_below}
use Rattle.parse_conditions.specs.Gathered.{gathered, toggles}
use Rattle.parse_keys.specs.Entries.{Stand}
use Rattle.parse_keys.specs.Tables.{Tables, Grown, OfNode}
use Rattle.parse_keys.specs.declared.Known.{Known}

-- from place at to place to the list ls holds the entries of requirements, in their order
abbrev pub Listing : List ℕ → ℕ → List ℕ → ℕ → List Requirement → ℕ → Type 0
Listing ks m ls at [] to = at ≡ to
Listing ks m ls at (q ∷ qs) to = Stand ks m (get_or ls at 0) q × Listing ks m ls (suc at) qs to

-- how far the keys and the list have come, as one number
abbrev pub keys_of : ℕ → ℕ
keys_of r = r / wide16

abbrev pub used_of : ℕ → ℕ
used_of r = r % wide16

-- the tables have come as far as r says
pub record Place (ks kd cs ls : List ℕ) (r : ℕ) : Type 0 where
  pub tables : Tables ks kd cs (keys_of r)
  pub used : used_of r ≤ length ls
  pub small : length ls ≤ 65535

-- what is found in an expression
abbrev pub Finds : Type 0
Finds = Sheet → Expr → List Requirement

-- from r to s the entries of what is found in node i, below b, were added; each entry brought one key at most
pub record Added (ws : List ℕ) (vs : List ℤ) (k : Known) (b i : ℕ) (g : Finds) (r : ℕ) (ks ls ks' kd' cs' ls' : List ℕ) (s : ℕ) : Type 0 where
  pub place : Place ks' kd' cs' ls' s
  pub grown : Grown ks (keys_of r) ks' (keys_of s)
  pub long : length ls' ≡ length ls
  pub up : used_of r ≤ used_of s
  pub few : keys_of s + used_of r ≤ keys_of r + used_of s
  pub same : (j : ℕ) → j < used_of r → get_or ls' j 0 ≡ get_or ls j 0
  pub entries : OfNode ws vs k b i (λ h e. Listing ks' (keys_of s) ls' (used_of r) (g h e) (used_of s))

-- what is found in node i, below b, is what is found in node i', below b', with that sign
pub record Under (ws : List ℕ) (vs : List ℤ) (b i : ℕ) (neg : Bool) (b' i' : ℕ) (neg' : Bool) : Type 0 where
  pub low : b' ≤ b
  pub found : (h : Sheet) (n : ℕ) → gathered h (tree_below (nodes_in ws vs n) b i) neg ≡ gathered h (tree_below (nodes_in ws vs n) b' i') neg'

-- node i is no Not
abbrev pub bare : List ℕ → ℕ → Bool
bare ws i = not (toggles (kind_of (code_at (nodes_in ws [] 0) i)))

-- there is no such room: the list has a place for each entry, and the table one for a key of each and for key 0
abbrev pub NoRoom : List ℕ → List ℤ → Known → ℕ → ℕ → Finds → ℕ → List ℕ → List ℕ → Type 0
NoRoom ws vs k b i g r ks ls = OfNode ws vs k b i (λ h e. used_of r + length (g h e) ≤ length ls → keys_of r + length (g h e) < length ks → ⊥)

-- the place after, none where there was no room
abbrev pub ReadCondition : List ℕ → List ℤ → Known → ℕ → ℕ → Finds → ℕ → List ℕ → List ℕ → List ℕ → List ℕ → List ℕ → List ℕ → Option ℕ → Type 0
ReadCondition ws vs k b i g r ks ls ks' kd' cs' ls' (Some s) = Added ws vs k b i g r ks ls ks' kd' cs' ls' s
ReadCondition ws vs k b i g r ks ls ks' kd' cs' ls' None = NoRoom ws vs k b i g r ks ls
