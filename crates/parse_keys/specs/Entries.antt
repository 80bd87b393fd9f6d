-- The entries of conditions: each subject of a requirement in the script has a key, and each key two entries, Have and Missing (01, Parser). Assumes nothing: these are definitions.
use Rattle.std.specs.Prelude.{◌≡◌, Bool, true, false, cond, List, ℕ, ◌+◌, ◌-◌, ◌*◌, ◌/◌, ◌%◌, ◌≤◌, ◌<◌, eqb, get_or, length}
use Rattle.std.proofs.Math.Option.{Option, none, some}
use Rattle.model.specs.Limits.{wide}
use Rattle.model.specs.Requirement.{Requirement}
use Rattle.model.specs.Parse.{signed}
use Rattle.shop_codes.specs.Codes.{code_of, requirement_of, is_missing}

-- keys count from 1; entry 2 * i is key i with Have, entry 2 * i + 1 with Missing
abbrev pub odd : ℕ → Bool
odd k = eqb (k % 2) 1

-- the entry of the other sign, where it is asked for
unfoldable pub turned : Bool → ℕ → ℕ
turned false k = k
turned true k = cond (eqb (k % 2) 0) (k + 1) (k - 1)

abbrev pub entry_code : List ℕ → ℕ → ℕ
entry_code ks k = get_or ks (k / 2) 0 + k % 2 * wide

unfoldable pub entry_req : List ℕ → ℕ → Requirement
entry_req ks k = signed (odd k) (requirement_of (get_or ks (k / 2) 0))

-- an entry of m keys
pub record Valid (m k : ℕ) : Type 0 where
  pub low : 2 ≤ k
  pub high : k < 2 * m + 2

-- the code of a requirement of the kind Have
pub record Subject (c : ℕ) : Type 0 where
  pub have : is_missing (requirement_of c) ≡ false
  pub code : code_of (requirement_of c) ≡ c

pub record Stand (ks : List ℕ) (m x : ℕ) (r : Requirement) : Type 0 where
  pub valid : Valid m x
  pub is : entry_req ks x ≡ r

-- a node's word: 0 for no requirement, else its entry
abbrev pub Leaf : List ℕ → ℕ → ℕ → Option Requirement → Type 0
Leaf ks m x none = x ≡ 0
Leaf ks m x (some r) = Stand ks m x r

-- m keys, each with a place in the list, no two alike
pub record Keys (ks : List ℕ) (m : ℕ) : Type 0 where
  pub long : m ≤ length ks - 1
  pub subject : (i : ℕ) → 0 < i → i ≤ m → Subject (get_or ks i 0)
  pub once : (i j : ℕ) → 0 < i → i ≤ m → 0 < j → j ≤ m → get_or ks i 0 ≡ get_or ks j 0 → i ≡ j
