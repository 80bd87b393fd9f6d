-- The entries of a condition, as the tables of a walk hold them: lists of entries, companions, and the chain of cells. Assumes nothing: these are definitions.
use Rattle.std.specs.Prelude.{Bool, true, false, cond, ◌||◌, List, [], ◌∷◌, ◌++◌, map, ℕ, zero, suc, ◌+◌, ◌*◌, ◌-◌, ◌/◌, ◌%◌, ◌≤◌, ◌<◌, leb, eqb, get_or, length}
use Rattle.std.proofs.Math.Seq.{slice}
use Rattle.model.specs.Limits.{wide, wide16}
use Rattle.parse_keys.specs.Entries.{Valid}

-- ---- entries and companions

-- each entry has a companion, whatever it is
abbrev pub companion_of : List ℕ → ℕ → ℕ
companion_of cs e = get_or cs e 0

-- an entry under a sign
abbrev pub signed_entry : List ℕ → Bool → ℕ → ℕ
signed_entry cs true e = companion_of cs e
signed_entry cs false e = e

-- whether e is one of xs
unfoldable pub has : ℕ → List ℕ → Bool
has e [] = false
has e (x ∷ xs) = eqb e x || has e xs

-- ---- the chain of conditions: 0 is none; cell j holds the condition that was joined to and where the entries of the If begin and end in the list; it stands for next as
-- 2 * j + 1 and, by companions, for else as 2 * j + 2

abbrev pub cell_of : ℕ → ℕ
cell_of c = (c - 1) / 2

abbrev pub joined_to : List ℕ → ℕ → ℕ
joined_to cells c = get_or cells (3 * cell_of c) 0

abbrev pub from_of : List ℕ → ℕ → ℕ
from_of cells c = get_or cells (3 * cell_of c + 1) 0

abbrev pub to_of : List ℕ → ℕ → ℕ
to_of cells c = get_or cells (3 * cell_of c + 2) 0

abbrev pub is_else : ℕ → Bool
is_else c = eqb ((c - 1) % 2) 1

-- words from..to of the list under a sign
abbrev pub signed_part : List ℕ → List ℕ → Bool → ℕ → ℕ → List ℕ
signed_part cs list n from to = map (signed_entry cs n) (slice from to list)

-- the entries of the condition's own If
abbrev pub part_of : List ℕ → List ℕ → List ℕ → ℕ → List ℕ
part_of cs cells list c = signed_part cs list (is_else c) (from_of cells c) (to_of cells c)

-- a condition lies above the one that it was joined to, whose entries come first; what lies at b or below is left out; d links are followed at most
unfoldable pub entries_to : List ℕ → List ℕ → List ℕ → ℕ → ℕ → ℕ → List ℕ
entries_to cs cells list b zero c = []
entries_to cs cells list b (suc d) c =
    cond (leb c b) [] (cond (leb c (joined_to cells c)) [] (entries_to cs cells list b d (joined_to cells c)) ++ part_of cs cells list c)

-- .. of the conditions above b
unfoldable pub entries_above : List ℕ → List ℕ → List ℕ → ℕ → ℕ → List ℕ
entries_above cs cells list b c = entries_to cs cells list b c c

-- .. of all of them: the entries of the condition c in the order in which they were read, repeats kept
abbrev pub entries_in : List ℕ → List ℕ → List ℕ → ℕ → List ℕ
entries_in cs cells list c = entries_above cs cells list 0 c

-- the first condition down the chain of c that lies at b or below
unfoldable pub reached_to : List ℕ → ℕ → ℕ → ℕ → ℕ
reached_to cells b zero c = c
reached_to cells b (suc d) c = cond (leb c b) c (cond (leb c (joined_to cells c)) 0 (reached_to cells b d (joined_to cells c)))

unfoldable pub reached : List ℕ → ℕ → ℕ → ℕ
reached cells b c = reached_to cells b c c

-- ---- bounds

-- where the entries of a condition end in the list
abbrev pub top_of : List ℕ → ℕ → ℕ
top_of cells c = cond (eqb c 0) 0 (to_of cells c)

-- the cell of condition c lies in the table, is joined to a lower condition, and its part of the list comes after that one's
pub record CellAt (cells : List ℕ) (used c : ℕ) : Type 0 where
  pub row : 3 * cell_of c + 2 < length cells
  pub lower : joined_to cells c < c
  pub after : top_of cells (joined_to cells c) ≤ from_of cells c
  pub low : from_of cells c ≤ to_of cells c
  pub high : to_of cells c ≤ used

-- the conditions up to top, over m keys and so many words of the list; size is how many marks there are
pub record Chains (cs cells list : List ℕ) (size top m used : ℕ) : Type 0 where
  pub cell : (c : ℕ) → 0 < c → c ≤ top → CellAt cells used c
  pub held : used ≤ length list
  pub entry : (i : ℕ) → i < used → Valid m (get_or list i 0)
  pub back : (e : ℕ) → Valid m e → Valid m (companion_of cs e)
  pub others : 2 * m + 2 ≤ length cs
  pub marks : 2 * m + 2 ≤ size

-- every condition up to top lies in the table and is joined to a lower one
pub record Falls (cells : List ℕ) (top : ℕ) : Type 0 where
  pub row : (c : ℕ) → 0 < c → c ≤ top → 3 * cell_of c < length cells
  pub lower : (c : ℕ) → 0 < c → c ≤ top → joined_to cells c < c

-- .. for some keys and words
pub record Walkable (cs cells list : List ℕ) (size top : ℕ) : Type 0 where
  pub keys : ℕ
  pub used : ℕ
  pub chains : Chains cs cells list size top keys used

-- what parse_requirements asks for: size is how many marks there are, room how many words may be alive, old the condition that is marked
pub record Bounds (ks cs cells list : List ℕ) (size room old first : ℕ) : Type 0 where
  pub keys : ℕ
  pub used : ℕ
  pub top : ℕ
  pub chains : Chains cs cells list size top keys used
  pub marked : old ≤ top
  pub asked : first ≤ top
  pub most : top < wide16
  pub few : used < wide16
  pub space : used ≤ room
  pub subjects : keys < length ks
  pub small : (i : ℕ) → 0 < i → i ≤ keys → get_or ks i 0 + wide < 18446744073709551616
