-- Marks on entries, kept between hiding blocks, and which of the marked entries may still stay. Assumes nothing: these are definitions.
use Rattle.std.specs.Prelude.{◌≡◌, Bool, true, false, not, ◌&&◌, ◌||◌, List, ℕ, ◌+◌, ◌≤◌, ◌<◌, max, get_or, length, take}
use Rattle.parse_filter.specs.Chains.{companion_of, has, entries_in, reached, top_of, Walkable}
use Rattle.parse_filter.specs.Filter.{negated_codes, Holds}
use Rattle.parse_filter.specs.declared.Marked.{Marked}
use Rattle.parse_filter.specs.declared.Filtered.{Filtered}

-- ---- between calls

-- an entry is marked if and only if it is one of the condition's; the words alive are marked, and each marked entry whose companion is not is one of them
pub record MarkedAs (cs cells list : List ℕ) (seen : List Bool) (alive : List ℕ) (k : Marked) : Type 0 where
  pub marks : (e : ℕ) → get_or seen e false ≡ has e (entries_in cs cells list k.first)
  pub some : (e : ℕ) → has e (take k.alive alive) ≡ true → has e (entries_in cs cells list k.first) ≡ true
  pub all : (e : ℕ) → has e (entries_in cs cells list k.first) ≡ true → has (companion_of cs e) (entries_in cs cells list k.first) ≡ false → has e (take k.alive alive) ≡ true
  pub few : k.alive ≤ top_of cells k.first

-- ---- the steps

-- words from..to of the list, each an entry with a companion that may be marked
pub record Part (cs list : List ℕ) (size from to : ℕ) : Type 0 where
  pub low : from ≤ to
  pub high : to ≤ length list
  pub other : (i : ℕ) → from ≤ i → i < to → get_or list i 0 < length cs
  pub place : (i : ℕ) → from ≤ i → i < to → get_or list i 0 < size
  pub companion : (i : ℕ) → from ≤ i → i < to → companion_of cs (get_or list i 0) < size

-- xs were marked; those that were not before are alive now
pub record Marks (seen : List Bool) (alive : List ℕ) (a : ℕ) (xs : List ℕ) (seen' : List Bool) (alive' : List ℕ) (r : ℕ) : Type 0 where
  pub marks : (e : ℕ) → get_or seen' e false ≡ has e xs || get_or seen e false
  pub looked : (e : ℕ) → has e (take r alive') ≡ (has e xs && not (get_or seen e false)) || has e (take a alive)
  pub up : a ≤ r
  pub most : r ≤ a + length xs

-- from first down to the condition that is marked, on which it stands; room is how many words may be alive
pub record Onward (cs cells list : List ℕ) (size room first : ℕ) (k : Marked) : Type 0 where
  pub walk : Walkable cs cells list size first
  pub space : walk.used ≤ room
  pub stands : reached cells k.first first ≡ k.first
  pub few : k.alive ≤ top_of cells k.first

-- the marks of xs were taken away
pub record Unmarks (seen : List Bool) (xs : List ℕ) (seen' : List Bool) : Type 0 where
  pub marks : (e : ℕ) → get_or seen' e false ≡ not (has e xs) && get_or seen e false

-- the marks of the condition old serve the condition first, or none is left
pub data Served (cs cells list : List ℕ) (seen : List Bool) (old : Marked) (first : ℕ) (seen' : List Bool) (r : Marked) : Type 0 where
  as_they_are : reached cells old.first first ≡ old.first → seen' ≡ seen → r ≡ old → Served cs cells list seen old first seen' r
  none_left : Unmarks seen (entries_in cs cells list old.first) seen' → r ≡ record { first = 0; alive = 0 } → Served cs cells list seen old first seen' r

-- ---- the answer

-- the negated requirements of the condition first, and what is marked after
pub record Parsed (ks cs cells list : List ℕ) (old : Marked) (first : ℕ) (seen : List Bool) (alive codes : List ℕ) (r : Filtered) : Type 0 where
  pub holds : Holds (negated_codes ks cs (entries_in cs cells list first)) codes r.len
  pub marked : MarkedAs cs cells list seen alive r.marked
  pub most : r.marked.first ≤ max old.first first
