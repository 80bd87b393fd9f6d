-- Sets with companions of several sorts, what stays of them written out by hand, and what the definitions give (02, A.3). Assumes nothing.
use Rattle.std.specs.Prelude.{◌≡◌, refl, Bool, true, false, List, [], ◌∷◌, map, ℕ}
use Rattle.parse_filter.specs.Chains.{companion_of, has}
use Rattle.parse_filter.specs.Filter.{stay, filtered, unmet}

-- the set 4, 2, 7, 3 throughout; a table gives entries 0 to 7 their companions
abbrev set : List ℕ
set = 4 ∷ 2 ∷ 7 ∷ 3 ∷ []

pub record Case : Type 0 where
  pub companions : List ℕ
  pub kept : List ℕ

pub cases : List Case
cases =
    -- the negations: 2 and 3 are a pair
    record { companions = 0 ∷ 0 ∷ 3 ∷ 2 ∷ 5 ∷ 4 ∷ 7 ∷ 6 ∷ []; kept = 4 ∷ 7 ∷ [] }
    -- each entry its own companion
    ∷ record { companions = 0 ∷ 1 ∷ 2 ∷ 3 ∷ 4 ∷ 5 ∷ 6 ∷ 7 ∷ []; kept = [] }
    -- companions that are not in the set
    ∷ record { companions = 6 ∷ 6 ∷ 6 ∷ 5 ∷ 1 ∷ 6 ∷ 6 ∷ 0 ∷ []; kept = 4 ∷ 2 ∷ 7 ∷ 3 ∷ [] }
    -- 2 names 7, which does not name 2: only 2 goes
    ∷ record { companions = 6 ∷ 6 ∷ 7 ∷ 6 ∷ 6 ∷ 6 ∷ 6 ∷ 6 ∷ []; kept = 4 ∷ 7 ∷ 3 ∷ [] }
    -- 4 names 2, which goes too: the set is the one that was handed in, not what is left of it
    ∷ record { companions = 6 ∷ 6 ∷ 7 ∷ 6 ∷ 2 ∷ 6 ∷ 6 ∷ 6 ∷ []; kept = 7 ∷ 3 ∷ [] }
    -- all name one entry, which names none
    ∷ record { companions = 0 ∷ 0 ∷ 7 ∷ 7 ∷ 7 ∷ 7 ∷ 7 ∷ 1 ∷ []; kept = 7 ∷ [] }
    ∷ []

pub kept_as_written : map (λ x. filtered set (companion_of x.companions)) cases ≡ map (λ x. x.kept) cases
unfolding cases filtered stay has
kept_as_written = refl

-- the marks of the set
abbrev seen : List Bool
seen = false ∷ false ∷ true ∷ true ∷ true ∷ false ∷ false ∷ true ∷ []

pub marks_as_written : map (λ x. unmet seen (companion_of x.companions) set) cases ≡ map (λ x. x.kept) cases
unfolding cases unmet stay
marks_as_written = refl
