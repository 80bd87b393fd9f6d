-- The contradiction filter for any companions at all, and what it leaves as a set of codes (01, Parser: contradicting pairs drop; 02, A.3). Assumes nothing: these are definitions.
use Rattle.std.specs.Prelude.{◌≡◌, Bool, true, false, not, cond, List, [], ◌∷◌, map, ℕ, suc, ◌+◌, ◌/◌, ◌≤◌, ◌<◌, min, get_or, length, take}
use Rattle.model.specs.Limits.{entry_limit, wide}
use Rattle.shop.specs.Sets.{sorted_codes}
use Rattle.parse_keys.specs.Entries.{entry_code}
use Rattle.parse_filter.specs.Chains.{companion_of, has}

-- those that pass p, in their order
unfoldable pub stay : (ℕ → Bool) → List ℕ → List ℕ
stay p [] = []
stay p (x ∷ xs) = cond (p x) (x ∷ stay p xs) (stay p xs)

-- 02, A.3: for any companions at all, right negations or not, it keeps exactly the entries whose companion is not in the set, in their order
unfoldable pub filtered : List ℕ → (ℕ → ℕ) → List ℕ
filtered entries companion = stay (λ e. not (has (companion e) entries)) entries

-- .. of some words, where marks say what is in the set
unfoldable pub unmet : List Bool → (ℕ → ℕ) → List ℕ → List ℕ
unmet seen companion words = stay (λ e. not (get_or seen (companion e) false)) words

-- a set on its way, as marks and words hold it: an entry is marked if and only if it is in the set; the words are the entries of the set in their order, where one whose companion is in
-- the set too may be left out
pub record HeldAs (cs : List ℕ) (seen : List Bool) (words set : List ℕ) : Type 0 where
  pub marks : (e : ℕ) → get_or seen e false ≡ has e set
  pub looked : ℕ → Bool
  pub order : words ≡ stay looked set
  pub others : (e : ℕ) → looked e ≡ false → has (companion_of cs e) set ≡ true

-- n words, each with a companion that may be looked up among so many marks
pub record Met (cs alive : List ℕ) (size n : ℕ) : Type 0 where
  pub held : n ≤ length alive
  pub entry : (i : ℕ) → i < n → get_or alive i 0 < length cs
  pub other : (i : ℕ) → i < n → companion_of cs (get_or alive i 0) < size

-- of the first n words those that stay are now the first r: whatever set the words and the marks hold, that is filtered by the companions of the table, which may be any
pub record Sifted (cs : List ℕ) (seen : List Bool) (alive : List ℕ) (n : ℕ) (alive' : List ℕ) (r : ℕ) : Type 0 where
  pub is : take r alive' ≡ unmet seen (companion_of cs) (take n alive)
  pub filters : (set : List ℕ) → HeldAs cs seen (take n alive) set → take r alive' ≡ filtered set (companion_of cs)
  pub most : r ≤ n

-- ---- codes

-- the codes of the companions, as a set
unfoldable pub companion_codes : List ℕ → List ℕ → List ℕ → List ℕ
companion_codes ks cs xs = sorted_codes (map (λ e. entry_code ks (companion_of cs e)) xs)

-- those of the entries that stay
unfoldable pub negated_codes : List ℕ → List ℕ → List ℕ → List ℕ
negated_codes ks cs xs = companion_codes ks cs (filtered xs (companion_of cs))

-- n words, each with a companion that has a key
pub record Coded (ks cs alive : List ℕ) (n : ℕ) : Type 0 where
  pub held : n ≤ length alive
  pub entry : (i : ℕ) → i < n → get_or alive i 0 < length cs
  pub key : (i : ℕ) → i < n → companion_of cs (get_or alive i 0) / 2 < length ks
  pub small : (i : ℕ) → i < n → get_or ks (companion_of cs (get_or alive i 0) / 2) 0 + wide < 18446744073709551616

-- the set l in an array with a length; of one that has too many codes only that it has
pub record Holds (l codes : List ℕ) (n : ℕ) : Type 0 where
  pub count : n ≡ min (length l) (suc entry_limit)
  pub is : n ≤ entry_limit → take n codes ≡ l
