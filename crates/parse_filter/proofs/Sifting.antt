-- The filter over the words alive, and the set of codes of what stays. Assumes nothing.
use mathlib.Core.Path.{◌≡◌, refl, sym, ap, ◌∙◌}
use mathlib.Core.Bool.{Bool, true, false, not}
use mathlib.Core.List.{List, [], ◌∷◌, ◌++◌, map, map-append, append-nil}
use Prim.Native.Nat.{ℕ, ◌+◌, ◌≤◌, ◌<◌}
use native.Mathlib.Omega.{arith}
use native.Mathlib.Numerals.{add-one}
use lib.ListN.{get_or, length, set, take, drop, length-set, take-append-drop}
use lib.Seq.{take-suc, take-suc-set, take-set-le, take_at, take-take, get_or-set_other}
use borrow.Author.Tests.{le-leb}
use Rattle.model.specs.Limits.{entry_limit}
use Rattle.shop.specs.Sets.{insert_code, sorted_codes, Inserted}
use Rattle.shop.specs.SetLaws.{insert_more}
use Rattle.parse_keys.specs.Entries.{entry_code}
use Rattle.parse_filter.specs.Chains.{companion_of}
use Rattle.parse_filter.specs.Filter.{stay, unmet, Sifted, companion_codes, Holds}
use Rattle.parse_filter.proofs.Members.{stay_append, sorted_more, sorted_on}
use Rattle.parse_filter.proofs.Companions.{held_filtered}

-- ---- the filter

-- of the first j words those that stay are the first kept; the words from j on are as they were
pub record Sifting (cs : List ℕ) (seen : List Bool) (al₀ : List ℕ) (n : ℕ) (al : List ℕ) (kept j : ℕ) : Type 0 where
  pub is : take kept al ≡ unmet seen (companion_of cs) (take j al₀)
  pub low : kept ≤ j
  pub high : j ≤ n
  pub rest : (i : ℕ) → j ≤ i → get_or al i 0 ≡ get_or al₀ i 0
  pub long : length al ≡ length al₀

module _ (cs : List ℕ) (seen : List Bool) (al₀ : List ℕ) (n : ℕ) (held : n ≤ length al₀) where
  pub sifting_start : Sifting cs seen al₀ n al₀ 0 0
  unfolding unmet stay
  sifting_start = record { is = refl; low = omega arith; high = omega arith; rest = λ i h. refl; long = refl }

  pub sifting_end : (al : List ℕ) (kept j : ℕ) → Sifting cs seen al₀ n al kept j → n ≤ j → Sifted cs seen al₀ n al kept
  sifting_end al kept j s h =
      let z : j ≡ n = omega (arith, s.high) in
      let is : take kept al ≡ unmet seen (companion_of cs) (take n al₀) = rw z at s.is in
      record { is = is; filters = λ set w. is ∙ held_filtered cs seen (take n al₀) set w; most = omega (arith, s.low) }

  module _ (al : List ℕ) (kept j : ℕ) (s : Sifting cs seen al₀ n al kept j) (l : j < n) (e : ℕ) (w : e ≡ get_or al j 0) where
    word : e ≡ get_or al₀ j 0
    word = w ∙ s.rest j (omega arith)

    grown : take (j + 1) al₀ ≡ take j al₀ ++ e ∷ []
    grown = rw (add-one j, take-suc al₀ j 0 (omega arith), word)

    rest_on : (i : ℕ) → j + 1 ≤ i → get_or (set al kept e) i 0 ≡ get_or al₀ i 0
    rest_on i h = get_or-set_other al kept i e 0 (λ z. omega (arith, s.low)) ∙ s.rest i (omega arith)

    pub sifting_in : not (get_or seen (companion_of cs e) false) ≡ true → Sifting cs seen al₀ n (set al kept e) (kept + 1) (j + 1)
    unfolding unmet stay
    sifting_in f = record {
      is =
          rw (add-one kept, take-suc-set al kept e (omega (arith, s.low, s.long)), grown, stay_append (λ x. not (get_or seen (companion_of cs x) false)) (take j al₀) (e ∷ []), f)
          (ap (λ t. t ++ e ∷ []) s.is);
      low = omega (arith, s.low);
      high = omega arith;
      rest = rest_on;
      long = length-set al kept e ∙ s.long;
    }

    pub sifting_out : not (get_or seen (companion_of cs e) false) ≡ false → Sifting cs seen al₀ n (set al kept e) kept (j + 1)
    unfolding unmet stay
    sifting_out f = record {
      is =
          rw (take-set-le kept al kept e (omega arith), grown, stay_append (λ x. not (get_or seen (companion_of cs x) false)) (take j al₀) (e ∷ []), f, append-nil)
          s.is;
      low = omega (arith, s.low);
      high = omega arith;
      rest = rest_on;
      long = length-set al kept e ∙ s.long;
    }

-- ---- the set of codes

-- the first j words have these codes
pub record Coding (ks cs al codes : List ℕ) (n len j : ℕ) : Type 0 where
  pub few : len ≤ entry_limit
  pub high : j ≤ n
  pub count : len ≡ length (companion_codes ks cs (take j al))
  pub is : take len codes ≡ companion_codes ks cs (take j al)

module _ (ks cs al : List ℕ) (n : ℕ) (held : n ≤ length al) where
  pub coding_start : (codes : List ℕ) → Coding ks cs al codes n 0 0
  unfolding companion_codes sorted_codes
  coding_start codes = record { few = omega arith; high = omega arith; count = refl; is = refl }

  pub coding_end : (codes : List ℕ) (len j : ℕ) → Coding ks cs al codes n len j → n ≤ j → Holds (companion_codes ks cs (take n al)) codes len
  coding_end codes len j s h =
      let z : j ≡ n = omega (arith, s.high) in
      record { count = rw (← z) (omega (arith, s.count, s.few)); is = λ l. rw (← z) s.is }

  module _ (codes : List ℕ) (len j : ℕ) (s : Coding ks cs al codes n len j) (l : j < n) (x : ℕ) (w : x ≡ entry_code ks (companion_of cs (get_or al j 0))) (out : List ℕ) (r : ℕ) (i : Inserted codes len x out r) where
    more : companion_codes ks cs (take (j + 1) al) ≡ insert_code x (take len codes)
    unfolding companion_codes
    more =
        let f : ℕ → ℕ = λ e. entry_code ks (companion_of cs e) in
        rw (s.is, add-one j, take-suc al j 0 (omega arith), map-append f (take j al) (get_or al j 0 ∷ []), ← w)
        (sorted_on (map f (take j al)) x)

    pub coding_on : r ≤ entry_limit → Coding ks cs al out n r (j + 1)
    coding_on h = record {
      few = h;
      high = omega arith;
      count = rw more i.count;
      is = rw (more, i.is, le-leb r entry_limit h) (take_at (insert_code x (take len codes)) (drop r codes) r (sym i.count));
    }

    pub coding_full : entry_limit < r → Holds (companion_codes ks cs (take n al)) out r
    unfolding companion_codes
    coding_full h =
        let f : ℕ → ℕ = λ e. entry_code ks (companion_of cs e) in
        let a = take-take (j + 1) n al (omega arith) in
        let b = take-append-drop (j + 1) (take n al) in
        let g = sorted_more (map f (take (j + 1) al)) (map f (drop (j + 1) (take n al))) in
        let p : length (sorted_codes (map f (take (j + 1) al))) ≡ r = ap length more ∙ sym i.count in
        let q : map f (take (j + 1) al) ++ map f (drop (j + 1) (take n al)) ≡ map f (take n al) = sym (map-append f (take (j + 1) al) (drop (j + 1) (take n al))) ∙ ap (map f) (rw a at b) in
        let few : length (take len codes) ≤ entry_limit = rw (s.is, ← s.count) s.few in
        record {
          count = omega (arith, (insert_more x (take len codes)).1, i.count, rw q at g);
          is = λ z. absurd (omega arith);
        }
