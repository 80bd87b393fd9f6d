-- The steps of parse_requirements put together: the marks of the condition, what of it is alive, and the set of what stays. Assumes nothing.
use mathlib.Core.Path.{◌≡◌, refl, sym, ap, ◌∙◌}
use mathlib.Core.Bool.{Bool, true, false, not, ◌&&◌, ◌||◌, true≢false, or_comm, not-and_self}
use mathlib.Core.List.{List, ◌++◌, map}
use Prim.Native.Nat.{ℕ, zero, suc, ◌/◌, ◌≤◌, ◌<◌}
use native.Mathlib.Omega.{arith}
use lib.ListN.{get_or, length, take}
use lib.Seq.{get_or-take, length-take-le}
use Rattle.model.specs.Limits.{wide16}
use Rattle.model.proofs.Laws.Checks.{and_left, and_right, or_none}
use Rattle.shop.specs.Sets.{sorted_codes}
use Rattle.parse_keys.specs.Entries.{Valid, entry_code}
use Rattle.parse_filter.specs.Chains.{companion_of, has, entries_above, entries_in, reached, top_of, Falls, Chains, Walkable, Bounds}
use Rattle.parse_filter.proofs.ChainLaws.{down, reached_end, reached_step, entries_none, entries_split, top_to}
use Rattle.parse_filter.specs.Filter.{stay, filtered, unmet, Met, Sifted, companion_codes, negated_codes, Coded, Holds}
use Rattle.parse_filter.proofs.Frames.{entries_valid}
use Rattle.parse_filter.specs.Marks.{MarkedAs, Marks, Onward, Unmarks, Served, as_they_are, none_left, Parsed}
use Rattle.parse_filter.proofs.Members.{has_append, has_stay, place_has, same_set, map_same}
use Rattle.parse_filter.specs.declared.Marked.{Marked}
use Rattle.model.proofs.Laws.Normal.{both_ways_lem}
use Rattle.model.proofs.Laws.Bools.{or_cases, or_left, or_right}

-- ---- bounds

module _ (cs cells list : List ℕ) (size top m used : ℕ) (ch : Chains cs cells list size top m used) (t : ℕ) (l : t ≤ top) where
  abbrev pub walk_under : Walkable cs cells list size t
  walk_under = record {
    keys = m;
    used = used;
    chains = record { cell = λ c o k. ch.cell c o (omega arith); held = ch.held; entry = ch.entry; back = ch.back; others = ch.others; marks = ch.marks };
  }

  pub falls_under : Falls cells t
  falls_under = record { row = λ c o k. omega (arith, (ch.cell c o (omega arith)).row); lower = λ c o k. (ch.cell c o (omega arith)).lower }

  pub top_used : top_of cells t ≤ used
  top_used = by t l
    where
      by : (t : ℕ) → t ≤ top → top_of cells t ≤ used
      by zero k = omega arith
      by (suc t) k = rw (top_to cells used 0 top ch.cell (suc t) (omega arith)) (ch.cell (suc t) (omega arith) k).high

  -- every chain ends at 0
  pub reached_zero : reached cells 0 t ≡ 0
  reached_zero = down cells 0 top (λ c o k. (ch.cell c o k).lower) {P = λ c. reached cells 0 c ≡ 0}
      (λ c o. reached_end cs cells list 0 c o ∙ (omega arith))
      (λ c o k ih. reached_step cs cells list 0 c o (ch.cell c o k).lower ∙ ih)
      t l

-- ---- the marks that serve

served_none : (cs cells list : List ℕ) (s t : List Bool) (al : List ℕ) (old : Marked) → MarkedAs cs cells list s al old → Unmarks s (entries_in cs cells list old.first) t
    → MarkedAs cs cells list t al (record { first = 0; alive = 0 })
unfolding has
served_none cs cells list s t al old ms u = record {
  marks = λ e. u.marks e ∙ (rw (ms.marks e, entries_none cs cells list) (not-and_self (has e (entries_in cs cells list old.first))));
  some = λ e h. absurd (true≢false (sym h));
  all = λ e h g. absurd (true≢false (sym h ∙ rw (entries_none cs cells list)));
  few = omega arith;
}

module _ (cs cells list : List ℕ) (s : List Bool) (al : List ℕ) (old : Marked) (first : ℕ) (t : List Bool) (k : Marked) (ms : MarkedAs cs cells list s al old) (zero-reached : reached cells 0 first ≡ 0) where
  pub served_marks : Served cs cells list s old first t k → MarkedAs cs cells list t al k
  served_marks (as_they_are r e f) = rw (e, f) ms
  served_marks (none_left u f) = rw f (served_none cs cells list s t al old ms u)

  pub served_stands : Served cs cells list s old first t k → reached cells k.first first ≡ k.first
  served_stands (as_they_are r e f) = rw f r
  served_stands (none_left u f) = rw f zero-reached

-- ---- more marks

module _ (cs cells list : List ℕ) (s t : List Bool) (al bl : List ℕ) (k : Marked) (first r : ℕ) (ms : MarkedAs cs cells list s al k)
    (split : entries_in cs cells list first ≡ entries_in cs cells list k.first ++ entries_above cs cells list k.first first)
    (m : Marks s al k.alive (entries_above cs cells list k.first first) t bl r) (few : r ≤ top_of cells first) where
  abbrev was : ℕ → Bool
  was e = has e (entries_in cs cells list k.first)

  abbrev new : ℕ → Bool
  new e = has e (entries_above cs cells list k.first first)

  whole : (e : ℕ) → has e (entries_in cs cells list first) ≡ was e || new e
  whole e = ap (has e) split ∙ has_append e (entries_in cs cells list k.first) (entries_above cs cells list k.first first)

  looked : (e : ℕ) → has e (take r bl) ≡ (new e && not (was e)) || has e (take k.alive al)
  looked e = m.looked e ∙ ap (λ b. (new e && not b) || has e (take k.alive al)) (ms.marks e)

  more_some : (e : ℕ) → has e (take r bl) ≡ true → has e (entries_in cs cells list first) ≡ true
  more_some e h = whole e ∙ or_cases (new e && not (was e)) (has e (take k.alive al)) (sym (looked e) ∙ h)
      (λ a. or_right (was e) (new e) (and_left (new e) (not (was e)) a))
      (λ a. or_left (was e) (new e) (ms.some e a))

  more_all : (e : ℕ) → has e (entries_in cs cells list first) ≡ true → has (companion_of cs e) (entries_in cs cells list first) ≡ false → has e (take r bl) ≡ true
  more_all e h g = looked e ∙ by (was e) (new e) refl refl
    where
      by : (a b : Bool) → was e ≡ a → new e ≡ b → (b && not a) || has e (take k.alive al) ≡ true
      by true b p q = or_right (b && not true) (has e (take k.alive al)) (ms.all e p (or_none (was (companion_of cs e)) (new (companion_of cs e)) (sym (whole (companion_of cs e)) ∙ g)))
      by false true p q = refl
      by false false p q = absurd (true≢false (sym h ∙ whole e ∙ rw (p, q)))

  pub more_marks : MarkedAs cs cells list t bl (record { first = first; alive = r })
  more_marks = record {
    marks = λ e. m.marks e ∙ ap (λ b. new e || b) (ms.marks e) ∙ or_comm (new e) (was e) ∙ sym (whole e);
    some = more_some;
    all = more_all;
    few = few;
  }

-- ---- the filter

module _ (cs cells list : List ℕ) (s : List Bool) (al : List ℕ) (first a : ℕ) (ms : MarkedAs cs cells list s al (record { first = first; alive = a })) (bl : List ℕ) (r : ℕ) (f : Sifted cs s al a bl r) where
  abbrev gone : ℕ → Bool
  gone e = has (companion_of cs e) (entries_in cs cells list first)

  left : (e : ℕ) → has e (take r bl) ≡ not (gone e) && has e (take a al)
  unfolding unmet
  left e = ap (has e) f.is ∙ has_stay (λ x. not (get_or s (companion_of cs x) false)) e (take a al) ∙ ap (λ b. not b && has e (take a al)) (ms.marks (companion_of cs e))

  pub sifted_marks : MarkedAs cs cells list s bl (record { first = first; alive = r })
  sifted_marks = record {
    marks = ms.marks;
    some = λ e h. ms.some e (and_right (not (gone e)) (has e (take a al)) (sym (left e) ∙ h));
    all = λ e h g. left e ∙ (rw g (ms.all e h g));
    few = omega (arith, ms.few, f.most);
  }

  pub sifted_same : (e : ℕ) → has e (take r bl) ≡ has e (filtered (entries_in cs cells list first) (companion_of cs))
  unfolding filtered
  sifted_same e = left e ∙ by (gone e) refl ∙ sym (has_stay (λ x. not (gone x)) e (entries_in cs cells list first))
    where
      by : (b : Bool) → gone e ≡ b → not b && has e (take a al) ≡ not b && has e (entries_in cs cells list first)
      by true g = refl
      by false g = both_ways_lem (has e (take a al)) (has e (entries_in cs cells list first)) (ms.some e) (λ h. ms.all e h g)

  pub sifted_codes : (ks codes : List ℕ) (n : ℕ) → Holds (companion_codes ks cs (take r bl)) codes n → Holds (negated_codes ks cs (entries_in cs cells list first)) codes n
  unfolding companion_codes negated_codes
  sifted_codes ks codes n h =
      let f : ℕ → ℕ = λ e. entry_code ks (companion_of cs e) in
      let xs : List ℕ = filtered (entries_in cs cells list first) (companion_of cs) in
      rw (same_set (map f (take r bl)) (map f xs) (map_same f (take r bl) xs sifted_same)) at h

-- ---- what the callees ask for

module _ (ks cs cells list : List ℕ) (size room old first : ℕ) (b : Bounds ks cs cells list size room old first) (s : List Bool) (al : List ℕ) (n : ℕ) (ms : MarkedAs cs cells list s al (record { first = first; alive = n })) where
  pub alive_few : n ≤ b.used
  alive_few = omega (arith, ms.few, top_used cs cells list size b.top b.keys b.used b.chains first b.asked)

  alive_valid : n ≤ length al → (i : ℕ) → i < n → Valid b.keys (get_or al i 0)
  alive_valid l i h =
      let e : get_or (take n al) i 0 ≡ get_or al i 0 = get_or-take n al i 0 h in
      entries_valid cs cells list size b.top b.keys b.used b.chains first b.asked (get_or al i 0)
      (ms.some (get_or al i 0) (rw e at (place_has (take n al) i (rw (length-take-le n al l) h))))

  pub alive_met : length s ≡ size → length al ≡ room → Met cs al (length s) n
  alive_met p q =
      let l : n ≤ length al = omega (arith, alive_few, b.space) in
      record {
        held = l;
        entry = λ i h. omega (arith, (alive_valid l i h).high, b.chains.others);
        other = λ i h. omega (arith, (b.chains.back (get_or al i 0) (alive_valid l i h)).high, b.chains.marks);
      }

  pub alive_coded : length al ≡ room → Coded ks cs al n
  alive_coded q =
      let l : n ≤ length al = omega (arith, alive_few, b.space) in
      record {
        held = l;
        entry = λ i h. omega (arith, (alive_valid l i h).high, b.chains.others);
        key = λ i h. let v = b.chains.back (get_or al i 0) (alive_valid l i h) in omega (arith, v.high, b.subjects);
        small = λ i h. let v = b.chains.back (get_or al i 0) (alive_valid l i h) in b.small (companion_of cs (get_or al i 0) / 2) (omega (arith, v.low)) (omega (arith, v.high));
      }

-- ---- a block under no condition

pub parsed_none : (ks cs cells list : List ℕ) (old : Marked) (s : List Bool) (al codes : List ℕ) → MarkedAs cs cells list s al old → Parsed ks cs cells list old 0 s al codes (record { len = 0; marked = old })
unfolding negated_codes companion_codes filtered stay sorted_codes
parsed_none ks cs cells list old s al codes ms = record {
  holds = record { count = rw (entries_none cs cells list) (omega arith); is = λ l. rw (entries_none cs cells list) refl };
  marked = ms;
  most = omega arith;
}

-- ---- the steps, one after the other

module _ (ks cs cells list : List ℕ) (s₀ : List Bool) (al₀ : List ℕ) (old : Marked) (first : ℕ) (b : Bounds ks cs cells list (length s₀) (length al₀) old.first first) (ms : MarkedAs cs cells list s₀ al₀ old) where
  pub asks_marks : Walkable cs cells list (length s₀) old.first × Falls cells first
  asks_marks = (walk_under cs cells list (length s₀) b.top b.keys b.used b.chains old.first b.marked, falls_under cs cells list (length s₀) b.top b.keys b.used b.chains first b.asked)

  module _ (s₁ : List Bool) (k : Marked) (p : length s₁ ≡ length s₀) (sv : Served cs cells list s₀ old first s₁ k) where
    ends : reached cells 0 first ≡ 0
    ends = reached_zero cs cells list (length s₀) b.top b.keys b.used b.chains first b.asked

    kept : MarkedAs cs cells list s₁ al₀ k
    kept = served_marks cs cells list s₀ al₀ old first s₁ k ms ends sv

    stands : reached cells k.first first ≡ k.first
    stands = served_stands cs cells list s₀ al₀ old first s₁ k ms ends sv

    pub asks_chain : Onward cs cells list (length s₁) (length al₀) first k
    asks_chain = rw p (record {
      walk = walk_under cs cells list (length s₀) b.top b.keys b.used b.chains first b.asked;
      space = b.space;
      stands = stands;
      few = kept.few;
    })

    module _ (s₂ : List Bool) (al₂ : List ℕ) (a : ℕ) (q : length s₂ ≡ length s₁) (r : length al₂ ≡ length al₀)
        (m : Marks s₁ al₀ k.alive (entries_above cs cells list k.first first) s₂ al₂ a × (a ≤ top_of cells first)) where
      all : MarkedAs cs cells list s₂ al₂ (record { first = first; alive = a })
      all = more_marks cs cells list s₁ s₂ al₀ al₂ k first a kept
          (entries_split cs cells list k.first b.top (λ c o l. (b.chains.cell c o l).lower) first b.asked ∙ ap (λ t. entries_in cs cells list t ++ entries_above cs cells list k.first first) stands)
          m.0 m.1

      pub asks_filter : Met cs al₂ (length s₂) a
      asks_filter = alive_met ks cs cells list (length s₀) (length al₀) old.first first b s₂ al₂ a all (q ∙ p) r

      module _ (al₃ : List ℕ) (n : ℕ) (t : length al₃ ≡ length al₂) (f : Sifted cs s₂ al₂ a al₃ n) where
        rest : MarkedAs cs cells list s₂ al₃ (record { first = first; alive = n })
        rest = sifted_marks cs cells list s₂ al₂ first a all al₃ n f

        pub asks_codes : Coded ks cs al₃ n
        asks_codes = alive_coded ks cs cells list (length s₀) (length al₀) old.first first b s₂ al₃ n rest (t ∙ r)

        pub first_fits : first < wide16
        first_fits = omega (arith, b.asked, b.most)

        pub alive_fits : n < wide16
        alive_fits = omega (arith, b.few, alive_few ks cs cells list (length s₀) (length al₀) old.first first b s₂ al₃ n rest)

        pub parsed : (codes : List ℕ) (len : ℕ) → Holds (companion_codes ks cs (take n al₃)) codes len
            → Parsed ks cs cells list old first s₂ al₃ codes (record { len = len; marked = record { first = first; alive = n } })
        parsed codes len h = record { holds = sifted_codes cs cells list s₂ al₂ first a all al₃ n f ks codes len h; marked = rest; most = omega arith }
