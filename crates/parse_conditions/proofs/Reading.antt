-- Reading a condition: what each step adds to the list, or that there was no room for it. Assumes nothing.
use Rattle.std.proofs.Common as Code
use Rattle.std.proofs.Common.{Some, None}
use mathlib.Core.Path.{◌≡◌, refl, ap, ◌∙◌}
use mathlib.Core.Bool.{Bool, true, false, not}
use mathlib.Core.Option.{Option, none, some}
use mathlib.Core.List.{List, [], ◌++◌}
use Prim.Native.Nat.{ℕ, suc, ◌+◌, ◌*◌, ◌≤◌, ◌<◌}
use native.Mathlib.Omega.{arith}
use lib.IntN.{ℤ}
use lib.ListN.{get_or, set, length, length-set, length-append}
use lib.Seq.{get_or-set_same, get_or-set_other}
use Rattle.model.specs.Limits.{wide16}
use Rattle.model.specs.Requirement.{Requirement}
use Rattle.model.specs.Sheet.{Sheet}
use Rattle.model.specs.Image.{kind_of}
use Rattle.model.specs.Memory.{nodes_in, code_at}
use Rattle.model.specs.Parse.{map_req, signed, parse_requirement}
use Rattle.model.specs.declared.Kind.{Kind}
use Rattle.expr.specs.Tree.{tree_below}
use Rattle.parse_keys.specs.Entries.{Leaf}
use Rattle.parse_keys.specs.Tables.{Grown, no_room, OfNode, ReadEntry}
use Rattle.parse_keys.specs.Growth.{grown_same, grown_on}
use Rattle.parse_keys.specs.declared.Known.{Known}
use Rattle.parse_keys.specs.declared.Word.{Word}
use Rattle.parse_conditions.specs.Gathered.{joins, toggles, single, alone, gathered}
use Rattle.parse_conditions.specs.Listing.{Listing, keys_of, used_of, Place, Finds, Added, NoRoom, ReadCondition, Under}
use Rattle.parse_conditions.specs.ListingLaws.{listing_length, listing_append, listing_stays}
use Rattle.parse_conditions.proofs.Nodes.{gathered_out, gathered_join, gathered_not, gathered_leaf}

abbrev all : Bool → Finds
all neg h e = gathered h e neg

-- what is found in one node is what is found in another
carried : (ws : List ℕ) (vs : List ℤ) (k : Known) (b i b' i' : ℕ) (g g' : Finds) (r : ℕ) (ks ls ks' kd' cs' ls' : List ℕ) (s : Code.Option ℕ)
    → ((h : Sheet) (n : ℕ) → g' h (tree_below (nodes_in ws vs n) b' i') ≡ g h (tree_below (nodes_in ws vs n) b i))
    → ReadCondition ws vs k b i g r ks ls ks' kd' cs' ls' s → ReadCondition ws vs k b' i' g' r ks ls ks' kd' cs' ls' s
carried ws vs k b i b' i' g g' r ks ls ks' kd' cs' ls' (Some s) f a = record { place = a.place; grown = a.grown; long = a.long; up = a.up; few = a.few; same = a.same; entries = λ h n q. rw (f h n) (a.entries h n q) }
carried ws vs k b i b' i' g g' r ks ls ks' kd' cs' ls' None f x = λ h n q. rw (f h n) (x h n q)

-- under the Nots of a node
module _ (ws : List ℕ) (vs : List ℤ) (b i : ℕ) (neg : Bool) where
  module _ (b' i' : ℕ) (neg' : Bool) (u : Under ws vs b i neg b' i' neg') where
    pub under_not : i' < b' → (d : Kind) → d ≡ kind_of (code_at (nodes_in ws vs 0) i') → toggles d ≡ true → (l : ℕ) → l ≡ get_or ws (3 * i' + 1) 0 → Under ws vs b i neg i' l (not neg')
    under_not lt d e j l el = record { low = omega (arith, u.low); found = λ h n. u.found h n ∙ rw el (gathered_not h neg' (nodes_in ws vs n) b' i' lt d e j) }

    pub through : (k : Known) (r : ℕ) (ks ls ks' kd' cs' ls' : List ℕ) (s : Code.Option ℕ)
        → ReadCondition ws vs k b' i' (all neg') r ks ls ks' kd' cs' ls' s → ReadCondition ws vs k b i (λ h e. gathered h e neg) r ks ls ks' kd' cs' ls' s
    through k r ks ls ks' kd' cs' ls' s x = carried ws vs k b' i' b i (all neg') (all neg) r ks ls ks' kd' cs' ls' s (λ h n. u.found h n) x

nothing_added : (ws : List ℕ) (vs : List ℤ) (k : Known) (b i : ℕ) (g : Finds) (r : ℕ) (ks ls ks' kd' cs' : List ℕ) → Place ks' kd' cs' ls r → Grown ks (keys_of r) ks' (keys_of r)
    → OfNode ws vs k b i (λ h e. g h e ≡ []) → Added ws vs k b i g r ks ls ks' kd' cs' ls r
nothing_added ws vs k b i g r ks ls ks' kd' cs' p w f = record {
  place = p;
  grown = w;
  long = refl;
  up = omega arith;
  few = omega arith;
  same = λ j l. refl;
  entries = λ h n q. rw (f h n q) refl;
}

module _ (ws : List ℕ) (vs : List ℤ) (k : Known) (b i : ℕ) (neg : Bool) (r : ℕ) (ks ls : List ℕ) where
  pub read_out : (kd cs : List ℕ) → Place ks kd cs ls r → b ≤ i → Added ws vs k b i (λ h e. gathered h e neg) r ks ls ks kd cs ls r
  read_out kd cs p l = nothing_added ws vs k b i (all neg) r ks ls ks kd cs p (grown_same ks (keys_of r)) (λ h n q. gathered_out h neg (nodes_in ws vs n) b i l)

  module _ (lt : i < b) (d : Kind) (e : d ≡ kind_of (code_at (nodes_in ws vs 0) i)) where
    module _ (j : joins d ≡ true) (l q : ℕ) (el : l ≡ get_or ws (3 * i + 1) 0) (eq : q ≡ get_or ws (3 * i + 2) 0) (ks1 kd1 cs1 ls1 : List ℕ) where
      found : (h : Sheet) (n : ℕ) → gathered h (tree_below (nodes_in ws vs n) b i) neg ≡ gathered h (tree_below (nodes_in ws vs n) i l) neg ++ gathered h (tree_below (nodes_in ws vs n) i q) neg
      found h n = rw (el, eq) (gathered_join h neg (nodes_in ws vs n) b i lt d e j)

      counted : (h : Sheet) (n : ℕ) → length (gathered h (tree_below (nodes_in ws vs n) b i) neg) ≡ length (gathered h (tree_below (nodes_in ws vs n) i l) neg) + length (gathered h (tree_below (nodes_in ws vs n) i q) neg)
      counted h n = ap length (found h n) ∙ length-append (gathered h (tree_below (nodes_in ws vs n) i l) neg) (gathered h (tree_below (nodes_in ws vs n) i q) neg)

      pub join_full : NoRoom ws vs k i l (all neg) r ks ls → NoRoom ws vs k b i (λ h e. gathered h e neg) r ks ls
      join_full x = λ h n y u v. x h n y (omega (arith, counted h n)) (omega (arith, counted h n))

      module _ (mid : ℕ) (first : Added ws vs k i l (all neg) r ks ls ks1 kd1 cs1 ls1 mid) (ks2 kd2 cs2 ls2 : List ℕ) where
        pub read_join : (s : Code.Option ℕ) → ReadCondition ws vs k i q (all neg) mid ks1 ls1 ks2 kd2 cs2 ls2 s → ReadCondition ws vs k b i (λ h e. gathered h e neg) r ks ls ks2 kd2 cs2 ls2 s
        read_join (Some s) a = record {
          place = a.place;
          grown = grown_on ks (keys_of r) ks1 (keys_of mid) ks2 (keys_of s) first.grown a.grown;
          long = a.long ∙ first.long;
          up = omega (arith, first.up, a.up);
          few = omega (arith, first.few, a.few);
          same = λ p u. a.same p (omega (arith, first.up)) ∙ first.same p u;
          entries = λ h n t.
              rw (found h n)
              (listing_append ks2 (keys_of s) ls2 (used_of r) (gathered h (tree_below (nodes_in ws vs n) i l) neg) (used_of mid) (gathered h (tree_below (nodes_in ws vs n) i q) neg) (used_of s)
              (listing_stays ks1 (keys_of mid) ks2 (keys_of s) ls1 ls2 (used_of mid) a.grown a.same (used_of r) (gathered h (tree_below (nodes_in ws vs n) i l) neg) (first.entries h n t))
              (a.entries h n t));
        }
        read_join None y = λ h n t u v.
            let c = counted h n in
            let m = listing_length ks1 (keys_of mid) ls1 (used_of r) (gathered h (tree_below (nodes_in ws vs n) i l) neg) (used_of mid) (first.entries h n t) in
            y h n t (omega (arith, first.long)) (omega (arith, first.few, first.grown.long))

    pub read_single : joins d ≡ false → toggles d ≡ false → (ks' kd' cs' ls' : List ℕ) (s : Code.Option ℕ)
        → ReadCondition ws vs k b i (λ h e. alone h e neg) r ks ls ks' kd' cs' ls' s → ReadCondition ws vs k b i (λ h e. gathered h e neg) r ks ls ks' kd' cs' ls' s
    read_single j t ks' kd' cs' ls' s x =
        carried ws vs k b i b i (λ h e. alone h e neg) (all neg) r ks ls ks' kd' cs' ls' s (λ h n. gathered_leaf h neg (nodes_in ws vs n) b i lt d e j t) x

-- ---- a leaf

none_found : (ks : List ℕ) (m : ℕ) (o : Option Requirement) → Leaf ks m 0 o → single o ≡ []
none_found ks m none l = refl
none_found ks m (some q) l = absurd (omega (arith, l.valid.low))

one_found : (ks : List ℕ) (m x : ℕ) (o : Option Requirement) → Leaf ks m x o → (x ≡ 0 → ⊥) → length (single o) ≡ 1
one_found ks m x none l n = absurd (n l)
one_found ks m x (some q) l n = refl

one_wanted : (f : Requirement → Requirement) (o : Option Requirement) → (o ≡ none → ⊥) → length (single (map_req f o)) ≡ 1
one_wanted f none n = absurd (n refl)
one_wanted f (some q) n = refl

one_listed : (ks : List ℕ) (m : ℕ) (ls : List ℕ) (at x : ℕ) (o : Option Requirement) → at < length ls → Leaf ks m x o → (x ≡ 0 → ⊥) → Listing ks m (set ls at x) at (single o) (suc at)
one_listed ks m ls at x none b l n = absurd (n l)
one_listed ks m ls at x (some q) b l n = (rw (get_or-set_same ls at x 0 b) l, refl)

module _ (ws : List ℕ) (vs : List ℤ) (k : Known) (b i : ℕ) (neg : Bool) (r : ℕ) (ks kd cs ls ks' kd' cs' : List ℕ) (w : Word) (p : Place ks kd cs ls r)
    (x : ReadEntry ws vs k b i neg (keys_of r) ks ks' kd' cs' w) where
  abbrev asked : Sheet → ℕ → Option Requirement
  asked h n = map_req (signed neg) (parse_requirement h (tree_below (nodes_in ws vs n) b i))

  pub leaf_none : w.word ≡ 0 → Added ws vs k b i (λ h e. alone h e neg) r ks ls ks' kd' cs' ls r
  leaf_none z =
      let c : w.count ≡ keys_of r = x.still z in
      nothing_added ws vs k b i (λ h e. alone h e neg) r ks ls ks' kd' cs'
      (record { tables = rw c at x.tables; used = p.used; small = p.small })
      (rw c at x.grown)
      (λ h n q. none_found ks' w.count (asked h n) (rw z at (x.leaf (λ e. omega arith) h n q)))

  pub leaf_keys : w.word ≡ no_room → NoRoom ws vs k b i (λ h e. alone h e neg) r ks ls
  leaf_keys z = λ h n q u v. omega (arith, x.full z, one_wanted (signed neg) (parse_requirement h (tree_below (nodes_in ws vs n) b i)) (x.wants z h n q))

  module _ (nz : w.word ≡ 0 → ⊥) (nr : w.word ≡ no_room → ⊥) (at : ℕ) (ea : at ≡ used_of r) where
    pub leaf_list : length ls ≤ at → NoRoom ws vs k b i (λ h e. alone h e neg) r ks ls
    leaf_list l = λ h n q u v. omega (arith, one_found ks' w.count w.word (asked h n) (x.leaf nr h n q) nz)

    pub leaf_one : (s : ℕ) → at < length ls → s ≡ w.count * wide16 + at + 1 → Added ws vs k b i (λ h e. alone h e neg) r ks ls ks' kd' cs' (set ls at w.word) s
    leaf_one s l es =
        let m = p.small in
        let ek : keys_of s ≡ w.count = omega arith in
        let eu : used_of s ≡ suc at = omega arith in
        record {
          place = record { tables = rw ek x.tables; used = rw (length-set ls at w.word) (omega arith); small = rw (length-set ls at w.word) m };
          grown = rw ek x.grown;
          long = length-set ls at w.word;
          up = omega arith;
          few = omega (arith, x.few);
          same = λ j u. get_or-set_other ls at j w.word 0 (λ f. omega arith);
          entries = λ h n q. rw (ek, eu, ← ea) (one_listed ks' w.count ls at w.word (asked h n) l (x.leaf nr h n q) nz);
        }
