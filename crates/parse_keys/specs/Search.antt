-- The keys as a search tree by the bits of a code, lowest first: link 2 * i + bit leads on from key i, and key 0 is the root, which holds nothing. Assumes nothing.
use Rattle.std.specs.Prelude.{Result, Ok, Err, ◌≡◌, refl, List, ℕ, ◌+◌, ◌*◌, ◌/◌, ◌%◌, ◌≤◌, ◌<◌, get_or, set, length}
use Rattle.std.proofs.Common.{sym, ap, ◌∙◌, arith, length-set, get_or-set_same, get_or-set_other}
use Rattle.std.proofs.Math.Decide.{ℕ_discrete}
use Rattle.model.specs.Limits.{node_limit}
use Rattle.parse_keys.specs.Entries.{Subject, Keys}

abbrev pub link : ℕ → ℕ → ℕ
link at y = 2 * at + y % 2

-- from key at, by the bits y, the links lead to key j
pub data Reaches (kd : List ℕ) (j : ℕ) : ℕ → ℕ → Type 0 where
  last : {y at : ℕ} → get_or kd (link at y) 0 ≡ j → Reaches kd j y at
  on : {y at : ℕ} (c : ℕ) → 0 < c → get_or kd (link at y) 0 ≡ c → Reaches kd j (y / 2) c → Reaches kd j y at

-- links lead up and to keys only; each key is reached by its own bits
pub record Table (ks kd : List ℕ) (m : ℕ) : Type 0 where
  pub keys : Keys ks m
  pub up : (p : ℕ) → 0 < get_or kd p 0 → p < 2 * get_or kd p 0
  pub low : (p : ℕ) → get_or kd p 0 ≤ m
  pub reached : (i : ℕ) → 0 < i → i ≤ m → Reaches kd i (get_or ks i 0) 0

-- one key more than m has its place, and so have the links of m keys
pub record Room (ks kd : List ℕ) (m : ℕ) : Type 0 where
  pub few : m + 1 < node_limit
  pub keys : m + 1 < length ks
  pub kids : 2 * m + 2 ≤ length kd

-- links that lead somewhere stay
abbrev pub Keeps : List ℕ → List ℕ → Type 0
Keeps kd kd' = (p : ℕ) → 0 < get_or kd p 0 → get_or kd' p 0 ≡ get_or kd p 0

-- code c is no key, and the free link p is where it belongs
pub record Free (ks kd : List ℕ) (m c p : ℕ) : Type 0 where
  pub most : p < 2 * m + 2
  pub empty : get_or kd p 0 ≡ 0
  pub absent : (j : ℕ) → 0 < j → j ≤ m → get_or ks j 0 ≡ c → ⊥
  pub way : (kd' : List ℕ) (j : ℕ) → Keeps kd kd' → get_or kd' p 0 ≡ j → Reaches kd' j c 0

pub record Is (ks : List ℕ) (m c i : ℕ) : Type 0 where
  pub some : 0 < i
  pub most : i ≤ m
  pub code : get_or ks i 0 ≡ c

-- a search ends at the key of the code, or at its free link
abbrev pub Search : List ℕ → List ℕ → ℕ → ℕ → Result ℕ ℕ → Type 0
Search ks kd m c (Ok i) = Is ks m c i
Search ks kd m c (Err p) = Free ks kd m c p

-- the search at key at, with the bits y of c left
pub record Seeks (ks kd : List ℕ) (m c at y : ℕ) : Type 0 where
  pub most : at ≤ m
  pub ahead : (j : ℕ) → 0 < j → j ≤ m → get_or ks j 0 ≡ c → Reaches kd j y at
  pub way : (kd' : List ℕ) (j : ℕ) → Keeps kd kd' → Reaches kd' j y at → Reaches kd' j c 0

module _ (ks kd : List ℕ) (m c : ℕ) (t : Table ks kd m) where
  pub seek_start : Seeks ks kd m c 0 c
  seek_start = record { most = omega arith; ahead = λ j p q e. rw e at (t.reached j p q); way = λ kd' j k r. r }

  module _ (at y : ℕ) (s : Seeks ks kd m c at y) (d : ℕ) (e : d ≡ get_or kd (link at y) 0) where
    none_left : (j : ℕ) → 0 < j → d ≡ 0 → Reaches kd j y at → ⊥
    none_left j p z (last f) = omega arith
    none_left j p z (on b q f r) = omega arith

    pub seek_free : d ≡ 0 → Free ks kd m c (link at y)
    seek_free z = record {
      most = omega (arith, s.most);
      empty = sym e ∙ z;
      absent = λ j p q f. none_left j p z (s.ahead j p q f);
      way = λ kd' j k f. s.way kd' j k (last f);
    }

    onward : (j : ℕ) → (get_or ks d 0 ≡ c → ⊥) → get_or ks j 0 ≡ c → Reaches kd j y at → Reaches kd j (y / 2) d
    onward j n f (last g) = absurd (n (ap (λ i. get_or ks i 0) (e ∙ g) ∙ f))
    onward j n f (on b q g r) = let w : b ≡ d = sym g ∙ sym e in rw w at r

    pub seek_on : 0 < d → (get_or ks d 0 ≡ c → ⊥) → Seeks ks kd m c d (y / 2)
    seek_on p n = record {
      most = rw e (t.low (link at y));
      ahead = λ j o q f. onward j n f (s.ahead j o q f);
      way = λ kd' j k r. s.way kd' j k (on d p (k (link at y) (rw (← e) p) ∙ sym e) r);
    }

    pub seek_up : 0 < d → at < d
    seek_up p = let u : link at y < 2 * d = rw e (t.up (link at y) (rw (← e) p)) in omega arith

    pub seek_low : d ≤ m
    seek_low = rw e (t.low (link at y))

-- ---- links that stay

kept : (kd : List ℕ) (p v : ℕ) → get_or kd p 0 ≡ 0 → Keeps kd (set kd p v)
kept kd p v z q h = get_or-set_other kd p q v 0 (λ e. let f : get_or kd q 0 ≡ get_or kd p 0 = ap (λ i. get_or kd i 0) e in omega arith)

pub keep_reach : (kd kd' : List ℕ) (j y at : ℕ) → 0 < j → Keeps kd kd' → Reaches kd j y at → Reaches kd' j y at
keep_reach kd kd' j y at p k (last e) = last (k (link at y) (rw e p) ∙ e)
keep_reach kd kd' j y at p k (on c q e r) = on c q (k (link at y) (rw e q) ∙ e) (keep_reach kd kd' j (y / 2) c p k r)

-- ---- one key more

-- of n keys, key i has the code c; the m keys that there were stay
pub record Placed (ks : List ℕ) (m c : ℕ) (ks' kd' : List ℕ) (i n : ℕ) : Type 0 where
  pub table : Table ks' kd' n
  pub is : Is ks' n c i
  pub stay : (j : ℕ) → j ≤ m → get_or ks' j 0 ≡ get_or ks j 0

module _ (ks kd : List ℕ) (m c p : ℕ) (t : Table ks kd m) (f : Free ks kd m c p) (s : Subject c) (x : Room ks kd m) where
  abbrev ks' : List ℕ
  ks' = set ks (m + 1) c

  abbrev kd' : List ℕ
  kd' = set kd p (m + 1)

  new : get_or ks' (m + 1) 0 ≡ c
  new = get_or-set_same ks (m + 1) c 0 x.keys

  old : (i : ℕ) → i ≤ m → get_or ks' i 0 ≡ get_or ks i 0
  old i h = get_or-set_other ks (m + 1) i c 0 (λ e. omega arith)

  link_new : get_or kd' p 0 ≡ m + 1
  link_new = get_or-set_same kd p (m + 1) 0 (omega (arith, f.most, x.kids))

  link_old : (q : ℕ) → (q ≡ p → ⊥) → get_or kd' q 0 ≡ get_or kd q 0
  link_old q n = get_or-set_other kd p q (m + 1) 0 n

  each : (Q : ℕ → Type 0) → ((i : ℕ) → i ≤ m → Q i) → Q (m + 1) → (i : ℕ) → i ≤ m + 1 → Q i
  each Q a b i h = by (ℕ_discrete i (m + 1))
    where
      by : Dec (i ≡ m + 1) → Q i
      by (yes e) = rw e b
      by (no d) = a i (omega arith)

  subjects : (i : ℕ) → i ≤ m + 1 → 0 < i → Subject (get_or ks' i 0)
  subjects = each (λ i. 0 < i → Subject (get_or ks' i 0)) (λ i h o. rw (old i h) (t.keys.subject i o h)) (λ o. rw new s)

  differ : (i : ℕ) → i ≤ m → 0 < i → get_or ks' i 0 ≡ get_or ks' (m + 1) 0 → ⊥
  differ i h o e = f.absent i o h (sym (old i h) ∙ e ∙ new)

  onces : (i : ℕ) → i ≤ m + 1 → (j : ℕ) → j ≤ m + 1 → 0 < i → 0 < j → get_or ks' i 0 ≡ get_or ks' j 0 → i ≡ j
  onces =
      each (λ i. (j : ℕ) → j ≤ m + 1 → 0 < i → 0 < j → get_or ks' i 0 ≡ get_or ks' j 0 → i ≡ j)
      (λ i h. each (λ j. 0 < i → 0 < j → get_or ks' i 0 ≡ get_or ks' j 0 → i ≡ j)
      (λ j g o q e. t.keys.once i j o h q g (sym (old i h) ∙ e ∙ old j g))
      (λ o q e. absurd (differ i h o e)))
      (each (λ j. 0 < m + 1 → 0 < j → get_or ks' (m + 1) 0 ≡ get_or ks' j 0 → m + 1 ≡ j)
      (λ j g o q e. absurd (differ j g q (sym e)))
      (λ o q e. refl))

  links : (Q : ℕ → ℕ → Type 0) → ((q : ℕ) → Q q (get_or kd q 0)) → Q p (m + 1) → (q : ℕ) → Q q (get_or kd' q 0)
  links Q a b q = by (ℕ_discrete q p)
    where
      by : Dec (q ≡ p) → Q q (get_or kd' q 0)
      by (yes e) = rw (e, link_new) b
      by (no d) = rw (link_old q d) (a q)

  reach : (i : ℕ) → i ≤ m + 1 → 0 < i → Reaches kd' i (get_or ks' i 0) 0
  reach = each (λ i. 0 < i → Reaches kd' i (get_or ks' i 0) 0)
      (λ i h o. rw (old i h) (keep_reach kd kd' i (get_or ks i 0) 0 o (kept kd p (m + 1) f.empty) (t.reached i o h)))
      (λ o. rw new (f.way kd' (m + 1) (kept kd p (m + 1) f.empty) link_new))

  pub placed_new : Placed ks m c (set ks (m + 1) c) (set kd p (m + 1)) (m + 1) (m + 1)
  placed_new = record {
    table = record {
      keys = record { long = omega (arith, x.keys, length-set ks (m + 1) c); subject = λ i o h. subjects i h o; once = λ i j o h q g e. onces i h j g o q e };
      up = links (λ q v. 0 < v → q < 2 * v) t.up (λ o. omega (arith, f.most));
      low = links (λ q v. v ≤ m + 1) (λ q. omega (arith, t.low q)) (omega arith);
      reached = λ i o h. reach i h o;
    };
    is = record { some = omega arith; most = omega arith; code = new };
    stay = old;
  }
