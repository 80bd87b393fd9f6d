-- Writes for the lanes of a list, one after another: into variables one behind another, and into arrays by lane. Assumes nothing.
use Rattle.std.specs.Prelude.{◌≡◌, refl, Bool, true, false, cond, List, ℕ, zero, suc, ◌+◌, ◌-◌, ◌*◌, ◌≤◌, ◌<◌, ltb, get_or, set, length, take, drop, ℤ, pos, negsuc}
use Rattle.std.proofs.Common.{sym, ap, ◌∙◌, arith, length-set, length-take, get_or-set_same, get_or-set_other, drop-set-lt, lt-ltb, le-ltb}
use Rattle.std.proofs.Math.Decide.{dec_le}
use Rattle.std.proofs.Math.Seq.{set_out, take-set-lt}
use Rattle.std.proofs.lemmas.List.{take-set-le, drop-set-add}
use Rattle.model.specs.Limits.{variable_count, most_saves}
use Rattle.lanes_model.specs.Flat.{part}
use Rattle.lanes_block.specs.declared.Way.{Way}
use Rattle.lanes_block.specs.declared.Exit.{Exit}
use Rattle.lanes_block.specs.Ways.{Rising, Absent, KeptParts, stored_part, stored_in, StoredAll, chosen, Written, Settled}

-- ---- the variables of one lane

part_set : (l k : ℕ) (vs : List ℤ) (x : ℤ) → k < variable_count → part variable_count l (set vs (l * variable_count + k) x) ≡ set (part variable_count l vs) k x
part_set l k vs x h = ap (take variable_count) (drop-set-add (l * variable_count) vs k x) ∙ take-set-lt variable_count (drop (l * variable_count) vs) k x h

part_set_other : (l i k : ℕ) (vs : List ℤ) (x : ℤ) → k < variable_count → (i ≡ l → ⊥) → part variable_count i (set vs (l * variable_count + k) x) ≡ part variable_count i vs
part_set_other l i k vs x h n = by (dec_le l i)
  where
    by : Dec (l ≤ i) → part variable_count i (set vs (l * variable_count + k) x) ≡ part variable_count i vs
    by (yes p) = ap (take variable_count) (drop-set-lt (i * variable_count) vs (l * variable_count + k) x (omega arith))
    by (no p) =
        let d : ℕ = l * variable_count + k - i * variable_count in
        let e : l * variable_count + k ≡ i * variable_count + d = omega arith in
        ap (λ a. take variable_count (drop (i * variable_count) (set vs a x))) e
        ∙ ap (take variable_count) (drop-set-add (i * variable_count) vs d x)
        ∙ take-set-le variable_count (drop (i * variable_count) vs) d x (omega arith)

part_short : (l k : ℕ) (vs : List ℤ) (x : ℤ) → variable_count ≤ k → part variable_count l vs ≡ set (part variable_count l vs) k x
part_short l k vs x h = sym (set_out (part variable_count l vs) k x (omega (arith, length-take variable_count (drop (l * variable_count) vs))))

stored_here : (r : ℕ) (vs : List ℤ) (l : ℕ) (k x : ℤ) → part variable_count l (stored_in r vs l k x) ≡ stored_part r (part variable_count l vs) k x
stored_here (suc r) vs l k x = refl
stored_here zero vs l (negsuc k) x = refl
stored_here zero vs l (pos k) x = by (dec_le (suc k) variable_count)
  where
    by : Dec (suc k ≤ variable_count) → part variable_count l (stored_in 0 vs l (pos k) x) ≡ set (part variable_count l vs) k x
    by (yes p) = rw (lt-ltb k variable_count p) (part_set l k vs x p)
    by (no p) = rw (le-ltb k variable_count (omega arith)) (part_short l k vs x (omega arith))

stored_other : (r : ℕ) (vs : List ℤ) (l i : ℕ) (k x : ℤ) → (i ≡ l → ⊥) → part variable_count i (stored_in r vs l k x) ≡ part variable_count i vs
stored_other (suc r) vs l i k x n = refl
stored_other zero vs l i (negsuc k) x n = refl
stored_other zero vs l i (pos k) x n = by (dec_le (suc k) variable_count)
  where
    by : Dec (suc k ≤ variable_count) → part variable_count i (stored_in 0 vs l (pos k) x) ≡ part variable_count i vs
    by (yes p) = rw (lt-ltb k variable_count p) (part_set_other l i k vs x p n)
    by (no p) = rw (le-ltb k variable_count (omega arith)) refl

pub stored_length : (r : ℕ) (vs : List ℤ) (l : ℕ) (k x : ℤ) → length (stored_in r vs l k x) ≡ length vs
stored_length (suc r) vs l k x = refl
stored_length zero vs l (negsuc k) x = refl
stored_length zero vs l (pos k) x = by (ltb k variable_count)
  where
    by : (b : Bool) → length (cond b (set vs (l * variable_count + k) x) vs) ≡ length vs
    by true = length-set vs (l * variable_count + k) x
    by false = refl

-- ---- the variables of all

pub parts_same : (ls : List ℕ) (s : ℕ) (vs : List ℤ) → KeptParts ls s vs vs
parts_same ls s vs = record { long = refl; others = λ l a. refl }

pub parts_on : {ls : List ℕ} {s : ℕ} {vs vs' vs'' : List ℤ} → KeptParts ls s vs vs' → KeptParts ls s vs' vs'' → KeptParts ls s vs vs''
parts_on p q = record { long = q.long ∙ p.long; others = λ l a. q.others l a ∙ p.others l a }

-- none of the lanes before place j is lane j
pub before_absent : {ls : List ℕ} {s : ℕ} → Rising ls s → (j : ℕ) → j < s → Absent ls j (get_or ls j 0)
before_absent r j h i l e = let q = r.rises i j l h in omega arith

module _ (ls : List ℕ) (ks xs : ℕ → ℤ) (rs : List ℕ) (vs : List ℤ) where
  pub stored_none : StoredAll ls ks xs rs vs 0 vs
  stored_none = record { kept = parts_same ls 0 vs; each = λ j h. absurd (omega arith) }

  pub stored_more : (s j : ℕ) (vs' vs'' : List ℤ) → Rising ls s → j < s → StoredAll ls ks xs rs vs j vs'
      → vs'' ≡ stored_in (get_or rs j 0) vs' (get_or ls j 0) (ks j) (xs j) → StoredAll ls ks xs rs vs (j + 1) vs''
  stored_more s j vs' vs'' r h p e = rw e (record {
    kept = record {
      long = stored_length (get_or rs j 0) vs' (get_or ls j 0) k x ∙ p.kept.long;
      others = λ l a. stored_other (get_or rs j 0) vs' (get_or ls j 0) l k x (λ q. a j (omega arith) (sym q)) ∙ p.kept.others l (λ i g. a i (omega arith));
    };
    each = λ i g. by i g (dec_le j i);
  })
    where
      k : ℤ
      k = ks j

      x : ℤ
      x = xs j

      by : (i : ℕ) → i < j + 1 → Dec (j ≤ i) → part variable_count (get_or ls i 0) (stored_in (get_or rs j 0) vs' (get_or ls j 0) k x) ≡ stored_part (get_or rs i 0) (part variable_count (get_or ls i 0) vs) (ks i) (xs i)
      by i g (yes q) = let w : i ≡ j = omega arith in rw w (stored_here (get_or rs j 0) vs' (get_or ls j 0) k x ∙ ap (λ v. stored_part (get_or rs j 0) v k x) (p.kept.others (get_or ls j 0) (before_absent r j h)))
      by i g (no q) = stored_other (get_or rs j 0) vs' (get_or ls j 0) (get_or ls i 0) k x (before_absent r j h i (omega arith)) ∙ p.each i (omega arith)

  pub stored_all : (s j : ℕ) (vs' : List ℤ) → StoredAll ls ks xs rs vs j vs' → j ≤ s → s ≤ j → StoredAll ls ks xs rs vs s vs'
  stored_all s j vs' p a b = let w : s ≡ j = omega arith in rw w p

-- by other names of places and values
pub stored_as : {ls : List ℕ} {ks ks' xs xs' : ℕ → ℤ} {rs : List ℕ} {vs : List ℤ} {s : ℕ} {vs' : List ℤ} → StoredAll ls ks xs rs vs s vs' → ((j : ℕ) → ks j ≡ ks' j) → ((j : ℕ) → xs j ≡ xs' j) → StoredAll ls ks' xs' rs vs s vs'
stored_as p f g = record { kept = p.kept; each = λ j h. rw (← f j, ← g j) (p.each j h) }

-- ---- arrays by lane

module _ (ls : List ℕ) (f : ℕ → ℕ) (xs : List ℕ) where
  pub written_none : Written ls f 0 xs xs
  written_none = record { kept = record { long = refl; others = λ l a. refl }; each = λ j h. absurd (omega arith) }

  pub written_more : (s j : ℕ) (xs' : List ℕ) (x : ℕ) → Rising ls s → length xs ≡ most_saves → j < s → Written ls f j xs xs' → x ≡ f j → Written ls f (j + 1) xs (set xs' (get_or ls j 0) x)
  written_more s j xs' x r z h p e = record {
    kept = record {
      long = length-set xs' (get_or ls j 0) x ∙ p.kept.long;
      others = λ l a. get_or-set_other xs' (get_or ls j 0) l x 0 (λ q. a j (omega arith) (sym q)) ∙ p.kept.others l (λ i g. a i (omega arith));
    };
    each = λ i g. by i g (dec_le j i);
  }
    where
      by : (i : ℕ) → i < j + 1 → Dec (j ≤ i) → get_or (set xs' (get_or ls j 0) x) (get_or ls i 0) 0 ≡ f i
      by i g (yes q) = let w : i ≡ j = omega arith in rw w (get_or-set_same xs' (get_or ls j 0) x 0 (omega (arith, r.low j h, p.kept.long)) ∙ e)
      by i g (no q) = get_or-set_other xs' (get_or ls j 0) (get_or ls i 0) x 0 (before_absent r j h i (omega arith)) ∙ p.each i (omega arith)

module _ (ls : List ℕ) (e : Exit) (xs : List ℤ) (rs ps qs es : List ℕ) where
  module _ (s j : ℕ) (ps' qs' es' : List ℕ) (r : Rising ls s) (h : j < s) (p : Settled ls e xs rs j ps qs es ps' qs' es') where
    -- lane j's count is still as it was
    count_before : get_or es' (get_or ls j 0) 0 ≡ get_or es (get_or ls j 0) 0
    count_before = p.counts.kept.others (get_or ls j 0) (before_absent r j h)

    pub settled_more : length ps ≡ most_saves → length qs ≡ most_saves → length es ≡ most_saves → (l : ℕ) → l ≡ get_or ls j 0 → (w : Way) → w ≡ chosen e (get_or xs j (pos 0)) (get_or rs j 0)
        → Settled ls e xs rs (j + 1) ps qs es (set ps' l w.word) (set qs' l w.answer) (set es' l (get_or es' l 0 + 1))
    settled_more a b c l q w z = rw q (record {
      blocks = written_more ls _ ps s j ps' w.word r a h p.blocks (ap (λ (u : Way). u.word) z);
      answers = written_more ls _ qs s j qs' w.answer r b h p.answers (ap (λ (u : Way). u.answer) z);
      counts = written_more ls _ es s j es' (get_or es' (get_or ls j 0) 0 + 1) r c h p.counts (ap (λ n. n + 1) count_before);
    })
