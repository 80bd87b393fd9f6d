-- Blocks marked and put into a queue, each at its first mark; what such a queue keeps. Assumes nothing.
use Rattle.std.specs.Prelude.{◌≡◌, refl, Bool, cond, List, [], ◌∷◌, ℕ, ◌+◌, ◌≤◌, ◌<◌, set, length, replicate}
use Rattle.std.proofs.Common.{sym, ap, ◌∙◌, true≢false, arith, length-set, get_or-set_same}
use Rattle.std.proofs.Math.Path.{subst}
use Rattle.std.proofs.Math.Bool.{true, false}
use Rattle.std.proofs.Math.Decide.{ℕ_discrete}
use Rattle.std.proofs.Math.ListN.{get_or}
use Rattle.std.proofs.lemmas.List.{length-replicate}
use Rattle.std.proofs.Math.Seq.{get_or-set_other}
use Rattle.model.specs.Limits.{block_limit}
use Rattle.reclaim_model.specs.Rename.{Every}
use Rattle.model.proofs.Laws.Marks.{unmarked, unmarked_set, unmarked_replicate}
use Rattle.model.proofs.Laws.Places.{marks_stay, all_one}
use Rattle.reclaim_reach.specs.Words.{Low}

-- the marks, and the array whose first `count` elements are the queue
pub record Queue : Type 0 where
  pub live : List Bool
  pub todo : List ℕ
  pub count : ℕ

abbrev pub queue_in : List Bool → List ℕ → ℕ → Queue
queue_in live todo n = record { live = live; todo = todo; count = n }

unfoldable pub marked : Queue → ℕ → Queue
marked q k = cond (get_or q.live k false) q (queue_in (set q.live k true) (set q.todo q.count k) (q.count + 1))

-- one after the other
unfoldable pub marked_all : Queue → List ℕ → Queue
marked_all q [] = q
marked_all q (k ∷ ks) = marked_all (marked q k) ks

abbrev pub IsLive : Queue → ℕ → Type 0
IsLive q b = get_or q.live b false ≡ true

-- where a block stands in the queue
pub record Place (todo : List ℕ) (n b : ℕ) : Type 0 where
  pub at : ℕ
  pub low : at < n
  pub is : get_or todo at 0 ≡ b

-- the queue holds the marked blocks, and leaves room for the others
pub record Queued (q : Queue) : Type 0 where
  pub long : length q.live ≡ block_limit
  pub wide : length q.todo ≡ block_limit
  pub room : q.count + unmarked q.live ≤ block_limit
  pub held : (i : ℕ) → i < q.count → IsLive q (get_or q.todo i 0)
  pub listed : (b : ℕ) → IsLive q b → Place q.todo q.count b

-- nothing marked
module _ (live : List Bool) (none : live ≡ replicate block_limit false) where
  pub none_live : (b : ℕ) → get_or live b false ≡ true → ⊥
  none_live b e = true≢false (sym e ∙ ap (λ (ms : List Bool). get_or ms b false) none ∙ all_one false block_limit b)

  pub queued_none : (todo : List ℕ) → length todo ≡ block_limit → Queued (queue_in live todo 0)
  queued_none todo l = record {
    long = ap length none ∙ length-replicate block_limit false;
    wide = l;
    room = omega (arith, ap unmarked none ∙ unmarked_replicate block_limit);
    held = λ i h. absurd (omega arith);
    listed = λ b e. absurd (none_live b e);
  }

module _ (q : Queue) (k : ℕ) where
  pub marked_on : IsLive q k → marked q k ≡ q
  unfolding marked
  marked_on e = rw e

  pub marked_off : get_or q.live k false ≡ false → marked q k ≡ queue_in (set q.live k true) (set q.todo q.count k) (q.count + 1)
  unfolding marked
  marked_off e = rw e

module _ (q : Queue) (k : ℕ) (h : Queued q) (l : k < block_limit) (e : get_or q.live k false ≡ false) where
  -- the queue has room for a block without a mark
  pub free : q.count < block_limit
  free = omega (arith, h.room, h.long, unmarked_set q.live k (omega (arith, h.long)) e)

  abbrev live' : List Bool
  live' = set q.live k true

  abbrev todo' : List ℕ
  todo' = set q.todo q.count k

  here : get_or live' k false ≡ true
  here = get_or-set_same q.live k true false (omega (arith, h.long))

  last : get_or todo' q.count 0 ≡ k
  last = get_or-set_same q.todo q.count k 0 (omega (arith, h.wide, free))

  earlier : (i : ℕ) → i < q.count → get_or todo' i 0 ≡ get_or q.todo i 0
  earlier i p = get_or-set_other q.todo q.count i k 0 (λ z. omega arith)

  held_one : (i : ℕ) → i < q.count + 1 → Dec (i ≡ q.count) → get_or live' (get_or todo' i 0) false ≡ true
  held_one i p (yes d) = rw (d, last) here
  held_one i p (no d) = rw (earlier i (omega arith)) (marks_stay q.live k (get_or q.todo i 0) (h.held i (omega arith)))

  listed_one : (b : ℕ) → get_or live' b false ≡ true → Dec (b ≡ k) → Place todo' (q.count + 1) b
  listed_one b p (yes d) = record { at = q.count; low = omega arith; is = last ∙ sym d }
  listed_one b p (no d) =
      let w = h.listed b (sym (get_or-set_other q.live k b true false d) ∙ p) in
      let u = w.low in
      record { at = w.at; low = omega arith; is = earlier w.at u ∙ w.is }

  pub queued_one : Queued (queue_in (set q.live k true) (set q.todo q.count k) (q.count + 1))
  queued_one = record {
    long = length-set q.live k true ∙ h.long;
    wide = length-set q.todo q.count k ∙ h.wide;
    room = omega (arith, h.room, h.long, unmarked_set q.live k (omega (arith, h.long)) e);
    held = λ i p. held_one i p (ℕ_discrete i q.count);
    listed = λ b p. listed_one b p (ℕ_discrete b k);
  }

-- ---- what one more leaves of what was there

pub record Grown (q r : Queue) : Type 0 where
  pub more : q.count ≤ r.count
  pub same : (i : ℕ) → i < q.count → get_or r.todo i 0 ≡ get_or q.todo i 0
  pub keeps : (b : ℕ) → IsLive q b → IsLive r b

module _ (q : Queue) (k : ℕ) where
  one_grown : Grown q (marked q k)
  unfolding marked
  one_grown = by (get_or q.live k false)
    where
      by : (x : Bool) → Grown q (cond x q (queue_in (set q.live k true) (set q.todo q.count k) (q.count + 1)))
      by true = record { more = omega arith; same = λ i p. refl; keeps = λ b e. e }
      by false = record {
        more = omega arith;
        same = λ i p. get_or-set_other q.todo q.count i k 0 (λ z. omega arith);
        keeps = λ b e. marks_stay q.live k b e;
      }

  one_queued : Queued q → k < block_limit → Queued (marked q k)
  one_queued h l = by (get_or q.live k false) refl
    where
      by : (x : Bool) → get_or q.live k false ≡ x → Queued (marked q k)
      by true e = rw (marked_on q k e) h
      by false e = rw (marked_off q k e) (queued_one q k h l e)

  one_live : Queued q → k < block_limit → IsLive (marked q k) k
  one_live h l = by (get_or q.live k false) refl
    where
      by : (x : Bool) → get_or q.live k false ≡ x → IsLive (marked q k) k
      by true e = rw (marked_on q k e) e
      by false e = rw (marked_off q k e) (get_or-set_same q.live k true false (omega (arith, h.long)))

  one_only : (P : ℕ → Type 0) → ((b : ℕ) → IsLive q b → P b) → P k → (b : ℕ) → IsLive (marked q k) b → P b
  unfolding marked
  one_only P h p b = by (get_or q.live k false)
    where
      pick : get_or (set q.live k true) b false ≡ true → Dec (b ≡ k) → P b
      pick e (yes d) = subst P (sym d) p
      pick e (no d) = h b (sym (get_or-set_other q.live k b true false d) ∙ e)

      by : (x : Bool) → IsLive (cond x q (queue_in (set q.live k true) (set q.todo q.count k) (q.count + 1))) b → P b
      by true e = h b e
      by false e = pick e (ℕ_discrete b k)

-- ---- and a list

pub all_grown : (q : Queue) (ks : List ℕ) → Grown q (marked_all q ks)
unfolding marked_all
all_grown q [] = record { more = omega arith; same = λ i p. refl; keeps = λ b e. e }
all_grown q (k ∷ ks) =
    let a = one_grown q k in
    let b = all_grown (marked q k) ks in
    let u = a.more in
    record {
      more = omega (arith, u, b.more);
      same = λ i p. b.same i (omega arith) ∙ a.same i p;
      keeps = λ j e. b.keeps j (a.keeps j e);
    }

pub all_live : (q : Queue) (ks : List ℕ) → Queued q → Every Low ks → Every (IsLive (marked_all q ks)) ks
unfolding marked_all
all_live q [] h a = tt
all_live q (k ∷ ks) h a = ((all_grown (marked q k) ks).keeps k (one_live q k h a.0), all_live (marked q k) ks (one_queued q k h a.0) a.1)

-- what holds of the marked ones and of the list holds of the marked ones
pub all_only : (P : ℕ → Type 0) (q : Queue) (ks : List ℕ) → ((b : ℕ) → IsLive q b → P b) → Every P ks → (b : ℕ) → IsLive (marked_all q ks) b → P b
unfolding marked_all
all_only P q [] h a = h
all_only P q (k ∷ ks) h a = all_only P (marked q k) ks (one_only q k P h a.0) a.1
