-- The blocks that the walk reads are those that at least one of the runs enters, each once. Assumes nothing.
use Rattle.std.specs.Prelude.{◌≡◌, ◌≢◌, Bool, cond, ◌||◌, length, ℤ}
use Rattle.std.proofs.Math.Path.{refl, sym, ap, fun_ext}
use Rattle.std.proofs.Common.{◌∙◌, eqb-true, eq-eqb, ne_eqb}
use Rattle.std.proofs.Math.Bool.{true, false}
use mathlib.Core.List.{List, [], ◌∷◌, map}
use Prim.Native.Nat.{ℕ, zero, suc, ◌<◌, ◌≤◌}
use native.Mathlib.Omega.{arith}
use Rattle.std.proofs.Math.Decide.{dec_le}
use Rattle.std.proofs.Math.Dec.{eqb}
use Rattle.std.proofs.lemmas.Bool.{eqb-false}
use Rattle.model.specs.Save.{Save}
use Rattle.model.specs.Script.{Block}
use Rattle.model.specs.Run.{Outcome, next, done, halt, step, Ran, one_more, run, run_by}
use Rattle.model.proofs.Laws.Bools.{clash, or_cases, never_true}
use Rattle.reclaim_model.proofs.Laws.Reached.{root, onward}
use Rattle.reclaim_model.specs.Rename.{Every}
use Rattle.lanes_model.specs.Falls.{Link, LedTo, Falls}
use Rattle.lanes_model.specs.Walk.{any, beyond, trail, count_below}
use Rattle.lanes_model.specs.Lanes.{State, at, ended, Lane, moved, is_at, step_state, step_lane, any_at, Walk, one_read, walk, start_lane, walk_all}
use Rattle.lanes_model.proofs.Laws.Steps.{step_link, not_again}
use Rattle.lanes_model.proofs.Laws.Runs.{ahead, ahead_step, ahead_some, ahead_less, visit_is}

-- ---- counting

pub count_same : (n : ℕ) (p q : ℕ → Bool) → ((c : ℕ) → c < n → p c ≡ q c) → count_below n p ≡ count_below n q
count_same zero p q e = refl
count_same (suc n) p q e = rw (e n (omega arith), count_same n p q (λ c l. e c (omega arith)))

-- one number more, which was not among them
pub count_one : (n b : ℕ) (q : ℕ → Bool) → b < n → q b ≡ false → count_below n (λ c. eqb c b || q c) ≡ suc (count_below n q)
count_one zero b q l e = absurd (omega arith)
count_one (suc n) b q l e = by (dec_le n b) (λ k. count_one n b q k e)
  where
    by : Dec (n ≤ b) → (b < n → count_below n (λ c. eqb c b || q c) ≡ suc (count_below n q)) → count_below (suc n) (λ c. eqb c b || q c) ≡ suc (count_below (suc n) q)
    by (yes d) ih =
        let i : n ≡ b = omega arith in
        let z : q n ≡ false = rw i e in
        rw (eq-eqb n b i, z, count_same n (λ c. eqb c b || q c) q (λ c k. rw (ne_eqb c b (omega arith))))
    by (no d) ih = rw (ne_eqb n b (λ i. d (omega arith)), ih (omega arith)) (pull (q n))
      where
        pull : (x : Bool) → cond x (suc (suc (count_below n q))) (suc (count_below n q)) ≡ suc (cond x (suc (count_below n q)) (count_below n q))
        pull true = refl
        pull false = refl

-- ---- the blocks that a run enters

pub trail_length : (bs : List Block) (s : Save) (j b : ℕ) (v : List ℤ) → length (trail bs s j b v) ≡ (run bs s j b v).entered
unfolding trail run_by
trail_length bs s zero b v = refl
trail_length bs s (suc j) b v = go (step bs s b v) (λ k w. trail_length bs s j k w)
  where
    go : (o : Outcome) → ((k : ℕ) (w : List ℤ) → length (trail bs s j k w) ≡ (run bs s j k w).entered)
        → suc (length (beyond (λ k w. trail bs s j k w) o)) ≡ (elim o as (λ x. Ran) [
          | next b' v' ↦ one_more (run bs s j b' v')
          | done v' ↦ record { answer = 0; variables = v'; entered = 1 }
          | halt r v' ↦ record { answer = r; variables = v'; entered = 1 }
        ]).entered
    go (next k w) ih = ap suc (ih k w)
    go (done w) ih = refl
    go (halt r w) ih = refl

module _ (bs : List Block) (b : ℕ) (f : Falls bs b) (s : Save) where
  record Reached (k c : ℕ) : Type 0 where
    leads : LedTo bs b c
    low : c ≤ k

  -- links lead to all of them, and they fall
  trail_leads : (j k : ℕ) (v : List ℤ) → LedTo bs b k → (c : ℕ) → any (eqb c) (trail bs s j k v) ≡ true → Reached k c
  unfolding trail
  trail_leads zero k v g c h = clash (sym h)
  trail_leads (suc j) k v g c h = go (step bs s k v) refl h (λ k' v' g' h'. trail_leads j k' v' g' c h')
    where
      go : (o : Outcome) → step bs s k v ≡ o → eqb c k || any (eqb c) (beyond (λ b' v'. trail bs s j b' v') o) ≡ true
          → ((k' : ℕ) (v' : List ℤ) → LedTo bs b k' → any (eqb c) (trail bs s j k' v') ≡ true → Reached k' c) → Reached k c
      go (next k' v') e h ih =
          or_cases (eqb c k) (any (eqb c) (trail bs s j k' v')) h
          (λ q. rw (eqb-true c k q) (record { leads = g; low = omega arith }))
          (λ q.
          let l = step_link bs s k k' v v' e in
          let r = ih k' v' (onward g l) q in
          let low = f.lower g l in
          let under = r.low in
          record { leads = r.leads; low = omega arith })
      go (done v') e h ih = or_cases (eqb c k) false h (λ q. rw (eqb-true c k q) (record { leads = g; low = omega arith })) (λ q. clash (sym q))
      go (halt r v') e h ih = or_cases (eqb c k) false h (λ q. rw (eqb-true c k q) (record { leads = g; low = omega arith })) (λ q. clash (sym q))

  pub trail_low : (j k : ℕ) (v : List ℤ) → LedTo bs b k → (c : ℕ) → k < c → any (eqb c) (trail bs s j k v) ≡ false
  trail_low j k v g c l = never_true _ (λ h. let q = (trail_leads j k v g c h).low in omega arith)

  pub trail_without : (j k : ℕ) (v : List ℤ) → LedTo bs b k → any (eqb b) (trail bs s j k v) ≡ false
  trail_without j k v g = never_true _ (λ h. not_again f (trail_leads j k v g b h).leads)

  -- any budgets that are enough give the same
  abbrev Alike : ℕ → Type 0
  Alike m = (i j k : ℕ) (v : List ℤ) → k < m → LedTo bs b k → ahead b m ≤ i → ahead b m ≤ j → trail bs s i k v ≡ trail bs s j k v

  alike_more : (m : ℕ) → Alike m → Alike (suc m)
  unfolding trail
  alike_more m ih i j k v l g p q = by (dec_le m k)
    where
      top : (i j : ℕ) → LedTo bs b m → ahead b (suc m) ≤ i → ahead b (suc m) ≤ j → trail bs s i m v ≡ trail bs s j m v
      top zero j g p q = absurd (ahead_some b m (λ e. not_again f (rw e at g)) p)
      top (suc i) zero g p q = absurd (ahead_some b m (λ e. not_again f (rw e at g)) q)
      top (suc i) (suc j) g p q = ap (λ t. m ∷ t) (go (step bs s m v) refl)
        where
          go : (o : Outcome) → step bs s m v ≡ o → beyond (λ b' v'. trail bs s i b' v') o ≡ beyond (λ b' v'. trail bs s j b' v') o
          go (next k' v') e =
              let l = step_link bs s m k' v v' e in
              let d : m ≢ b = λ e. not_again f (rw e at g) in
              ih i j k' v' (f.lower g l) (onward g l) (ahead_step b m i d p) (ahead_step b m j d q)
          go (done v') e = refl
          go (halt r v') e = refl

      by : Dec (m ≤ k) → trail bs s i k v ≡ trail bs s j k v
      by (yes c) = let e : k ≡ m = omega arith in rw e (top i j (rw e at g) p q)
      by (no c) = ih i j k v (omega arith) g (ahead_less b m i p) (ahead_less b m j q)

  pub trail_enough : (m : ℕ) → Alike m
  trail_enough zero i j k v l g p q = absurd (omega arith)
  trail_enough (suc m) i j k v l g p q = alike_more m (trail_enough m) i j k v l g p q

-- ---- the lanes of the walk

-- what a lane still enters
abbrev still_enters : List Block → ℕ → Save → State → List ℕ
still_enters bs j s (at k v n) = trail bs s j k v
still_enters bs j s (ended r) = []

any_same : {A B : Type 0} (p : A → Bool) (q : B → Bool) (g : A → B) (P : A → Type 0) (xs : List A) → Every P xs → ((x : A) → P x → p x ≡ q (g x)) → any p xs ≡ any q (map g xs)
any_same p q g P [] h e = refl
any_same p q g P (x ∷ xs) h e = rw (e x h.0, any_same p q g P xs h.1 e)

map_itself : {A : Type 0} (xs : List A) → map (λ x. x) xs ≡ xs
map_itself [] = refl
map_itself (x ∷ xs) = ap (λ r. x ∷ r) (map_itself xs)

each_map : {A B : Type 0} (P : A → Type 0) (Q : B → Type 0) (g : A → B) (xs : List A) → Every P xs → ((x : A) → P x → Q (g x)) → Every Q (map g xs)
each_map P Q g [] h e = tt
each_map P Q g (x ∷ xs) h e = (e x h.0, each_map P Q g xs h.1 e)

module _ (bs : List Block) (b : ℕ) (f : Falls bs b) (j : ℕ) where
  -- a lane that stands stands below m, where links lead
  abbrev Good : ℕ → State → Type 0
  Good m (at k v n) = (k < m) × LedTo bs b k
  Good m (ended r) = Unit {0}

  module _ (m : ℕ) (enough : ahead b (suc m) ≤ j) (s : Save) where
    good_moved : (v : List ℤ) (n : ℕ) → LedTo bs b m → (o : Outcome) → step bs s m v ≡ o → Good m (moved o n)
    good_moved v n g (next k v') e = let l = step_link bs s m k v v' e in (f.lower g l, onward g l)
    good_moved v n g (done v') e = tt
    good_moved v n g (halt r v') e = tt

    good_step : (t : State) → Good (suc m) t → Good m (step_state bs m s t)
    good_step (at k v n) g = by (eqb k m) refl
      where
        by : (x : Bool) → eqb k m ≡ x → Good m (cond x (moved (step bs s m v) (suc n)) (at k v n))
        by true e = good_moved v (suc n) (rw (eqb-true k m e) at g.1) (step bs s m v) refl
        by false e = let d = eqb-false k m e in let l = g.0 in (omega arith, g.1)
    good_step (ended r) g = tt

    module _ (g : LedTo bs b m) (v : List ℤ) where
      enters_first : (i : ℕ) → ahead b (suc m) ≤ i → true ≡ any (eqb m) (trail bs s i m v)
      unfolding trail
      enters_first zero q = absurd (ahead_some b m (λ e. not_again f (rw e at g)) q)
      enters_first (suc i) q = rw (eq-eqb m m refl)

      enters_rest : (n c i : ℕ) → c < m → ahead b (suc m) ≤ i → any (eqb c) (trail bs s i m v) ≡ any (eqb c) (still_enters bs j s (moved (step bs s m v) n))
      unfolding trail
      enters_rest n c zero l q = absurd (ahead_some b m (λ e. not_again f (rw e at g)) q)
      enters_rest n c (suc i) l q = rw (ne_eqb c m (omega arith)) (go (step bs s m v) refl)
        where
          go : (o : Outcome) → step bs s m v ≡ o → any (eqb c) (beyond (λ b' v'. trail bs s i b' v') o) ≡ any (eqb c) (still_enters bs j s (moved o n))
          go (next k v') e =
              let t = step_link bs s m k v v' e in
              let d : m ≢ b = λ e. not_again f (rw e at g) in
              ap (any (eqb c)) (trail_enough bs b f s m i j k v' (f.lower g t) (onward g t) (ahead_step b m i d q) (ahead_less b m j enough))
          go (done v') e = refl
          go (halt r v') e = refl

    -- those that stand at m are those that enter m
    enters_now : (t : State) → Good (suc m) t → is_at m t ≡ any (eqb m) (still_enters bs j s t)
    enters_now (at k v n) g = by (eqb k m) refl
      where
        by : (x : Bool) → eqb k m ≡ x → x ≡ any (eqb m) (trail bs s j k v)
        by true e = rw (eqb-true k m e) (enters_first (rw (eqb-true k m e) at g.1) v j enough)
        by false e = let d = eqb-false k m e in let l = g.0 in sym (trail_low bs b f s j k v g.1 m (omega arith))
    enters_now (ended r) g = refl

    -- and what they enter below is what they enter after it
    enters_then : (c : ℕ) → c < m → (t : State) → Good (suc m) t → any (eqb c) (still_enters bs j s t) ≡ any (eqb c) (still_enters bs j s (step_state bs m s t))
    enters_then c l (at k v n) g = by (eqb k m) refl
      where
        by : (x : Bool) → eqb k m ≡ x → any (eqb c) (trail bs s j k v) ≡ any (eqb c) (still_enters bs j s (cond x (moved (step bs s m v) (suc n)) (at k v n)))
        by true e = rw (eqb-true k m e) (enters_rest (rw (eqb-true k m e) at g.1) v (suc n) c j l enough)
        by false e = refl
    enters_then c l (ended r) g = refl

  abbrev enters : List Lane → ℕ → Bool
  enters ls c = any (λ l. any (eqb c) (still_enters bs j l.save l.state)) ls

  read_count : (x y : Bool) (w : Walk) (n : ℕ) → x ≡ y → w.read ≡ n → (one_read x w).read ≡ cond y (suc n) n
  read_count true y w n e r = rw (← e, r)
  read_count false y w n e r = rw (← e, r)

  reads_are : (m : ℕ) (ls : List Lane) → ahead b m ≤ j → Every (λ l. Good m l.state) ls → (walk bs m ls).read ≡ count_below m (enters ls)
  unfolding walk
  reads_are zero ls q g = refl
  reads_are (suc m) ls q g =
      let now : any_at m ls ≡ enters ls m = any_same (λ l. is_at m l.state) (λ l. any (eqb m) (still_enters bs j l.save l.state)) (λ l. l) (λ l. Good (suc m) l.state) ls g (λ l p. enters_now m q l.save l.state p) ∙ ap (λ x. enters x m) (map_itself ls) in
      let then : (c : ℕ) → c < m → enters ls c ≡ enters (map (step_lane bs m) ls) c = λ c l. any_same _ _ (step_lane bs m) (λ l. Good (suc m) l.state) ls g (λ x p. enters_then m q x.save c l x.state p) in
      let rest = reads_are m (map (step_lane bs m) ls) (ahead_less b m j q) (each_map _ _ (step_lane bs m) ls g (λ x p. good_step m q x.save x.state p)) in
      read_count (any_at m ls) (enters ls m) _ _ now (ap (λ x. (walk bs m x).read) (visit_is bs m ls) ∙ rest ∙ sym (count_same m _ _ then))

-- ---- with the setup block

any_setup : (x : Bool) (p : Save → Bool) (s : Save) (ss : List Save) → any (λ s. x || p s) (s ∷ ss) ≡ x || any p (s ∷ ss)
any_setup true p s ss = refl
any_setup false p s ss = refl

any_none : {A : Type 0} (p : A → Bool) (xs : List A) → ((x : A) → p x ≡ false) → any p xs ≡ false
any_none p [] e = refl
any_none p (x ∷ xs) e = rw (e x, any_none p xs e)

any_map : {A B : Type 0} (q : B → Bool) (g : A → B) (xs : List A) → any q (map g xs) ≡ any (λ x. q (g x)) xs
any_map q g [] = refl
any_map q g (x ∷ xs) = ap (λ r. q (g x) || r) (any_map q g xs)

each_made : {A B : Type 0} (Q : B → Type 0) (g : A → B) (xs : List A) → ((x : A) → Q (g x)) → Every Q (map g xs)
each_made Q g [] e = tt
each_made Q g (x ∷ xs) e = (e x, each_made Q g xs e)

module _ (bs : List Block) (b : ℕ) (f : Falls bs b) (inside : (k : ℕ) → Link bs b k → k < length bs) (here : b < length bs) (budget : ℕ) (few : length bs ≤ suc budget) where
  -- what the run of s enters after the setup block
  abbrev rest : Save → List ℕ
  rest s = beyond (λ k v. trail bs s budget k v) (step bs s b s.variables)

  good_start : (s : Save) (o : Outcome) → step bs s b s.variables ≡ o → Good bs b f budget (length bs) (moved o 1)
  good_start s (next k v) e = let l = step_link bs s b k s.variables v e in (inside k l, root l)
  good_start s (done v) e = tt
  good_start s (halt r v) e = tt

  start_rest : (s : Save) (o : Outcome) → still_enters bs budget s (moved o 1) ≡ beyond (λ k v. trail bs s budget k v) o
  start_rest s (next k v) = refl
  start_rest s (done v) = refl
  start_rest s (halt r v) = refl

  rest_without : (s : Save) → any (eqb b) (rest s) ≡ false
  rest_without s = go (step bs s b s.variables) refl
    where
      go : (o : Outcome) → step bs s b s.variables ≡ o → any (eqb b) (beyond (λ k v. trail bs s budget k v) o) ≡ false
      go (next k v) e = trail_without bs b f s budget k v (root (step_link bs s b k s.variables v e))
      go (done v) e = refl
      go (halt r v) e = refl

  abbrev pub past : List Save → ℕ → Bool
  past ss c = any (λ s. any (eqb c) (rest s)) ss

  pub read_past : (ss : List Save) → (walk_all bs b ss).read ≡ suc (count_below (length bs) (past ss))
  unfolding walk_all
  read_past ss =
      ap suc (reads_are bs b f budget (length bs) (map (start_lane bs b) ss) (omega arith) (each_made _ (start_lane bs b) ss (λ s. good_start s (step bs s b s.variables) refl))
      ∙ count_same (length bs) _ _ (λ c l. any_map _ (start_lane bs b) ss ∙ ap (λ (g : Save → Bool). any g ss) (fun_ext (λ s. ap (any (eqb c)) (start_rest s (step bs s b s.variables))))))

  -- the blocks read are as many as the numbers that at least one run enters
  pub read_entered : (s : Save) (ss : List Save) → (walk_all bs b (s ∷ ss)).read ≡ count_below (length bs) (λ c. any (λ s. any (eqb c) (trail bs s (suc budget) b s.variables)) (s ∷ ss))
  unfolding trail
  read_entered s ss =
      read_past (s ∷ ss)
      ∙ sym (count_one (length bs) b (past (s ∷ ss)) here (any_none _ (s ∷ ss) rest_without))
      ∙ count_same (length bs) _ _ (λ c l. sym (any_setup (eqb c b) (λ s. any (eqb c) (rest s)) s ss))

  pub past_leads : (ss : List Save) (c : ℕ) → past ss c ≡ true → LedTo bs b c
  past_leads [] c h = clash (sym h)
  past_leads (s ∷ ss) c h = or_cases (any (eqb c) (rest s)) (past ss c) h (λ q. go (step bs s b s.variables) refl q) (λ q. past_leads ss c q)
    where
      go : (o : Outcome) → step bs s b s.variables ≡ o → any (eqb c) (beyond (λ k v. trail bs s budget k v) o) ≡ true → LedTo bs b c
      go (next k v) e q = (trail_leads bs b f s budget k v (root (step_link bs s b k s.variables v e)) c q).leads
      go (done v) e q = clash (sym q)
      go (halt r v) e q = clash (sym q)
