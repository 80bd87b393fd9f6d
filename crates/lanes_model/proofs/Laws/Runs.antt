-- Where the links fall, each lane of the walk ends as the run of its own save does. Assumes nothing.
use Rattle.std.specs.Prelude.{◌≡◌, Bool, true, false, cond, ◌≢◌, length, ℤ}
use Rattle.std.proofs.Math.Path.{refl, ap}
use Rattle.std.proofs.Common.{sym, ◌∙◌}
use mathlib.Core.List.{List, [], ◌∷◌, map, map-map}
use Prim.Native.Nat.{ℕ, zero, suc, ◌+◌, ◌-◌, min, ◌<◌, ◌≤◌}
use native.Mathlib.Omega.{arith}
use Rattle.std.proofs.Math.Decide.{dec_le}
use borrow.Author.Tests.{eq-eqb, ne_eqb}
use Rattle.model.specs.Save.{Save}
use Rattle.model.specs.Script.{Block}
use Rattle.model.specs.Run.{Outcome, next, done, halt, step, Ran, one_more, run, run_by}
use Rattle.model.proofs.Laws.Bools.{or_no}
use Rattle.reclaim_model.proofs.Laws.Reached.{root, onward}
use Rattle.lanes_model.specs.Falls.{Link, LedTo, Falls}
use Rattle.lanes_model.specs.Lanes.{State, at, ended, Lane, moved, is_at, step_state, step_lane, any_at, Walk, one_read, walk, start_lane, walk_all, ran_of}
use Rattle.lanes_model.proofs.Laws.Steps.{step_link, not_again}

-- ---- one lane by itself

pub alone : List Block → Save → ℕ → State → State
alone bs s zero t = t
alone bs s (suc n) t = alone bs s n (step_state bs n s t)

abbrev later : ℕ → Ran → Ran
later n r = record { answer = r.answer; variables = r.variables; entered = n + r.entered }

alone_ended : (bs : List Block) (s : Save) (n : ℕ) (r : Ran) → alone bs s n (ended r) ≡ ended r
unfolding alone
alone_ended bs s zero r = refl
alone_ended bs s (suc n) r = alone_ended bs s n r

-- blocks below m that are not b: what a lane that stands below m can still enter, so that a budget of as many is enough
abbrev pub ahead : ℕ → ℕ → ℕ
ahead b m = m - min 1 (m - b)

ahead_high : (b m j : ℕ) → b < m → ahead b (suc m) ≤ suc j → ahead b m ≤ j
ahead_high b m j p q = omega arith

ahead_low : (b m j : ℕ) → m < b → ahead b (suc m) ≤ suc j → ahead b m ≤ j
ahead_low b m j p q = omega arith

pub ahead_step : (b m j : ℕ) → m ≢ b → ahead b (suc m) ≤ suc j → ahead b m ≤ j
ahead_step b m j d = by (dec_le m b)
  where
    by : Dec (m ≤ b) → ahead b (suc m) ≤ suc j → ahead b m ≤ j
    by (yes p) = ahead_low b m j (omega arith)
    by (no p) = ahead_high b m j (omega arith)

pub ahead_some : (b m : ℕ) → m ≢ b → ahead b (suc m) ≤ 0 → ⊥
ahead_some b m d q = omega arith

pub ahead_less : (b m j : ℕ) → ahead b (suc m) ≤ j → ahead b m ≤ j
ahead_less b m j q = omega arith

module _ (bs : List Block) (b : ℕ) (f : Falls bs b) (s : Save) where
  abbrev Ends : ℕ → Type 0
  Ends m = (k : ℕ) (v : List ℤ) (n j : ℕ) → k < m → LedTo bs b k → ahead b m ≤ j → alone bs s m (at k v n) ≡ ended (later n (run bs s j k v))

  module _ (m : ℕ) (ih : Ends m) where
    -- block m is read
    reads : (v : List ℤ) (n j : ℕ) → LedTo bs b m → ahead b (suc m) ≤ j → alone bs s m (moved (step bs s m v) (suc n)) ≡ ended (later n (run bs s j m v))
    unfolding run_by
    reads v n zero g q = absurd (ahead_some b m (λ e. not_again f (rw e at g)) q)
    reads v n (suc j) g q = go (step bs s m v) refl
      where
        go : (o : Outcome) → step bs s m v ≡ o → alone bs s m (moved o (suc n)) ≡ ended (later n (elim o [
          | next b' v' ↦ one_more (run bs s j b' v')
          | done v' ↦ record { answer = 0; variables = v'; entered = 1 }
          | halt r v' ↦ record { answer = r; variables = v'; entered = 1 }
        ]))
        go (next k v') e =
            let l : Link bs m k = step_link bs s m k v v' e in
            ih k v' (suc n) j (f.lower g l) (onward g l) (ahead_step b m j (λ c. not_again f (rw c at g)) q) ∙ ap (λ x. ended (record { answer = (run bs s j k v').answer; variables = (run bs s j k v').variables; entered = x })) (omega arith)
        go (done v') e = alone_ended bs s m _ ∙ ap (λ x. ended (record { answer = 0; variables = v'; entered = x })) (omega arith)
        go (halt r v') e = alone_ended bs s m _ ∙ ap (λ x. ended (record { answer = r; variables = v'; entered = x })) (omega arith)

    ends_more : Ends (suc m)
    unfolding alone
    ends_more k v n j l p q = by (dec_le m k)
      where
        by : Dec (m ≤ k) → alone bs s m (step_state bs m s (at k v n)) ≡ ended (later n (run bs s j k v))
        by (yes c) =
            let e : k ≡ m = omega arith in
            rw (e, eq-eqb m m refl) (reads v n j (rw e at p) q)
        by (no c) = rw (ne_eqb k m (λ e. c (omega arith))) (ih k v n j (omega arith) p (ahead_less b m j q))

  pub alone_runs : (m : ℕ) → Ends m
  alone_runs zero k v n j l p q = absurd (omega arith)
  alone_runs (suc m) k v n j l p q = ends_more m (alone_runs m) k v n j l p q

-- ---- the lanes of the walk are such lanes

abbrev at_end : List Block → ℕ → Lane → Lane
at_end bs m l = record { save = l.save; state = alone bs l.save m l.state }

stays : (bs : List Block) (n : ℕ) (s : Save) (t : State) → is_at n t ≡ false → step_state bs n s t ≡ t
stays bs n s (at k v e) p = rw p
stays bs n s (ended r) p = refl

none_steps : (bs : List Block) (n : ℕ) (ls : List Lane) → any_at n ls ≡ false → map (step_lane bs n) ls ≡ ls
none_steps bs n [] p = refl
none_steps bs n (l ∷ ls) p =
    let q = or_no (is_at n l.state) (any_at n ls) p in
    rw (stays bs n l.save l.state q.0, none_steps bs n ls q.1)

-- a block where no lane stands would change nothing
pub visit_is : (bs : List Block) (n : ℕ) (ls : List Lane) → cond (any_at n ls) (map (step_lane bs n) ls) ls ≡ map (step_lane bs n) ls
visit_is bs n ls = by (any_at n ls) refl
  where
    by : (x : Bool) → any_at n ls ≡ x → cond x (map (step_lane bs n) ls) ls ≡ map (step_lane bs n) ls
    by true e = refl
    by false e = sym (none_steps bs n ls e)

read_lanes : (x : Bool) (w : Walk) → (one_read x w).lanes ≡ w.lanes
read_lanes true w = refl
read_lanes false w = refl

map-id : (ls : List Lane) → map (λ l. l) ls ≡ ls
map-id [] = refl
map-id (l ∷ ls) = ap (λ r. l ∷ r) (map-id ls)

walk_lanes : (bs : List Block) (n : ℕ) (ls : List Lane) → (walk bs n ls).lanes ≡ map (at_end bs n) ls
unfolding walk alone
walk_lanes bs zero ls = sym (map-id ls)
walk_lanes bs (suc n) ls =
    read_lanes (any_at n ls) _ ∙ walk_lanes bs n _ ∙ ap (map (at_end bs n)) (visit_is bs n ls) ∙ map-map (at_end bs n) (step_lane bs n) ls

pub map_same : {A B : Type 0} (f g : A → B) (xs : List A) → ((x : A) → f x ≡ g x) → map f xs ≡ map g xs
map_same f g [] e = refl
map_same f g (x ∷ xs) e = rw (e x, map_same f g xs e)

module _ (bs : List Block) (b : ℕ) (f : Falls bs b) (inside : (k : ℕ) → Link bs b k → k < length bs) (here : b < length bs) (budget : ℕ) (few : length bs ≤ suc budget) where
  lane_runs : (s : Save) → ran_of (alone bs s (length bs) (start_lane bs b s).state) ≡ run bs s (suc budget) b s.variables
  unfolding run_by
  lane_runs s = go (step bs s b s.variables) refl
    where
      go : (o : Outcome) → step bs s b s.variables ≡ o → ran_of (alone bs s (length bs) (moved o 1)) ≡ elim o [
        | next b' v' ↦ one_more (run bs s budget b' v')
        | done v' ↦ record { answer = 0; variables = v'; entered = 1 }
        | halt r v' ↦ record { answer = r; variables = v'; entered = 1 }
      ]
      go (next k v') e =
          let l : Link bs b k = step_link bs s b k s.variables v' e in
          ap ran_of (alone_runs bs b f s (length bs) k v' 1 budget (inside k l) (root l) (omega arith))
          ∙ ap (λ x. record { answer = (run bs s budget k v').answer; variables = (run bs s budget k v').variables; entered = x }) (omega arith)
      go (done v') e = ap ran_of (alone_ended bs s (length bs) _)
      go (halt r v') e = ap ran_of (alone_ended bs s (length bs) _)

  -- every save's variables, count and refusal are those of its own run
  pub walk_runs : (ss : List Save) → map (λ l. ran_of l.state) (walk_all bs b ss).lanes ≡ map (λ s. run bs s (suc budget) b s.variables) ss
  unfolding walk_all
  walk_runs ss =
      ap (map (λ l. ran_of l.state)) (walk_lanes bs (length bs) (map (start_lane bs b) ss))
      ∙ map-map (λ l. ran_of l.state) (at_end bs (length bs)) (map (start_lane bs b) ss)
      ∙ map-map (λ l. ran_of (at_end bs (length bs) l).state) (start_lane bs b) ss
      ∙ map_same _ _ ss lane_runs
