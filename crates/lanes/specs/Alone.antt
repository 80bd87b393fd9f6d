-- The walk of one save is its own run: it reads a block for each that the run enters. Assumes nothing.
use Rattle.std.specs.Prelude.{◌≡◌, Bool, List, [], ◌∷◌, map, set, length, ℤ}
use Rattle.std.proofs.Math.Path.{refl, ap}
use Rattle.std.proofs.Common.{sym, ◌∙◌}
use Rattle.std.proofs.Math.Bool.{true, false}
use Prim.Native.Nat.{ℕ, zero, suc, ◌+◌, ◌<◌}
use native.Mathlib.Omega.{arith}
use Rattle.std.proofs.Math.Dec.{eqb}
use Rattle.model.specs.Limits.{lane_budget}
use Rattle.model.specs.Save.{Save}
use Rattle.model.specs.Script.{Block, Script}
use Rattle.model.specs.Judge.{script_refusal}
use Rattle.model.specs.Run.{Outcome, next, done, halt, step, Ran, run}
use Rattle.lanes_model.specs.Falls.{Falls}
use Rattle.lanes_model.specs.Lanes.{State, at, ended, moved, Walk, walk, walk_all, ran_of}
use Rattle.lanes_model.proofs.Laws.Walks.{by_lanes, lanes_run}

-- what the walk of one save with those variables, whose run is x, leaves
pub record Alone (x : Ran) (qs es : List ℕ) (vs : List ℤ) (r : ℕ) (qs' es' : List ℕ) (vs' : List ℤ) : Type 0 where
  pub answers : qs' ≡ set qs 0 x.answer
  pub counts : es' ≡ set es 0 x.entered
  pub variables : vs' ≡ x.variables
  pub read : r ≡ x.entered
  pub long : length vs' ≡ length vs

-- ---- one lane

-- how many blocks a lane has entered
abbrev entered : State → ℕ
entered (at k v n) = n
entered (ended r) = r.entered

moved_entered : (o : Outcome) (n : ℕ) → entered (moved o n) ≡ n
moved_entered (next k v) n = refl
moved_entered (done v) n = refl
moved_entered (halt r v) n = refl

ran_entered : (t : State) → (ran_of t).entered ≡ entered t
ran_entered (at k v n) = refl
ran_entered (ended r) = refl

-- the walk of one lane leaves one, which has entered as many more as were read
record Gone (s : Save) (t : State) (w : Walk) : Type 0 where
  last : State
  lanes : w.lanes ≡ record { save = s; state = last } ∷ []
  more : entered last ≡ w.read + entered t

module _ (bs : List Block) (s : Save) where
  gone : (n : ℕ) (t : State) → Gone s t (walk bs n (record { save = s; state = t } ∷ []))
  unfolding walk
  gone zero t = record { last = t; lanes = refl; more = omega arith }
  gone (suc n) (ended r) = let g = gone n (ended r) in record { last = g.last; lanes = g.lanes; more = g.more }
  gone (suc n) (at k v c) = by (eqb k n) refl (λ t. gone n t)
    where
      by : (q : Bool) → eqb k n ≡ q → ((t : State) → Gone s t (walk bs n (record { save = s; state = t } ∷ []))) → Gone s (at k v c) (walk bs (suc n) (record { save = s; state = at k v c } ∷ []))
      by true e ih = let g = ih (moved (step bs s n v) (suc c)) in
          let a = g.more in
          let b = moved_entered (step bs s n v) (suc c) in
          rw e (record { last = g.last; lanes = g.lanes; more = omega arith })
      by false e ih = let g = ih (at k v c) in rw e (record { last = g.last; lanes = g.lanes; more = g.more })

-- ---- the walk of one save

heads : {A : Type 0} {x y : A} {xs ys : List A} → x ∷ xs ≡ y ∷ ys → x ≡ y
heads e = cc

module _ (sc : Script) (b : ℕ) (judged : script_refusal sc ≡ 0) (here : b < length sc.blocks) (f : Falls sc.blocks b) (s : Save) where
  abbrev bs : List Block
  bs = sc.blocks

  abbrev own : Ran
  own = run sc.blocks s lane_budget b s.variables

  one_read_lem : (walk_all sc.blocks b (s ∷ [])).read ≡ (run sc.blocks s lane_budget b s.variables).entered
  unfolding walk_all
  one_read_lem =
      let g = gone bs s (length bs) (moved (step bs s b s.variables) 1) in
      let last : ran_of g.last ≡ own = heads (ap (map (λ l. ran_of l.state)) (sym g.lanes) ∙ lanes_run sc b judged here f (s ∷ [])) in
      let many = g.more in
      let first = moved_entered (step bs s b s.variables) 1 in
      let end = ran_entered g.last in
      let count = ap (λ (r : Ran). r.entered) last in
      omega arith

  pub one_walked : by_lanes sc.blocks b (s ∷ []) ≡ record { answer = 0; runs = run sc.blocks s lane_budget b s.variables ∷ []; read = (run sc.blocks s lane_budget b s.variables).entered }
  one_walked = λ i. record { answer = 0; runs = lanes_run sc b judged here f (s ∷ []) i; read = one_read_lem i }
