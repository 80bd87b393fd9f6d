-- What a block makes of the lanes that stand at it, in arrays by place in the list of these lanes and in arrays by lane (02, A.8). Assumes nothing: these are definitions.
use Rattle.std.specs.Prelude.{◌≡◌, cond, List, ◌∷◌, ℕ, zero, suc, ◌+◌, ◌*◌, ◌≤◌, ◌<◌, ltb, get_or, set, length, ℤ, pos, negsuc}
use Rattle.std.proofs.Math.Option.{Option}
use Rattle.model.specs.Limits.{variable_count, most_saves}
use Rattle.model.specs.Refusal.{no_next}
use Rattle.model.specs.Signed.{is_zero}
use Rattle.model.specs.Save.{Save}
use Rattle.model.specs.Expr.{Expr, ok, eval}
use Rattle.model.specs.Script.{Command, Block}
use Rattle.model.specs.Run.{Outcome, next, done, halt, store, execute, step}
use Rattle.lanes_model.specs.Flat.{part}
use Rattle.lanes_model.specs.Lanes.{State, at, ended, moved}
use Rattle.lanes_expr.specs.Lanes.{lane_value, first_stop}
use Rattle.std.specs.Prelude as code
use Rattle.std.specs.Prelude.{Some, None}
use Rattle.lanes_block.specs.declared.Way.{Way}
use Rattle.lanes_block.specs.declared.Exit.{Exit}

-- ---- the lanes: the first s numbers of ls

-- they rise, so that none is named twice
pub record Rising (ls : List ℕ) (s : ℕ) : Type 0 where
  pub few : s ≤ most_saves
  pub low : (j : ℕ) → j < s → get_or ls j 0 < most_saves
  pub rises : (i j : ℕ) → i < j → j < s → get_or ls i 0 < get_or ls j 0

-- their variables lie in vs
abbrev pub Held : List ℕ → ℕ → List ℤ → Type 0
Held ls s vs = (j : ℕ) → j < s → get_or ls j 0 * variable_count + variable_count ≤ length vs

-- lane l is none of them
abbrev pub Absent : List ℕ → ℕ → ℕ → Type 0
Absent ls s l = (j : ℕ) → j < s → get_or ls j 0 ≡ l → ⊥

-- what an array by lane has for lanes that are none of them
pub record Kept (ls : List ℕ) (s : ℕ) (xs xs' : List ℕ) : Type 0 where
  pub long : length xs' ≡ length xs
  pub others : (l : ℕ) → Absent ls s l → get_or xs' l 0 ≡ get_or xs l 0

-- the same of variables one behind another
pub record KeptParts (ls : List ℕ) (s : ℕ) (vs vs' : List ℤ) : Type 0 where
  pub long : length vs' ≡ length vs
  pub others : (l : ℕ) → Absent ls s l → part variable_count l vs' ≡ part variable_count l vs

-- ---- one lane

-- a lane that has stopped stays where it is
abbrev pub carry : ℕ → List ℤ → (List ℤ → Outcome) → Outcome
carry zero v f = f v
carry (suc n) v f = halt (suc n) v

abbrev pub goes : ℕ → ℕ → List ℤ → Outcome
goes zero zero v = done v
goes zero (suc r) v = halt (suc r) v
goes (suc k) r v = next k v

abbrev pub way_of : Way → List ℤ → Outcome
way_of w v = goes w.word w.answer v

-- the way by the last value
abbrev pub leave : Exit → ℤ → List ℤ → Outcome
leave e z v = cond (is_zero z) (way_of e.otherwise v) (way_of e.then v)

abbrev pub followed : ℕ → Way
followed zero = record { word = 0; answer = no_next }
followed (suc k) = record { word = suc k; answer = 0 }

abbrev pub chosen : Exit → ℤ → ℕ → Way
chosen e z zero = cond (is_zero z) e.otherwise e.then
chosen e z (suc n) = record { word = 0; answer = suc n }

-- by a link, and to word k where the value is 0
abbrev pub forked : ℕ → ℕ → Exit
forked n k = record { then = followed n; otherwise = record { word = k; answer = 0 } }

abbrev pub same_way : ℕ → ℕ → Exit
same_way k r = record { then = record { word = k; answer = r }; otherwise = record { word = k; answer = r } }

abbrev pub stored_part : ℕ → List ℤ → ℤ → ℤ → List ℤ
stored_part zero v k x = store v k x
stored_part (suc n) v k x = v

-- a write outside lane l's part does nothing
abbrev pub stored_in : ℕ → List ℤ → ℕ → ℤ → ℤ → List ℤ
stored_in (suc n) vs l k x = vs
stored_in zero vs l (negsuc k) x = vs
stored_in zero vs l (pos k) x = cond (ltb k variable_count) (set vs (l * variable_count + k) x) vs

-- e has the value k whatever the save and the variables hold
abbrev pub Always : Expr → ℤ → Type 0
Always e k = (f : Save) (v : List ℤ) → eval f v e ≡ ok k

-- ---- all lanes: rs, rs' are the refusals of those that stopped, xs' the last values, by place; vs, vs' the variables one behind another

-- the lanes have the value of e, xs by place, after the refusals in rs
pub record Worth (save : ℕ → Save) (ls : List ℕ) (s : ℕ) (vs : List ℤ) (e : Expr) (rs rs' : List ℕ) (xs : ℕ → ℤ) : Type 0 where
  pub is : (j : ℕ) → j < s → lane_value (get_or rs' j 0) (xs j) ≡ first_stop (get_or rs j 0) (eval (save (get_or ls j 0)) (part variable_count (get_or ls j 0) vs) e)

-- the lane at place j has its variable ks j set to xs j, unless it has stopped
pub record StoredAll (ls : List ℕ) (ks xs : ℕ → ℤ) (rs : List ℕ) (vs : List ℤ) (s : ℕ) (vs' : List ℤ) : Type 0 where
  pub kept : KeptParts ls s vs vs'
  pub each : (j : ℕ) → j < s → part variable_count (get_or ls j 0) vs' ≡ stored_part (get_or rs j 0) (part variable_count (get_or ls j 0) vs) (ks j) (xs j)

-- what follows a command
abbrev pub onward : Save → Option ℕ → List Command → code.Option Exit → ℤ → List ℤ → Outcome
onward s nx cs None z v = execute s nx cs v
onward s nx cs (Some e) z v = leave e z v

-- command x brings one lane from v to v'
pub record Flows (s : Save) (nx : Option ℕ) (x : Command) (r : ℕ) (v : List ℤ) (f : code.Option Exit) (z : ℤ) (r' : ℕ) (v' : List ℤ) : Type 0 where
  pub is : (cs : List Command) → carry r v (execute s nx (x ∷ cs)) ≡ carry r' v' (onward s nx cs f z)

pub record Does (save : ℕ → Save) (nx : Option ℕ) (x : Command) (ls : List ℕ) (s : ℕ) (vs : List ℤ) (rs : List ℕ) (f : code.Option Exit) (vs' xs' : List ℤ) (rs' : List ℕ) : Type 0 where
  pub kept : KeptParts ls s vs vs'
  pub each : (j : ℕ) → j < s → Flows (save (get_or ls j 0)) nx x (get_or rs j 0) (part variable_count (get_or ls j 0) vs) f (get_or xs' j (pos 0)) (get_or rs' j 0) (part variable_count (get_or ls j 0) vs')

-- go takes each lane out of the block by its exit
pub record Leaves (go : Save → List ℤ → Outcome) (save : ℕ → Save) (ls : List ℕ) (s : ℕ) (vs : List ℤ) (rs : List ℕ) (e : Exit) (vs' xs' : List ℤ) (rs' : List ℕ) : Type 0 where
  pub kept : KeptParts ls s vs vs'
  pub each : (j : ℕ) → j < s → carry (get_or rs j 0) (part variable_count (get_or ls j 0) vs) (go (save (get_or ls j 0))) ≡ carry (get_or rs' j 0) (part variable_count (get_or ls j 0) vs') (leave e (get_or xs' j (pos 0)))

-- ---- arrays by lane

-- 0 where the lane has ended, else the number of its block and 1; the answer; the count
abbrev pub state_of : ℕ → ℕ → ℕ → List ℤ → State
state_of zero a e v = ended (record { answer = a; variables = v; entered = e })
state_of (suc k) a e v = at k v e

abbrev pub state_in : List ℕ → List ℕ → List ℕ → List ℤ → ℕ → State
state_in ps qs es vs l = state_of (get_or ps l 0) (get_or qs l 0) (get_or es l 0) (part variable_count l vs)

-- lane j of the list has what f says
pub record Written (ls : List ℕ) (f : ℕ → ℕ) (s : ℕ) (xs xs' : List ℕ) : Type 0 where
  pub kept : Kept ls s xs xs'
  pub each : (j : ℕ) → j < s → get_or xs' (get_or ls j 0) 0 ≡ f j

-- the counts of the lanes can be raised
abbrev pub Countable : List ℕ → ℕ → List ℕ → Type 0
Countable ls s es = (j : ℕ) → j < s → get_or es (get_or ls j 0) 0 < 4294967295

pub record Settled (ls : List ℕ) (e : Exit) (xs : List ℤ) (rs : List ℕ) (s : ℕ) (ps qs es ps' qs' es' : List ℕ) : Type 0 where
  pub blocks : Written ls (λ j. (chosen e (get_or xs j (pos 0)) (get_or rs j 0)).word) s ps ps'
  pub answers : Written ls (λ j. (chosen e (get_or xs j (pos 0)) (get_or rs j 0)).answer) s qs qs'
  pub counts : Written ls (λ j. get_or es (get_or ls j 0) 0 + 1) s es es'

-- the lanes of the list step at block b, and no other changes
pub record Visited (save : ℕ → Save) (bs : List Block) (b : ℕ) (ls : List ℕ) (s : ℕ) (ps qs es : List ℕ) (vs : List ℤ) (ps' qs' es' : List ℕ) (vs' : List ℤ) : Type 0 where
  pub each : (j : ℕ) → j < s → state_in ps' qs' es' vs' (get_or ls j 0) ≡ moved (step bs (save (get_or ls j 0)) b (part variable_count (get_or ls j 0) vs)) (suc (get_or es (get_or ls j 0) 0))
  pub raised : (j : ℕ) → j < s → get_or es' (get_or ls j 0) 0 ≡ get_or es (get_or ls j 0) 0 + 1
  pub blocks : Kept ls s ps ps'
  pub answers : Kept ls s qs qs'
  pub counts : Kept ls s es es'
  pub variables : KeptParts ls s vs vs'
