-- What the walk leaves in the arrays that the call writes, as the definition has it. Assumes nothing.
use mathlib.Core.Path.{◌≡◌, refl, sym, ap, ◌∙◌}
use mathlib.Core.Logic.{◌⊎◌, inl, inr, ⊎_elim}
use mathlib.Core.List.{List, [], ◌∷◌, ◌++◌, map, append-nil}
use Prim.Native.Nat.{ℕ, zero, suc, ◌+◌, ◌*◌, ◌≤◌, ◌<◌}
use native.Mathlib.Decide.{dec_le}
use native.Mathlib.Omega.{arith}
use lib.ListN.{get_or, set, length, drop, length-set, length-map, take-append-drop, drop_of_length-le}
use lib.Seq.{sets, sets-eq, length-sets, get_or-set_same, get_or-set_other, ext_get_or, drop-drop}
use lib.IntN.{ℤ}
use Rattle.model.specs.Limits.{variable_count, lane_budget}
use Rattle.model.specs.Save.{Save}
use Rattle.model.specs.Sheet.{Sheet}
use Rattle.model.specs.Run.{Ran, run}
use Rattle.model.specs.Memory.{Memory, script_of}
use Rattle.model.specs.RecordCalls.{run_in}
use Rattle.expr.specs.Value.{reads}
use Rattle.runner.proofs.Rest.{run_rest}
use Rattle.shop.specs.Shapes.{sheet_of}
use Rattle.shop.specs.declared.Sheet as code
use Rattle.lanes_model.specs.Walk.{Walked, unless_refused, blocks_entered}
use Rattle.lanes_model.specs.Flat.{Left, part, saves_from, saves_in, joined, left_by, walk_in, walk_refusal_in}
use Rattle.lanes_model.proofs.Laws.Walks.{by_lanes, PassedIn, walk_passed_in, walk_in_lem}
use Rattle.lanes.specs.Alone.{Alone, one_walked}
use Rattle.lanes.specs.Calls.{left_of}
use Rattle.std.specs.Prelude.{Ok, Err}
use Rattle.model.specs.Refusals.{refusal_number}
use Rattle.model.specs.declared.Refusal.{Refusal}
use Rattle.model.specs.Refusals.{refuses}
use Rattle.lanes.specs.Walks.{rans_from, LanesWalked}
use Rattle.lanes.proofs.Saves.{save_whole}

-- ---- the first k elements of another list

firsts : List ℕ → ℕ → ℕ → List ℕ
firsts ys i zero = []
firsts ys i (suc k) = get_or ys i 0 ∷ firsts ys (suc i) k

sets_out : (ys : List ℕ) (i k : ℕ) (xs : List ℕ) (l : ℕ) → (l < i) ⊎ (i + k ≤ l) → get_or (sets xs i (firsts ys i k)) l 0 ≡ get_or xs l 0
unfolding firsts
sets_out ys i zero xs l h = refl
sets_out ys i (suc k) xs l h =
    sets_out ys (suc i) k (set xs i (get_or ys i 0)) l (⊎_elim (λ a. inl (omega arith)) (λ a. inr (omega arith)) h)
    ∙ get_or-set_other xs i l (get_or ys i 0) 0 (⊎_elim (λ a e. omega arith) (λ a e. omega arith) h)

sets_in : (ys : List ℕ) (i k : ℕ) (xs : List ℕ) (l : ℕ) → i ≤ l → l < i + k → l < length xs → get_or (sets xs i (firsts ys i k)) l 0 ≡ get_or ys l 0
unfolding firsts
sets_in ys i zero xs l a b c = absurd (omega arith)
sets_in ys i (suc k) xs l a b c = by (λ g. sets_in ys (suc i) k (set xs i (get_or ys i 0)) l g (omega arith) (rw length-set c)) (dec_le (suc i) l)
  where
    by : (suc i ≤ l → get_or (sets (set xs i (get_or ys i 0)) (suc i) (firsts ys (suc i) k)) l 0 ≡ get_or ys l 0) → Dec (suc i ≤ l) → get_or (sets (set xs i (get_or ys i 0)) (suc i) (firsts ys (suc i) k)) l 0 ≡ get_or ys l 0
    by f (yes p) = f p
    by f (no n) = let w : l ≡ i = omega arith in rw w (sets_out ys (suc i) k (set xs i (get_or ys i 0)) i (inl (omega arith)) ∙ get_or-set_same xs i (get_or ys i 0) 0 (rw w at c))

sets_first : (xs ys : List ℕ) (k : ℕ) → length ys ≡ length xs → ((l : ℕ) → k ≤ l → get_or ys l 0 ≡ get_or xs l 0) → ys ≡ sets xs 0 (firsts ys 0 k)
sets_first xs ys k e f = ext_get_or 0 ys (sets xs 0 (firsts ys 0 k)) (e ∙ sym (length-sets xs 0 (firsts ys 0 k))) (λ l h. by l h (dec_le k l))
  where
    by : (l : ℕ) → l < length ys → Dec (k ≤ l) → get_or ys l 0 ≡ get_or (sets xs 0 (firsts ys 0 k)) l 0
    by l h (yes p) = f l p ∙ sym (sets_out ys 0 k xs l (inr (omega arith)))
    by l h (no n) = sym (sets_in ys 0 k xs l (omega arith) (omega arith) (omega arith))

answers_first : (qs es : List ℕ) (vs : List ℤ) (i k : ℕ) → firsts qs i k ≡ map (λ (r : Ran). r.answer) (rans_from qs es vs i k)
unfolding firsts
answers_first qs es vs i zero = refl
answers_first qs es vs i (suc k) = ap (λ l. get_or qs i 0 ∷ l) (answers_first qs es vs (suc i) k)

counts_first : (qs es : List ℕ) (vs : List ℤ) (i k : ℕ) → firsts es i k ≡ map (λ (r : Ran). r.entered) (rans_from qs es vs i k)
unfolding firsts
counts_first qs es vs i zero = refl
counts_first qs es vs i (suc k) = ap (λ l. get_or es i 0 ∷ l) (counts_first qs es vs (suc i) k)

-- ---- the variables

joined_parts : (qs es : List ℕ) (vs : List ℤ) (i k : ℕ) → length vs ≡ (i + k) * variable_count → joined (map (λ (r : Ran). r.variables) (rans_from qs es vs i k)) ≡ drop (i * variable_count) vs
joined_parts qs es vs i zero e = sym (drop_of_length-le vs {i = i * variable_count} (omega arith))
joined_parts qs es vs i (suc k) e =
    let z : suc i * variable_count ≡ i * variable_count + variable_count = omega arith in
    ap (λ l. part variable_count i vs ++ l) (joined_parts qs es vs (suc i) k (omega arith) ∙ ap (λ n. drop n vs) z ∙ sym (drop-drop variable_count (i * variable_count) vs))
    ∙ take-append-drop variable_count (drop (i * variable_count) vs)

sets_whole : (vs vs' : List ℤ) → length vs' ≡ length vs → vs' ≡ sets vs 0 vs'
sets_whole vs vs' e =
    sym (sets-eq vs' vs 0 (omega arith) ∙ ap (λ r. vs' ++ r) (drop_of_length-le vs {i = 0 + length vs'} (omega arith)) ∙ append-nil vs')

-- ---- the call

refused_by : (h : Sheet) (m : Memory) (b k : ℕ) (f : Save) (qs es : List ℕ) (vs : List ℤ) (n : ℕ) → n ≡ walk_refusal_in h m b k f → (n ≡ 0 → ⊥)
    → ◌≡◌ {A = Left} (record { answer = n; read = 0; refusals = qs; counts = es; variables = vs }) (left_by (walk_in h m b k f) qs es vs)
unfolding walk_in
refused_by h m b k f qs es vs n e d = rw (← e) (go n d)
  where
    go : (n : ℕ) → (n ≡ 0 → ⊥) → ◌≡◌ {A = Left} (record { answer = n; read = 0; refusals = qs; counts = es; variables = vs }) (left_by (unless_refused n (map (λ s. run_in h m b s lane_budget) (saves_in h k f)) (blocks_entered (script_of m).blocks b (saves_in h k f))) qs es vs)
    go zero d = absurd (d refl)
    go (suc n) d = refl

pub left_refused : (h : Sheet) (m : Memory) (b k : ℕ) (f : Save) (qs es : List ℕ) (vs : List ℤ) (e : Refusal) → refusal_number e ≡ walk_refusal_in h m b k f
    → left_of (Err e) qs es vs ≡ left_by (walk_in h m b k f) qs es vs
left_refused h m b k f qs es vs e p = refused_by h m b k f qs es vs (refusal_number e) p (refuses e)

saves_of : (ks : List ℕ) (s : code.Sheet) (k : ℕ) (f : Save) → saves_from (length ks) s.atcs f 0 k ≡ saves_in (sheet_of ks s) k f
unfolding sheet_of
saves_of ks s k f = rw length-map

pub left_walked : (ks : List ℕ) (s : code.Sheet) (m : Memory) (b k : ℕ) (f : Save) (qs es : List ℕ) (r : ℕ) (qs' es' : List ℕ) (vs' : List ℤ) → walk_refusal_in (sheet_of ks s) m b k f ≡ 0
    → length f.variables ≡ k * variable_count → LanesWalked (script_of m).blocks b (length ks) s.atcs f k qs es r qs' es' vs'
    → left_of (Ok r) qs' es' vs' ≡ left_by (walk_in (sheet_of ks s) m b k f) qs es f.variables
left_walked ks s m b k f qs es r qs' es' vs' e l w =
    whole
    ∙ ap (λ z. left_by z qs es f.variables) (walked ∙ ap (by_lanes (script_of m).blocks b) (saves_of ks s k f) ∙ sym (walk_in_lem (sheet_of ks s) m b k f e))
  where
    lanes : Walked
    lanes = record { answer = 0; runs = rans_from qs' es' vs' 0 k; read = r }

    walked : lanes ≡ by_lanes (script_of m).blocks b (saves_from (length ks) s.atcs f 0 k)
    walked = λ i. record { answer = 0; runs = w.runs i; read = w.read i }

    long : length vs' ≡ (0 + k) * variable_count
    long = let a = w.long in let z : 0 + k ≡ k = omega arith in rw z (a ∙ l)

    variables : vs' ≡ sets f.variables 0 (joined (map (λ (x : Ran). x.variables) (rans_from qs' es' vs' 0 k)))
    variables = sets_whole f.variables vs' w.long ∙ ap (sets f.variables 0) (sym (joined_parts qs' es' vs' 0 k long))

    whole : left_of (Ok r) qs' es' vs' ≡ left_by lanes qs es f.variables
    whole = λ i. record {
      answer = 0;
      read = r;
      refusals = (sets_first qs qs' k w.long_answers w.rest_answers ∙ ap (sets qs 0) (answers_first qs' es' vs' 0 k)) i;
      counts = (sets_first es es' k w.long_counts w.rest_counts ∙ ap (sets es 0) (counts_first qs' es' vs' 0 k)) i;
      variables = variables i;
    }

left_alone : (ks : List ℕ) (s : code.Sheet) (m : Memory) (b : ℕ) (f : Save) (qs es : List ℕ) (r : ℕ) (qs' es' : List ℕ) (vs' : List ℤ) → walk_refusal_in (sheet_of ks s) m b 1 f ≡ 0
    → Alone (run (script_of m).blocks (reads f.items f.atcs f.flags f.times) lane_budget b f.variables) qs es f.variables r qs' es' vs'
    → left_of (Ok r) qs' es' vs' ≡ left_by (walk_in (sheet_of ks s) m b 1 f) qs es f.variables
left_alone ks s m b f qs es r qs' es' vs' e w =
    whole
    ∙ ap (λ z. left_by z qs es f.variables) (sym (walk_in_lem (sheet_of ks s) m b 1 f e ∙ ap (by_lanes (script_of m).blocks b) (sym (saves_of ks s 1 f) ∙ ap (λ x. x ∷ []) (save_whole ks s f p.lengths)) ∙ one_walked (script_of m) b p.judged p.here p.falling f))
  where
    p : PassedIn (sheet_of ks s) m b 1 f
    p = walk_passed_in (sheet_of ks s) m b 1 f e

    same : run (script_of m).blocks (reads f.items f.atcs f.flags f.times) lane_budget b f.variables ≡ run (script_of m).blocks f lane_budget b f.variables
    same = sym (run_rest f (script_of m).blocks lane_budget b f.variables)

    left : vs' ≡ (run (script_of m).blocks f lane_budget b f.variables).variables
    left = w.variables ∙ ap (λ (x : Ran). x.variables) same

    whole : left_of (Ok r) qs' es' vs'
        ≡ left_by (record { answer = 0; runs = run (script_of m).blocks f lane_budget b f.variables ∷ []; read = (run (script_of m).blocks f lane_budget b f.variables).entered }) qs es f.variables
    whole = λ i. record {
      answer = 0;
      read = (w.read ∙ ap (λ (x : Ran). x.entered) same) i;
      refusals = (w.answers ∙ ap (λ (x : Ran). set qs 0 x.answer) same) i;
      counts = (w.counts ∙ ap (λ (x : Ran). set es 0 x.entered) same) i;
      variables = (sets_whole f.variables vs' w.long ∙ ap (sets f.variables 0) (left ∙ sym (append-nil _))) i;
    }

pub left_one : (ks : List ℕ) (s : code.Sheet) (m : Memory) (b k : ℕ) (f : Save) (qs es : List ℕ) (r : ℕ) (qs' es' : List ℕ) (vs' : List ℤ) → k ≡ 1 → walk_refusal_in (sheet_of ks s) m b k f ≡ 0
    → Alone (run (script_of m).blocks (reads f.items f.atcs f.flags f.times) lane_budget b f.variables) qs es f.variables r qs' es' vs'
    → left_of (Ok r) qs' es' vs' ≡ left_by (walk_in (sheet_of ks s) m b k f) qs es f.variables
left_one ks s m b k f qs es r qs' es' vs' q e w = rw q (left_alone ks s m b f qs es r qs' es' vs' (rw q at e) w)
