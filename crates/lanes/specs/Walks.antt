-- The loop over the blocks where lanes stand is the walk of the definition. Assumes nothing.
use Rattle.std.specs.Prelude.{◌≡◌, refl, Bool, true, false, cond, ◌||◌, List, [], ◌∷◌, map, ℕ, zero, suc, ◌+◌, ◌-◌, ◌≤◌, ◌<◌, get_or, length, ℤ}
use Rattle.std.proofs.Math.Path.{sym, ap}
use Rattle.std.proofs.Common.{◌∙◌, ⊎_elim, arith, add-one, zero-add, eq-eqb, ne_eqb}
use Rattle.std.proofs.Math.Nat.{add-zero}
use Rattle.std.proofs.Math.Decide.{dec_le, ℕ_discrete}
use Rattle.model.specs.Limits.{block_limit, variable_count, most_saves}
use Rattle.model.specs.Refusal.{budget_spent}
use Rattle.model.specs.Save.{Save}
use Rattle.model.specs.Script.{Block}
use Rattle.model.specs.Run.{Ran, step}
use Rattle.model.specs.Memory.{Memory, script_of}
use Rattle.memory.specs.RecordLaws.{length_blocks_in}
use Rattle.lanes_model.specs.Flat.{part, save_in, saves_from}
use Rattle.lanes_model.specs.Lanes.{State, at, Lane, moved, is_at, step_state, step_lane, any_at, Walk, one_read, walk, start_lane, walk_all, ran_of}
use Rattle.lanes_expr.specs.Lanes.{Lies}
use Rattle.lanes_expr.specs.Each.{Each}
use Rattle.lanes_block.specs.Ways.{Absent, Visited, state_of, state_in}
use Rattle.lanes.specs.Standing.{Gathered, Highest}

pub script_length : (m : Memory) → m.count ≡ length (script_of m).blocks
unfolding script_of
script_length m = sym (length_blocks_in m m.count 0)

-- ---- the lanes as the definition has them

abbrev pub lanes_from : (ℕ → Save) → (ℕ → State) → ℕ → ℕ → List Lane
lanes_from save state i zero = []
lanes_from save state i (suc k) = record { save = save i; state = state i } ∷ lanes_from save state (suc i) k

-- the parts of the first k lanes lie in the lists
pub record Lying (n m : ℕ) (f : Save) (vs : List ℤ) (k : ℕ) : Type 0 where
  pub few : k ≤ most_saves
  pub lie : (l : ℕ) → l < k → Lies n m f vs l

-- the first k counts are at most c
abbrev pub CountsTo : ℕ → ℕ → List ℕ → Type 0
CountsTo k c es = (l : ℕ) → l < k → get_or es l 0 ≤ c

pub lying_still : {n m : ℕ} {f : Save} {vs vs' : List ℤ} {k : ℕ} → Lying n m f vs k → length vs' ≡ length vs → Lying n m f vs' k
lying_still p e = record { few = p.few; lie = λ l h. let q = p.lie l h in record { items = q.items; atcs = q.atcs; flags = q.flags; times = q.times; variables = let a = q.variables in omega arith } }

-- each of the first k lanes stepped if it stood at block b
pub record Stepped (save : ℕ → Save) (bs : List Block) (b k : ℕ) (ps qs es : List ℕ) (vs : List ℤ) (ps' qs' es' : List ℕ) (vs' : List ℤ) : Type 0 where
  pub each : (l : ℕ) → l < k → state_in ps' qs' es' vs' l ≡ step_state bs b (save l) (state_in ps qs es vs l)
  pub counts : (l : ℕ) → l < k → get_or es' l 0 ≤ get_or es l 0 + 1
  pub rest_answers : (l : ℕ) → k ≤ l → get_or qs' l 0 ≡ get_or qs l 0
  pub rest_counts : (l : ℕ) → k ≤ l → get_or es' l 0 ≡ get_or es l 0
  pub long_answers : length qs' ≡ length qs
  pub long_counts : length es' ≡ length es
  pub long : length vs' ≡ length vs

stand_step : (bs : List Block) (b : ℕ) (s : Save) (p a e : ℕ) (v : List ℤ) → p ≡ b + 1 → step_state bs b s (state_of p a e v) ≡ moved (step bs s b v) (suc e)
stand_step bs b s p a e v q = rw (q, add-one b, eq-eqb b b refl)

away_step : (bs : List Block) (b : ℕ) (s : Save) (p a e : ℕ) (v : List ℤ) → (p ≡ b + 1 → ⊥) → step_state bs b s (state_of p a e v) ≡ state_of p a e v
away_step bs b s zero a e v n = refl
away_step bs b s (suc k) a e v n = rw (ne_eqb k b (λ q. n (omega arith)))

pub stepped : {save save' : ℕ → Save} {bs : List Block} {b k : ℕ} {ls : List ℕ} {s : ℕ} {ps qs es ps' qs' es' : List ℕ} {vs vs' : List ℤ}
    → ((l : ℕ) (v : List ℤ) → step bs (save' l) b v ≡ step bs (save l) b v) → Gathered ps k (b + 1) ls s → Visited save bs b ls s ps qs es vs ps' qs' es' vs' → Stepped save' bs b k ps qs es vs ps' qs' es' vs'
stepped {save} {save'} {bs} {b} {k} {ls} {s} {ps} {qs} {es} {ps'} {qs'} {es'} {vs} {vs'} f g w = record {
  each = λ l h. by l h (ℕ_discrete (get_or ps l 0) (b + 1));
  counts = λ l h. count l h (ℕ_discrete (get_or ps l 0) (b + 1));
  rest_answers = λ l h. w.answers.others l (past l h);
  rest_counts = λ l h. w.counts.others l (past l h);
  long_answers = w.answers.long;
  long_counts = w.counts.long;
  long = w.variables.long;
}
  where
    past : (l : ℕ) → k ≤ l → Absent ls s l
    past l h j q e = let a = g.low j q in omega arith

    away : (l : ℕ) → (get_or ps l 0 ≡ b + 1 → ⊥) → Absent ls s l
    away l n j q e = n (ap (λ i. get_or ps i 0) (sym e) ∙ g.here j q)

    by : (l : ℕ) → l < k → Dec (get_or ps l 0 ≡ b + 1) → state_in ps' qs' es' vs' l ≡ step_state bs b (save' l) (state_in ps qs es vs l)
    by l h (yes p) =
        let a = g.all l h p in
        let q = w.each a.0 a.1 in
        (rw a.2 at q) ∙ ap (λ o. moved o (suc (get_or es l 0))) (sym (f l (part variable_count l vs))) ∙ sym (stand_step bs b (save' l) (get_or ps l 0) (get_or qs l 0) (get_or es l 0) (part variable_count l vs) p)
    by l h (no n) =
        let x = away l n in
        rw (w.blocks.others l x, w.answers.others l x, w.counts.others l x, w.variables.others l x) (sym (away_step bs b (save' l) (get_or ps l 0) (get_or qs l 0) (get_or es l 0) (part variable_count l vs) n))

    count : (l : ℕ) → l < k → Dec (get_or ps l 0 ≡ b + 1) → get_or es' l 0 ≤ get_or es l 0 + 1
    count l h (yes p) = let a = g.all l h p in let q = w.raised a.0 a.1 in let z = rw a.2 at q in omega arith
    count l h (no n) = let z = w.counts.others l (away l n) in omega arith

-- ---- the lists of lanes

lanes_stepped : {save : ℕ → Save} {bs : List Block} {b n : ℕ} {ps qs es ps' qs' es' : List ℕ} {vs vs' : List ℤ} → Stepped save bs b n ps qs es vs ps' qs' es' vs'
    → (i k : ℕ) → i + k ≤ n → lanes_from save (state_in ps' qs' es' vs') i k ≡ map (step_lane bs b) (lanes_from save (state_in ps qs es vs) i k)
lanes_stepped a i zero l = refl
lanes_stepped {save} {bs} {b} {n} {ps} {qs} {es} {ps'} {qs'} {es'} {vs} {vs'} a i (suc k) l =
    rw (a.each i (omega arith), lanes_stepped a (suc i) k (omega arith))

-- where a lane stands, and where none does
any_here : (b : ℕ) (save : ℕ → Save) (state : ℕ → State) (i k j : ℕ) → i ≤ j → j < i + k → is_at b (state j) ≡ true → any_at b (lanes_from save state i k) ≡ true
any_here b save state i zero j h g e = absurd (omega arith)
any_here b save state i (suc k) j h g e = by (λ p. any_here b save state (suc i) k j p (omega arith) e) (is_at b (state i)) refl (dec_le (suc i) j)
  where
    by : (suc i ≤ j → any_at b (lanes_from save state (suc i) k) ≡ true) → (t : Bool) → is_at b (state i) ≡ t → Dec (suc i ≤ j) → t || any_at b (lanes_from save state (suc i) k) ≡ true
    by f true q d = refl
    by f false q (yes p) = f p
    by f false q (no n) = let w : i ≡ j = omega arith in absurd (let z : true ≡ false = sym e ∙ ap (λ l. is_at b (state l)) (sym w) ∙ q in let y : ◌≡◌ {A = ℕ} 0 1 = ap (λ t. cond t 0 1) z in omega arith)

any_none : (b : ℕ) (save : ℕ → Save) (state : ℕ → State) (i k : ℕ) → ((j : ℕ) → i ≤ j → j < i + k → is_at b (state j) ≡ false) → any_at b (lanes_from save state i k) ≡ false
any_none b save state i zero f = refl
any_none b save state i (suc k) f = rw (f i (omega arith) (omega arith), any_none b save state (suc i) k (λ j h g. f j (omega arith) (omega arith)))

at_word : (b p a e : ℕ) (v : List ℤ) → p ≡ b + 1 → is_at b (state_of p a e v) ≡ true
at_word b p a e v q = rw (q, add-one b) (eq-eqb b b refl)

not_at_word : (b p a e : ℕ) (v : List ℤ) → (p ≡ b + 1 → ⊥) → is_at b (state_of p a e v) ≡ false
not_at_word b zero a e v n = refl
not_at_word b (suc k) a e v n = ne_eqb k b (λ q. n (omega arith))

-- ---- the walk

module _ (bs : List Block) (ls : List Lane) where
  walk_skip : (n : ℕ) → any_at n ls ≡ false → walk bs (suc n) ls ≡ walk bs n ls
  unfolding walk
  walk_skip n e = rw e

  -- blocks where no lane stands are passed
  walk_down : (d r : ℕ) → ((b : ℕ) → r ≤ b → b < d + r → any_at b ls ≡ false) → walk bs (d + r) ls ≡ walk bs r ls
  walk_down zero r f = ap (λ n. walk bs n ls) (zero-add r)
  walk_down (suc d) r f = let e : suc d + r ≡ suc (d + r) = omega arith in ap (λ n. walk bs n ls) e ∙ walk_skip (d + r) (f (d + r) (omega arith) (omega arith)) ∙ walk_down d r (λ b h g. f b h (omega arith))

  walk_read : (n : ℕ) → any_at n ls ≡ true → walk bs (suc n) ls ≡ one_read true (walk bs n (map (step_lane bs n) ls))
  unfolding walk
  walk_read n e = rw e

-- read blocks were read, from the highest down to top
pub record Walking (save : ℕ → Save) (bs : List Block) (n k : ℕ) (ps₀ qs₀ es₀ : List ℕ) (vs₀ : List ℤ) (top read : ℕ) (ps qs es : List ℕ) (vs : List ℤ) : Type 0 where
  pub low : read + top ≤ n
  pub lanes : (walk bs n (lanes_from save (state_in ps₀ qs₀ es₀ vs₀) 0 k)).lanes ≡ (walk bs top (lanes_from save (state_in ps qs es vs) 0 k)).lanes
  pub reads : (walk bs n (lanes_from save (state_in ps₀ qs₀ es₀ vs₀) 0 k)).read ≡ read + (walk bs top (lanes_from save (state_in ps qs es vs) 0 k)).read
  pub counts : (l : ℕ) → l < k → get_or es l 0 ≤ get_or es₀ l 0 + read
  pub rest_answers : (l : ℕ) → k ≤ l → get_or qs l 0 ≡ get_or qs₀ l 0
  pub rest_counts : (l : ℕ) → k ≤ l → get_or es l 0 ≡ get_or es₀ l 0
  pub long_answers : length qs ≡ length qs₀
  pub long_counts : length es ≡ length es₀
  pub long : length vs ≡ length vs₀

module _ (save : ℕ → Save) (bs : List Block) (n k : ℕ) (ps₀ qs₀ es₀ : List ℕ) (vs₀ : List ℤ) where
  module _ {top read : ℕ} {ps qs es : List ℕ} {vs : List ℤ} (p : Walking save bs n k ps₀ qs₀ es₀ vs₀ top read ps qs es vs) where
    module _ (word : ℕ) (h : Highest ps top k word) where
      none_between : (b : ℕ) → word ≤ b → b < top → any_at b (lanes_from save (state_in ps qs es vs) 0 k) ≡ false
      none_between b g l = any_none b save (state_in ps qs es vs) 0 k (λ j q t. not_at_word b (get_or ps j 0) (get_or qs j 0) (get_or es j 0) (part variable_count j vs) (λ e. let a = h.most j (omega arith) (omega arith) in omega arith))

      down_to : walk bs top (lanes_from save (state_in ps qs es vs) 0 k) ≡ walk bs word (lanes_from save (state_in ps qs es vs) 0 k)
      down_to =
          let low = h.low in
          let d : ℕ = top - word in
          let e : top ≡ d + word = omega arith in
          ap (λ m. walk bs m (lanes_from save (state_in ps qs es vs) 0 k)) e ∙ walk_down bs (lanes_from save (state_in ps qs es vs) 0 k) d word (λ b g l. none_between b g (omega arith))

      here : (word ≡ 0 → ⊥) → any_at (word - 1) (lanes_from save (state_in ps qs es vs) 0 k) ≡ true
      here z = ⊎_elim (λ e. absurd (z e)) (λ w. any_here (word - 1) save (state_in ps qs es vs) 0 k w.0 (omega arith) (let a = w.1 in omega arith) (at_word (word - 1) (get_or ps w.0 0) (get_or qs w.0 0) (get_or es w.0 0) (part variable_count w.0 vs) (w.2 ∙ (let y : word ≡ word - 1 + 1 = omega arith in y)))) h.is

      module _ (z : word ≡ 0 → ⊥) {ps' qs' es' : List ℕ} {vs' : List ℤ} (q : Stepped save bs (word - 1) k ps qs es vs ps' qs' es' vs') where
        read_one : walk bs top (lanes_from save (state_in ps qs es vs) 0 k) ≡ one_read true (walk bs (word - 1) (lanes_from save (state_in ps' qs' es' vs') 0 k))
        read_one =
            let e : word ≡ suc (word - 1) = omega arith in
            down_to
            ∙ ap (λ m. walk bs m (lanes_from save (state_in ps qs es vs) 0 k)) e
            ∙ walk_read bs (lanes_from save (state_in ps qs es vs) 0 k) (word - 1) (here z)
            ∙ ap (λ ls. one_read true (walk bs (word - 1) ls)) (sym (lanes_stepped q 0 k (omega arith)))

        pub walking_on : Walking save bs n k ps₀ qs₀ es₀ vs₀ (word - 1) (read + 1) ps' qs' es' vs'
        walking_on = record {
          low = let a = p.low in let b = h.low in omega arith;
          lanes = p.lanes ∙ ap (λ (w : Walk). w.lanes) read_one;
          reads = p.reads ∙ ap (λ (w : Walk). read + w.read) read_one ∙ omega arith;
          counts = λ l t. let a = q.counts l t in let b = p.counts l t in omega arith;
          rest_answers = λ l t. q.rest_answers l t ∙ p.rest_answers l t;
          rest_counts = λ l t. q.rest_counts l t ∙ p.rest_counts l t;
          long_answers = q.long_answers ∙ p.long_answers;
          long_counts = q.long_counts ∙ p.long_counts;
          long = q.long ∙ p.long;
        }

      pub walked_lanes : word ≡ 0 → lanes_from save (state_in ps qs es vs) 0 k ≡ (walk bs n (lanes_from save (state_in ps₀ qs₀ es₀ vs₀) 0 k)).lanes
      unfolding walk
      walked_lanes z = sym (p.lanes ∙ ap (λ (w : Walk). w.lanes) (down_to ∙ ap (λ m. walk bs m (lanes_from save (state_in ps qs es vs) 0 k)) z))

      pub walked_reads : word ≡ 0 → read ≡ (walk bs n (lanes_from save (state_in ps₀ qs₀ es₀ vs₀) 0 k)).read
      unfolding walk
      walked_reads z = sym (p.reads ∙ ap (λ (w : Walk). read + w.read) (down_to ∙ ap (λ m. walk bs m (lanes_from save (state_in ps qs es vs) 0 k)) z) ∙ add-zero read)

pub walking_counts : {save : ℕ → Save} {bs : List Block} {n k : ℕ} {ps₀ qs₀ es₀ : List ℕ} {vs₀ : List ℤ} {top read : ℕ} {ps qs es : List ℕ} {vs : List ℤ}
    → Walking save bs n k ps₀ qs₀ es₀ vs₀ top read ps qs es vs → CountsTo k 1 es₀ → n ≤ block_limit → CountsTo k 4294967294 es
walking_counts p c h l q = let a = p.counts l q in let b = c l q in let d = p.low in omega arith

-- ---- the whole walk

-- r blocks were read, from block number n down
pub record Down (save : ℕ → Save) (bs : List Block) (n k : ℕ) (ps qs es : List ℕ) (vs : List ℤ) (r : ℕ) (ps' qs' es' : List ℕ) (vs' : List ℤ) : Type 0 where
  pub few : r ≤ n
  pub lanes : lanes_from save (state_in ps' qs' es' vs') 0 k ≡ (walk bs n (lanes_from save (state_in ps qs es vs) 0 k)).lanes
  pub read : r ≡ (walk bs n (lanes_from save (state_in ps qs es vs) 0 k)).read
  pub rest_answers : (l : ℕ) → k ≤ l → get_or qs' l 0 ≡ get_or qs l 0
  pub rest_counts : (l : ℕ) → k ≤ l → get_or es' l 0 ≡ get_or es l 0
  pub long_answers : length qs' ≡ length qs
  pub long_counts : length es' ≡ length es
  pub long : length vs' ≡ length vs

pub walked_down : (save : ℕ → Save) (bs : List Block) (n k : ℕ) (ps₀ qs₀ es₀ : List ℕ) (vs₀ : List ℤ) {top read word : ℕ} {ps qs es : List ℕ} {vs : List ℤ}
    → Walking save bs n k ps₀ qs₀ es₀ vs₀ top read ps qs es vs → Highest ps top k word → word ≡ 0 → Down save bs n k ps₀ qs₀ es₀ vs₀ read ps qs es vs
walked_down save bs n k ps₀ qs₀ es₀ vs₀ {top} {read} {word} p h z = record {
  few = let a = p.low in omega arith;
  lanes = walked_lanes save bs n k ps₀ qs₀ es₀ vs₀ p word h z;
  read = walked_reads save bs n k ps₀ qs₀ es₀ vs₀ p word h z;
  rest_answers = p.rest_answers;
  rest_counts = p.rest_counts;
  long_answers = p.long_answers;
  long_counts = p.long_counts;
  long = p.long;
}

-- the first k lanes stand at a word and have entered nothing
pub record Begun (k word : ℕ) (ps es ps' es' : List ℕ) : Type 0 where
  pub blocks : Each 0 (λ _ _. word) k ps ps'
  pub counts : Each 0 (λ _ _. 0) k es es'

abbrev pub last_answer : ℕ → ℕ → ℕ
last_answer zero a = a
last_answer (suc p) a = budget_spent

pub stepped_counts : {ps es ps' es' : List ℕ} {k word : ℕ} → Begun k word ps es ps' es' → {save : ℕ → Save} {bs : List Block} {b : ℕ} {qs : List ℕ} {vs : List ℤ} {ps'' qs'' es'' : List ℕ} {vs'' : List ℤ}
    → Stepped save bs b k ps' qs es' vs ps'' qs'' es'' vs'' → CountsTo k 1 es''
stepped_counts g s l h = let a = g.counts.done l h in let b = s.counts l h in omega arith

-- what the first lanes answer, from lane i on
abbrev pub rans_from : List ℕ → List ℕ → List ℤ → ℕ → ℕ → List Ran
rans_from qs es vs i zero = []
rans_from qs es vs i (suc k) = record { answer = get_or qs i 0; variables = part variable_count i vs; entered = get_or es i 0 } ∷ rans_from qs es vs (suc i) k

-- the walk of k saves, from the setup block on
pub record LanesWalked (bs : List Block) (b n m : ℕ) (f : Save) (k : ℕ) (qs es : List ℕ) (r : ℕ) (qs' es' : List ℕ) (vs' : List ℤ) : Type 0 where
  pub runs : rans_from qs' es' vs' 0 k ≡ map (λ l. ran_of l.state) (walk_all bs b (saves_from n m f 0 k)).lanes
  pub read : r ≡ (walk_all bs b (saves_from n m f 0 k)).read
  pub rest_answers : (l : ℕ) → k ≤ l → get_or qs' l 0 ≡ get_or qs l 0
  pub rest_counts : (l : ℕ) → k ≤ l → get_or es' l 0 ≡ get_or es l 0
  pub long_answers : length qs' ≡ length qs
  pub long_counts : length es' ≡ length es
  pub long : length vs' ≡ length f.variables

-- the lanes at the start, at word b + 1
start_lanes : (bs : List Block) (b n m : ℕ) (f : Save) (state : ℕ → State) (top : ℕ) → ((l : ℕ) → l < top → state l ≡ moved (step bs (save_in n m f l) b (part variable_count l f.variables)) 1)
    → (i k : ℕ) → i + k ≤ top → map (start_lane bs b) (saves_from n m f i k) ≡ lanes_from (save_in n m f) state i k
start_lanes bs b n m f state top e i zero h = refl
start_lanes bs b n m f state top e i (suc k) h = rw (e i (omega arith), start_lanes bs b n m f state top e (suc i) k (omega arith))

ran_last : (p a e : ℕ) (v : List ℤ) → ◌≡◌ {A = Ran} (record { answer = last_answer p a; variables = v; entered = e }) (ran_of (state_of p a e v))
ran_last zero a e v = refl
ran_last (suc p) a e v = refl

rans_lanes : (save : ℕ → Save) (ps qs es qs' : List ℕ) (vs : List ℤ) (top : ℕ) → ((l : ℕ) → l < top → get_or qs' l 0 ≡ last_answer (get_or ps l 0) (get_or qs l 0))
    → (i k : ℕ) → i + k ≤ top → rans_from qs' es vs i k ≡ map (λ l. ran_of l.state) (lanes_from save (state_in ps qs es vs) i k)
rans_lanes save ps qs es qs' vs top e i zero h = refl
rans_lanes save ps qs es qs' vs top e i (suc k) h =
    rw (e i (omega arith), ran_last (get_or ps i 0) (get_or qs i 0) (get_or es i 0) (part variable_count i vs), rans_lanes save ps qs es qs' vs top e (suc i) k (omega arith))

pub lanes_walked : {bs : List Block} {b n m : ℕ} {f : Save} {k : ℕ} {ps₀ ps₁ ps₂ ps₃ qs qs₂ qs₃ qs' es es₁ es₂ es' : List ℕ} {vs₂ vs' : List ℤ} {r : ℕ}
    → Begun k (b + 1) ps₀ es ps₁ es₁ → Stepped (save_in n m f) bs (b + 1 - 1) k ps₁ qs es₁ f.variables ps₂ qs₂ es₂ vs₂ → {top : ℕ} → top ≡ length bs → Down (save_in n m f) bs top k ps₂ qs₂ es₂ vs₂ r ps₃ qs₃ es' vs'
    → Each 0 (λ l a. last_answer (get_or ps₃ l 0) a) k qs₃ qs' → LanesWalked bs b n m f k qs es (r + 1) qs' es' vs'
unfolding walk_all
lanes_walked {bs} {b} {n} {m} {f} {k} {ps₀} {ps₁} {ps₂} {ps₃} {qs} {qs₂} {qs₃} {qs'} {es} {es₁} {es₂} {es'} {vs₂} {vs'} {r} g s {top} q d z = record {
  runs = rans_lanes (save_in n m f) ps₃ qs₃ es' qs' vs' k z.done 0 k (omega arith) ∙ ap (map (λ l. ran_of l.state)) (d.lanes ∙ ap (λ ls. (walk bs top ls).lanes) (sym starts) ∙ ap (λ c. (walk bs c (map (start_lane bs b) (saves_from n m f 0 k))).lanes) q);
  read = add-one r ∙ ap suc (d.read ∙ ap (λ ls. (walk bs top ls).read) (sym starts) ∙ ap (λ c. (walk bs c (map (start_lane bs b) (saves_from n m f 0 k))).read) q);
  rest_answers = λ l h. z.rest l h ∙ d.rest_answers l h ∙ s.rest_answers l h;
  rest_counts = λ l h. d.rest_counts l h ∙ s.rest_counts l h ∙ g.counts.rest l h;
  long_answers = z.long ∙ d.long_answers ∙ s.long_answers;
  long_counts = d.long_counts ∙ s.long_counts ∙ g.counts.long;
  long = d.long ∙ s.long;
}
  where
    begun : (l : ℕ) → l < k → state_in ps₁ qs es₁ f.variables l ≡ at b (part variable_count l f.variables) 0
    begun l h = rw (g.blocks.done l h, g.counts.done l h, add-one b)

    first : (l : ℕ) → l < k → state_in ps₂ qs₂ es₂ vs₂ l ≡ moved (step bs (save_in n m f l) b (part variable_count l f.variables)) 1
    first l h = let e : b + 1 - 1 ≡ b = omega arith in (rw e at (s.each l h)) ∙ ap (step_state bs b (save_in n m f l)) (begun l h) ∙ rw (eq-eqb b b refl)

    starts : map (start_lane bs b) (saves_from n m f 0 k) ≡ lanes_from (save_in n m f) (state_in ps₂ qs₂ es₂ vs₂) 0 k
    starts = start_lanes bs b n m f (state_in ps₂ qs₂ es₂ vs₂) k first 0 k (omega arith)
