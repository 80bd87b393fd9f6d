-- A slot by its shape, the list of slots, and the run. Assumes nothing.
use Rattle.std.specs.Prelude.{◌≡◌, Bool, not, cond, ◌&&◌, ltb, leb, eqb, ℤ, pos, negsuc, ◌-ℤ◌}
use Rattle.std.proofs.Math.Path.{refl, ap}
use Rattle.std.proofs.Common.{sym, ◌∙◌, true≢false, arith, zero-add, suc-add, length-set, lt-ltb, ltb-false, eqb-true, ne_eqb}
use Rattle.std.proofs.Math.Bool.{true, false, and-true}
use Rattle.std.proofs.Math.Option.{Option, none, some}
use mathlib.Core.List.{List, [], ◌∷◌, ◌++◌}
use Prim.Native.Nat.{ℕ, zero, suc, ◌-◌, ◌+◌, ◌*◌, ◌<◌, ◌≤◌}
use Rattle.std.proofs.Math.ListN.{length}
use Rattle.std.specs.Int.Signed.{mag}
use Rattle.model.specs.Signed.{b2z, eq_z, is_zero}
use Rattle.model.specs.Save.{Save}
use Rattle.model.specs.Refusal.{check, no_flag}
use Rattle.model.specs.Expr.{Expr, Joins, size, stop}
use Rattle.model.specs.Sheet.{Sheet, all, atc_for}
use Rattle.model.specs.Requirement.{Requirement, before, haveAtc, haveFlag, haveItem, insert, kind, missingAtc, missingFlag, missingItem, number, same_req, sorted}
use Rattle.model.specs.Shop.{Slot, Timer, atc_limit, between, fifteen, five, limit_of, plain, ten, timer_of}
use Rattle.model.specs.Flags.{flag_answer, inside_for, req_inside, shop_inside, slot_inside, until_outside}
use Rattle.model.specs.Script.{Block}
use Rattle.model.specs.Compile.{blocks_for, enable_blocks, filled_blocks, if_block, last_of, limit_blocks, no_timer_expr, slot_blocks, slots_blocks, unique_blocks}
use Rattle.model.specs.Run.{Outcome, done, halt, one_more, run_by}
use Rattle.model.specs.Meaning.{Meaning, acquired, all_hold, filled_meaning, held, holds, is_held, limit_meaning, meaning_for, meaning_of, no_timer_held, unique_meaning, at_rate}
use Rattle.model.proofs.Laws.Checks.{and_left, and_right}
use Rattle.model.proofs.Laws.Eval.{ComesTo, OnBits, Worth, eval_acquired, eval_missing, eval_missing_and, eval_reqs, tested}
use Rattle.model.proofs.Laws.SlotRuns.{After, Fits, Goes, Reach, Stands, Steps, at, does_pair, eval_remaining, go, here, once, stock_bare, stock_hid, unique_bare, unique_hid, weaken}
use Rattle.model.proofs.Laws.Writes.{write, writes, length_temp}

-- ---- sorting changes nothing about what is true of each requirement

of_kind : ℕ → ℤ → Requirement
of_kind zero z = haveItem (mag z)
of_kind (suc zero) z = missingItem (mag z)
of_kind (suc (suc zero)) z = haveAtc (mag z)
of_kind (suc (suc (suc zero))) z = missingAtc (mag z)
of_kind (suc (suc (suc (suc zero)))) z = haveFlag z
of_kind (suc (suc (suc (suc (suc n))))) z = missingFlag z

of_kind_is : (r : Requirement) → of_kind (kind r) (number r) ≡ r
unfolding of_kind
of_kind_is (haveItem n) = refl
of_kind_is (missingItem n) = refl
of_kind_is (haveAtc n) = refl
of_kind_is (missingAtc n) = refl
of_kind_is (haveFlag z) = refl
of_kind_is (missingFlag z) = refl

pub eq_z_true : (a b : ℤ) → eq_z a b ≡ true → a ≡ b
eq_z_true (pos a) (pos b) e = ap pos (eqb-true a b e)
eq_z_true (pos a) (negsuc b) e = cc
eq_z_true (negsuc a) (pos b) e = cc
eq_z_true (negsuc a) (negsuc b) e = ap negsuc (eqb-true a b e)

pub same_req_true : (a b : Requirement) → same_req a b ≡ true → a ≡ b
same_req_true a b e =
    let k : kind a ≡ kind b = eqb-true (kind a) (kind b) (and_left _ _ e) in
    let z : number a ≡ number b = eq_z_true (number a) (number b) (and_right (eqb (kind a) (kind b)) _ e) in
    sym (of_kind_is a) ∙ rw (k, z) (of_kind_is b)

and_idem : (a b : Bool) → a && b ≡ a && (a && b)
and_idem true b = refl
and_idem false b = refl

pub and_swap : (a b c : Bool) → a && (b && c) ≡ b && (a && c)
and_swap true true c = refl
and_swap true false c = refl
and_swap false true c = refl
and_swap false false c = refl

insert_all : (p : Requirement → Bool) (r : Requirement) (xs : List Requirement) → all p (insert r xs) ≡ p r && all p xs
unfolding insert
insert_all p r [] = refl
insert_all p r (x ∷ xs) = pick (same_req r x) refl (before r x) (insert_all p r xs)
  where
    pick : (b : Bool) → same_req r x ≡ b → (c : Bool) → all p (insert r xs) ≡ p r && all p xs → all p (cond b (x ∷ xs) (cond c (r ∷ x ∷ xs) (x ∷ insert r xs))) ≡ p r && (p x && all p xs)
    pick true q c ih = rw (same_req_true r x q) (and_idem (p x) (all p xs))
    pick false q true ih = refl
    pick false q false ih = rw ih (and_swap (p x) (p r) (all p xs))

pub sorted_all : (p : Requirement → Bool) (rs : List Requirement) → all p (sorted rs) ≡ all p rs
unfolding sorted
sorted_all p [] = refl
sorted_all p (r ∷ rs) = insert_all p r (sorted rs) ∙ ap (λ b. p r && b) (sorted_all p rs)

pub all_hold_lem : (s : Save) (rs : List Requirement) → all (holds s) rs ≡ all_hold s rs
unfolding all_hold
all_hold_lem s [] = refl
all_hold_lem s (r ∷ rs) = ap (λ b. holds s r && b) (all_hold_lem s rs)

pub sorted_hold : (s : Save) (rs : List Requirement) → all_hold s (sorted rs) ≡ all_hold s rs
sorted_hold s rs = sym (all_hold_lem s (sorted rs)) ∙ sorted_all (holds s) rs ∙ all_hold_lem s rs

-- ---- a limit is at most 10

between_le : (z : ℤ) → between z ≤ 10
between_le (negsuc n) = omega arith
between_le (pos n) = pick (ltb n 1) (ltb 10 n) refl
  where
    pick : (a b : Bool) → ltb 10 n ≡ b → cond a 1 (cond b 10 n) ≤ 10
    pick true b e = omega arith
    pick false true e = omega arith
    pick false false e = ltb-false 10 n e

pub limit_le : (h : Sheet) (w : ℕ) (z : ℤ) → limit_of h w z ≤ 10
unfolding limit_of
limit_le h w z = by (atc_for h w) (timer_of h w)
  where
    by : (o : Option ℕ) (t : Timer) → atc_limit o t z ≤ 10
    by (some a) t = omega arith
    by none plain = between_le z
    by none five = omega arith
    by none ten = omega arith
    by none fifteen = omega arith

-- ---- one slot

inside_sorted : (o : Option ℕ) (rs : List Requirement) → inside_for o (sorted rs) ≡ inside_for o rs
inside_sorted none rs = refl
inside_sorted (some w) rs = sorted_all req_inside rs

module _ (bs : List Block) (h : Sheet) (s : Save) (fits : Fits s) (i e : ℕ) (v : List ℤ) (some-var : 0 < length v) where
  not_held : (w : ℕ) → is_zero (held s w) ≡ not (is_held s w)
  not_held w = let c = fits.counts w in rw c.is (by c.size)
    where
      by : (n : ℕ) → eqb n 0 ≡ not (ltb 0 n)
      by zero = refl
      by (suc n) = rw (lt-ltb 0 (suc n) (omega arith), ne_eqb (suc n) 0 (λ q. omega arith))

  no_timer : Worth s v (no_timer_expr h) (b2z (no_timer_held h s))
  unfolding all_hold holds
  no_timer j l =
      eval_reqs s v fits.bits (missingItem h.timer10) (missingItem h.timer15 ∷ []) j l
      ∙ rw (and-true, not_held h.timer10, not_held h.timer15)

  unique_runs : (w : ℕ) (qs : List Requirement) → all req_inside qs ≡ true → After bs e (unique_blocks h i e w qs)
      → Reach bs s 4 (last_of e (unique_blocks h i e w qs)) v e (write i (unique_meaning h s w (acquired h s w) (all_hold s qs)) v)
  unfolding unique_blocks all_hold
  unique_runs w [] t a = unique_bare bs s h i e w v (timer_of h w) (no_timer_held h s) no_timer _ (acquired h s w) (eval_missing s v fits.bits h w) a
  unique_runs w (r ∷ rs) t a =
      unique_hid bs s h i e w v (timer_of h w) (no_timer_held h s) no_timer _ _ (acquired h s w) (all_hold s (r ∷ rs)) (eval_acquired s v fits.bits h w)
      (λ j l. eval_missing_and s v fits.bits h w r rs j l ∙ ap (λ b. tested b (not (acquired h s w) && all_hold s (r ∷ rs))) t) a

  stock_runs : (w l : ℕ) (qs : List Requirement) → l ≤ 10 → all req_inside qs ≡ true → After bs e (limit_blocks i e w l qs)
      → Reach bs s 4 (last_of e (limit_blocks i e w l qs)) v e (write i (limit_meaning s w l (all_hold s qs)) v)
  unfolding limit_blocks all_hold
  stock_runs w l [] p t a = stock_bare bs s i e w l v some-var (pos l -ℤ held s w) (eval_remaining s v fits l w p) a
  stock_runs w l (r ∷ rs) p t a =
      stock_hid bs s i e w l v some-var (pos l -ℤ held s w) (eval_remaining s v fits l w p) _ (all_hold s (r ∷ rs)) (λ j l. eval_reqs s v fits.bits r rs j l ∙ ap (λ b. tested b (all_hold s (r ∷ rs))) t) a

  ware_runs : (w l : ℕ) (qs : List Requirement) → l ≤ 10 → all req_inside qs ≡ true → After bs e (filled_blocks h i e w l qs)
      → Reach bs s 4 (last_of e (filled_blocks h i e w l qs)) v e (write i (filled_meaning h s w l (all_hold s qs)) v)
  ware_runs w l qs p t = by (leb l 1)
    where
      by : (b : Bool) → After bs e (cond b (unique_blocks h i e w qs) (limit_blocks i e w l qs))
          → Reach bs s 4 (last_of e (cond b (unique_blocks h i e w qs) (limit_blocks i e w l qs))) v e
          (write i (cond b (unique_meaning h s w (acquired h s w) (all_hold s qs)) (limit_meaning s w l (all_hold s qs))) v)
      by true a = unique_runs w qs t a
      by false a = stock_runs w l qs p t a

  opt_runs : (o : Option ℕ) (z : ℤ) (qs : List Requirement) → inside_for o qs ≡ true → After bs e (blocks_for h i e o z qs)
      → Reach bs s 4 (last_of e (blocks_for h i e o z qs)) v e (write i (meaning_for h s o z (all_hold s qs)) v)
  unfolding write
  opt_runs none z qs t a = once (at a.0 (does_pair i _ _ (λ j l. refl) (λ j l. refl)))
  opt_runs (some w) z qs t a = ware_runs w (limit_of h w z) qs (limit_le h w z) t a

  pub slot_runs : (x : Slot) → slot_inside x ≡ true → After bs e (slot_blocks h i e x) → Reach bs s 4 (last_of e (slot_blocks h i e x)) v e (write i (meaning_of h s x) v)
  unfolding slot_blocks meaning_of slot_inside
  slot_runs x t a = rw (← sorted_hold s x.requirements) (opt_runs x.item x.limit (sorted x.requirements) (inside_sorted x.item x.requirements ∙ t) a)

  -- ---- a flag outside the save is met in the block that a slot enters first, before anything of the slot is written

  abbrev Stops : ℕ → Type 0
  Stops b = Steps bs s b v (halt no_flag v)

  stop_if : {b last k : ℕ} (c : Expr) → Stands bs b (if_block last c k) → ComesTo s v c (stop no_flag) → Stops b
  stop_if {last} {k} c p q = at p (record { eq = λ j l. rw (q j l) })

  enable_stops : (w : ℕ) (t : Timer) (c : Expr) (k n : ℕ) → ComesTo s v c (stop no_flag) → After bs n (enable_blocks h i e w t c k n) → Stops (last_of n (enable_blocks h i e w t c k n))
  enable_stops w plain c k n q a = stop_if c a.0 q
  enable_stops w ten c k n q a = stop_if c a.0 q
  enable_stops w fifteen c k n q a = stop_if c a.0 q
  enable_stops w five c k n q a = stop_if c a.1.1.0 q

  unique_stops : (w : ℕ) (qs : List Requirement) → all req_inside qs ≡ false → After bs e (unique_blocks h i e w qs) → Stops (last_of e (unique_blocks h i e w qs))
  unfolding unique_blocks
  unique_stops w [] t a = absurd (true≢false t)
  unique_stops w (r ∷ rs) t a =
      enable_stops w (timer_of h w) _ _ _ (λ j l. eval_missing_and s v fits.bits h w r rs j l ∙ ap (λ b. tested b (not (acquired h s w) && all_hold s (r ∷ rs))) t) a.1.1.1.1

  stock_stops : (w l : ℕ) (qs : List Requirement) → all req_inside qs ≡ false → After bs e (limit_blocks i e w l qs) → Stops (last_of e (limit_blocks i e w l qs))
  unfolding limit_blocks
  stock_stops w l [] t a = absurd (true≢false t)
  stock_stops w l (r ∷ rs) t a = stop_if _ a.1.1.1.1.0 (λ j l. eval_reqs s v fits.bits r rs j l ∙ ap (λ b. tested b (all_hold s (r ∷ rs))) t)

  opt_stops : (o : Option ℕ) (z : ℤ) (qs : List Requirement) → inside_for o qs ≡ false → After bs e (blocks_for h i e o z qs) → Stops (last_of e (blocks_for h i e o z qs))
  opt_stops none z qs t a = absurd (true≢false t)
  opt_stops (some w) z qs t a = by (leb (limit_of h w z) 1) a
    where
      by : (b : Bool) → After bs e (cond b (unique_blocks h i e w qs) (limit_blocks i e w (limit_of h w z) qs)) → Stops (last_of e (cond b (unique_blocks h i e w qs) (limit_blocks i e w (limit_of h w z) qs)))
      by true a = unique_stops w qs t a
      by false a = stock_stops w (limit_of h w z) qs t a

  pub slot_stops : (x : Slot) → slot_inside x ≡ false → After bs e (slot_blocks h i e x) → Stops (last_of e (slot_blocks h i e x))
  unfolding slot_blocks slot_inside
  slot_stops x t a = opt_stops x.item x.limit (sorted x.requirements) (inside_sorted x.item x.requirements ∙ t) a

-- ---- the list of slots

pub last_of_append : (e : ℕ) (xs ys : List Block) → last_of e (xs ++ ys) ≡ last_of (last_of e xs) ys
last_of_append e [] ys = refl
last_of_append e (x ∷ xs) ys = last_of_append (suc e) xs ys

pub after_append : (bs : List Block) (e : ℕ) (xs ys : List Block) → After bs e (xs ++ ys) → After bs e xs × After bs (last_of e xs) ys
after_append bs e [] ys a = (tt, a)
after_append bs e (x ∷ xs) ys a = let r = after_append bs (suc e) xs ys a.1 in ((a.0, r.0), r.1)

module _ {bs : List Block} {s : Save} where
  goes_append : {n m b b' b'' : ℕ} {v v' v'' : List ℤ} → Goes bs s n b v b' v' → Goes bs s m b' v' b'' v'' → Goes bs s (n + m) b v b'' v''
  goes_append {m} here q = rw (zero-add m) q
  goes_append {m} (go {n} p ps) q = rw (suc-add n m) (go p (goes_append ps q))

  pub chain : {k l b b' b'' : ℕ} {v v' v'' : List ℤ} → Reach bs s k b v b' v' → Reach bs s l b' v' b'' v'' → Reach bs s (k + l) b v b'' v''
  chain p q = record { steps = p.steps + q.steps; few = omega (arith, p.few, q.few); goes = goes_append p.goes q.goes }

pub length_write : (i : ℕ) (f : Meaning) (v : List ℤ) → length (write i f v) ≡ length v
unfolding write
length_write i f v = simp length-set (length_temp f.temp v)

-- a step that ends the run, answered n
abbrev pub ending : ℕ → List ℤ → Outcome
ending zero v = done v
ending (suc n) v = halt (suc n) v

-- the way from root to the block where the run ends, answered n with the variables v'
pub record Way (bs : List Block) (s : Save) (most root : ℕ) (v : List ℤ) (n : ℕ) (v' : List ℤ) : Type 0 where
  pub last : ℕ
  pub reach : Reach bs s most root v last v'
  pub ends : Steps bs s last v' (ending n v')

-- e is the block of the shop's Return: the run ends there, or at the first slot that reads a flag outside the save, the slots before it being written
module _ (bs : List Block) (h : Sheet) (s : Save) (fits : Fits s) (e : ℕ) (back : (v : List ℤ) → Steps bs s e v (done v)) where
  -- slot x, end being the root of those after it
  slot_way : (i : ℕ) (v : List ℤ) (x : Slot) (xs : List Slot) (end : ℕ) → 0 < length v → (b : Bool) → slot_inside x ≡ b → After bs end (slot_blocks h i end x)
      → Way bs s (4 * length xs) end (write i (meaning_of h s x) v) (flag_answer xs) (writes h s (suc i) (until_outside xs) (write i (meaning_of h s x) v))
      → Way bs s (4 * length (x ∷ xs)) (last_of end (slot_blocks h i end x)) v (check (b && shop_inside xs) no_flag) (writes h s i (cond b (x ∷ until_outside xs) []) v)
  unfolding writes
  slot_way i v x xs end p true t a w = record { last = w.last; reach = weaken (omega arith) (chain (slot_runs bs h s fits i end v p x t a) w.reach); ends = w.ends }
  slot_way i v x xs end p false t a w = record { last = last_of end (slot_blocks h i end x); reach = record { steps = 0; few = omega arith; goes = here }; ends = slot_stops bs h s fits i end v p x t a }

  pub slots_run : (i : ℕ) (v : List ℤ) (xs : List Slot) → 0 < length v → After bs e (slots_blocks h e i xs)
      → Way bs s (4 * length xs) (last_of e (slots_blocks h e i xs)) v (flag_answer xs) (writes h s i (until_outside xs) v)
  unfolding slots_blocks writes
  slots_run i v [] p a = record { last = e; reach = record { steps = 0; few = omega arith; goes = here }; ends = back v }
  slots_run i v (x ∷ xs) p a =
      let rest : List Block = slots_blocks h e (suc i) xs in
      let halves = after_append bs e rest _ a in
      let q : 0 < length (write i (meaning_of h s x) v) = omega (arith, length_write i (meaning_of h s x) v) in
      rw (last_of_append e rest (slot_blocks h i (last_of e rest) x))
      (slot_way i v x xs (last_of e rest) p (slot_inside x) refl halves.1 (slots_run (suc i) (write i (meaning_of h s x) v) xs q halves.0))

-- ---- the run

module _ (bs : List Block) (s : Save) where
  module _ (j : Joins) (laws : OnBits j) where
    pub run_ends : {n b e : ℕ} {v v' : List ℤ} (r : ℕ) → Goes bs s n b v e v' → Steps bs s e v' (ending r v') → (k : ℕ) → n < k → run_by j bs s k b v ≡ record { answer = r; variables = v'; entered = suc n }
    unfolding run_by
    run_ends r here d zero l = absurd (omega arith)
    run_ends zero here d (suc k) l = rw (d.eq j laws, run_by)
    run_ends (suc r) here d (suc k) l = rw (d.eq j laws, run_by)
    run_ends r (go p ps) d zero l = absurd (omega arith)
    run_ends r (go p ps) d (suc k) l = rw (p.eq j laws, run_by) (ap one_more (run_ends r ps d k (omega arith)))

    pub run_short : {n b e : ℕ} {v v' : List ℤ} → Goes bs s n b v e v' → (k : ℕ) → k ≤ n → (run_by j bs s k b v).answer ≡ 15
    unfolding run_by
    run_short g zero l = refl
    run_short here (suc k) l = absurd (omega arith)
    run_short (go p ps) (suc k) l = rw (p.eq j laws, run_by) (run_short ps k (omega arith))

  -- with any budget the run is the same under any two readings of BitAnd and BitOr
  pub run_alike : (i j : Joins) → OnBits i → OnBits j → {n b e : ℕ} {v v' : List ℤ} (r : ℕ) → Goes bs s n b v e v' → Steps bs s e v' (ending r v') → (k : ℕ) → run_by i bs s k b v ≡ run_by j bs s k b v
  unfolding run_by
  run_alike i j p q r g d zero = refl
  run_alike i j p q zero here d (suc k) = rw (d.eq i p, d.eq j q, run_by)
  run_alike i j p q (suc r) here d (suc k) = rw (d.eq i p, d.eq j q, run_by)
  run_alike i j p q r (go t ts) d (suc k) = rw (t.eq i p, t.eq j q, run_by) (ap one_more (run_alike i j p q r ts d k))

-- what is not acquired at its rate
pub rate_false : (s : Save) (o : Option ℕ) (b : Bool) → at_rate s o b ≡ false → b ≡ false
rate_false s none b e = e
rate_false s (some r) true e = e
rate_false s (some r) false e = refl
