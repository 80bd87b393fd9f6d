-- A run from a slot's root block reaches End with what the slot means, in at most four blocks, the same whatever BitAnd and BitOr make of other values than 1 and 0. Assumes nothing.
use Rattle.std.specs.Prelude.{◌≡◌, refl, Bool, not, cond, ◌&&◌, List, [], ◌∷◌, ℕ, zero, suc, ◌-◌, ◌+◌, ◌<◌, ◌≤◌, set, length, ltb, ℤ, pos, negsuc, ◌-ℤ◌}
use Rattle.std.proofs.Math.Path.{ap}
use Rattle.std.proofs.Common.{◌∙◌, arith, get_or-set_same, get_or-set_other, set-set, le-ltb}
use Rattle.std.proofs.Math.Bool.{true, false}
use Rattle.std.proofs.Math.Option.{some}
use Rattle.std.specs.Int.{w32}
use Rattle.std.specs.Int.Signed.{lt_z, mag}
use Rattle.model.specs.Limits.{most_held, most_stock, count_first, item_first, half32}
use Rattle.model.specs.Signed.{b2z, clamp, is_zero}
use Rattle.model.specs.Save.{Save}
use Rattle.model.specs.Expr.{Expr, Joins, imm16, ok}
use Rattle.model.specs.Sheet.{Sheet}
use Rattle.model.specs.Shop.{Timer, fifteen, five, plain, ten}
use Rattle.model.specs.Script.{Block, block_at}
use Rattle.model.specs.Compile.{enable_blocks, hide_block, if_block, item_expr, last_of, no_timer_expr, remaining_block, remaining_expr, reset_block, set_slot, set_slot_end, temp_var}
use Rattle.model.specs.Run.{Outcome, enter_by, next, step_by}
use Rattle.model.specs.Meaning.{Meaning, held, hidden, listed, one_of}
use Rattle.model.specs.Parse.{temp}
use Rattle.model.proofs.Laws.Eval.{Bits, OnBits, Worth, eval_imm, worth_imm}
use Rattle.model.proofs.Laws.Signed.{wrap_id}
use Rattle.model.proofs.Laws.Writes.{write}

-- Records, so that their arguments can be inferred: block x stands at b; entering x does o; a step from b does o.
pub record Stands (bs : List Block) (b : ℕ) (x : Block) : Type 0 where
  pub eq : block_at bs b ≡ x

pub record Does (s : Save) (x : Block) (v : List ℤ) (o : Outcome) : Type 0 where
  pub eq : (j : Joins) → OnBits j → enter_by j s x v ≡ o

pub record Steps (bs : List Block) (s : Save) (b : ℕ) (v : List ℤ) (o : Outcome) : Type 0 where
  pub eq : (j : Joins) → OnBits j → step_by j bs s b v ≡ o

-- n steps lead from block b to block b'
pub data Goes (bs : List Block) (s : Save) : ℕ → ℕ → List ℤ → ℕ → List ℤ → Type 0 where
  here : {b : ℕ} {v : List ℤ} → Goes bs s zero b v b v
  go : {n b b' b'' : ℕ} {v v' v'' : List ℤ} → Steps bs s b v (next b' v') → Goes bs s n b' v' b'' v'' → Goes bs s (suc n) b v b'' v''

pub record Reach (bs : List Block) (s : Save) (most b : ℕ) (v : List ℤ) (b' : ℕ) (v' : List ℤ) : Type 0 where
  pub steps : ℕ
  pub few : steps ≤ most
  pub goes : Goes bs s steps b v b' v'

-- the blocks xs stand right after number e
abbrev pub After : List Block → ℕ → List Block → Type 0
After bs e [] = Unit {0}
After bs e (x ∷ xs) = Stands bs (suc e) x × After bs (suc e) xs

module _ {bs : List Block} {s : Save} where
  pub at : {b : ℕ} {x : Block} {v : List ℤ} {o : Outcome} → Stands bs b x → Does s x v o → Steps bs s b v o
  unfolding step_by
  at {v} p q = record { eq = λ j l. ap (λ x. enter_by j s x v) p.eq ∙ q.eq j l }

  pub once : {most b b' : ℕ} {v v' : List ℤ} → Steps bs s b v (next b' v') → Reach bs s (suc most) b v b' v'
  once p = record { steps = 1; few = omega arith; goes = go p here }

  pub onward_by : {most b b' b'' : ℕ} {v v' v'' : List ℤ} → Steps bs s b v (next b' v') → Reach bs s most b' v' b'' v'' → Reach bs s (suc most) b v b'' v''
  onward_by p r = record { steps = suc r.steps; few = omega (arith, r.few); goes = go p r.goes }

  pub weaken : {m n b b' : ℕ} {v v' : List ℤ} → m ≤ n → Reach bs s m b v b' v' → Reach bs s n b v b' v'
  weaken l r = record { steps = r.steps; few = omega (arith, r.few); goes = r.goes }

-- ---- what one block does

module _ {s : Save} {v : List ℤ} (i : ℕ) where
  pub does_pair : {last : ℕ} (a b : Expr) {x y : ℤ} → Worth s v a x → Worth s (set v (item_first + i) x) b y
      → Does s (set_slot last i a b) v (next last (set (set v (item_first + i) x) (count_first + i) y))
  does_pair a b p q = record { eq = λ j l. rw (p j l, q j l) }

  pub does_pair_end : {e : ℕ} (a b : Expr) {x y : ℤ} → Worth s v a x → Worth s (set v (item_first + i) x) b y
      → Does s (set_slot_end e i a b) v (next e (set (set v (item_first + i) x) (count_first + i) y))
  does_pair_end a b p q = record { eq = λ j l. rw (p j l, q j l) }

module _ {s : Save} {v : List ℤ} {last k : ℕ} {c : Expr} where
  pub if_yes : Worth s v c (pos 1) → Does s (if_block last c k) v (next last v)
  if_yes p = record { eq = λ j l. rw (p j l) }

  pub if_no : Worth s v c (pos 0) → Does s (if_block last c k) v (next k v)
  if_no p = record { eq = λ j l. rw (p j l) }

-- ---- V, with Timer5's blocks below it

module _ (bs : List Block) (s : Save) (h : Sheet) (i e w k n : ℕ) (v : List ℤ) (c : Expr) where
  enable_no : (t : Timer) → After bs n (enable_blocks h i e w t c k n) → Worth s v c (pos 0) → Steps bs s (last_of n (enable_blocks h i e w t c k n)) v (next k v)
  enable_no plain a p = at a.0 (if_no p)
  enable_no ten a p = at a.0 (if_no p)
  enable_no fifteen a p = at a.0 (if_no p)
  enable_no five a p = at a.1.1.0 (if_no p)

  module _ (N : Stands bs n (set_slot_end e i (item_expr w) (imm16 (pos 1)))) (p : Worth s v c (pos 1)) where
    full : Steps bs s n v (next e (write i (listed w 1) v))
    unfolding write
    full = at N (does_pair_end i (item_expr w) _ (worth_imm s v (pos w)) (λ j l. refl))

    enable_yes : (t : Timer) (b : Bool) → Worth s v (no_timer_expr h) (b2z b) → After bs n (enable_blocks h i e w t c k n)
        → Reach bs s 3 (last_of n (enable_blocks h i e w t c k n)) v e (write i (listed w (one_of t b)) v)
    unfolding write
    enable_yes plain b q a = onward_by (at a.0 (if_yes p)) (once full)
    enable_yes ten b q a = onward_by (at a.0 (if_yes p)) (once full)
    enable_yes fifteen b q a = onward_by (at a.0 (if_yes p)) (once full)
    enable_yes five true q a = onward_by (at a.1.1.0 (if_yes p)) (onward_by (at a.1.0 (if_yes q)) (once (at a.0 (does_pair_end i (item_expr w) _ (worth_imm s v (pos w)) (λ j l. refl)))))
    enable_yes five false q a = onward_by (at a.1.1.0 (if_yes p)) (onward_by (at a.1.0 (if_no q)) (once full))

-- ---- a slot of limit 1

abbrev pub hidden_blocks : Sheet → ℕ → ℕ → ℕ → Timer → Expr → Expr → List Block
hidden_blocks h i e w t c f =
    hide_block e i
    ∷ set_slot_end e i (item_expr w) (imm16 (pos 0))
    ∷ if_block (suc (suc e)) f (suc e)
    ∷ set_slot_end e i (item_expr w) (imm16 (pos 1))
    ∷ enable_blocks h i e w t c (suc (suc (suc e))) (suc (suc (suc (suc e))))

module _ (bs : List Block) (s : Save) (h : Sheet) (i e w : ℕ) (v : List ℤ) (t : Timer) (b : Bool) (nt : Worth s v (no_timer_expr h) (b2z b)) where
  pub unique_bare : (c : Expr) (acq : Bool) → Worth s v c (b2z (not acq))
      → After bs e (set_slot e i (item_expr w) (imm16 (pos 0)) ∷ set_slot_end e i (item_expr w) (imm16 (pos 1)) ∷ enable_blocks h i e w t c (suc e) (suc (suc e)))
      → Reach bs s 4 (last_of (suc (suc e)) (enable_blocks h i e w t c (suc e) (suc (suc e)))) v e (write i (cond (not acq && true) (listed w (one_of t b)) (cond acq (listed w 0) hidden)) v)
  unfolding write
  unique_bare c true p a = onward_by (enable_no bs s h i e w (suc e) (suc (suc e)) v c t a.1.1 p) (once (at a.0 (does_pair i (item_expr w) _ (worth_imm s v (pos w)) (λ j l. refl))))
  unique_bare c false p a = weaken (omega arith) (enable_yes bs s h i e w (suc e) (suc (suc e)) v c a.1.0 p t b nt a.1.1)

  module _ (c f : Expr) where
    pub unique_hid : (acq r : Bool) → Worth s v f (b2z acq) → Worth s v c (b2z (not acq && r)) → After bs e (hidden_blocks h i e w t c f)
        → Reach bs s 4 (last_of e (hidden_blocks h i e w t c f)) v e (write i (cond (not acq && r) (listed w (one_of t b)) (cond acq (listed w 0) hidden)) v)
    unfolding write
    unique_hid true r q p a =
        onward_by (enable_no bs s h i e w _ _ v c t a.1.1.1.1 p) (onward_by (at a.1.1.0 (if_yes q)) (once (at a.1.0 (does_pair_end i (item_expr w) _ (worth_imm s v (pos w)) (λ j l. refl)))))
    unique_hid false false q p a =
        onward_by (enable_no bs s h i e w _ _ v c t a.1.1.1.1 p) (onward_by (at a.1.1.0 (if_no q)) (once (at a.0 (does_pair i _ _ (λ j l. refl) (λ j l. refl)))))
    unique_hid false true q p a = weaken (omega arith) (enable_yes bs s h i e w _ _ v c a.1.1.1.0 p t b nt a.1.1.1.1)

-- ---- a slot of a higher limit

abbrev pub stocked : ℕ → ℤ → Meaning
stocked w x = record { item = pos w; count = clamp x; temp = some (clamp x) }

not_negative : (n : ℕ) → ltb n 0 ≡ false
not_negative n = le-ltb n 0 (omega arith)

module _ (bs : List Block) (s : Save) (i e w l k : ℕ) (v : List ℤ) (some-var : 0 < length v) (x : ℤ) (rest : Worth s v (remaining_expr l w) x) where
  var0_kept : (z : ℤ) → Worth s (set (set v 0 z) (item_first + i) (pos w)) temp_var z
  var0_kept z j l = ap ok (get_or-set_other (set v 0 z) (item_first + i) 0 (pos w) (pos 0) (omega arith) ∙ get_or-set_same v 0 z (pos 0) some-var)

  does_left : Does s (remaining_block l w k) v (cond (is_zero (b2z (lt_z x (pos 0)))) (next k (set v 0 x)) (next (suc k) (set v 0 x)))
  does_left = record { eq = λ j l. rw (rest j l, get_or-set_same v 0 x (pos 0) some-var) }

  does_reset : (z : ℤ) → Does s (reset_block k) (set v 0 z) (next k (set v 0 (pos 0)))
  does_reset z = record { eq = λ j l. rw (set-set v 0 z (pos 0)) }

  -- S ends in write, from whatever S's block does
  from_left : ((z : ℤ) → Steps bs s k (set v 0 z) (next e (write i (record { item = pos w; count = z; temp = some z }) v)))
      → Stands bs (suc k) (reset_block k) → Stands bs (suc (suc k)) (remaining_block l w k)
      → Reach bs s 3 (suc (suc k)) v e (write i (stocked w x) v)
  from_left S Z M = go x (at M does_left)
    where
      go : (y : ℤ) → Steps bs s (suc (suc k)) v (cond (is_zero (b2z (lt_z y (pos 0)))) (next k (set v 0 y)) (next (suc k) (set v 0 y)))
          → Reach bs s 3 (suc (suc k)) v e (write i (stocked w y) v)
      go (pos n) p = onward_by (rw (not_negative n) at p) (once (S (pos n)))
      go (negsuc n) p = onward_by p (onward_by (at Z (does_reset (negsuc n))) (once (S (pos 0))))

module _ (bs : List Block) (s : Save) (i e w l : ℕ) (v : List ℤ) (some-var : 0 < length v) (x : ℤ) (rest : Worth s v (remaining_expr l w) x) where
  pub stock_bare : After bs e (set_slot e i (item_expr w) temp_var ∷ reset_block (suc e) ∷ remaining_block l w (suc e) ∷ []) → Reach bs s 4 (suc (suc (suc e))) v e (write i (stocked w x) v)
  unfolding write
  stock_bare a =
      weaken (omega arith) (from_left bs s i e w l (suc e) v some-var x rest
      (λ z. at a.0 (does_pair i (item_expr w) temp_var (worth_imm s _ (pos w)) (var0_kept bs s i e w l (suc e) v some-var x rest z)))
      a.1.0 a.1.1.0)

  pub stock_hid : (c : Expr) (r : Bool) → Worth s v c (b2z r)
      → After bs e (hide_block e i ∷ set_slot_end e i (item_expr w) temp_var ∷ reset_block (suc (suc e)) ∷ remaining_block l w (suc (suc e)) ∷ if_block (suc (suc (suc (suc e)))) c (suc e) ∷ [])
      → Reach bs s 4 (suc (suc (suc (suc (suc e))))) v e (write i (cond r (stocked w x) hidden) v)
  unfolding write
  stock_hid c true p a =
      onward_by (at a.1.1.1.1.0 (if_yes p)) (from_left bs s i e w l (suc (suc e)) v some-var x rest
      (λ z. at a.1.0 (does_pair_end i (item_expr w) temp_var (worth_imm s _ (pos w)) (var0_kept bs s i e w l (suc e) v some-var x rest z)))
      a.1.1.0 a.1.1.1.0)
  stock_hid c false p a = onward_by (at a.1.1.1.1.0 (if_no p)) (once (at a.0 (does_pair i _ _ (λ j l. refl) (λ j l. refl))))

-- ---- the subtraction does not wrap

small : (l n : ℕ) → l ≤ most_stock → n ≤ most_held → mag (pos l -ℤ pos n) < half32
small l zero p q = omega arith
small l (suc n) p q = pick (ltb l (suc n))
  where
    pick : (b : Bool) → mag (cond b (negsuc (suc n - suc l)) (pos (l - suc n))) < half32
    pick true = omega arith
    pick false = omega arith

-- what check 12 leaves: each count is a number up to the most that can be held
pub record Counted (z : ℤ) : Type 0 where
  pub size : ℕ
  pub is : z ≡ pos size
  pub few : size ≤ most_held

pub record Fits (s : Save) : Type 0 where
  pub bits : Bits s.flags
  pub counts : (i : ℕ) → Counted (held s i)

pub eval_remaining : (s : Save) (v : List ℤ) → Fits s → (n w : ℕ) → n ≤ most_stock → Worth s v (remaining_expr n w) (pos n -ℤ held s w)
eval_remaining s v f n w h j l =
    let c = f.counts w in
    rw (eval_imm j s v, c.is) (ap ok (wrap_id w32 (pos n -ℤ pos c.size) (small n c.size h c.few)))
