-- A step goes to a block that is linked, and is never refused for want of budget; links of a judged script are blocks; where links fall, the setup block is not reached again. Assumes nothing.
use Rattle.std.specs.Prelude.{◌≡◌, Bool, true, false, cond, ◌≢◌, ℕ, ◌<◌, ◌≤◌, length, ℤ}
use Rattle.std.proofs.Math.Option.{Option, none, some}
use mathlib.Core.List.{List, [], ◌∷◌}
use Rattle.std.proofs.Common.{arith}
use Rattle.model.specs.Signed.{is_zero}
use Rattle.model.specs.Save.{Save}
use Rattle.model.specs.Refusal.{budget_spent, met_other, no_flag, no_next}
use Rattle.model.specs.Expr.{Expr, two, one, imm16, imm32, other, Value, ok, stop, and_then, readable, eval}
use Rattle.model.specs.Script.{Command, return, goto, set_variable, set_other, if_else, end_if, other_command, Block, placeholder, code, data_block, block_at}
use Rattle.model.specs.Run.{Outcome, next, done, halt, follow, store, or_halt, execute, enter, step, step_by}
use Rattle.model.proofs.Laws.Sound.{SoundBlocks}
use Rattle.reclaim_model.specs.Rename.{with_link, targets, links_of, Every, IsLink}
use Rattle.reclaim_model.proofs.Laws.Reached.{root, onward, every_at, every_of}
use Rattle.reclaim_model.proofs.Laws.Reclaimed.{links_below, sound_at}
use Rattle.reclaim_model.proofs.Laws.RenamedRun.{drop_link, has_link}
use Rattle.lanes_model.specs.Falls.{Link, LedTo, Falls}

-- ---- where a step leads

-- what an evaluation is refused with
abbrev Stops : (ℕ → Type 0) → Value → Type 0
Stops H (ok z) = Unit {0}
Stops H (stop n) = H n

-- to a block that K holds of, or refused with a number that H holds of
abbrev Goes : (ℕ → Type 0) → (ℕ → Type 0) → Outcome → Type 0
Goes K H (next k v) = K k
Goes K H (done v) = Unit {0}
Goes K H (halt n v) = H n

module _ (K H : ℕ → Type 0) (no-next : H no_next) (met : H met_other) (s : Save) (stops : (v : List ℤ) (e : Expr) → Stops H (eval s v e)) where
  goes_on : (nx : Option ℕ) (v : List ℤ) → IsLink K nx → Goes K H (follow nx v)
  goes_on none v i = no-next
  goes_on (some k) v i = i

  goes_either : (b : Bool) (k : ℕ) (nx : Option ℕ) (v : List ℤ) → K k → IsLink K nx → Goes K H (cond b (next k v) (follow nx v))
  goes_either true k nx v p i = p
  goes_either false k nx v p i = goes_on nx v i

  goes_or : (x : Value) → Stops H x → (v : List ℤ) (f : ℤ → Outcome) → ((z : ℤ) → Goes K H (f z)) → Goes K H (or_halt x v f)
  goes_or (ok z) r v f h = h z
  goes_or (stop n) r v f h = r

  executes : (nx : Option ℕ) → IsLink K nx → (cs : List Command) (v : List ℤ) → Every K (targets cs) → Goes K H (execute s nx cs v)
  unfolding targets
  executes nx i [] v a = goes_on nx v i
  executes nx i (return ∷ cs) v a = tt
  executes nx i (goto k ∷ cs) v a = a.0
  executes nx i (set_variable t e ∷ cs) v a = goes_or (eval s v t) (stops v t) v _ (λ k. goes_or (eval s v e) (stops v e) v _ (λ x. executes nx i cs (store v k x) a))
  executes nx i (set_other e ∷ cs) v a = met
  executes nx i (if_else c k ∷ cs) v a = goes_or (eval s v c) (stops v c) v _ (λ x. goes_either (is_zero x) k nx v a.0 i)
  executes nx i (end_if k ∷ cs) v a = a.0
  executes nx i (other_command ∷ cs) v a = met

  enters : (x : Block) (v : List ℤ) → Every K (links_of x) → Goes K H (enter s x v)
  unfolding links_of
  enters placeholder v a = met
  enters (code cs nx el) v a = executes nx (has_link K nx _ a) cs v (drop_link K el (targets cs) (drop_link K nx (with_link el (targets cs)) a))
  enters data_block v a = met

-- a step goes to a link
any_stop : (x : Value) → Stops (λ n. Unit {0}) x
any_stop (ok z) = tt
any_stop (stop n) = tt

pub step_link : (bs : List Block) (s : Save) (b k : ℕ) (v w : List ℤ) → step bs s b v ≡ next k w → Link bs b k
unfolding step_by
step_link bs s b k v w e =
    rw e at (enters (Link bs b) (λ n. Unit {0}) tt tt s (λ v e. any_stop (eval s v e)) (block_at bs b) v (every_of (Link bs b) (links_of (block_at bs b)) (λ j m. m)))

-- and is not refused for want of budget: no evaluation is
after_stop : (H : ℕ → Type 0) (x : Value) (f : ℤ → Value) → Stops H x → ((z : ℤ) → Stops H (f z)) → Stops H (and_then x f)
after_stop H (ok z) f r g = g z
after_stop H (stop n) f r g = r

read_stops : (H : ℕ → Type 0) → H no_flag → (b : Bool) (z : ℤ) → Stops H (cond b (ok z) (stop no_flag))
read_stops H f true z = tt
read_stops H f false z = f

eval_stops : (H : ℕ → Type 0) → H met_other → H no_flag → (s : Save) (v : List ℤ) (e : Expr) → Stops H (eval s v e)
eval_stops H m f s v (two o a b) = after_stop H (eval s v a) _ (eval_stops H m f s v a) (λ x. after_stop H (eval s v b) _ (eval_stops H m f s v b) (λ y. tt))
eval_stops H m f s v (one o a) = after_stop H (eval s v a) _ (eval_stops H m f s v a) (λ x. read_stops H f (readable o x) _)
eval_stops H m f s v (imm16 z) = tt
eval_stops H m f s v (imm32 z) = tt
eval_stops H m f s v other = m

abbrev NotSpent : ℕ → Type 0
NotSpent n = n ≢ budget_spent

pub step_halts : (bs : List Block) (s : Save) (b n : ℕ) (v w : List ℤ) → step bs s b v ≡ halt n w → n ≢ budget_spent
unfolding step_by
step_halts bs s b n v w e =
    let met : NotSpent met_other = λ q. omega arith in
    let outside : NotSpent no_flag = λ q. omega arith in
    let no-next : NotSpent no_next = λ q. omega arith in
    rw e at (enters (λ k. Unit {0}) NotSpent no-next met s (eval_stops NotSpent met outside s) (block_at bs b) v (every_of (λ k. Unit {0}) (links_of (block_at bs b)) (λ j m. tt)))

-- ---- links of a judged script are blocks

pub link_inside : (bs : List Block) → SoundBlocks (length bs) bs → (b k : ℕ) → Link bs b k → k < length bs
link_inside bs f b k l = every_at (λ j. j < length bs) (links_of (block_at bs b)) k (links_below (length bs) (block_at bs b) (sound_at (length bs) bs b f)) l

-- ---- where links fall

module _ {bs : List Block} {b : ℕ} (f : Falls bs b) where
  -- the path's first block is the highest
  record Top (c : ℕ) : Type 0 where
    first : ℕ
    link : Link bs b first
    high : c ≤ first

  top : (c : ℕ) → LedTo bs b c → Top c
  top c (root m) = record { first = c; link = m; high = omega arith }
  top c (onward {b = d} p m) =
      let t = top d p in
      let q = f.lower p m in
      record { first = t.first; link = t.link; high = let h = t.high in omega arith }

  pub not_again : LedTo bs b b → ⊥
  not_again p =
      let t = top b p in
      let h = t.high in
      let q = f.lower p t.link in
      omega arith
