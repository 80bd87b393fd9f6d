-- The run of a command: how many from it on hold nothing past the kept counts. A block holds nothing past them where its commands are no more than the run of its first. Assumes nothing.
use Rattle.std.specs.Prelude.{◌≡◌, Bool, MatchBool, cond, ◌&&◌, List, leb, eqb, ℤ, get_or, set, length}
use Rattle.std.proofs.Math.Path.{refl, sym}
use Rattle.std.proofs.Common.{ap, ◌∙◌, get_or-set_same, get_or-set_other}
use mathlib.Core.Bool.{and-false}
use Rattle.std.proofs.Math.Bool.{true, false}
use Prim.Native.Nat.{ℕ, zero, suc, ◌+◌, ◌-◌, ◌*◌, ◌≤◌, ◌<◌}
use native.Mathlib.Omega.{arith}
use Rattle.std.proofs.Math.Decide.{ℕ_discrete}
use Rattle.std.proofs.Math.Dec.{leb-suc-suc}
use borrow.Author.Tests.{lt-ltb, le-ltb, le-leb, lt-leb, ne_eqb}
use Rattle.memory.specs.declared.Counts.{Counts}
use Rattle.model.specs.Memory.{Coded, Memory, coded_in, command_word, block_word}
use Rattle.model.specs.Record.{root_kept, set_kept, roots_kept, command_kept, commands_kept, block_kept, blocks_kept, held_kept}
use Rattle.memory.specs.View.{memory_of}
use Rattle.memory.specs.NodeLaws.{first_word}

-- of d commands from command c on, those before the first whose roots are not all below the kept count
unfoldable pub run_of : Coded → ℕ → ℕ → ℕ
run_of co zero c = 0
run_of co (suc d) c = cond (roots_kept co c (command_word co c 0)) (suc (run_of co d (suc c))) 0

-- r is the run of command i, whatever the nodes are
pub record Run (cw : List ℕ) (k : Counts) (i r : ℕ) : Type 0 where
  pub few : r + i ≤ k.commands
  pub is : (ws : List ℕ) (vs : List ℤ) → r ≡ run_of (coded_in ws vs cw k.nodes k.commands) (k.commands - i) i

-- t has the runs of the kept commands from i on
pub record Runs (cw : List ℕ) (k : Counts) (t : List ℕ) (i : ℕ) : Type 0 where
  pub run : (j : ℕ) → i ≤ j → j < k.commands → Run cw k j (get_or t j 0)

-- ---- a run is as long as the commands that are kept

module _ (co : Coded) where
  -- the first of h + 1 commands, of which d + 1 are there
  run_next : (h d c : ℕ) → c < co.count → (b : Bool) → roots_kept co c (command_word co c 0) ≡ b → commands_kept co h (suc c) ≡ leb h (run_of co d (suc c))
      → commands_kept co (suc h) c ≡ leb (suc h) (run_of co (suc d) c)
  unfolding commands_kept command_kept run_of
  run_next h d c l true e ih = rw (lt-ltb c co.count l, e, leb-suc-suc h (run_of co d (suc c)), ih)
  run_next h d c l false e ih = rw (lt-ltb c co.count l, e, lt-leb (suc h) 0 (omega arith))

  run_none : (h c : ℕ) → co.count ≤ c → commands_kept co (suc h) c ≡ false
  unfolding commands_kept command_kept
  run_none h c l = rw (le-ltb c co.count l)

  pub run_is : (h d c : ℕ) → c + d ≡ co.count → commands_kept co h c ≡ leb h (run_of co d c)
  unfolding commands_kept run_of
  run_is zero d c e = sym (le-leb 0 (run_of co d c) (omega arith))
  run_is (suc h) zero c e = run_none h c (omega arith) ∙ sym (lt-leb (suc h) 0 (omega arith))
  run_is (suc h) (suc d) c e = run_next h d c (omega arith) (roots_kept co c (command_word co c 0)) refl (run_is h d (suc c) (omega arith))

  -- commands from past the kept count on
  pub past_is : (h c : ℕ) → co.count ≤ c → commands_kept co h c ≡ eqb h 0
  unfolding commands_kept
  past_is zero c l = refl
  past_is (suc h) c l = run_none h c l ∙ sym (ne_eqb (suc h) 0 (λ e. omega arith))

  -- ---- the roots of one command, by its code

  pub set_both : (i t : ℕ) → t ≡ 0 → command_word co i 1 < co.nodes.count → root_kept co i 2 ≡ set_kept co i t
  unfolding set_kept
  set_both i t e l = rw (e, lt-ltb (command_word co i 1) co.nodes.count l)

  pub set_target : (i t : ℕ) → t ≡ 0 → co.nodes.count ≤ command_word co i 1 → root_kept co i 1 ≡ set_kept co i t
  unfolding set_kept
  set_target i t e l = rw (e, le-ltb (command_word co i 1) co.nodes.count l)

  pub set_value : (i t : ℕ) → (t ≡ 0 → ⊥) → root_kept co i 2 ≡ set_kept co i t
  unfolding set_kept
  set_value i zero n = absurd (n refl)
  set_value i (suc t) n = refl

  pub roots_set : (i k : ℕ) {b : Bool} → k ≡ 2 → b ≡ set_kept co i (command_word co i 3) → b ≡ roots_kept co i k
  unfolding roots_kept
  roots_set i k e p = rw e p

  pub roots_if : (i k : ℕ) → k ≡ 3 → root_kept co i 1 ≡ roots_kept co i k
  unfolding roots_kept
  roots_if i k e = rw e

  pub roots_none : (i k : ℕ) → (k ≡ 2 → ⊥) → (k ≡ 3 → ⊥) → true ≡ roots_kept co i k
  unfolding roots_kept
  roots_none i zero a b = refl
  roots_none i (suc zero) a b = refl
  roots_none i (suc (suc zero)) a b = absurd (a refl)
  roots_none i (suc (suc (suc zero))) a b = absurd (b refl)
  roots_none i (suc (suc (suc (suc k)))) a b = refl

-- ---- the runs, from the last command on

module _ (cw : List ℕ) (k : Counts) where
  pub run_last : Run cw k k.commands 0
  unfolding run_of
  run_last = let e : k.commands - k.commands ≡ 0 = omega arith in record { few = omega arith; is = λ ws vs. rw e }

  module _ {i : ℕ} (l : i < k.commands) {b : Bool} (R : (ws : List ℕ) (vs : List ℤ) (c : ℕ) → b ≡ roots_kept (coded_in ws vs cw k.nodes c) i (get_or cw (4 * i) 0)) where
    rooted : (ws : List ℕ) (vs : List ℤ) → b ≡ roots_kept (coded_in ws vs cw k.nodes k.commands) i (command_word (coded_in ws vs cw k.nodes k.commands) i 0)
    rooted ws vs = R ws vs k.commands ∙ ap (roots_kept (coded_in ws vs cw k.nodes k.commands) i) (sym (first_word cw (4 * i)))

    pub run_more : {r : ℕ} → Run cw k (suc i) r → b ≡ true → Run cw k i (r + 1)
    unfolding run_of
    run_more {r} N e =
        let d : k.commands - i ≡ suc (k.commands - suc i) = omega arith in
        let f = N.few in
        record { few = omega arith; is = λ ws vs. let n = N.is ws vs in rw (d, sym (rooted ws vs) ∙ e) (omega arith) }

    pub run_stop : b ≡ false → Run cw k i 0
    unfolding run_of
    run_stop e =
        let d : k.commands - i ≡ suc (k.commands - suc i) = omega arith in
        record { few = omega arith; is = λ ws vs. rw (d, sym (rooted ws vs) ∙ e) }

  pub runs_none : (t : List ℕ) → Runs cw k t k.commands
  runs_none t = record { run = λ j l u. absurd (omega arith) }

  pub runs_more : {t : List ℕ} {i r : ℕ} → Runs cw k t (suc i) → i < length t → Run cw k i r → Runs cw k (set t i r) i
  runs_more {t} {i} {r} R l N = record { run = λ j p q. by j p q (ℕ_discrete j i) }
    where
      by : (j : ℕ) → i ≤ j → j < k.commands → Dec (j ≡ i) → Run cw k j (get_or (set t i r) j 0)
      by j p q (yes e) = rw (e, get_or-set_same t i r 0 l) N
      by j p q (no n) = rw (get_or-set_other t i j r 0 n) (R.run j (omega arith) q)

-- ---- a block, and all of them

module _ (ws : List ℕ) (vs : List ℤ) (cw bw : List ℕ) (k : Counts) where
  abbrev me : Memory
  me = memory_of ws vs cw bw k

  pub kept_not_code : (i t : ℕ) → (t ≡ 1 → ⊥) → true ≡ block_kept me i t
  unfolding block_kept
  kept_not_code i zero n = refl
  kept_not_code i (suc zero) n = absurd (n refl)
  kept_not_code i (suc (suc t)) n = refl

  pub kept_run : (i t : ℕ) {runs : List ℕ} {f : ℕ} → t ≡ 1 → f ≡ get_or bw (5 * i + 1) 0 → f < k.commands → Runs cw k runs 0 → leb (get_or bw (5 * i + 2) 0) (get_or runs f 0) ≡ block_kept me i t
  unfolding block_kept
  kept_run i t {runs} {f} e g l R =
      let r = (R.run f (omega arith) l).is ws vs in
      rw (e, r, ← g) (sym (run_is me.coded (get_or bw (5 * i + 2) 0) (k.commands - f) f (omega arith)))

  pub kept_past : (i t : ℕ) {f : ℕ} → t ≡ 1 → f ≡ get_or bw (5 * i + 1) 0 → k.commands ≤ f → eqb (get_or bw (5 * i + 2) 0) 0 ≡ block_kept me i t
  unfolding block_kept
  kept_past i t e g l = rw e (sym (past_is me.coded (get_or bw (5 * i + 2) 0) (get_or bw (5 * i + 1) 0) (omega arith)))

module _ (m : Memory) where
  kept_from : (d c : ℕ) → ((i : ℕ) → c ≤ i → i < c + d → true ≡ block_kept m i (block_word m i 0)) → blocks_kept m d c ≡ true
  unfolding blocks_kept
  kept_from zero c p = refl
  kept_from (suc d) c p = rw (← p c (omega arith) (omega arith)) (kept_from d (suc c) (λ i l h. p i (omega arith) (omega arith)))

  past_at : (d c i : ℕ) → c ≤ i → i < c + d → false ≡ block_kept m i (block_word m i 0) → blocks_kept m d c ≡ false
  unfolding blocks_kept
  past_at zero c i l h e = absurd (omega arith)
  past_at (suc d) c i l h e = by (ℕ_discrete i c) (λ n. past_at d (suc c) i (omega arith) (omega arith) e)
    where
      by : Dec (i ≡ c) → ((i ≡ c → ⊥) → blocks_kept m d (suc c) ≡ false) → (block_kept m c (block_word m c 0) && blocks_kept m d (suc c)) ≡ false
      by (yes q) r = rw (← q, ← e)
      by (no n) r = rw (r n) (and-false (block_kept m c (block_word m c 0)))

-- block i has the answer b, whatever the nodes and the commands are that have these runs
abbrev pub Block : List ℕ → List ℕ → Counts → Bool → ℕ → Type 0
Block bw t k b i = (ws : List ℕ) (vs : List ℤ) (cw : List ℕ) → Runs cw k t 0 → b ≡ block_kept (me ws vs cw bw k) i (get_or bw (5 * i) 0)

module _ (bw t : List ℕ) (k : Counts) where
  pub blocks_told : (b : Bool) → MatchBool b ((i : ℕ) → i < k.blocks → Block bw t k true i) ((i : ℕ) × (i < k.blocks) × Block bw t k false i) → (ws : List ℕ) (vs : List ℤ) (cw : List ℕ) → Runs cw k t 0 → b ≡ held_kept (me ws vs cw bw k)
  unfolding held_kept
  blocks_told true p ws vs cw R = sym (kept_from (me ws vs cw bw k) k.blocks 0 (λ i l h. rw (first_word bw (5 * i)) (p i (omega arith) ws vs cw R)))
  blocks_told false p ws vs cw R = sym (past_at (me ws vs cw bw k) k.blocks 0 p.0 (omega arith) (omega (arith, p.1)) (rw (first_word bw (5 * p.0)) (p.2 ws vs cw R)))
