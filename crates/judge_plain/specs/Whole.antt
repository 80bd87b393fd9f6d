-- A record whose commands all have room, each held by one block at most, is judged fine. Assumes nothing.
use Rattle.std.specs.Prelude.{◌≡◌, refl, Bool, true, false, List, ℕ, zero, suc, ◌+◌, ◌-◌, ◌*◌, ◌≤◌, ◌<◌, ltb, ℤ, length, get_or, Ok}
use Rattle.std.proofs.Common.{sym, ap, subst, arith, add-one, ltb-true, ltb-false}
use Rattle.memory.specs.declared.Counts.{Counts}
use Rattle.model.specs.Reading.{word}
use Rattle.model.specs.Memory.{Memory}
use Rattle.memory.specs.View.{memory_of}
use Rattle.image_numbers.specs.Lengths.{short_word}
use Rattle.judge_record.specs.Stages.{KeptBy, Accepted, JudgedAs}
use Rattle.judge_record.specs.Whole.{Passing, pass_start, pass_next, pass_done}
use Rattle.judge_trees.specs.Trees.{Trees}
use Rattle.judge_plain.specs.Chain.{Chain}
use Rattle.judge_plain.specs.Counted.{Given, Adds, LowCommands, SumCount, Linked, Ends, none, some, Follows, placeholder, code, data_block, Within, Apart, Held, BlockCount, Plain}
use Rattle.judge_plain.specs.Commands.{WalkCount, count_start, count_next, count_done}
use Rattle.judge_plain.specs.Blocks.{code_count, count_placeholder, count_data, count_code, held_code, held_none}

-- i blocks were read, with n nodes and m commands
record Passage (me : Memory) (i n m : ℕ) : Type 0 where
  to : ℕ
  passing : Passing me i m n to

-- i blocks were counted: n nodes and m commands
record PassCount (t cw bw : List ℕ) (k : Counts) (i n m : ℕ) : Type 0 where
  passes : (ws : List ℕ) (vs : List ℤ) → Given ws vs t cw k → n ≤ k.nodes → m ≤ k.commands → Passage (memory_of ws vs cw bw k) i n m

accepted : (me : Memory) {to : ℕ} → JudgedAs me (Ok to) → Accepted me to
unfolding JudgedAs
accepted me j = j

module _ (t cw bw : List ℕ) (k : Counts) (K : KeptBy k) where
  pass_none : PassCount t cw bw k 0 0 0
  pass_none = record {
    passes = λ ws vs T few room.
        let b = k.blocks in
        let kb = K.blocks in
        record { to = length (word b); passing = pass_start (memory_of ws vs cw bw k) K (length (word b)) (short_word b (length (word b)) (omega arith) refl) };
  }

  pass_more : {i n m r h : ℕ} → PassCount t cw bw k i n m → i < k.blocks → BlockCount t cw bw k i r → Held bw i h → PassCount t cw bw k (i + 1) (n + r) (m + h)
  pass_more {i} {n} {m} {r} {h} P lt C H = record {
    passes = λ ws vs T few room.
        let p = P.passes ws vs T (omega arith) (omega arith) in
        let q = C.reads ws vs T n m h p.to H few room in
        record { to = q.to; passing = pass_next (memory_of ws vs cw bw k) K p.passing lt q.staged refl };
  }

  pass_plain : {i n m : ℕ} → PassCount t cw bw k i n m → k.blocks ≤ i → n ≤ k.nodes → m ≤ k.commands → (ws : List ℕ) (vs : List ℤ) → Given ws vs t cw k → Plain (memory_of ws vs cw bw k)
  pass_plain P ge few room ws vs T =
      let p = P.passes ws vs T few room in
      let a = accepted (memory_of ws vs cw bw k) (pass_done (memory_of ws vs cw bw k) K p.passing ge) in
      record { blocks = a.blocks; judged = a.judged }

-- ---- the commands of a block, out of the sum of all

-- of h commands from the first on i were counted, with what the marks tell of them
record Span (t cw : List ℕ) (k : Counts) (mark : ℕ → ℕ) (h first i : ℕ) : Type 0 where
  nodes : ℕ
  walk : WalkCount t cw k h first i nodes
  sum : mark first + nodes ≡ mark (first + i)

module _ (t cw : List ℕ) (k : Counts) {n r : ℕ} (C : Chain (Adds t cw k) n r) where
  sums_up : (a d : ℕ) → a + d ≤ n → C.mark a ≤ C.mark (a + d)
  sums_up a zero h = let e : a + 0 ≡ a = omega arith in rw e (omega arith)
  sums_up a (suc d) h =
      let e : a + suc d ≡ a + d + 1 = omega arith in
      let A = C.step (a + d) (omega arith) in
      rw e (omega (arith, A.sum, sums_up a d (omega arith)))

  marks_up : (a b : ℕ) → a ≤ b → b ≤ n → C.mark a ≤ C.mark b
  marks_up a b le h = let e : a + (b - a) ≡ b = omega arith in rw e at (sums_up a (b - a) (omega arith))

  module _ (h first : ℕ) (fits : first + h ≤ n) where
    spans : (i : ℕ) → i ≤ h → Span t cw k C.mark h first i
    spans zero le =
        let e : first + 0 ≡ first = omega arith in
        record { nodes = 0; walk = count_start t cw k h first; sum = rw e (omega arith) }
    spans (suc i) le =
        let S = spans i (omega arith) in
        let A = C.step (first + i) (omega arith) in
        let e : first + suc i ≡ first + i + 1 = omega arith in
        let z : suc i ≡ i + 1 = omega arith in
        record { nodes = S.nodes + A.nodes; walk = rw z (count_next t cw k h first S.walk (omega arith) A.count); sum = rw e (omega (arith, S.sum, A.sum)) }

-- ---- the blocks, one after the other

below : (i b : ℕ) → suc i ≤ b → i ≤ b
below i b h = omega arith

-- i blocks were counted, whose commands end at e
record Reached (t cw bw : List ℕ) (k : Counts) (mark : ℕ → ℕ) (i e : ℕ) : Type 0 where
  n : ℕ
  m : ℕ
  count : PassCount t cw bw k i n m
  nodes : n ≤ mark e
  commands : m ≤ e
  kept : e ≤ k.commands

module _ (t cw bw : List ℕ) (k : Counts) (K : KeptBy k) {r : ℕ} (C : Chain (Adds t cw k) k.commands r) where
  module _ {i e e' : ℕ} (R : Reached t cw bw k C.mark i e) (lt : i < k.blocks) (kept : e' ≤ k.commands) where
    -- a block without commands
    next_same : BlockCount t cw bw k i 0 → Held bw i 0 → e' ≡ e → Reached t cw bw k C.mark (i + 1) e'
    next_same B H q =
        let a = R.nodes in
        let b = R.commands in
        record { n = R.n + 0; m = R.m + 0; count = pass_more t cw bw k K R.count lt B H; nodes = rw q (omega arith); commands = omega arith; kept = kept }

    next_code : get_or bw (5 * i) 0 ≡ 1 → Linked bw k i → Ends bw i e e' → Reached t cw bw k C.mark (i + 1) e'
    next_code o L (none z q) =
        let B = count_code t cw bw k K i o (code_count t cw bw k K i (count_done t cw k 0 (get_or bw (5 * i + 1) 0) (count_start t cw k 0 (get_or bw (5 * i + 1) 0)) (omega arith) (omega arith)) refl (sym z) (omega arith) L.next L.else) in
        next_same B (held_code bw i 0 o (sym z)) q
    next_code o L (some le q) =
        let f = get_or bw (5 * i + 1) 0 in
        let h = get_or bw (5 * i + 2) 0 in
        let S = spans t cw k C h f (omega arith) h (omega arith) in
        let D = count_done t cw k h f S.walk (omega arith) (omega arith) in
        let B = count_code t cw bw k K i o (code_count t cw bw k K i D refl refl (omega arith) L.next L.else) in
        let a = R.nodes in
        let b = R.commands in
        let u = marks_up t cw k C e f le (omega arith) in
        let v = ap C.mark q in
        record { n = R.n + S.nodes; m = R.m + h; count = pass_more t cw bw k K R.count lt B (held_code bw i h o refl); nodes = omega (arith, S.sum); commands = omega arith; kept = kept }

    reached_next : Follows bw k i e e' → Reached t cw bw k C.mark (i + 1) e'
    reached_next (placeholder z q) = next_same (count_placeholder t cw bw k K i z) (held_none bw i (λ o. omega arith)) q
    reached_next (code o L E) = next_code o L E
    reached_next (data_block z q) = next_same (count_data t cw bw k K i z) (held_none bw i (λ o. omega arith)) q

  reached_none : Reached t cw bw k C.mark 0 0
  reached_none = record { n = 0; m = 0; count = pass_none t cw bw k K; nodes = omega arith; commands = omega arith; kept = omega arith }

  module _ {end : ℕ} (A : Chain (Within bw k) k.blocks end) where
    reached_more : (i : ℕ) → i < k.blocks → Reached t cw bw k C.mark i (A.mark i) → Reached t cw bw k C.mark (suc i) (A.mark (suc i))
    reached_more i lt R =
        let W = A.step i lt in
        subst (λ (j : ℕ). Reached t cw bw k C.mark j (A.mark j)) (add-one i) (reached_next R lt W.kept W.follows)

    reached : (i : ℕ) → i ≤ k.blocks → Reached t cw bw k C.mark i (A.mark i)
    reached zero le = subst (λ (e : ℕ). Reached t cw bw k C.mark 0 e) (sym A.first) reached_none
    reached (suc i) le = reached_more i le (reached i (below i k.blocks le))

-- the nodes of all commands have room, none has too many levels, and no command is held twice
pub plain_apart : (ws t cw bw : List ℕ) (k : Counts) → KeptBy k → {r w : ℕ} → SumCount t cw k k.commands r w → r ≤ k.nodes → (64 ≤ w → LowCommands ws t cw k k.commands) → Apart bw k → (vs : List ℤ) → Trees ws vs t k.nodes → Plain (memory_of ws vs cw bw k)
plain_apart ws t cw bw k K {w = w} S le low A vs T =
    let C = S.sums in
    let R = reached t cw bw k K C A.ends k.blocks (omega arith) in
    let a = R.nodes in
    let b = R.commands in
    let d = R.kept in
    let u = marks_up t cw k C (A.ends.mark k.blocks) k.commands d (omega arith) in
    pass_plain t cw bw k K R.count (omega arith) (omega (arith, C.last)) (omega arith) ws vs (record { trees = T; low = λ j h. ((all (ltb w 64) refl).each j h).levels vs T })
  where
    all : (b : Bool) → ltb w 64 ≡ b → LowCommands ws t cw k k.commands
    all true e = S.narrow (ltb-true w 64 e) ws
    all false e = low (ltb-false w 64 e)
