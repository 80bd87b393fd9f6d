-- Commands whose nodes have room are read fine. Assumes nothing.
use Rattle.std.specs.Prelude.{◌≡◌, refl, Bool, true, false, List, ℕ, ◌+◌, ◌*◌, ◌≤◌, ◌<◌, ltb, ℤ, length, get_or, Ok}
use Rattle.std.proofs.Common.{ap, ◌∙◌, arith, ltb-true, ltb-false}
use Rattle.std.specs.Int.Bits.{bit_or, or_add_and}
use Rattle.std.proofs.lemmas.Nat.{and_le_l, and_le_r}
use Rattle.model.specs.Limits.{wide16, node_limit}
use Rattle.memory.specs.declared.Counts.{Counts}
use Rattle.model.specs.Expr.{size}
use Rattle.model.specs.Reading.{Answer, word}
use Rattle.model.specs.Image.{read_term, read_block_no}
use Rattle.model.specs.Record.{root_image}
use Rattle.memory.specs.View.{nodes_of, coded_of}
use Rattle.judge_terms.specs.Told.{Told, limits_by}
use Rattle.image_numbers.specs.Lengths.{short_word}
use Rattle.judge_terms.specs.Nodes.{term_told}
use Rattle.judge_record.specs.Stages.{KeptBy, uncounted}
use Rattle.judge_record.specs.Links.{block_there}
use Rattle.judge_record.specs.Commands.{pair_told, set_variable_lem, set_other_lem, if_told, tail_return, tail_goto, tail_end_if, tail_other, command_told}
use Rattle.judge_record.specs.CommandList.{Walked, walk_start, walk_next, walk_done}
use Rattle.judge_trees.specs.Trees.{Trees, Shallow}
use Rattle.judge_trees.specs.Levels.{few_shallow, root_reads}
use Rattle.judge_plain.specs.Chain.{chain_none, chain_more}
use Rattle.judge_plain.specs.Counted.{Passes, TermCount, Levels, Named, TailCount, Given, CommandCount, LowCommand, LowCommands, SumCount, CommandsCount}

-- the nodes that a step says are those counted before and r more
pub passes : {A : Type 0} {f : List ℕ → Answer A} {size : A → ℕ} {w : List ℕ} {l x n at m to r : ℕ} → Told f size w l x n at (Ok (m, to)) → m ≡ n + r → Passes f size w l x n at r
passes {to = to} p e = record { to = to; told = rw e at p }

-- ---- expressions

module _ (t : List ℕ) (l i : ℕ) where
  term_at : i < l → get_or t i 0 < wide16 → TermCount t l i (get_or t i 0)
  term_at h f = record { few = f; narrow = λ lt ws vs T. few_shallow ws vs T i h lt; reads = λ ws vs T S n at room. root_reads ws vs T i n at h S room }

  pub term_there : (j r : ℕ) → i < l → j ≡ i → r ≡ get_or t j 0 → r < wide16 → TermCount t l i r
  term_there j r h ej er f = let e : r ≡ get_or t i 0 = er ∙ ap (λ (x : ℕ). get_or t x 0) ej in rw e (term_at h (omega arith))

  pub term_absent : l ≤ node_limit → TermCount t l i 40000
  term_absent hl = record { few = omega arith; narrow = λ lt ws vs T. absurd (omega arith); reads = λ ws vs T S n at room. absurd (omega arith) }

-- ---- the levels of a command's expressions

module _ (ws cw : List ℕ) (i : ℕ) where
  levels_none : {c : ℕ} → (c ≡ 2 → ⊥) → (c ≡ 3 → ⊥) → Levels ws cw i c
  levels_none p q = record { target = λ e f. absurd (p e); value = λ e. absurd (p e); condition = λ e. absurd (q e) }

  pub levels_both : {a b : ℕ} → b ≡ get_or cw (4 * i + 2) 0 → a ≡ get_or cw (4 * i + 1) 0 → Shallow ws 64 b → Shallow ws 64 a → Levels ws cw i 2
  levels_both f e B A = record { target = λ p q. rw e at A; value = λ p. rw f at B; condition = λ p. absurd (omega arith) }

  pub levels_value : {b : ℕ} → b ≡ get_or cw (4 * i + 2) 0 → (get_or cw (4 * i + 3) 0 ≡ 0 → ⊥) → Shallow ws 64 b → Levels ws cw i 2
  levels_value f n B = record { target = λ p q. absurd (n q); value = λ p. rw f at B; condition = λ p. absurd (omega arith) }

  levels_if : Shallow ws 64 (get_or cw (4 * i + 1) 0) → Levels ws cw i 3
  levels_if A = record { target = λ e f. absurd (omega arith); value = λ e. absurd (omega arith); condition = λ e. A }

module _ (t cw : List ℕ) (k : Counts) (K : KeptBy k) where
  module _ (ws : List ℕ) (vs : List ℤ) (T : Trees ws vs t k.nodes) where
    term_passes : {i r : ℕ} → TermCount t k.nodes i r → Shallow ws 64 i → (n at : ℕ) → n + r ≤ k.nodes → Passes (read_term (limits_by k) n) size (root_image (nodes_of ws vs k) i) k.nodes 0 n at r
    term_passes {i} C S n at room =
        let R = C.reads ws vs T S n at room in
        record { to = R.to; told = term_told (limits_by k) (nodes_of ws vs k) i n at refl R.told }

  -- ---- a block that is named

  named_told : {b r : ℕ} → Named b k.blocks r → r ≤ node_limit → (n at : ℕ) → Told (read_block_no k.blocks) uncounted (word b) n 3 n at (Ok (n, at + length (word b)))
  named_told {b} N h n at =
      let lt = N.there h in
      let lb = K.blocks in
      block_there b k.blocks n at (length (word b)) (short_word b (length (word b)) (omega arith) refl) lt

  -- ---- a Set

  module _ (i : ℕ) where
    pub set_both : {a b r : ℕ} → get_or cw (4 * i + 3) 0 ≡ 0 → TermCount t k.nodes (get_or cw (4 * i + 1) 0) a → TermCount t k.nodes (get_or cw (4 * i + 2) 0) b → r ≡ a + b → TailCount t cw k i 2 r
    set_both {a} {b} {r} e A B er = record {
      few = omega (arith, A.few, B.few);
      narrow = λ lt ws vs T. levels_both ws cw i refl refl (B.narrow (omega arith) ws vs T) (A.narrow (omega arith) ws vs T);
      reads = λ ws vs T L n at room.
          let P = term_passes ws vs T A (L.target refl e) n (at + 1) (omega arith) in
          let Q = term_passes ws vs T B (L.value refl) (n + a) P.to (omega arith) in
          passes (set_variable_lem (limits_by k) (coded_of ws vs cw k) i n at e (pair_told (limits_by k) (nodes_of ws vs k) _ _ n (at + 1) P.told refl Q.told)) (omega arith);
    }

    pub set_value : {r : ℕ} → get_or cw (4 * i + 3) 0 ≡ 1 → TermCount t k.nodes (get_or cw (4 * i + 2) 0) r → TailCount t cw k i 2 r
    set_value e B = record {
      few = omega (arith, B.few);
      narrow = λ lt ws vs T. levels_value ws cw i refl (λ z. omega arith) (B.narrow lt ws vs T);
      reads = λ ws vs T L n at room.
          let Q = term_passes ws vs T B (L.value refl) n (at + 1) room in
          passes (set_other_lem (limits_by k) (coded_of ws vs cw k) i n at e Q.told) refl;
    }

    -- ---- the other codes

    -- what is not fine counts more nodes than there can be
    pub tail_past : {c : ℕ} → TailCount t cw k i c 40000
    tail_past = let kn = K.nodes in record { few = omega arith; narrow = λ lt ws vs T. absurd (omega arith); reads = λ ws vs T L n at room. absurd (omega arith) }

    pub tail_nothing : TailCount t cw k i 0 0
    tail_nothing = record {
      few = omega arith;
      narrow = λ lt ws vs T. levels_none ws cw i (λ z. omega arith) (λ z. omega arith);
      reads = λ ws vs T L n at room. passes (tail_return (limits_by k) (coded_of ws vs cw k) i n at (omega arith) 0 refl) (omega arith);
    }

    pub tail_rest : TailCount t cw k i 5 0
    tail_rest = record {
      few = omega arith;
      narrow = λ lt ws vs T. levels_none ws cw i (λ z. omega arith) (λ z. omega arith);
      reads = λ ws vs T L n at room. passes (tail_other (limits_by k) (coded_of ws vs cw k) i n at (omega arith) 5 (omega arith)) (omega arith);
    }

    module _ {r : ℕ} (N : Named (get_or cw (4 * i + 3) 0) k.blocks r) where
      pub tail_jump : TailCount t cw k i 1 r
      tail_jump =
          let kn = K.nodes in
          record {
            few = omega (arith, N.few);
            narrow = λ lt ws vs T. levels_none ws cw i (λ z. omega arith) (λ z. omega arith);
            reads = λ ws vs T L n at room. passes (tail_goto (limits_by k) (coded_of ws vs cw k) i n at (omega arith) (named_told N (omega arith) n at) 1 refl) (omega (arith, N.none (omega arith)));
          }

      pub tail_end : TailCount t cw k i 4 r
      tail_end =
          let kn = K.nodes in
          record {
            few = omega (arith, N.few);
            narrow = λ lt ws vs T. levels_none ws cw i (λ z. omega arith) (λ z. omega arith);
            reads = λ ws vs T L n at room. passes (tail_end_if (limits_by k) (coded_of ws vs cw k) i n at (omega arith) (named_told N (omega arith) n at) 4 refl) (omega (arith, N.none (omega arith)));
          }

    pub tail_if : {a b r : ℕ} → TermCount t k.nodes (get_or cw (4 * i + 1) 0) a → Named (get_or cw (4 * i + 3) 0) k.blocks b → r ≡ a + b → TailCount t cw k i 3 r
    tail_if {a} {b} A N er =
        let kn = K.nodes in
        record {
          few = omega (arith, A.few, N.few);
          narrow = λ lt ws vs T. levels_if ws cw i (A.narrow (omega arith) ws vs T);
          reads = λ ws vs T L n at room.
              let P = term_passes ws vs T A (L.condition refl) n at (omega arith) in
              passes (if_told (limits_by k) (coded_of ws vs cw k) i n at P.told refl (named_told N (omega arith) (n + a) P.to)) (omega (arith, N.none (omega arith)));
        }

    -- ---- a command, by its code

    module _ (there : i < k.commands) where
      coded_as : {r : ℕ} → get_or cw (4 * i) 0 < 6 → TailCount t cw k i (get_or cw (4 * i) 0) r → CommandCount t cw k i r
      coded_as {r} lt C = record {
        few = C.few;
        narrow = C.narrow;
        reads = λ ws vs G n at room.
            let P = C.reads ws vs G.trees (G.low i there) n (at + 1) room in
            passes (command_told (limits_by k) (coded_of ws vs cw k) i n at there lt P.told) refl;
      }

      -- the code is read, and what follows it
      pub coded : {c r : ℕ} → get_or cw (4 * i) 0 ≡ c → c < 6 → TailCount t cw k i c r → CommandCount t cw k i r
      coded e lt C = coded_as (omega arith) (rw e C)

    pub command_past : CommandCount t cw k i 40000
    command_past = let kn = K.nodes in record { few = omega arith; narrow = λ lt ws vs T. absurd (omega arith); reads = λ ws vs G n at room. absurd (omega arith) }

-- ---- commands one after the other

-- of h commands from the first on i were read, with r nodes on top of n
pub record Walks (ws : List ℕ) (vs : List ℤ) (cw : List ℕ) (k : Counts) (h first n at i r : ℕ) : Type 0 where
  pub to : ℕ
  pub walked : Walked (limits_by k) (coded_of ws vs cw k) h first n at i (n + r) to

-- i of them were counted: r nodes
pub record WalkCount (t cw : List ℕ) (k : Counts) (h first i r : ℕ) : Type 0 where
  pub walks : (ws : List ℕ) (vs : List ℤ) → Given ws vs t cw k → (n at : ℕ) → n + r ≤ k.nodes → Walks ws vs cw k h first n at i r

module _ (t cw : List ℕ) (k : Counts) (h first : ℕ) where
  pub count_start : WalkCount t cw k h first 0 0
  count_start = record {
    walks = λ ws vs T n at room.
        let z : n + 0 ≡ n = omega arith in
        record { to = at; walked = rw z (walk_start (limits_by k) (coded_of ws vs cw k) h first n at (omega arith)) };
  }

  pub count_next : {i r c : ℕ} → WalkCount t cw k h first i r → i < h → CommandCount t cw k (first + i) c → WalkCount t cw k h first (i + 1) (r + c)
  count_next {i} {r} {c} W lt C = record {
    walks = λ ws vs T n at room.
        let w = W.walks ws vs T n at (omega arith) in
        let q = C.reads ws vs T (n + r) w.to (omega arith) in
        let z : n + (r + c) ≡ (n + r) + c = omega arith in
        record { to = q.to; walked = rw z (walk_next (limits_by k) (coded_of ws vs cw k) h first n at w.walked lt refl q.told refl) };
  }

  pub count_done : {i r : ℕ} → WalkCount t cw k h first i r → h ≤ i → i ≤ h → CommandsCount t cw k first h r
  count_done {i} {r} W ge le = record {
    reads = λ ws vs T n at room.
        let w = W.walks ws vs T n at room in
        passes (walk_done (limits_by k) (coded_of ws vs cw k) h first n at w.walked ge le) refl;
  }

-- ---- all commands

-- as many as each of two
or_most : (a b : ℕ) → (a ≤ bit_or a b) × (b ≤ bit_or a b)
or_most a b = (omega (arith, or_add_and a b, and_le_r a b), omega (arith, or_add_and a b, and_le_l a b))

module _ (t cw : List ℕ) (k : Counts) where
  pub low_none : (ws : List ℕ) → LowCommands ws t cw k 0
  low_none ws = record { each = λ j h. absurd (omega arith) }

  module _ (ws : List ℕ) {i : ℕ} where
    pub low_few : {r : ℕ} → CommandCount t cw k i r → r < 64 → LowCommand ws t cw k i
    low_few C lt = record { levels = λ vs T. C.narrow lt ws vs T }

    pub low_set : get_or cw (4 * i) 0 ≡ 2 → Levels ws cw i 2 → LowCommand ws t cw k i
    low_set e L = record { levels = λ vs T. rw e L }

    pub low_if : {j : ℕ} → get_or cw (4 * i) 0 ≡ 3 → j ≡ get_or cw (4 * i + 1) 0 → Shallow ws 64 j → LowCommand ws t cw k i
    low_if e q S = record { levels = λ vs T. rw e (levels_if ws cw i (rw q at S)) }

    pub low_rest : (get_or cw (4 * i) 0 ≡ 2 → ⊥) → (get_or cw (4 * i) 0 ≡ 3 → ⊥) → LowCommand ws t cw k i
    low_rest p q = record { levels = λ vs T. levels_none ws cw i p q }

  pub low_more : {ws : List ℕ} {i : ℕ} → LowCommands ws t cw k i → LowCommand ws t cw k i → LowCommands ws t cw k (i + 1)
  low_more {ws} {i} L C = record { each = λ j h. by j h (ltb j i) refl }
    where
      by : (j : ℕ) → j < i + 1 → (b : Bool) → ltb j i ≡ b → LowCommand ws t cw k j
      by j h true e = L.each j (ltb-true j i e)
      by j h false e = let q : j ≡ i = omega (arith, ltb-false j i e) in rw q C

  pub sum_none : SumCount t cw k 0 0 0
  sum_none = record { few = omega arith; sums = chain_none; narrow = λ lt ws. low_none ws }

  pub sum_more : {i n w r : ℕ} → SumCount t cw k i n w → CommandCount t cw k i r → r < 40000 → SumCount t cw k (i + 1) (n + r) (bit_or w r)
  sum_more {w = w} {r = r} A C lt = record {
    few = omega (arith, A.few);
    sums = chain_more A.sums (record { nodes = r; count = C; sum = refl });
    narrow = λ lo ws.
        let p = or_most w r in
        low_more (A.narrow (omega arith) ws) (low_few ws C (omega arith));
  }
