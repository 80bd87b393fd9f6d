-- A command is judged as its image would be read. Assumes nothing.
use Rattle.std.specs.Prelude.{◌≡◌, get_or, Ok, Err}
use Rattle.std.proofs.Math.Path.{refl}
use mathlib.Core.List.{List, [], ◌++◌, append_assoc}
use Prim.Native.Nat.{ℕ, zero, suc, ◌+◌, ◌*◌, ◌≤◌, ◌<◌}
use Rattle.std.proofs.Common.{arith, lt-ltb, le-ltb}
use Rattle.model.specs.Reading.{got, word}
use Rattle.model.specs.Expr.{size}
use Rattle.model.specs.Script.{Command, return, goto, set_variable, set_other, if_else, end_if, other_command, command_nodes}
use Rattle.model.specs.Image.{Limits, read_term, read_block_no, set_of, command_of, read_command}
use Rattle.model.specs.Memory.{Nodes, Coded, command_word}
use Rattle.model.specs.Record.{root_image, target_image, command_tail, command_image_in}
use Rattle.judge_terms.specs.Told.{Step, Told}
use Rattle.judge_record.specs.Stages.{uncounted}
use Rattle.image_numbers.specs.Lengths.{read_over, word_1}
use Rattle.judge_terms.specs.Pieces.{fine, none, good_of, no_of, looser, headed, wrapped, first_no, paired}
use Rattle.model.specs.declared.Refusal.{Refusal}
use Rattle.model.specs.declared.Refusal.TheVariants.{BadImage}
use Rattle.memory.specs.NodeLaws.{first_word}

module _ (l : Limits) where
  -- target and value
  pub pair_told : (ns : Nodes) (i j n at : ℕ) {q r : Step} {m p : ℕ} → Told (read_term l n) size (root_image ns i) l.nodes 0 n at q → q ≡ Ok (m, p) → Told (read_term l m) size (root_image ns j) l.nodes 0 m p r
      → Told (set_of l n 0) command_nodes (root_image ns i ++ root_image ns j) l.nodes 0 n at r
  unfolding set_of command_nodes
  pair_told ns i j n at {q} {r} {m} {p} P eq Q =
      let A = good_of P eq in
      let Q' : Told (read_term l (n + size A.value)) size (root_image ns j) l.nodes 0 m p r = rw (← A.counted) Q in
      paired A (λ t. read_term l (n + size t)) command_nodes set_variable (λ b. refl) Q'

  pub pair_no : (ns : Nodes) (i j n at : ℕ) {q : Step} {e : Refusal} → Told (read_term l n) size (root_image ns i) l.nodes 0 n at q → q ≡ Err e → Told (set_of l n 0) command_nodes (root_image ns i ++ root_image ns j) l.nodes 0 n at (Err e)
  unfolding set_of
  pair_no ns i j n at P eq = none (first_no (read_term l n) (root_image ns i) _ (root_image ns j) (no_of P eq))

other_target : (co : Coded) (c k : ℕ) → (k ≡ 0 → ⊥) → target_image co c k ≡ word k
unfolding target_image
other_target co c zero h = absurd (h refl)
other_target co c (suc k) h = refl

module _ (l : Limits) (co : Coded) (c n at : ℕ) where
  -- ---- a Set, by its target's code

  pub set_variable_lem : {r : Step} → command_word co c 3 ≡ 0 → Told (set_of l n 0) command_nodes (root_image co.nodes (command_word co c 1) ++ root_image co.nodes (command_word co c 2)) l.nodes 0 n (at + 1) r
      → Told (command_of l n 2) command_nodes (command_tail co c 2) l.nodes 3 n at r
  unfolding command_of command_tail target_image
  set_variable_lem e p =
      rw (e, append_assoc) (looser l.nodes 3 (omega arith) (omega arith) (headed (set_of l n) at 2 0 1 (omega arith) (omega arith) (word_1 0 (omega arith)) p))

  pub set_other_lem : {r : Step} → command_word co c 3 ≡ 1 → Told (read_term l n) size (root_image co.nodes (command_word co c 2)) l.nodes 0 n (at + 1) r
      → Told (command_of l n 2) command_nodes (command_tail co c 2) l.nodes 3 n at r
  unfolding command_of command_tail target_image set_of command_nodes
  set_other_lem e p =
      rw e (looser l.nodes 3 (omega arith) (omega arith) (headed (set_of l n) at 2 1 1 (omega arith) (omega arith) (word_1 1 (omega arith)) (wrapped command_nodes set_other (λ a. refl) p)))

  pub set_unknown : (command_word co c 3 ≡ 0 → ⊥) → (command_word co c 3 ≡ 1 → ⊥) → Told (command_of l n 2) command_nodes (command_tail co c 2) l.nodes 3 n at (Err BadImage)
  unfolding command_of command_tail
  set_unknown h g = none (λ t. rw (other_target co c (command_word co c 3) h, append_assoc, read_over 2 (command_word co c 3) (root_image co.nodes (command_word co c 2) ++ t) (omega arith)))

  -- ---- an If

  pub if_told : {q r : Step} {m p : ℕ} → Told (read_term l n) size (root_image co.nodes (command_word co c 1)) l.nodes 0 n at q → q ≡ Ok (m, p)
      → Told (read_block_no l.blocks) uncounted (word (command_word co c 3)) m 3 m p r → Told (command_of l n 3) command_nodes (command_tail co c 3) l.nodes 3 n at r
  unfolding command_of command_tail command_nodes
  if_told P eq Q =
      let A = good_of P eq in
      paired A (λ e. read_block_no l.blocks) command_nodes if_else (λ b. omega arith) (looser l.nodes 3 A.low (omega arith) Q)

  pub if_no : {q : Step} {e : Refusal} → Told (read_term l n) size (root_image co.nodes (command_word co c 1)) l.nodes 0 n at q → q ≡ Err e
      → Told (command_of l n 3) command_nodes (command_tail co c 3) l.nodes 3 n at (Err e)
  unfolding command_of command_tail
  if_no P eq = none (first_no (read_term l n) (root_image co.nodes (command_word co c 1)) _ (word (command_word co c 3)) (no_of P eq))

  -- ---- what follows a code, by the code

  module _ (few : n ≤ l.nodes) where
    bare : (k : ℕ) (x : Command) → command_tail co c k ≡ [] → command_nodes x ≡ 0 → ((t : List ℕ) → command_of l n k t ≡ got x t) → Told (command_of l n k) command_nodes (command_tail co c k) l.nodes 3 n at (Ok (n, at))
    bare k x e z h = rw e (fine (record { value = x; reads = h; counted = omega arith; low = few; bytes = omega arith; short = omega arith }))

    pub tail_return : (k : ℕ) → k ≡ 0 → Told (command_of l n k) command_nodes (command_tail co c k) l.nodes 3 n at (Ok (n, at))
    unfolding command_of command_tail command_nodes
    tail_return k e = rw e (bare 0 return refl refl (λ t. refl))

    pub tail_other : (k : ℕ) → 5 ≤ k → Told (command_of l n k) command_nodes (command_tail co c k) l.nodes 3 n at (Ok (n, at))
    unfolding command_of command_tail command_nodes
    tail_other zero h = absurd (omega arith)
    tail_other (suc zero) h = absurd (omega arith)
    tail_other (suc (suc zero)) h = absurd (omega arith)
    tail_other (suc (suc (suc zero))) h = absurd (omega arith)
    tail_other (suc (suc (suc (suc zero)))) h = absurd (omega arith)
    tail_other (suc (suc (suc (suc (suc k))))) h = bare (suc (suc (suc (suc (suc k))))) other_command refl refl (λ t. refl)

    module _ {r : Step} (p : Told (read_block_no l.blocks) uncounted (word (command_word co c 3)) n 3 n at r) where
      pub tail_goto : (k : ℕ) → k ≡ 1 → Told (command_of l n k) command_nodes (command_tail co c k) l.nodes 3 n at r
      unfolding command_of command_tail command_nodes
      tail_goto k e = rw e (looser l.nodes 3 few (omega arith) (wrapped command_nodes goto (λ a. refl) p))

      pub tail_end_if : (k : ℕ) → k ≡ 4 → Told (command_of l n k) command_nodes (command_tail co c k) l.nodes 3 n at r
      unfolding command_of command_tail command_nodes
      tail_end_if k e = rw e (looser l.nodes 3 few (omega arith) (wrapped command_nodes end_if (λ a. refl) p))

  -- ---- the whole command

  pub command_absent : co.count ≤ c → Told (read_command l n) command_nodes (command_image_in co c) l.nodes 4 n at (Err BadImage)
  unfolding read_command command_image_in
  command_absent h = rw (le-ltb c co.count h) (none (λ t. rw (read_over 6 6 t (omega arith))))

  module _ (h : c < co.count) where
    pub command_unknown : 6 ≤ get_or co.words (4 * c) 0 → Told (read_command l n) command_nodes (command_image_in co c) l.nodes 4 n at (Err BadImage)
    unfolding read_command command_image_in
    command_unknown g =
        let g' : 6 ≤ command_word co c 0 = rw (first_word co.words (4 * c)) g in
        rw (lt-ltb c co.count h) (none (λ t. rw (append_assoc, read_over 6 (command_word co c 0) (command_tail co c (command_word co c 0) ++ t) g')))

    pub command_told : {r : Step} → get_or co.words (4 * c) 0 < 6 → Told (command_of l n (get_or co.words (4 * c) 0)) command_nodes (command_tail co c (get_or co.words (4 * c) 0)) l.nodes 3 n (at + 1) r
        → Told (read_command l n) command_nodes (command_image_in co c) l.nodes 4 n at r
    unfolding read_command command_image_in
    command_told {r} g p =
        let g' : command_word co c 0 < 6 = rw (first_word co.words (4 * c)) g in
        let p' : Told (command_of l n (command_word co c 0)) command_nodes (command_tail co c (command_word co c 0)) l.nodes 3 n (at + 1) r = rw (first_word co.words (4 * c)) p in
        rw (lt-ltb c co.count h) (headed (command_of l n) at 6 (command_word co c 0) 1 g' (omega arith) (word_1 (command_word co c 0) (omega arith)) p')
