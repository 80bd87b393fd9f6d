-- Commands that stand one after the other are judged as their images would be read. Assumes nothing.
use Rattle.std.specs.Prelude.{◌≡◌, refl, List, [], ◌∷◌, ◌++◌, ℕ, suc, ◌+◌, ◌-◌, ◌*◌, ◌≤◌, ◌<◌, Ok, Err}
use Rattle.std.proofs.Common.{append_assoc}
use native.Mathlib.Omega.{arith}
use Rattle.std.proofs.Math.ListN.{length-append}
use Rattle.model.specs.Reading.{refused}
use Rattle.model.specs.Script.{Command, command_nodes, commands_nodes}
use Rattle.model.specs.Image.{Limits, read_command, read_commands}
use Rattle.model.specs.Memory.{Coded}
use Rattle.model.specs.Record.{command_image_in, commands_image_in}
use Rattle.judge_terms.specs.Told.{Step, Good, Told}
use Rattle.judge_terms.specs.Pieces.{fine, none, good_of, no_of, first_no}
use Rattle.judge_record.specs.Loop.{Part, Next, part_start, part_next, part_no, part_done, part_bytes}
use Rattle.model.specs.declared.Refusal.{Refusal}

-- of h commands from the first on i were judged
pub record Walked (l : Limits) (co : Coded) (h first n at i k p : ℕ) : Type 0 where
  pub part : Part (read_commands l) (commands_image_in co) h first n at i k p
  pub counted : k ≡ n + commands_nodes part.seen
  pub low : k ≤ l.nodes
  pub short : p + 6 * n ≤ at + 6 * k + 4 * i

nodes_snoc : (xs : List Command) (x : Command) → commands_nodes (xs ++ x ∷ []) ≡ commands_nodes xs + command_nodes x
unfolding commands_nodes
nodes_snoc [] x = omega arith
nodes_snoc (y ∷ xs) x = omega (arith, nodes_snoc xs x)

-- one command, before c more
module _ (l : Limits) (co : Coded) (c f k p : ℕ) where
  command_next : {m q : ℕ} (A : Good (read_command l k) command_nodes (command_image_in co f) l.nodes 4 k p m q) → Next (read_commands l) (commands_image_in co) c f A.value k p m q
  unfolding read_commands commands_image_in
  command_next A = record {
    reads = λ t. rw (append_assoc, A.reads (commands_image_in co c (suc f) ++ t), A.counted);
    bytes = omega (arith, length-append (command_image_in co f) (commands_image_in co c (suc f)), A.bytes);
  }

  command_no : {e : ℕ} → ((t : List ℕ) → read_command l k (command_image_in co f ++ t) ≡ refused e) → (t : List ℕ) → read_commands l (suc c) k (commands_image_in co (suc c) f ++ t) ≡ refused e
  unfolding read_commands commands_image_in
  command_no q t = first_no (read_command l k) (command_image_in co f) _ (commands_image_in co c (suc f)) q t

module _ (l : Limits) (co : Coded) (h first n at : ℕ) where
  pub walk_start : n ≤ l.nodes → Walked l co h first n at 0 n at
  unfolding commands_nodes
  walk_start few = record { part = part_start (read_commands l) (commands_image_in co) h first n at; counted = omega arith; low = few; short = omega arith }

  module _ {i k p : ℕ} (P : Walked l co h first n at i k p) where
    module _ (lt : i < h) {j : ℕ} (ej : j ≡ first + i) {r : Step} (t : Told (read_command l k) command_nodes (command_image_in co j) l.nodes 4 k p r) where
      here : Told (read_command l k) command_nodes (command_image_in co (first + i)) l.nodes 4 k p r
      here = rw ej at t

      pub walk_next : {m q : ℕ} → r ≡ Ok (m, q) → Walked l co h first n at (i + 1) m q
      walk_next e =
          let A = good_of here e in
          let c = P.counted in
          let s = P.short in
          record {
            part = part_next (read_commands l) (commands_image_in co) h first n at P.part lt A.value (command_next l co (h - (i + 1)) (first + i) k p A);
            counted = omega (arith, A.counted, nodes_snoc P.part.seen A.value);
            low = A.low;
            short = omega (arith, A.short);
          }

      pub walk_no : {e : Refusal} → r ≡ Err e → Told (read_commands l h n) commands_nodes (commands_image_in co h first) l.nodes (4 * h) n at (Err e)
      walk_no e = none (part_no (read_commands l) (commands_image_in co) h first n at P.part lt (command_no l co (h - (i + 1)) (first + i) k p (no_of here e)))

    pub walk_done : h ≤ i → i ≤ h → Told (read_commands l h n) commands_nodes (commands_image_in co h first) l.nodes (4 * h) n at (Ok (k, p))
    unfolding read_commands commands_image_in
    walk_done ge le =
        let s = P.short in
        fine (record {
          value = P.part.seen;
          reads = part_done (read_commands l) (commands_image_in co) h first n at P.part ge (λ t. refl);
          counted = P.counted;
          low = P.low;
          bytes = part_bytes (read_commands l) (commands_image_in co) h first n at P.part ge (λ t. refl) refl;
          short = omega arith;
        })
