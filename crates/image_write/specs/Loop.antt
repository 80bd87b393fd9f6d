-- Pieces of an image that are written one after the other. Assumes nothing.
use Rattle.std.specs.Prelude.{◌≡◌, refl, List, [], ◌++◌, ℕ, suc, ◌+◌, ◌-◌, ◌≤◌, ◌<◌}
use Rattle.std.proofs.Common.{arith}
use Rattle.model.specs.Memory.{Coded, Memory}
use Rattle.model.specs.Record.{command_image_in, commands_image_in, blocks_image_in}
use Rattle.judge_record.specs.Stages.{block_image_in}
use Rattle.image_numbers.specs.Stored.{Stored, Room, stored_none, stored_on, stored_as, room_as, room_first, room_next}

-- many h f is one f and those after it, h in all
pub record Pieces (one : ℕ → List ℕ) (many : ℕ → ℕ → List ℕ) : Type 0 where
  pub none : (f : ℕ) → many 0 f ≡ []
  pub next : (h f : ℕ) → many (suc h) f ≡ one f ++ many h (suc f)

pub commands_pieces : (co : Coded) → Pieces (command_image_in co) (commands_image_in co)
unfolding commands_image_in
commands_pieces co = record { none = λ f. refl; next = λ h f. refl }

pub blocks_pieces : (m : Memory) → Pieces (block_image_in m) (blocks_image_in m)
unfolding blocks_image_in
blocks_pieces m = record { none = λ f. refl; next = λ h f. refl }

-- of h pieces from the first on i were written: there is room for the others, and with them all are there
pub record Going (many : ℕ → ℕ → List ℕ) (h first : ℕ) (xs : List ℕ) (at i : ℕ) (ys : List ℕ) (p : ℕ) : Type 0 where
  pub room : Room ys p (many (h - i) (first + i))
  pub then : (zs : List ℕ) (r : ℕ) → Stored ys p (many (h - i) (first + i)) zs r → Stored xs at (many h first) zs r

module _ {one : ℕ → List ℕ} {many : ℕ → ℕ → List ℕ} (P : Pieces one many) (h first : ℕ) where
  pub go_start : {xs : List ℕ} {at : ℕ} → Room xs at (many h first) → Going many h first xs at 0 xs at
  go_start r =
      let e : h - 0 ≡ h = omega arith in
      let f : first + 0 ≡ first = omega arith in
      record { room = rw (e, f) r; then = λ zs p. rw (e, f) (λ u. u) }

  module _ {xs ys : List ℕ} {at i p : ℕ} (G : Going many h first xs at i ys p) where
    -- the next piece, before those after it
    split : i < h → many (h - i) (first + i) ≡ one (first + i) ++ many (h - (i + 1)) (first + (i + 1))
    split lt =
        let e : h - i ≡ suc (h - (i + 1)) = omega arith in
        let f : first + (i + 1) ≡ suc (first + i) = omega arith in
        rw (e, f) (P.next (h - (i + 1)) (first + i))

    module _ (lt : i < h) {j : ℕ} (ej : j ≡ first + i) where
      pub go_room : Room ys p (one j)
      go_room = rw ej (room_first (many (h - (i + 1)) (first + (i + 1))) (room_as (split lt) G.room))

      pub go_next : {zs : List ℕ} {q : ℕ} → Stored ys p (one j) zs q → Going many h first xs at (i + 1) zs q
      go_next {zs} {q} s =
          let t : Stored ys p (one (first + i)) zs q = rw ej at s in
          record {
            room = room_next t (room_as (split lt) G.room);
            then = λ us r u. G.then us r (stored_as (split lt) (stored_on t u));
          }

    pub go_end : h ≤ i → Stored xs at (many h first) ys p
    go_end ge =
        let e : h - i ≡ 0 = omega arith in
        G.then ys p (rw e (stored_as (P.none (first + i)) stored_none))
