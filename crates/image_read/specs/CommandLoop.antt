-- Commands, read one after the other: what holds at the head of the loop. Assumes nothing.
use Rattle.std.specs.Prelude.{◌≡◌, Ok, Err, List, [], ◌∷◌, ◌++◌, ℤ, length, drop}
use Rattle.std.proofs.Math.Path.{refl, ap}
use Rattle.std.proofs.Common.{sym, ◌∙◌, append-nil}
use Prim.Native.Nat.{ℕ, suc, ◌+◌, ◌-◌, ◌≤◌, ◌<◌}
use native.Mathlib.Omega.{arith}
use Rattle.model.specs.Limits.{node_limit}
use Rattle.model.specs.Reading.{Answer, got, refused, onward}
use Rattle.model.specs.Script.{Command, command_nodes}
use Rattle.model.specs.Image.{Limits, read_command, read_commands}
use Rattle.model.specs.Memory.{Coded, coded_in, put_command, put_commands}
use Rattle.image_numbers.specs.Answers.{seen_more, seen_none}
use Rattle.image_read.specs.Told.{limits_of, ToldCommand, PutOne, ToldCommands, PutMany}
use Rattle.model.specs.Refusals.{refusal_number}
use Rattle.model.specs.declared.Refusal.{Refusal}

-- some were read, c are left

pub record CommandsPart (s : List ℕ) (co : Coded) (l : Limits) (a : Answer (List Command)) (c k p : ℕ) (t : Coded) : Type 0 where
  pub seen : List Command
  pub read : a ≡ onward (read_commands l c k (drop p s)) (λ ys r. got (seen ++ ys) r)
  pub place : p ≤ length s
  pub after : t ≡ put_commands co seen
  pub low : k ≤ node_limit

put_snoc : (s : Coded) (xs : List Command) (x : Command) → put_commands s (xs ++ x ∷ []) ≡ put_command (put_commands s xs) x
unfolding put_commands
put_snoc s [] x = refl
put_snoc s (y ∷ xs) x = put_snoc (put_command s y) xs x

module _ (s : List ℕ) (co : Coded) (l : Limits) where
  pub part_start : (c n p : ℕ) → p ≤ length s → n ≤ node_limit → CommandsPart s co l (read_commands l c n (drop p s)) c n p co
  unfolding put_commands
  part_start c n p h g = record { seen = []; read = seen_none _; place = h; after = refl; low = g }

  module _ (a : Answer (List Command)) (c k p : ℕ) (t : Coded) (ck : t.nodes.count ≡ k) (some : 0 < c) (P : CommandsPart s co l a c k p t) where
    left : read_commands l c k (drop p s) ≡ onward (read_command l k (drop p s)) (λ x r. onward (read_commands l (c - 1) (k + command_nodes x) r) (λ xs u. got (x ∷ xs) u))
    unfolding read_commands
    left = let q : c ≡ suc (c - 1) = omega arith in
        ap (λ (g : ℕ). read_commands l g k (drop p s)) q

    pub part_next : (k' p' : ℕ) (t' : Coded) → PutOne s t (read_command l k (drop p s)) p' t' → t'.nodes.count ≡ k' → CommandsPart s co l a (c - 1) k' p' t'
    part_next k' p' t' x e =
        let kk : k + command_nodes x.tree ≡ k' = omega (arith, x.counted, ck, e) in
        let go : read_commands l c k (drop p s) ≡ onward (read_commands l (c - 1) k' (drop p' s)) (λ xs u. got (x.tree ∷ xs) u) = left ∙ rw (x.read, kk) in
        record {
          seen = P.seen ++ x.tree ∷ [];
          read = P.read ∙ ap (λ (b : Answer (List Command)). onward b (λ ys r. got (P.seen ++ ys) r)) go ∙ seen_more (read_commands l (c - 1) k' (drop p' s)) P.seen x.tree;
          place = x.place;
          after = x.after ∙ ap (λ (y : Coded). put_command y x.tree) P.after ∙ sym (put_snoc co P.seen x.tree);
          low = omega (arith, x.low, e);
        }

    pub part_no : (e : ℕ) → read_command l k (drop p s) ≡ refused e → a ≡ refused e
    part_no e q =
        let go : read_commands l c k (drop p s) ≡ refused e = left ∙ rw q in
        P.read ∙ ap (λ (b : Answer (List Command)). onward b (λ ys r. got (P.seen ++ ys) r)) go

  pub part_done : (a : Answer (List Command)) (c k p : ℕ) (t : Coded) → t.nodes.count ≡ k → c ≡ 0 → CommandsPart s co l a c k p t → PutMany s co a p t
  unfolding read_commands
  part_done a c k p t ck z P = record {
    trees = P.seen;
    read = P.read ∙ rw (z, append-nil);
    place = P.place;
    after = P.after;
    low = omega (arith, ck, P.low);
  }

-- ---- as the loop has them

module _ (s : List ℕ) (w : List ℕ) (v : List ℤ) (cw : List ℕ) (n m c b at : ℕ) where
  pub commands_start : n ≤ node_limit → at ≤ length s → CommandsPart s (coded_in w v cw n m) (limits_of b) (read_commands (limits_of b) c n (drop at s)) (c - 0) n at (coded_in w v cw n (m + 0))
  commands_start h g =
      let e : c - 0 ≡ c = omega arith in
      let f : m + 0 ≡ m = omega arith in
      rw (e, f) (part_start s (coded_in w v cw n m) (limits_of b) c n at g h)

  module _ (i k p : ℕ) (w₁ : List ℕ) (v₁ : List ℤ) (cw₁ : List ℕ) (lt : i < c)
      (P : CommandsPart s (coded_in w v cw n m) (limits_of b) (read_commands (limits_of b) c n (drop at s)) (c - i) k p (coded_in w₁ v₁ cw₁ k (m + i)))
      (w₂ : List ℕ) (v₂ : List ℤ) (cw₂ : List ℕ) where
    pub commands_next : (k' p' : ℕ) → ToldCommand s (coded_in w₁ v₁ cw₁ k (m + i)) (read_command (limits_of b) k (drop p s)) (Ok (k', p')) w₂ v₂ cw₂ (m + i + 1) → CommandsPart s (coded_in w v cw n m) (limits_of b) (read_commands (limits_of b) c n (drop at s)) (c - (i + 1)) k' p' (coded_in w₂ v₂ cw₂ k' (m + (i + 1)))
    unfolding ToldCommand
    commands_next k' p' x =
        let f : c - (i + 1) ≡ c - i - 1 = omega arith in
        let g : m + (i + 1) ≡ m + i + 1 = omega arith in
        rw (f, g) (part_next s (coded_in w v cw n m) (limits_of b) (read_commands (limits_of b) c n (drop at s)) (c - i) k p (coded_in w₁ v₁ cw₁ k (m + i)) refl (omega arith) P k' p' (coded_in w₂ v₂ cw₂ k' (m + i + 1)) x refl)

    pub commands_no : (e : Refusal) (w₃ : List ℕ) (v₃ : List ℤ) (cw₃ : List ℕ) → ToldCommand s (coded_in w₁ v₁ cw₁ k (m + i)) (read_command (limits_of b) k (drop p s)) (Err e) w₂ v₂ cw₂ (m + i + 1) → ToldCommands s (coded_in w v cw n m) (read_commands (limits_of b) c n (drop at s)) (Err e) w₃ v₃ cw₃ (m + c)
    unfolding ToldCommand ToldCommands
    commands_no e w₃ v₃ cw₃ x =
        part_no s (coded_in w v cw n m) (limits_of b) (read_commands (limits_of b) c n (drop at s)) (c - i) k p (coded_in w₁ v₁ cw₁ k (m + i)) refl (omega arith) P (refusal_number e) x

  pub commands_done : (i k p : ℕ) (w₁ : List ℕ) (v₁ : List ℤ) (cw₁ : List ℕ) → i ≤ c → c ≤ i
      → CommandsPart s (coded_in w v cw n m) (limits_of b) (read_commands (limits_of b) c n (drop at s)) (c - i) k p (coded_in w₁ v₁ cw₁ k (m + i))
      → ToldCommands s (coded_in w v cw n m) (read_commands (limits_of b) c n (drop at s)) (Ok (k, p)) w₁ v₁ cw₁ (m + c)
  unfolding ToldCommands
  commands_done i k p w₁ v₁ cw₁ h g P =
      let f : m + c ≡ m + i = omega arith in
      rw f (part_done s (coded_in w v cw n m) (limits_of b) (read_commands (limits_of b) c n (drop at s)) (c - i) k p (coded_in w₁ v₁ cw₁ k (m + i)) refl (omega arith) P)
