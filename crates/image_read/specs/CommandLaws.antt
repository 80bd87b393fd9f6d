-- The steps of the command reader. Assumes nothing.
use Rattle.std.specs.Prelude.{◌≡◌, refl, Result, Ok, Err, ℤ, drop}
use Rattle.std.proofs.Math.Path.{ap, ap₂, sym}
use Rattle.std.proofs.Common.{◌∙◌, add-zero}
use mathlib.Core.List.{List}
use Prim.Native.Nat.{ℕ, zero, suc, ◌+◌, ◌-◌, ◌≤◌, ◌<◌}
use native.Mathlib.Omega.{arith}
use borrow.Author.Tests.{lt-ltb, le-ltb}
use Rattle.std.proofs.Math.ListN.{length}
use Rattle.model.specs.Limits.{node_limit, depth_limit, wide}
use Rattle.model.specs.Reading.{Answer, got, refused, onward, number}
use Rattle.model.specs.Expr.{Expr, size}
use Rattle.model.specs.Script.{return, goto, set_variable, set_other, if_else, end_if, other_command, command_nodes}
use Rattle.model.specs.Image.{Limits, read_expr, read_block_no, read_term, set_of, command_of, read_command}
use Rattle.model.specs.Memory.{Nodes, nodes_in, put_expr, coded_in, push_command, put_command}
use Rattle.memory.specs.Pushed.{PushedCommand}
use Rattle.image_read.specs.Told.{ToldNumber, read_at, ToldExpr, limits_of, ToldNo, ToldJump, ToldCommand, ToldSet}
use Rattle.image_read.specs.ExprLaws.{done, grown}
use Rattle.model.specs.Refusals.{refusal_number}
use Rattle.model.specs.declared.Refusal.{Refusal}
use Rattle.model.specs.declared.Refusal.TheVariants.{NoSuchLink}
use Rattle.memory.specs.PutNodes.{count_put}

-- ---- a block's number

module _ (s t : List ℕ) (b : ℕ) where
  pub block_in_lem : (k p : ℕ) → ToldNumber s (number wide t) (Ok (k, p)) → k < b → ToldNo s (read_block_no b t) (Ok (k, p))
  unfolding ToldNumber ToldNo read_block_no
  block_in_lem k p a h = (rw (a.0, lt-ltb k b h), a.1)

  pub block_out : (k p : ℕ) → ToldNumber s (number wide t) (Ok (k, p)) → b ≤ k → ToldNo s (read_block_no b t) (Err NoSuchLink)
  unfolding ToldNumber ToldNo read_block_no
  block_out k p a h = rw (a.0, le-ltb k b h)

  pub block_bad : (e : Refusal) → ToldNumber s (number wide t) (Err e) → ToldNo s (read_block_no b t) (Err e)
  unfolding ToldNumber ToldNo read_block_no
  block_bad e a = rw (a.0, a.1)

-- ---- a command that only names a block

module _ (s : List ℕ) (a : Answer ℕ) (w : List ℕ) (n m o : ℕ) where
  pub jump_done : (k p j : ℕ) (w' : List ℕ) → ToldNo s a (Ok (k, p)) → PushedCommand w m o 0 0 k w' j → ToldJump s a w n m o (Ok (n, p)) w'
  unfolding ToldNo ToldJump
  jump_done k p j w' f u = (refl, record { to = k; read = f.0; place = f.1; after = u.is })

  pub jump_no : (e : Refusal) (w' : List ℕ) → ToldNo s a (Err e) → ToldJump s a w n m o (Err e) w'
  unfolding ToldNo ToldJump
  jump_no e w' f = f

-- ---- an expression of a command

pub record Term (s : List ℕ) (w : List ℕ) (v : List ℤ) (p n : ℕ) (w₁ : List ℕ) (v₁ : List ℤ) (n₁ p₁ : ℕ) : Type 0 where
  pub tree : Expr
  pub read : read_expr node_limit depth_limit n (drop p s) ≡ got tree (drop p₁ s)
  pub place : p₁ ≤ length s
  pub after : nodes_in w₁ v₁ n₁ ≡ put_expr (nodes_in w v n) tree
  pub counted : n₁ ≡ n + size tree
  pub low : n₁ ≤ node_limit
  pub some : n < n₁

module _ (s : List ℕ) (w : List ℕ) (v : List ℤ) (p n : ℕ) (w₁ : List ℕ) (v₁ : List ℤ) where
  same : read_expr node_limit depth_limit n (drop p s) ≡ read_at s p n 0
  same = rw add-zero

  pub is_term : (n₁ p₁ : ℕ) → ToldExpr s (nodes_in w v n) (read_at s p n 0) (Ok (n₁, p₁)) w₁ v₁ → Term s w v p n w₁ v₁ n₁ p₁
  is_term n₁ p₁ t =
      let d = done s w v p n 0 w₁ v₁ n₁ p₁ t in
      let g = grown s w v p n 0 w₁ v₁ n₁ p₁ t in
      record {
        tree = d.tree;
        read = same ∙ d.read;
        place = d.place;
        after = d.after;
        counted = ap (λ (x : Nodes). x.count) d.after ∙ count_put (nodes_in w v n) d.tree;
        low = omega (arith, g.room);
        some = g.more;
      }

  pub no_term : (e : Refusal) → ToldExpr s (nodes_in w v n) (read_at s p n 0) (Err e) w₁ v₁ → read_expr node_limit depth_limit n (drop p s) ≡ refused (refusal_number e)
  unfolding ToldExpr
  no_term e t = same ∙ t

-- ---- If: its condition, then its block

module _ (s : List ℕ) (w : List ℕ) (v : List ℤ) (cw : List ℕ) (n m b p : ℕ) where
  pub if_no : (e : Refusal) (w' : List ℕ) (v' : List ℤ) (cw' : List ℕ) → read_expr node_limit depth_limit n (drop p s) ≡ refused (refusal_number e) → ToldCommand s (coded_in w v cw n m) (command_of (limits_of b) n 3 (drop p s)) (Err e) w' v' cw' (m + 1)
  unfolding ToldCommand command_of read_term
  if_no e w' v' cw' f = rw f

  module _ (w₁ : List ℕ) (v₁ : List ℤ) (n₁ p₁ : ℕ) (T : Term s w v p n w₁ v₁ n₁ p₁) where
    pub if_no_2 : (e : Refusal) (w' : List ℕ) (v' : List ℤ) (cw' : List ℕ) → ToldNo s (read_block_no b (drop p₁ s)) (Err e) → ToldCommand s (coded_in w v cw n m) (command_of (limits_of b) n 3 (drop p s)) (Err e) w' v' cw' (m + 1)
    unfolding ToldCommand ToldNo command_of read_term
    if_no_2 e w' v' cw' f = rw (T.read, f)

    pub if_done : (k p' j : ℕ) (cw' : List ℕ) → ToldNo s (read_block_no b (drop p₁ s)) (Ok (k, p')) → PushedCommand cw m 3 (n₁ - 1) 0 k cw' j → ToldCommand s (coded_in w v cw n m) (command_of (limits_of b) n 3 (drop p s)) (Ok (n₁, p')) w₁ v₁ cw' (m + 1)
    unfolding ToldCommand ToldNo command_of read_term put_command command_nodes
    if_done k p' j cw' f u = record {
      tree = if_else T.tree k;
      read = rw (T.read, f.0);
      place = f.1;
      after = ap (λ (y : List ℕ). coded_in w₁ v₁ y n₁ (m + 1)) u.is ∙ ap (λ (N : Nodes). push_command (coded_in w v cw n m) N 3 (N.count - 1) 0 k) T.after;
      counted = T.counted;
      low = T.low;
    }

-- ---- Set: what its target is, the target's expression if it is a variable, the value

module _ (s : List ℕ) (w : List ℕ) (v : List ℤ) (cw : List ℕ) (n m p : ℕ) where
  pub set_bad : (e : Refusal) (w' : List ℕ) (v' : List ℤ) (cw' : List ℕ) → ToldNumber s (number 2 (drop p s)) (Err e) → ToldSet s (coded_in w v cw n m) n p (Err e) w' v' cw' (m + 1)
  unfolding ToldSet ToldCommand command_of ToldNumber
  set_bad e w' v' cw' f b = rw (f.0, f.1)

  module _ (z p₀ : ℕ) (f : ToldNumber s (number 2 (drop p s)) (Ok (z, p₀))) where
    at_set : (b : ℕ) → command_of (limits_of b) n 2 (drop p s) ≡ set_of (limits_of b) n z (drop p₀ s)
    unfolding command_of ToldNumber
    at_set b = rw f.0

    at_other : (b : ℕ) → (z ≡ 0 → ⊥) → set_of (limits_of b) n z (drop p₀ s) ≡ onward (read_expr node_limit depth_limit n (drop p₀ s)) (λ v u. got (set_other v) u)
    unfolding set_of read_term
    at_other b h = let q : z ≡ suc (z - 1) = omega arith in ap (λ (g : ℕ). set_of (limits_of b) n g (drop p₀ s)) q

    pub set_no : (e : Refusal) (w' : List ℕ) (v' : List ℤ) (cw' : List ℕ) → read_expr node_limit depth_limit n (drop p₀ s) ≡ refused (refusal_number e) → ToldSet s (coded_in w v cw n m) n p (Err e) w' v' cw' (m + 1)
    unfolding ToldSet ToldCommand set_of read_term
    set_no e w' v' cw' g b = at_set b ∙ any z
      where
        any : (z : ℕ) → set_of (limits_of b) n z (drop p₀ s) ≡ refused (refusal_number e)
        any zero = rw g
        any (suc z) = rw g

    module _ (w₁ : List ℕ) (v₁ : List ℤ) (n₁ p₁ : ℕ) (T : Term s w v p₀ n w₁ v₁ n₁ p₁) where
      pub set_other_lem : (j : ℕ) (cw' : List ℕ) → (z ≡ 0 → ⊥) → PushedCommand cw m 2 0 (n₁ - 1) 1 cw' j → ToldSet s (coded_in w v cw n m) n p (Ok (n₁, p₁)) w₁ v₁ cw' (m + 1)
      unfolding ToldSet ToldCommand put_command command_nodes
      set_other_lem j cw' h u b = record {
        tree = set_other T.tree;
        read = at_set b ∙ at_other b h ∙ rw T.read;
        place = T.place;
        after = ap (λ (y : List ℕ). coded_in w₁ v₁ y n₁ (m + 1)) u.is ∙ ap (λ (N : Nodes). push_command (coded_in w v cw n m) N 2 0 (N.count - 1) 1) T.after;
        counted = T.counted;
        low = T.low;
      }

      value : (b : ℕ) → z ≡ 0 → command_of (limits_of b) n 2 (drop p s) ≡ onward (read_expr node_limit depth_limit n₁ (drop p₁ s)) (λ e u. got (set_variable T.tree e) u)
      unfolding set_of read_term
      value b h = at_set b ∙ rw (h, T.read, ← T.counted)

      pub set_no_2 : (e : Refusal) (w' : List ℕ) (v' : List ℤ) (cw' : List ℕ) → z ≡ 0 → read_expr node_limit depth_limit n₁ (drop p₁ s) ≡ refused (refusal_number e) → ToldSet s (coded_in w v cw n m) n p (Err e) w' v' cw' (m + 1)
      unfolding ToldSet ToldCommand
      set_no_2 e w' v' cw' h g b = value b h ∙ rw g

      pub set_variable_lem : (w₂ : List ℕ) (v₂ : List ℤ) (n₂ p₂ : ℕ) → Term s w₁ v₁ p₁ n₁ w₂ v₂ n₂ p₂ → (j : ℕ) (cw' : List ℕ) → z ≡ 0 → PushedCommand cw m 2 (n₁ - 1) (n₂ - 1) 0 cw' j → ToldSet s (coded_in w v cw n m) n p (Ok (n₂, p₂)) w₂ v₂ cw' (m + 1)
      unfolding ToldSet ToldCommand put_command command_nodes
      set_variable_lem w₂ v₂ n₂ p₂ U j cw' h u b =
          let all : nodes_in w₂ v₂ n₂ ≡ put_expr (put_expr (nodes_in w v n) T.tree) U.tree = U.after ∙ ap (λ (N : Nodes). put_expr N U.tree) T.after in
          record {
            tree = set_variable T.tree U.tree;
            read = value b h ∙ rw U.read;
            place = U.place;
            after = ap (λ (y : List ℕ). coded_in w₂ v₂ y n₂ (m + 1)) u.is ∙ ap₂ (λ (M N : Nodes). push_command (coded_in w v cw n m) N 2 (M.count - 1) (N.count - 1) 0) T.after all;
            counted = omega (arith, T.counted, U.counted);
            low = U.low;
          }

-- ---- by the code

more_than_four : (l : Limits) (n c : ℕ) (t : List ℕ) → 4 < c → command_of l n c t ≡ got other_command t
unfolding command_of
more_than_four l n zero t h = absurd (omega arith)
more_than_four l n (suc zero) t h = absurd (omega arith)
more_than_four l n (suc (suc zero)) t h = absurd (omega arith)
more_than_four l n (suc (suc (suc zero))) t h = absurd (omega arith)
more_than_four l n (suc (suc (suc (suc zero)))) t h = absurd (omega arith)
more_than_four l n (suc (suc (suc (suc (suc c))))) t h = refl

module _ (s : List ℕ) (w : List ℕ) (v : List ℤ) (cw : List ℕ) (n m b at : ℕ) where
  pub command_bad : (e : Refusal) (w' : List ℕ) (v' : List ℤ) (cw' : List ℕ) → ToldNumber s (number 6 (drop at s)) (Err e) → ToldCommand s (coded_in w v cw n m) (read_command (limits_of b) n (drop at s)) (Err e) w' v' cw' (m + 1)
  unfolding ToldCommand read_command ToldNumber
  command_bad e w' v' cw' a = rw (a.0, a.1)

  module _ (c p : ℕ) (a : ToldNumber s (number 6 (drop at s)) (Ok (c, p))) where
    at_code : read_command (limits_of b) n (drop at s) ≡ command_of (limits_of b) n c (drop p s)
    unfolding read_command ToldNumber
    at_code = rw a.0

    here : p ≤ length s
    unfolding ToldNumber
    here = a.1

    -- a command without node or block
    pub return_done : (j : ℕ) (cw' : List ℕ) → n ≤ node_limit → c ≡ 0 → PushedCommand cw m 0 0 0 0 cw' j → ToldCommand s (coded_in w v cw n m) (read_command (limits_of b) n (drop at s)) (Ok (n, p)) w v cw' (m + 1)
    unfolding ToldCommand command_of put_command command_nodes
    return_done j cw' low k u = record {
      tree = return;
      read = at_code ∙ rw k;
      place = here;
      after = ap (λ (x : List ℕ). coded_in w v x n (m + 1)) u.is;
      counted = sym (add-zero n);
      low = low;
    }

    pub other_done : (j : ℕ) (cw' : List ℕ) → n ≤ node_limit → 4 < c → PushedCommand cw m 5 0 0 0 cw' j → ToldCommand s (coded_in w v cw n m) (read_command (limits_of b) n (drop at s)) (Ok (n, p)) w v cw' (m + 1)
    unfolding ToldCommand put_command command_nodes
    other_done j cw' low more u = record {
      tree = other_command;
      read = at_code ∙ more_than_four (limits_of b) n c (drop p s) more;
      place = here;
      after = ap (λ (x : List ℕ). coded_in w v x n (m + 1)) u.is;
      counted = sym (add-zero n);
      low = low;
    }

    pub goto_told : (x : Result (ℕ × ℕ) Refusal) (cw' : List ℕ) → n ≤ node_limit → c ≡ 1 → ToldJump s (read_block_no b (drop p s)) cw n m 1 x cw' → ToldCommand s (coded_in w v cw n m) (read_command (limits_of b) n (drop at s)) x w v cw' (m + 1)
    unfolding ToldCommand ToldJump command_of put_command command_nodes
    goto_told (Ok (k, p')) cw' low kk (e, J) = record {
      tree = goto J.to;
      read = at_code ∙ rw (kk, J.read);
      place = J.place;
      after = ap₂ (λ (x : List ℕ) (g : ℕ). coded_in w v x g (m + 1)) J.after e;
      counted = e ∙ sym (add-zero n);
      low = rw e low;
    }
    goto_told (Err k) cw' low kk f = at_code ∙ rw (kk, f)

    pub endif_told : (x : Result (ℕ × ℕ) Refusal) (cw' : List ℕ) → n ≤ node_limit → c ≡ 4 → ToldJump s (read_block_no b (drop p s)) cw n m 4 x cw' → ToldCommand s (coded_in w v cw n m) (read_command (limits_of b) n (drop at s)) x w v cw' (m + 1)
    unfolding ToldCommand ToldJump command_of put_command command_nodes
    endif_told (Ok (k, p')) cw' low kk (e, J) = record {
      tree = end_if J.to;
      read = at_code ∙ rw (kk, J.read);
      place = J.place;
      after = ap₂ (λ (x : List ℕ) (g : ℕ). coded_in w v x g (m + 1)) J.after e;
      counted = e ∙ sym (add-zero n);
      low = rw e low;
    }
    endif_told (Err k) cw' low kk f = at_code ∙ rw (kk, f)

    module _ (x : Result (ℕ × ℕ) Refusal) (w' : List ℕ) (v' : List ℤ) (cw' : List ℕ) where
      pub if_told : c ≡ 3 → ToldCommand s (coded_in w v cw n m) (command_of (limits_of b) n 3 (drop p s)) x w' v' cw' (m + 1) → ToldCommand s (coded_in w v cw n m) (read_command (limits_of b) n (drop at s)) x w' v' cw' (m + 1)
      if_told kk t = rw (at_code, kk) t

      pub set_told : c ≡ 2 → ToldSet s (coded_in w v cw n m) n p x w' v' cw' (m + 1) → ToldCommand s (coded_in w v cw n m) (read_command (limits_of b) n (drop at s)) x w' v' cw' (m + 1)
      unfolding ToldSet
      set_told kk t = rw (at_code, kk) (t b)
