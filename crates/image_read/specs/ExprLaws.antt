-- The steps of the expression reader. Assumes nothing.
use Rattle.std.specs.Prelude.{◌≡◌, refl, Option, Some, None, Result, Ok, Err, IfOk, ok_or, List, ℤ, pos, length, drop}
use Rattle.std.proofs.Math.Path.{ap, ap₂, sym}
use Rattle.std.proofs.Common.{◌∙◌}
use Prim.Native.Nat.{ℕ, zero, suc, ◌+◌, ◌-◌, ◌≤◌, ◌<◌}
use native.Mathlib.Omega.{arith}
use borrow.Author.Tests.{lt-ltb, le-ltb}
use Rattle.model.specs.Limits.{node_limit, depth_limit, wide, wide16}
use Rattle.model.specs.Refusal.{bad_image, over_limit}
use Rattle.model.specs.Reading.{Answer, got, refused, onward, number, zag}
use Rattle.model.specs.Expr.{two, one, imm16, imm32, other, size}
use Rattle.model.specs.Image.{kind_of, code_of, code2, code1, read_kind, read_operands, read_expr}
use Rattle.model.specs.Memory.{Nodes, nodes_in, push_node, put_expr}
use Rattle.model.proofs.Laws.Reading.{number_low}
use Rattle.model.proofs.Laws.ImageExpr.{was_expr, code_kind}
use Rattle.model.specs.declared.Op2.{Op2}
use Rattle.model.specs.declared.Op1.{Op1}
use Rattle.model.specs.declared.Kind.{Kind}
use Rattle.model.specs.declared.Kind.TheVariants.{Two, One, Imm16, Imm32, Other}
use Rattle.memory.specs.Pushed.{PushedNode}
use Rattle.image_numbers.specs.Told.{Told}
use Rattle.image_read.specs.Told.{ToldNumber, ToldImm, read_at, Head, ToldHead, ToldExpr, PutTerm}
use Rattle.model.specs.declared.Refusal.{Refusal}
use Rattle.model.specs.declared.Refusal.TheVariants.{BadImage, OverLimit, TooDeep}
use Rattle.memory.specs.PutNodes.{count_put, size_pos}

-- ---- a number

module _ (s t : List ℕ) (l : ℕ) where
  pub number_told : (r : Option (ℕ × ℕ)) → Told s r (number l t) → ToldNumber s (number l t) (ok_or r BadImage)
  unfolding Told ToldNumber
  number_told (Some (v, p)) q = q
  number_told None q = (q, refl)

  pub number_under : (r : Option (ℕ × ℕ)) → Told s r (number l t) → IfOk (ok_or r BadImage) (λ x. x.0 < l)
  unfolding Told
  number_under (Some (v, p)) q = number_low l t v (drop p s) q.0
  number_under None q = tt

-- .. and one that is pushed
module _ (s : List ℕ) (a : Answer ℕ) (ns : Nodes) (o : ℕ) (w : List ℕ) (vs : List ℤ) where
  pub imm_told : (v p m : ℕ) {z : ℤ} → ToldNumber s a (Ok (v, p)) → z ≡ zag v → PushedNode ns o 0 0 z (nodes_in w vs m) → ToldImm s ns o a (Ok (m, p)) w vs
  unfolding ToldNumber ToldImm
  imm_told v p m q ez h = record { value = v; read = q.0; place = q.1; after = h.is ∙ ap (push_node ns o 0 0) ez }

  pub imm_bad : (e : Refusal) → ToldNumber s a (Err e) → ToldImm s ns o a (Err e) w vs
  unfolding ToldNumber ToldImm
  imm_bad e q = q

-- ---- counts

-- what an expression that was read leaves of the counts
pub record Grown (n o m : ℕ) : Type 0 where
  pub more : n < m
  pub room : m + o ≤ node_limit

module _ (s : List ℕ) (w : List ℕ) (vs : List ℤ) (p n o : ℕ) (w' : List ℕ) (vs' : List ℤ) where
  pub done : (m p' : ℕ) → ToldExpr s (nodes_in w vs n) (read_at s p n o) (Ok (m, p')) w' vs' → PutTerm s (nodes_in w vs n) (read_at s p n o) p' (nodes_in w' vs' m)
  unfolding ToldExpr
  done m p' t = t

  pub grown : (m p' : ℕ) → ToldExpr s (nodes_in w vs n) (read_at s p n o) (Ok (m, p')) w' vs' → Grown n o m
  grown m p' t =
      let d = done m p' t in
      let e : m ≡ n + size d.tree = ap (λ (x : Nodes). x.count) d.after ∙ count_put (nodes_in w vs n) d.tree in
      let h = (was_expr node_limit (depth_limit - o) (n + o) (drop p s) d.tree (drop p' s) d.read).holds.room in
      record { more = omega (arith, size_pos d.tree, e); room = omega (arith, e) }

-- ---- the code is read first

module _ (s : List ℕ) (at n o : ℕ) where
  bad : (d k : ℕ) → number 19 (drop at s) ≡ refused bad_image → read_expr node_limit d k (drop at s) ≡ refused bad_image
  unfolding read_expr read_kind
  bad zero k e = rw e
  bad (suc d) k e = rw e

  pub head_bad : (e : Refusal) → ToldNumber s (number 19 (drop at s)) (Err e) → ToldHead s at n o (Err e)
  unfolding ToldNumber ToldHead
  head_bad e q = rw q.1 (bad (depth_limit - o) (n + o) q.0)

  module _ (c p : ℕ) (q : ToldNumber s (number 19 (drop at s)) (Ok (c, p))) where
    read : number 19 (drop at s) ≡ got c (drop p s)
    unfolding ToldNumber
    read = q.0

    place : p ≤ length s
    unfolding ToldNumber
    place = q.1

    kind_read : read_kind (drop at s) ≡ got (kind_of c) (drop p s)
    unfolding read_kind
    kind_read = rw read

    full : (d k : ℕ) → node_limit ≤ k → read_expr node_limit d k (drop at s) ≡ refused over_limit
    unfolding read_expr
    full zero k h = rw (kind_read, le-ltb k node_limit h)
    full (suc d) k h = rw (kind_read, le-ltb k node_limit h)

    pub head_full : node_limit ≤ n + o → ToldHead s at n o (Err OverLimit)
    unfolding ToldHead
    head_full h = full (depth_limit - o) (n + o) h

    pub head_deep : n + o < node_limit → depth_limit ≤ o → ToldHead s at n o (Err TooDeep)
    unfolding ToldHead read_expr
    head_deep h g =
        let z : depth_limit - o ≡ 0 = omega arith in
        rw (z, kind_read, lt-ltb (n + o) node_limit h)

    pub head_low : c < 19
    head_low = number_low 19 (drop at s) c (drop p s) read

    pub head_done : n + o < node_limit → o < depth_limit → ToldHead s at n o (Ok (c, p))
    unfolding ToldHead
    head_done h g = record { read = read; place = place; low = head_low; room = h; level = g }

  pub headed : (c p : ℕ) → ToldHead s at n o (Ok (c, p)) → Head s at n o c p
  unfolding ToldHead
  headed c p q = q

  pub told_no : (e : Refusal) (ns : Nodes) (w : List ℕ) (vs : List ℤ) → ToldHead s at n o (Err e) → ToldExpr s ns (read_at s at n o) (Err e) w vs
  unfolding ToldHead ToldExpr
  told_no e ns w vs q = q

-- ---- by the kind of the code

module _ (s : List ℕ) (at n o c p : ℕ) (h : Head s at n o c p) (k : Kind) (ek : k ≡ kind_of c) where
  kind_at : read_kind (drop at s) ≡ got (kind_of c) (drop p s)
  unfolding read_kind
  kind_at = rw h.read

  goes : read_at s at n o ≡ read_operands (read_expr node_limit (depth_limit - (o + 1))) (n + o) k (drop p s)
  unfolding read_expr
  goes =
      let g = h.level in
      let z : depth_limit - o ≡ suc (depth_limit - (o + 1)) = omega arith in
      rw (z, kind_at, lt-ltb (n + o) node_limit h.room, ek)

  up : suc (n + o) ≡ n + (o + 1)
  up = omega arith

  code_is : code_of k ≡ c
  code_is = ap code_of ek ∙ code_kind c h.low

  module _ (w : List ℕ) (vs : List ℤ) (w' : List ℕ) (vs' : List ℤ) where
    pub told_other : (m : ℕ) → k ≡ Other → PushedNode (nodes_in w vs n) 18 0 0 (pos 0) (nodes_in w' vs' m) → ToldExpr s (nodes_in w vs n) (read_at s at n o) (Ok (m, p)) w' vs'
    unfolding ToldExpr read_operands put_expr
    told_other m kk u = record { tree = other; read = goes ∙ rw kk; place = h.place; after = u.is }

    pub told_imm16 : (a : Result (ℕ × ℕ) Refusal) → k ≡ Imm16 → ToldImm s (nodes_in w vs n) 11 (number wide16 (drop p s)) a w' vs' → ToldExpr s (nodes_in w vs n) (read_at s at n o) a w' vs'
    unfolding ToldExpr ToldImm read_operands put_expr
    told_imm16 (Ok (m, p')) kk i = record { tree = imm16 (zag i.value); read = goes ∙ rw (kk, i.read); place = i.place; after = i.after }
    told_imm16 (Err e) kk i = goes ∙ rw (kk, i.0, i.1)

    pub told_imm32 : (a : Result (ℕ × ℕ) Refusal) → k ≡ Imm32 → ToldImm s (nodes_in w vs n) 12 (number wide (drop p s)) a w' vs' → ToldExpr s (nodes_in w vs n) (read_at s at n o) a w' vs'
    unfolding ToldExpr ToldImm read_operands put_expr
    told_imm32 (Ok (m, p')) kk i = record { tree = imm32 (zag i.value); read = goes ∙ rw (kk, i.read); place = i.place; after = i.after }
    told_imm32 (Err e) kk i = goes ∙ rw (kk, i.0, i.1)

  module _ (w : List ℕ) (vs : List ℤ) (x : Op1) (kk : k ≡ One x) (w₁ : List ℕ) (vs₁ : List ℤ) where
    goes_one : read_at s at n o ≡ onward (read_at s p n (o + 1)) (λ a t. got (one x a) t)
    unfolding read_operands
    goes_one = goes ∙ rw (kk, up)

    pub told_one : (n₁ p₁ m : ℕ) (w₂ : List ℕ) (vs₂ : List ℤ) → ToldExpr s (nodes_in w vs n) (read_at s p n (o + 1)) (Ok (n₁, p₁)) w₁ vs₁ → PushedNode (nodes_in w₁ vs₁ n₁) c (n₁ - 1) 0 (pos 0) (nodes_in w₂ vs₂ m) → ToldExpr s (nodes_in w vs n) (read_at s at n o) (Ok (m, p₁)) w₂ vs₂
    unfolding ToldExpr put_expr code_of
    told_one n₁ p₁ m w₂ vs₂ d u =
        let ci : c ≡ code1 x = sym code_is ∙ ap code_of kk in
        let N = put_expr (nodes_in w vs n) d.tree in
        record {
          tree = one x d.tree;
          read = goes_one ∙ rw d.read;
          place = d.place;
          after = u.is ∙ ap (λ (y : Nodes). push_node y c (y.count - 1) 0 (pos 0)) d.after ∙ ap (λ (j : ℕ). push_node N j (N.count - 1) 0 (pos 0)) ci;
        }

    pub told_one_no : (e : Refusal) (w' : List ℕ) (vs' : List ℤ) → ToldExpr s (nodes_in w vs n) (read_at s p n (o + 1)) (Err e) w₁ vs₁ → ToldExpr s (nodes_in w vs n) (read_at s at n o) (Err e) w' vs'
    unfolding ToldExpr
    told_one_no e w' vs' f = goes_one ∙ rw f

  module _ (w : List ℕ) (vs : List ℤ) (x : Op2) (kk : k ≡ Two x) (w₁ : List ℕ) (vs₁ : List ℤ) where
    goes_two : read_at s at n o ≡ onward (read_at s p n (o + 1)) (λ a t. onward (read_expr node_limit (depth_limit - (o + 1)) (n + (o + 1) + size a) t) (λ b u. got (two x a b) u))
    unfolding read_operands
    goes_two = goes ∙ rw (kk, up)

    -- a refused left operand
    pub told_two_no : (e : Refusal) (w' : List ℕ) (vs' : List ℤ) → ToldExpr s (nodes_in w vs n) (read_at s p n (o + 1)) (Err e) w₁ vs₁ → ToldExpr s (nodes_in w vs n) (read_at s at n o) (Err e) w' vs'
    unfolding ToldExpr
    told_two_no e w' vs' f = goes_two ∙ rw f

    module _ (n₁ p₁ : ℕ) (q : ToldExpr s (nodes_in w vs n) (read_at s p n (o + 1)) (Ok (n₁, p₁)) w₁ vs₁) (w₂ : List ℕ) (vs₂ : List ℤ) where
      left : PutTerm s (nodes_in w vs n) (read_at s p n (o + 1)) p₁ (nodes_in w₁ vs₁ n₁)
      left = done s w vs p n (o + 1) w₁ vs₁ n₁ p₁ q

      counted : n + (o + 1) + size left.tree ≡ n₁ + (o + 1)
      counted = omega (arith, ap (λ (y : Nodes). y.count) left.after ∙ count_put (nodes_in w vs n) left.tree)

      then : read_at s at n o ≡ onward (read_at s p₁ n₁ (o + 1)) (λ e t. got (two x left.tree e) t)
      then = goes_two ∙ rw (left.read, counted)

      -- .. and a refused right one
      pub told_two_no_2 : (e : Refusal) (w' : List ℕ) (vs' : List ℤ) → ToldExpr s (nodes_in w₁ vs₁ n₁) (read_at s p₁ n₁ (o + 1)) (Err e) w₂ vs₂ → ToldExpr s (nodes_in w vs n) (read_at s at n o) (Err e) w' vs'
      unfolding ToldExpr
      told_two_no_2 e w' vs' f = then ∙ rw f

      pub told_two : (n₂ p₂ m : ℕ) (w₃ : List ℕ) (vs₃ : List ℤ) → ToldExpr s (nodes_in w₁ vs₁ n₁) (read_at s p₁ n₁ (o + 1)) (Ok (n₂, p₂)) w₂ vs₂ → PushedNode (nodes_in w₂ vs₂ n₂) c (n₁ - 1) (n₂ - 1) (pos 0) (nodes_in w₃ vs₃ m) → ToldExpr s (nodes_in w vs n) (read_at s at n o) (Ok (m, p₂)) w₃ vs₃
      unfolding ToldExpr put_expr code_of
      told_two n₂ p₂ m w₃ vs₃ e u =
          let ci : c ≡ code2 x = sym code_is ∙ ap code_of kk in
          let A = put_expr (nodes_in w vs n) left.tree in
          let B = put_expr A e.tree in
          let all : nodes_in w₂ vs₂ n₂ ≡ B = e.after ∙ ap (λ (y : Nodes). put_expr y e.tree) left.after in
          record {
            tree = two x left.tree e.tree;
            read = then ∙ rw e.read;
            place = e.place;
            after = u.is ∙ ap₂ (λ (y z : Nodes). push_node z c (y.count - 1) (z.count - 1) (pos 0)) left.after all ∙ ap (λ (j : ℕ). push_node B j (A.count - 1) (B.count - 1) (pos 0)) ci;
          }
