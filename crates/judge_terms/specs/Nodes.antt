-- A node is judged as its image would be read. Assumes nothing.
use Rattle.std.specs.Prelude.{◌≡◌, refl, Bool, cond, Ok, Err}
use Rattle.std.proofs.Math.Bool.{true, false}
use mathlib.Core.List.{List, ◌++◌, append_assoc}
use Prim.Native.Nat.{ℕ, zero, suc, ◌+◌, ◌-◌, ◌≤◌, ◌<◌}
use native.Mathlib.Omega.{arith}
use Rattle.std.proofs.Math.Dec.{ltb}
use borrow.Author.Tests.{ltb-true, ltb-false, lt-ltb, le-ltb}
use Rattle.std.proofs.Math.ListN.{length}
use Rattle.std.proofs.Common.{length-append}
use Rattle.model.specs.Limits.{wide, wide16}
use Rattle.model.specs.Refusal.{bad_image, over_limit, too_deep}
use Rattle.model.specs.Reading.{got, refused, onward, number, word, zig, zag}
use Rattle.model.specs.Expr.{Expr, two, one, imm16, imm32, other, size}
use Rattle.model.specs.Image.{Limits, kind_of, read_kind, read_operands, read_expr, read_term}
use Rattle.model.specs.Memory.{Nodes, code_at, left_at, right_at, value_at}
use Rattle.model.specs.Record.{follow_image, node_image, root_image}
use Rattle.model.proofs.Laws.Reading.{read_word}
use Rattle.model.specs.declared.Op2.{Op2}
use Rattle.model.specs.declared.Op1.{Op1}
use Rattle.model.specs.declared.Kind.{Kind}
use Rattle.model.specs.declared.Kind.TheVariants.{Two, One, Imm16, Imm32, Other}
use Rattle.image_numbers.specs.Lengths.{read_over, word_1, word_short}
use Rattle.judge_terms.specs.Told.{Step, Told, imm_judged}
use Rattle.judge_terms.specs.Pieces.{fine, none, good_of, no_of, moved, looser, wrapped, first_no, paired}
use Rattle.model.specs.declared.Refusal.{Refusal}
use Rattle.model.specs.declared.Refusal.TheVariants.{BadImage, OverLimit, TooDeep}
use Rattle.memory.specs.NodeLaws.{image_node, image_none}

-- ---- an immediate

pub imm_fine : (v l n at w u : ℕ) → u ≡ v → u < l → w ≡ length (word u) → Ok (n, at + w) ≡ imm_judged v l n at
unfolding imm_judged
imm_fine v l n at w u e h q = rw (← e, lt-ltb u l h, q)

pub imm_no : (v l n at u : ℕ) → u ≡ v → l ≤ u → Err BadImage ≡ imm_judged v l n at
unfolding imm_judged
imm_no v l n at u e h = rw (← e, le-ltb u l h)

-- ---- reading, by what the code is

module _ (l : ℕ) (s : List ℕ) where
  read_bad : (d n : ℕ) → number 19 s ≡ refused bad_image → read_expr l d n s ≡ refused bad_image
  unfolding read_expr read_kind
  read_bad zero n e = rw e
  read_bad (suc d) n e = rw e

  read_full : (d n : ℕ) (k : Kind) (r : List ℕ) → read_kind s ≡ got k r → l ≤ n → read_expr l d n s ≡ refused over_limit
  unfolding read_expr
  read_full zero n k r e h = rw (e, le-ltb n l h)
  read_full (suc d) n k r e h = rw (e, le-ltb n l h)

  read_deep : (n : ℕ) (k : Kind) (r : List ℕ) → read_kind s ≡ got k r → n < l → read_expr l 0 n s ≡ refused too_deep
  unfolding read_expr
  read_deep n k r e h = rw (e, lt-ltb n l h)

  read_on : (d n : ℕ) (k : Kind) (r : List ℕ) → read_kind s ≡ got k r → n < l → read_expr l (suc d) n s ≡ read_operands (read_expr l d) n k r
  unfolding read_expr
  read_on d n k r e h = rw (e, lt-ltb n l h)

-- ---- what the judge finds

module _ (ns : Nodes) (b i l n at o : ℕ) where
  pub node_absent : b ≤ i → Told (read_expr l (64 - o) n) size (node_image ns b i) l 0 n at (Err BadImage)
  node_absent h = none (λ t. rw (image_none ns b i h) (read_bad l (word 19 ++ t) (64 - o) n (read_over 19 19 t (omega arith))))

  module _ (lt : i < b) where
    pub node_unknown : 19 ≤ code_at ns i → Told (read_expr l (64 - o) n) size (node_image ns b i) l 0 n at (Err BadImage)
    node_unknown h = none (λ t. rw (image_node ns b i lt, append_assoc) (read_bad l (word (code_at ns i) ++ (follow_image (node_image ns) ns i (kind_of (code_at ns i)) ++ t)) (64 - o) n (read_over 19 (code_at ns i) _ h)))

    module _ (low : code_at ns i < 19) where
      kind_read : (t : List ℕ) → read_kind (node_image ns b i ++ t) ≡ got (kind_of (code_at ns i)) (follow_image (node_image ns) ns i (kind_of (code_at ns i)) ++ t)
      unfolding read_kind
      kind_read t = rw (image_node ns b i lt, append_assoc, read_word 19 (code_at ns i) (follow_image (node_image ns) ns i (kind_of (code_at ns i)) ++ t) low (omega arith))

      pub node_over : l ≤ n → Told (read_expr l (64 - o) n) size (node_image ns b i) l 0 n at (Err OverLimit)
      node_over h = none (λ t. read_full l (node_image ns b i ++ t) (64 - o) n _ _ (kind_read t) h)

      pub node_deep : n < l → 64 ≤ o → Told (read_expr l (64 - o) n) size (node_image ns b i) l 0 n at (Err TooDeep)
      node_deep h g = let z : 64 - o ≡ 0 = omega arith in rw z (none (λ t. read_deep l (node_image ns b i ++ t) n _ _ (kind_read t) h))

-- the nodes of an expression but the topmost
unfoldable inner : Expr → ℕ
inner (two o a b) = size a + size b
inner (one o a) = size a
inner (imm16 z) = 0
inner (imm32 z) = 0
inner other = 0

inner_size : (e : Expr) → size e ≡ suc (inner e)
unfolding inner size
inner_size (two o a b) = refl
inner_size (one o a) = refl
inner_size (imm16 z) = refl
inner_size (imm32 z) = refl
inner_size other = refl

-- a node within all limits, of kind k; what is left are its operands
pub record Within (ns : Nodes) (b i l n o : ℕ) (k : Kind) : Type 0 where
  pub below : i < b
  pub known : code_at ns i < 19
  pub room : n < l
  pub levels : o < 64
  pub kind : k ≡ kind_of (code_at ns i)

module _ (ns : Nodes) (b i l n at o : ℕ) (k : Kind) (W : Within ns b i l n o k) where
  goes : (t : List ℕ) → read_expr l (64 - o) n (node_image ns b i ++ t) ≡ read_operands (read_expr l (64 - (o + 1))) n k (follow_image (node_image ns) ns i k ++ t)
  goes t =
      let d = W.levels in
      let z : 64 - o ≡ suc (64 - (o + 1)) = omega arith in
      rw (z, W.kind) (read_on l (node_image ns b i ++ t) (64 - (o + 1)) n _ _ (kind_read ns b i l n at o W.below W.known t) W.room)

  long : length (node_image ns b i) ≡ 1 + length (follow_image (node_image ns) ns i k)
  long = let u = W.known in
      rw (image_node ns b i W.below, ← W.kind) (omega (arith, length-append (word (code_at ns i)) (follow_image (node_image ns) ns i k), word_1 (code_at ns i) (omega arith)))

  -- its operands are judged as what follows the code, one node and one byte further
  node_of : {r : Step} → Told (read_operands (read_expr l (64 - (o + 1))) n k) inner (follow_image (node_image ns) ns i k) l 5 (n + 1) (at + 1) r → Told (read_expr l (64 - o) n) size (node_image ns b i) l 0 n at r
  node_of p =
      let f = long in
      moved (read_expr l (64 - o) n) size (node_image ns b i) l 0 n at goes (λ e. omega (arith, inner_size e)) (omega arith) (omega arith) (omega arith) p

  pub node_other : k ≡ Other → Told (read_expr l (64 - o) n) size (node_image ns b i) l 0 n at (Ok (n + 1, at + 1))
  unfolding read_operands follow_image inner
  node_other kk =
      let d = W.room in
      node_of (rw kk (fine (record { value = other; reads = λ t. refl; counted = omega arith; low = omega arith; bytes = omega arith; short = omega arith })))

  -- a number below its limit follows the code
  number_told : (lim : ℕ) (mk : ℕ → Expr) (r : Step) → ((v : ℕ) → inner (mk v) ≡ 0) → zig (value_at ns i) < wide → r ≡ imm_judged (zig (value_at ns i)) lim (n + 1) (at + 1)
      → Told (λ s. onward (number lim s) (λ v u. got (mk v) u)) inner (word (zig (value_at ns i))) l 5 (n + 1) (at + 1) r
  unfolding imm_judged
  number_told lim mk r e wd er = rw er (go (ltb (zig (value_at ns i)) lim) refl)
    where
      go : (t : Bool) → ltb (zig (value_at ns i)) lim ≡ t
          → Told (λ s. onward (number lim s) (λ v u. got (mk v) u)) inner (word (zig (value_at ns i))) l 5 (n + 1) (at + 1) (cond t (Ok (n + 1, at + 1 + length (word (zig (value_at ns i))))) (Err BadImage))
      go true q =
          let d = W.room in
          fine (record {
            value = mk (zig (value_at ns i));
            reads = λ t. rw (read_word lim (zig (value_at ns i)) t (ltb-true (zig (value_at ns i)) lim q) wd);
            counted = omega (arith, e (zig (value_at ns i)));
            low = omega arith;
            bytes = refl;
            short = omega (arith, word_short (zig (value_at ns i)));
          })
      go false q = none (λ t. rw (read_over lim (zig (value_at ns i)) t (ltb-false (zig (value_at ns i)) lim q)))

  pub node_imm16 : (r : Step) → k ≡ Imm16 → zig (value_at ns i) < wide → r ≡ imm_judged (zig (value_at ns i)) wide16 (n + 1) (at + 1) → Told (read_expr l (64 - o) n) size (node_image ns b i) l 0 n at r
  unfolding read_operands follow_image inner
  node_imm16 r kk wd er = node_of (rw kk (number_told wide16 (λ v. imm16 (zag v)) r (λ v. refl) wd er))

  pub node_imm32 : (r : Step) → k ≡ Imm32 → zig (value_at ns i) < wide → r ≡ imm_judged (zig (value_at ns i)) 4294967296 (n + 1) (at + 1) → Told (read_expr l (64 - o) n) size (node_image ns b i) l 0 n at r
  unfolding read_operands follow_image inner
  node_imm32 r kk wd er = node_of (rw kk (number_told 4294967296 (λ v. imm32 (zag v)) r (λ v. refl) wd er))

  -- one operand
  pub node_one : {r : Step} (x : Op1) → k ≡ One x → Told (read_expr l (64 - (o + 1)) (n + 1)) size (node_image ns i (left_at ns i)) l 0 (n + 1) (at + 1) r → Told (read_expr l (64 - o) n) size (node_image ns b i) l 0 n at r
  unfolding read_operands follow_image inner
  node_one {r} x kk p =
      let up : suc n ≡ n + 1 = omega arith in
      let q : Told (read_expr l (64 - (o + 1)) (suc n)) size (node_image ns i (left_at ns i)) l 0 (n + 1) (at + 1) r = rw up p in
      node_of (rw kk (looser l 5 (omega arith) (omega arith) (wrapped inner (one x) (λ a. refl) q)))

  -- two, of which the first is refused
  pub node_two_no : {r : Step} {e : Refusal} (x : Op2) → k ≡ Two x → Told (read_expr l (64 - (o + 1)) (n + 1)) size (node_image ns i (left_at ns i)) l 0 (n + 1) (at + 1) r → r ≡ Err e → Told (read_expr l (64 - o) n) size (node_image ns b i) l 0 n at (Err e)
  unfolding read_operands follow_image
  node_two_no {r} x kk p er =
      let up : suc n ≡ n + 1 = omega arith in
      let q : Told (read_expr l (64 - (o + 1)) (suc n)) size (node_image ns i (left_at ns i)) l 0 (n + 1) (at + 1) r = rw up p in
      node_of (rw kk (none (first_no (read_expr l (64 - (o + 1)) (suc n)) (node_image ns i (left_at ns i)) _ (node_image ns i (right_at ns i)) (no_of q er))))

  pub node_two : {q r : Step} {m p : ℕ} (x : Op2) → k ≡ Two x → Told (read_expr l (64 - (o + 1)) (n + 1)) size (node_image ns i (left_at ns i)) l 0 (n + 1) (at + 1) q → q ≡ Ok (m, p)
      → Told (read_expr l (64 - (o + 1)) m) size (node_image ns i (right_at ns i)) l 0 m p r → Told (read_expr l (64 - o) n) size (node_image ns b i) l 0 n at r
  unfolding read_operands follow_image inner
  node_two {q} {r} {m} {p} x kk P eq Q =
      let up : suc n ≡ n + 1 = omega arith in
      let P' : Told (read_expr l (64 - (o + 1)) (suc n)) size (node_image ns i (left_at ns i)) l 0 (n + 1) (at + 1) q = rw up P in
      let A = good_of P' eq in
      let c : suc n + size A.value ≡ m = omega (arith, A.counted) in
      let Q' : Told (read_expr l (64 - (o + 1)) (suc n + size A.value)) size (node_image ns i (right_at ns i)) l 0 m p r = rw c Q in
      node_of (rw kk (looser l 5 (omega arith) (omega arith) (paired A (λ a. read_expr l (64 - (o + 1)) (suc n + size a)) inner (two x) (λ b. refl) Q')))

-- a command's expression is the node at its root
pub term_told : (l : Limits) (ns : Nodes) (i n at : ℕ) {r : Step} → ns.count ≡ l.nodes → Told (read_expr l.nodes 64 n) size (node_image ns ns.count i) l.nodes 0 n at r → Told (read_term l n) size (root_image ns i) l.nodes 0 n at r
unfolding read_term root_image
term_told l ns i n at e p = p
