-- An expression that was written reads back, and one that was read is written as it was. Assumes nothing.
use Rattle.std.specs.Prelude.{◌≡◌, refl, Bool, true, false, T, ltb, eqb, get_or, length}
use Rattle.std.proofs.Math.Path.{ap}
use Rattle.std.proofs.Common.{ap₂, sym, ◌∙◌, subst}
use Rattle.std.proofs.Math.Bool.{cond}
use mathlib.Core.List.{List, [], ◌∷◌, ◌++◌, append_assoc}
use Prim.Native.Nat.{ℕ, zero, suc, ◌+◌, ◌≤◌, ◌<◌}
use native.Mathlib.Omega.{arith}
use borrow.Author.Tests.{ltb-true, lt-ltb, eqb-true}
use Rattle.model.specs.Limits.{wide, wide16}
use Rattle.model.specs.Refusal.{too_deep, over_limit}
use Rattle.model.specs.Reading.{Answer, got, refused, number, word, zig, zag}
use Rattle.model.specs.Expr.{Expr, two, one, imm16, imm32, other, size}
use Rattle.model.specs.Image.{kinds, kind_of, code2, code1, code_of, expr_image, read_kind, read_operands, read_expr}
use Rattle.model.proofs.Laws.Reading.{split, refused≢got, got_value, got_rest, along, passed, read_word, write_number, number_low, zag_zig, zig_zag}
use Rattle.model.specs.declared.Op2.TheVariants.{Equal, NotEqual, Less, LessEqual, Greater, GreaterEqual, Add, Subtract, BitAnd, BitOr}
use Rattle.model.specs.declared.Op1.TheVariants.{Not, Flag, Variable, Item, Atc, Time}
use Rattle.model.specs.declared.Kind.{Kind}
use Rattle.model.specs.declared.Kind.TheVariants.{Two, One, Imm16, Imm32, Other}

-- ---- codes

pub kind_code : (k : Kind) → kind_of (code_of k) ≡ k
unfolding kind_of kinds code_of
kind_code (Two Equal) = refl
kind_code (Two NotEqual) = refl
kind_code (Two Less) = refl
kind_code (Two LessEqual) = refl
kind_code (Two Greater) = refl
kind_code (Two GreaterEqual) = refl
kind_code (Two Add) = refl
kind_code (Two Subtract) = refl
kind_code (Two BitAnd) = refl
kind_code (Two BitOr) = refl
kind_code (One Not) = refl
kind_code (One Flag) = refl
kind_code (One Variable) = refl
kind_code (One Item) = refl
kind_code (One Atc) = refl
kind_code (One Time) = refl
kind_code Imm16 = refl
kind_code Imm32 = refl
kind_code Other = refl

pub code_low : (k : Kind) → code_of k < 19
unfolding code_of
code_low (Two Equal) = omega arith
code_low (Two NotEqual) = omega arith
code_low (Two Less) = omega arith
code_low (Two LessEqual) = omega arith
code_low (Two Greater) = omega arith
code_low (Two GreaterEqual) = omega arith
code_low (Two Add) = omega arith
code_low (Two Subtract) = omega arith
code_low (Two BitAnd) = omega arith
code_low (Two BitOr) = omega arith
code_low (One Not) = omega arith
code_low (One Flag) = omega arith
code_low (One Variable) = omega arith
code_low (One Item) = omega arith
code_low (One Atc) = omega arith
code_low (One Time) = omega arith
code_low Imm16 = omega arith
code_low Imm32 = omega arith
code_low Other = omega arith

-- each entry of the table has its place for its code
right : ℕ → List Kind → Bool
right i [] = true
right i (k ∷ ks) = cond (eqb (code_of k) i) (right (suc i) ks) false

right_at_lem : (ks : List Kind) (i : ℕ) → right i ks ≡ true → (n : ℕ) → n < length ks → code_of (get_or ks n Other) ≡ i + n
unfolding right
right_at_lem [] i t n h = absurd (omega arith)
right_at_lem (k ∷ ks) i t n h = go (eqb (code_of k) i) refl t n h (right_at_lem ks (suc i))
  where
    go : (b : Bool) → eqb (code_of k) i ≡ b → cond b (right (suc i) ks) false ≡ true → (n : ℕ) → n < suc (length ks) → (right (suc i) ks ≡ true → (n : ℕ) → n < length ks → code_of (get_or ks n Other) ≡ suc i + n) → code_of (get_or (k ∷ ks) n Other) ≡ i + n
    go true e t zero h ih = omega (arith, eqb-true (code_of k) i e)
    go true e t (suc n) h ih = ih t n (omega arith) ∙ omega arith
    go false e t n h ih = absurd (subst (λ (b : Bool). T (cond b false true)) t tt)

pub code_kind : (n : ℕ) → n < 19 → code_of (kind_of n) ≡ n
unfolding kind_of kinds right code_of
code_kind n h = right_at_lem kinds 0 refl n h ∙ omega arith

-- ---- the code is read

pub read_kind_lem : (k : Kind) (s : List ℕ) → read_kind (word (code_of k) ++ s) ≡ got k s
unfolding read_kind
read_kind_lem k s = let h = code_low k in rw (read_word 19 (code_of k) s h (omega arith)) (ap (λ (x : Kind). got x s) (kind_code k))

pub write_kind : (s : List ℕ) (k : Kind) (r : List ℕ) → read_kind s ≡ got k r → s ≡ word (code_of k) ++ r
unfolding read_kind
write_kind s k r p =
    let q = split (number 19 s) (λ c r. got (kind_of c) r) p in
    let h = number_low 19 s q.value q.rest q.first in
    write_number 19 s q.value q.rest q.first
    ∙ ap₂ (λ (c : ℕ) (t : List ℕ). word c ++ t) (sym (code_kind q.value h) ∙ ap code_of (got_value q.then)) (got_rest q.then)

-- ---- expressions that an image can hold, d levels deep at most

unfoldable pub FitsExpr : ℕ → Expr → Type 0
FitsExpr zero e = ⊥
FitsExpr (suc d) (two o a b) = FitsExpr d a × FitsExpr d b
FitsExpr (suc d) (one o a) = FitsExpr d a
FitsExpr (suc d) (imm16 z) = zig z < wide16
FitsExpr (suc d) (imm32 z) = zig z < wide
FitsExpr (suc d) other = Unit

-- ---- what was written reads back

module _ (l : ℕ) where
  pub read_expr_lem : (d n : ℕ) (e : Expr) (s : List ℕ) → FitsExpr d e → n + size e ≤ l → read_expr l d n (expr_image e ++ s) ≡ got e s
  unfolding read_expr expr_image read_operands FitsExpr size code_of
  read_expr_lem zero n e s f h = absurd f
  read_expr_lem (suc d) n (two o a b) s f h =
      rw (append_assoc, append_assoc, read_kind_lem (Two o) (expr_image a ++ (expr_image b ++ s)), lt-ltb n l (omega arith), read_expr_lem d (suc n) a (expr_image b ++ s) f.0 (omega arith), read_expr_lem d (suc n + size a) b s f.1 (omega arith))
  read_expr_lem (suc d) n (one o a) s f h =
      rw (append_assoc, read_kind_lem (One o) (expr_image a ++ s), lt-ltb n l (omega arith), read_expr_lem d (suc n) a s f (omega arith))
  read_expr_lem (suc d) n (imm16 z) s f h =
      rw (append_assoc, read_kind_lem Imm16 (word (zig z) ++ s), lt-ltb n l (omega arith), read_word wide16 (zig z) s f (omega arith), zag_zig z)
  read_expr_lem (suc d) n (imm32 z) s f h =
      rw (append_assoc, read_kind_lem Imm32 (word (zig z) ++ s), lt-ltb n l (omega arith), read_word wide (zig z) s f (omega arith), zag_zig z)
  read_expr_lem (suc d) n other s f h = rw (read_kind_lem Other s, lt-ltb n l (omega arith))

-- ---- what was read is written as it was

-- an expression that is accepted where n nodes were read before, d levels deep at most
pub record FitsTerm (l d n : ℕ) (e : Expr) : Type 0 where
  pub fit : FitsExpr d e
  pub room : n + size e ≤ l

pub record WasExpr (l d n : ℕ) (s : List ℕ) (e : Expr) (r : List ℕ) : Type 0 where
  pub bytes : s ≡ expr_image e ++ r
  pub holds : FitsTerm l d n e

module _ (l : ℕ) where
  pub was_operands : (d : ℕ) (f : ℕ → List ℕ → Answer Expr) → ((n : ℕ) (s : List ℕ) (e : Expr) (r : List ℕ) → f n s ≡ got e r → WasExpr l d n s e r)
      → (n : ℕ) (k : Kind) (s : List ℕ) (e : Expr) (r : List ℕ) → n < l → read_operands f n k s ≡ got e r → WasExpr l (suc d) n (word (code_of k) ++ s) e r
  unfolding read_operands expr_image FitsExpr size code_of
  was_operands d f ih n (Two o) s e r h p =
      let q = split (f (suc n) s) _ p in
      let q' = split (f (suc n + size q.value) q.rest) _ q.then in
      let a = ih (suc n) s q.value q.rest q.first in
      let b = ih (suc n + size q.value) q.rest q'.value q'.rest q'.first in
      let ra = a.holds.room in
      let rb = b.holds.room in
      along (λ e r. WasExpr l (suc d) n (word (code_of (Two o)) ++ s) e r) q'.then
      (record {
        bytes = rw (append_assoc, append_assoc) (ap (λ (t : List ℕ). word (code2 o) ++ t) (a.bytes ∙ ap (λ (t : List ℕ). expr_image q.value ++ t) b.bytes));
        holds = record { fit = (a.holds.fit, b.holds.fit); room = omega arith };
      })
  was_operands d f ih n (One o) s e r h p =
      let q = split (f (suc n) s) _ p in
      let a = ih (suc n) s q.value q.rest q.first in
      let ra = a.holds.room in
      along (λ e r. WasExpr l (suc d) n (word (code_of (One o)) ++ s) e r) q.then
      (record {
        bytes = rw append_assoc (ap (λ (t : List ℕ). word (code1 o) ++ t) a.bytes);
        holds = record { fit = a.holds.fit; room = omega arith };
      })
  was_operands d f ih n Imm16 s e r h p =
      let q = split (number wide16 s) (λ v t. got (imm16 (zag v)) t) p in
      let w = write_number wide16 s q.value q.rest q.first in
      let b = number_low wide16 s q.value q.rest q.first in
      along (λ e r. WasExpr l (suc d) n (word (code_of Imm16) ++ s) e r) q.then
      (record {
        bytes = rw (append_assoc, zig_zag q.value) (ap (λ (t : List ℕ). word 11 ++ t) w);
        holds = record { fit = rw (zig_zag q.value) b; room = omega arith };
      })
  was_operands d f ih n Imm32 s e r h p =
      let q = split (number wide s) (λ v t. got (imm32 (zag v)) t) p in
      let w = write_number wide s q.value q.rest q.first in
      let b = number_low wide s q.value q.rest q.first in
      along (λ e r. WasExpr l (suc d) n (word (code_of Imm32) ++ s) e r) q.then
      (record {
        bytes = rw (append_assoc, zig_zag q.value) (ap (λ (t : List ℕ). word 12 ++ t) w);
        holds = record { fit = rw (zig_zag q.value) b; room = omega arith };
      })
  was_operands d f ih n Other s e r h p =
      along (λ e r. WasExpr l (suc d) n (word (code_of Other) ++ s) e r) p (record { bytes = refl; holds = record { fit = tt; room = omega arith } })

  pub was_expr : (d n : ℕ) (s : List ℕ) (e : Expr) (r : List ℕ) → read_expr l d n s ≡ got e r → WasExpr l d n s e r
  unfolding read_expr
  was_expr zero n s e r p =
      let q = split (read_kind s) (λ k r. cond (ltb n l) (refused too_deep) (refused over_limit)) p in
      absurd (refused≢got (passed (ltb n l) (refused too_deep) over_limit e r q.then).1)
  was_expr (suc d) n s e r p =
      let q = split (read_kind s) (λ k r. cond (ltb n l) (read_operands (read_expr l d) n k r) (refused over_limit)) p in
      let t = passed (ltb n l) (read_operands (read_expr l d) n q.value q.rest) over_limit e r q.then in
      rw (write_kind s q.value q.rest q.first)
      (was_operands d (read_expr l d) (was_expr d) n q.value q.rest e r (ltb-true n l t.0) t.1)
