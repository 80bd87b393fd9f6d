-- How appended nodes make up appended expressions. Assumes nothing.
use Rattle.std.specs.Prelude.{ℕ, ◌-◌, ◌<◌, ◌≡◌, refl, Bool, true, false, cond, ℤ, pos, negsuc}
use Rattle.std.proofs.Common.{ap, ◌∙◌, ltb-true, ltb-false, lt-ltb, le-ltb, arith}
use Rattle.std.specs.Int.Signed.{lt_z}
use Rattle.std.specs.Int.{w16}
use Rattle.model.specs.Limits.{half16}
use Rattle.model.specs.Signed.{in_range}
use Rattle.model.specs.Image.{code2}
use Rattle.model.specs.Expr.{Expr, two, imm16, imm32, size, imm}
use Rattle.model.specs.declared.Op2.{Op2}
use Rattle.model.specs.Memory.{Nodes, push_node, put_expr}
use Rattle.memory.specs.Pushed.{PushedNode, PutExpr}
use Rattle.expr_build.specs.Put.{PutImm}
use Rattle.memory.specs.PutNodes.{size_pos}

pub imm16_put : {s t : Nodes} {z : ℤ} → PushedNode s 11 0 0 z t → PutExpr s (imm16 z) t
unfolding put_expr size
imm16_put p = record { is = p.is; counted = p.counted }

pub imm32_put : {s t : Nodes} {z : ℤ} → PushedNode s 12 0 0 z t → PutExpr s (imm32 z) t
unfolding put_expr size
imm32_put p = record { is = p.is; counted = p.counted }

pub two_put : {s t u w : Nodes} {a b : Expr} {o : Op2} → PutExpr s a t → PutExpr t b u → PushedNode u (code2 o) (t.count - 1) (u.count - 1) (pos 0) w → PutExpr s (two o a b) w
unfolding put_expr size
two_put {s} {t} {u} {w} {a} {b} {o} p q r = record {
  is = r.is
      ∙ ap (λ (x : Nodes). push_node x (code2 o) (t.count - 1) (x.count - 1) (pos 0)) q.is
      ∙ ap (λ (x : Nodes). push_node (put_expr x b) (code2 o) (x.count - 1) ((put_expr x b).count - 1) (pos 0)) p.is;
  counted = omega (arith, p.counted, q.counted, r.counted);
}

-- an Imm is one node, whichever it is
pub size_imm : (z : ℤ) → size (imm z) ≡ 1
unfolding imm size
size_imm z = by (in_range w16 z)
  where
    by : (b : Bool) → size (cond b (imm16 z) (imm32 z)) ≡ 1
    by true = refl
    by false = refl

-- Imm16 where it fits: below, above, between
pub imm_below : (z : ℤ) → lt_z z (negsuc 32767) ≡ true → imm z ≡ imm32 z
unfolding imm
imm_below (pos n) h = let f : ◌≡◌ {A = ℕ} 0 1 = cc in absurd (omega arith)
imm_below (negsuc n) h = rw (le-ltb n half16 (omega (arith, ltb-true 32767 n h)))

pub imm_above : (z : ℤ) → lt_z (pos 32767) z ≡ true → imm z ≡ imm32 z
unfolding imm
imm_above (pos n) h = rw (le-ltb n half16 (omega (arith, ltb-true 32767 n h)))
imm_above (negsuc n) h = let f : ◌≡◌ {A = ℕ} 0 1 = cc in absurd (omega arith)

pub imm_between : (z : ℤ) → lt_z z (negsuc 32767) ≡ false → lt_z (pos 32767) z ≡ false → imm z ≡ imm16 z
unfolding imm
imm_between (pos n) h g = rw (lt-ltb n half16 (omega (arith, ltb-false 32767 n g)))
imm_between (negsuc n) h g = rw (lt-ltb n half16 (omega (arith, ltb-false 32767 n h)))

pub imm_put : {s t : Nodes} {z : ℤ} → PutImm s z t → PutExpr s (imm z) t
imm_put {s} {t} {z} p = record { is = p.is; counted = omega (arith, p.counted, size_imm z) }

pub put_imm : {s t : Nodes} (z : ℤ) → PutExpr s (imm z) t → PutImm s z t
put_imm {s} {t} z p = record { is = p.is; counted = omega (arith, p.counted, size_imm z) }

-- an expression is a node at least
pub put_more : {s t : Nodes} {e : Expr} → PutExpr s e t → 0 < t.count
put_more {s} {t} {e} p = omega (arith, p.counted, size_pos e)
