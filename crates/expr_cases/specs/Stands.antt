-- An expression that was appended last, and how it is negated. Assumes nothing.
use Rattle.std.specs.Prelude.{◌≡◌, ℕ, ◌-◌, ◌<◌, true, cond, List, ℤ, pos, ◌==◌, nat_lt, refl, Option, Some, None, IfSome}
use Rattle.std.proofs.Common.{ap, ◌∙◌, arith}
use Rattle.model.specs.Limits.{node_limit}
use Rattle.model.specs.Expr.{Expr, two, one, imm16, imm32, other, size}
use Rattle.model.specs.Image.{code2, code1}
use Rattle.model.specs.Memory.{Nodes, nodes_in, push_node, put_expr}
use Rattle.model.specs.Parse.{is_join}
use Rattle.model.specs.declared.Op2.{Op2}
use Rattle.model.specs.declared.Op2.TheVariants.{Equal, NotEqual, Less, LessEqual, Greater, GreaterEqual, Add, Subtract, BitAnd, BitOr}
use Rattle.model.specs.declared.Op1.{Op1}
use Rattle.model.specs.declared.Op1.TheVariants.{Not, Flag, Variable, Item, Atc, Time}
use Rattle.memory.specs.Pushed.{PushedNode, PutExpr}
use Rattle.expr_cases.specs.declared.Turn.{Turn}
use Rattle.expr_cases.specs.declared.Turn.TheVariants.{Over, Within, Otherwise}
use Rattle.expr_negate.specs.Turns.{Flips, compared, joined, gains_not, flips, gains, negate_gains, flips_size}
use Rattle.expr_negate.specs.InPlace.{Last, last_put}

-- by a Not over it, where it stands, in another way
pub data Turned : Turn → Expr → Type 0 where
  over : {e : Expr} → gains_not e ≡ true → Turned Over e
  within : {e : Expr} → Flips e → Turned Within e
  otherwise : {e : Expr} → Turned Otherwise e

-- t is s with an expression appended
pub record Stands (s t : Nodes) (r : Turn) : Type 0 where
  pub expr : Expr
  pub put : PutExpr s expr t
  pub turned : Turned r expr

-- ---- by the code of the root: comparisons, Not, sums, reads, And and Or

-- an And or an Or stands where both its operands do
abbrev pub join_of : Turn → Turn → Turn
join_of Over y = Otherwise
join_of Within Over = Otherwise
join_of Within Within = Within
join_of Within Otherwise = Otherwise
join_of Otherwise y = Otherwise

abbrev pub turn_of : ℕ → Turn → Turn → Turn
turn_of k x y = cond (nat_lt k 6) Within (cond (k == 6) Otherwise (cond (nat_lt k 9) Over (cond (nat_lt 10 k) Over (join_of x y))))

turned_join : {o : Op2} {x y : Turn} {a b : Expr} → is_join o ≡ true → Turned x a → Turned y b → Turned (join_of x y) (two o a b)
turned_join j (over g) q = otherwise
turned_join j (within f) (over g) = otherwise
turned_join j (within f) (within g) = within (joined j f g)
turned_join j (within f) otherwise = otherwise
turned_join j otherwise q = otherwise

turned_two : (o : Op2) {x y : Turn} {a b : Expr} → Turned x a → Turned y b → Turned (turn_of (code2 o) x y) (two o a b)
turned_two Equal p q = within (compared refl refl)
turned_two NotEqual p q = within (compared refl refl)
turned_two Less p q = within (compared refl refl)
turned_two LessEqual p q = within (compared refl refl)
turned_two Greater p q = within (compared refl refl)
turned_two GreaterEqual p q = within (compared refl refl)
turned_two Add p q = over refl
turned_two Subtract p q = over refl
turned_two BitAnd p q = turned_join refl p q
turned_two BitOr p q = turned_join refl p q

turned_one : (o : Op1) (x : Turn) {a : Expr} → Turned (turn_of (code1 o) x x) (one o a)
turned_one Not x = otherwise
turned_one Flag x = over refl
turned_one Variable x = over refl
turned_one Item x = over refl
turned_one Atc x = over refl
turned_one Time x = over refl

-- ---- a node over its operands, appended: the new count n, and what the code computed by the way

pub two_stands : {s t u : Nodes} {w : List ℕ} {v : List ℤ} (o : Op2) {k l m n : ℕ} {x y r : Turn} → n ≡ m → k ≡ code2 o → l ≡ t.count - 1 → r ≡ turn_of k x y
    → Stands s t x → Stands t u y → PushedNode u k l (u.count - 1) (pos 0) (nodes_in w v m) → Stands s (nodes_in w v n) r
unfolding put_expr size
two_stands {t = t} o en ek el er p q h =
    let g = rw (ek, el) at h in
    rw (en, er, ek) (record {
      expr = two o p.expr q.expr;
      put = record {
        is = g.is
            ∙ ap (λ (a : Nodes). push_node a (code2 o) (t.count - 1) (a.count - 1) (pos 0)) q.put.is
            ∙ ap (λ (a : Nodes). push_node (put_expr a q.expr) (code2 o) (a.count - 1) ((put_expr a q.expr).count - 1) (pos 0)) p.put.is;
        counted = omega (arith, p.put.counted, q.put.counted, g.counted);
      };
      turned = turned_two o p.turned q.turned;
    })

pub one_stands : {s t : Nodes} {w : List ℕ} {v : List ℤ} (o : Op1) {k m n : ℕ} {x r : Turn} → n ≡ m → k ≡ code1 o → r ≡ turn_of k x x
    → Stands s t x → PushedNode t k (t.count - 1) 0 (pos 0) (nodes_in w v m) → Stands s (nodes_in w v n) r
unfolding put_expr size
one_stands o {x = x} en ek er p h =
    let g = rw ek at h in
    rw (en, er, ek) (record {
      expr = one o p.expr;
      put = record {
        is = g.is ∙ ap (λ (a : Nodes). push_node a (code1 o) (a.count - 1) 0 (pos 0)) p.put.is;
        counted = omega (arith, p.put.counted, g.counted);
      };
      turned = turned_one o x;
    })

-- a node without operands
pub record Leaf (s t : Nodes) (k : ℕ) (z : ℤ) (r : Turn) : Type 0 where
  pub put : PushedNode s k 0 0 z t
  pub is : r ≡ Over

pub imm16_stands : {s t : Nodes} {z : ℤ} {r : Turn} → Leaf s t 11 z r → Stands s t r
unfolding put_expr size
imm16_stands {z = z} h = rw h.is (record { expr = imm16 z; put = record { is = h.put.is; counted = h.put.counted }; turned = over refl })

pub imm32_stands : {s t : Nodes} {z : ℤ} {r : Turn} → Leaf s t 12 z r → Stands s t r
unfolding put_expr size
imm32_stands {z = z} h = rw h.is (record { expr = imm32 z; put = record { is = h.put.is; counted = h.put.counted }; turned = over refl })

pub other_stands : {s t : Nodes} {r : Turn} → Leaf s t 18 (pos 0) r → Stands s t r
unfolding put_expr size
other_stands h = rw h.is (record { expr = other; put = record { is = h.put.is; counted = h.put.counted }; turned = over refl })

-- what an answer says, where there is one
pub if_some : {P Q : Turn → Type 0} → ((r : Turn) → P r → Q r) → (o : Option Turn) → IfSome o P → IfSome o Q
if_some f (Some r) h = f r h
if_some f None h = h

-- ---- what negate asks for

turned_last : {s t : Nodes} {e : Expr} {r : Turn} → PutExpr s e t → Turned r e → (r ≡ Otherwise → ⊥) → t.count < node_limit → Last t
unfolding size
turned_last {e = e} p (over g) h l = last_put p (gains g) (omega (arith, p.counted, l, ap size (negate_gains e g)))
turned_last p (within f) h l = last_put p (flips f) (omega (arith, p.counted, l, flips_size f))
turned_last p otherwise h l = absurd (h refl)

pub stands_last : {s t : Nodes} {r : Turn} → Stands s t r → (r ≡ Otherwise → ⊥) → t.count < node_limit → Last t
stands_last p h l = turned_last p.put p.turned h l
