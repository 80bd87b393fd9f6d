-- A node's tree by its code: what the functions promise of their answer, and that it is a tree. Assumes nothing.
use Rattle.std.specs.Prelude.{◌≡◌, refl, false, List, ℕ, zero, suc, ◌+◌, ◌-◌, ◌*◌, ◌≤◌, ◌<◌, ℤ, pos, negsuc, length, get_or}
use Rattle.std.proofs.Common.{sym, ap, ◌∙◌, arith, ltb-false, SFits}
use Rattle.std.specs.Int.Signed.{lt_z}
use Rattle.std.specs.Int.{w32}
use Rattle.model.specs.Limits.{wide, wide16}
use Rattle.model.specs.Reading.{zig}
use Rattle.model.specs.Image.{kinds, kind_of}
use Rattle.model.specs.declared.Op2.{Op2}
use Rattle.model.specs.declared.Op2.TheVariants.{Equal, NotEqual, Less, LessEqual, Greater, GreaterEqual, Add, Subtract, BitAnd, BitOr}
use Rattle.model.specs.declared.Op1.{Op1}
use Rattle.model.specs.declared.Op1.TheVariants.{Not, Flag, Variable, Item, Atc, Time}
use Rattle.model.specs.declared.Kind.TheVariants.{Two, One}
use Rattle.image_numbers.specs.Signed.{zig_low}
use Rattle.judge_trees.specs.Trees.{Number, AboveOne, AboveTwo, two, one, imm16, imm32, other, Tree}

-- ---- what callers have to bring

-- the sizes of the nodes below i are in the table, and s is that of the node before i
pub record Before (t : List ℕ) (i s : ℕ) : Type 0 where
  pub long : i ≤ length t
  pub low : s ≤ i
  pub each : (j : ℕ) → j < i → get_or t j 0 ≤ j + 1
  pub last : (j : ℕ) → j + 1 ≡ i → get_or t j 0 ≡ s

-- ---- what they get, where the answer is the size of a tree

-- node i above node a, which is the one before it
pub record Next (i s a r : ℕ) : Type 0 where
  pub before : a + 1 ≡ i
  pub size : r ≡ s + 1

-- node i above node b, which is the one before it, and a, which is the one before b's tree
pub record Joined (t : List ℕ) (i s a b r : ℕ) : Type 0 where
  pub before : b + 1 ≡ i
  pub first : a + s + 1 ≡ i
  pub size : r ≡ get_or t a 0 + s + 1

-- a node whose code is above 11
pub data High (z : ℤ) (i s c a r : ℕ) : Type 0 where
  leaf : c ≡ 18 → r ≡ 1 → High z i s c a r
  number : c ≡ 12 → Number z wide r → High z i s c a r
  above : 12 < c → c < 18 → Next i s a r → High z i s c a r

-- ---- which codes have operands

record Twos (c : ℕ) : Type 0 where
  op : Op2
  same : Two op ≡ kind_of c

record Ones (c : ℕ) : Type 0 where
  op : Op1
  same : One op ≡ kind_of c

twos : (c : ℕ) → c < 11 → (c ≡ 6 → ⊥) → Twos c
unfolding kind_of kinds
twos zero h n = record { op = Equal; same = refl }
twos (suc zero) h n = record { op = NotEqual; same = refl }
twos (suc (suc zero)) h n = record { op = Less; same = refl }
twos (suc (suc (suc zero))) h n = record { op = LessEqual; same = refl }
twos (suc (suc (suc (suc zero)))) h n = record { op = Greater; same = refl }
twos (suc (suc (suc (suc (suc zero))))) h n = record { op = GreaterEqual; same = refl }
twos (suc (suc (suc (suc (suc (suc zero)))))) h n = absurd (n refl)
twos (suc (suc (suc (suc (suc (suc (suc zero))))))) h n = record { op = Add; same = refl }
twos (suc (suc (suc (suc (suc (suc (suc (suc zero)))))))) h n = record { op = Subtract; same = refl }
twos (suc (suc (suc (suc (suc (suc (suc (suc (suc zero))))))))) h n = record { op = BitAnd; same = refl }
twos (suc (suc (suc (suc (suc (suc (suc (suc (suc (suc zero)))))))))) h n = record { op = BitOr; same = refl }
twos (suc (suc (suc (suc (suc (suc (suc (suc (suc (suc (suc c))))))))))) h n = absurd (omega arith)

-- from 13 on
ones : (d : ℕ) → d < 5 → Ones (13 + d)
unfolding kind_of kinds
ones zero h = record { op = Flag; same = refl }
ones (suc zero) h = record { op = Variable; same = refl }
ones (suc (suc zero)) h = record { op = Item; same = refl }
ones (suc (suc (suc zero))) h = record { op = Atc; same = refl }
ones (suc (suc (suc (suc zero)))) h = record { op = Time; same = refl }
ones (suc (suc (suc (suc (suc d))))) h = absurd (omega arith)

-- ---- an immediate

zig_short : (z : ℤ) → lt_z z (negsuc 32767) ≡ false → lt_z (pos 32767) z ≡ false → zig z < wide16
unfolding zig
zig_short (pos n) p q = omega (arith, ltb-false 32767 n q)
zig_short (negsuc n) p q = omega (arith, ltb-false 32767 n p)

module _ (z : ℤ) where
  pub number_16 : lt_z z (negsuc 32767) ≡ false → lt_z (pos 32767) z ≡ false → Number z wide16 1
  number_16 p q = record { leaf = refl; low = zig_short z p q }

  pub number_32 : SFits w32 z → Number z wide 1
  number_32 f = record { leaf = refl; low = zig_low z f }

-- ---- a node, by its code

module _ (ws : List ℕ) (vs : List ℤ) {t : List ℕ} {i s : ℕ} (B : Before t i s) where
  one_above : {a r : ℕ} → Next i s a r → AboveOne t i a r
  one_above {a} N =
      let e = N.before in
      let z = N.size in
      record { below = omega arith; size = omega (arith, B.last a e) }

  two_above : {a b r : ℕ} → Joined t i s a b r → AboveTwo t i a b r
  two_above {a} {b} J =
      let e = J.before in
      let f = J.first in
      let z = J.size in
      record { left = omega arith; right = omega arith; size = omega (arith, B.last b e) }

  pub tree_11 : {r : ℕ} → get_or ws (3 * i) 0 ≡ 11 → Number (get_or vs i (pos 0)) wide16 r → Tree ws vs t i r
  unfolding kind_of kinds
  tree_11 e N = let z = N.leaf in record { known = omega arith; few = omega arith; node = imm16 (ap kind_of (sym e)) N }

  tree_12 : {r : ℕ} → get_or ws (3 * i) 0 ≡ 12 → Number (get_or vs i (pos 0)) wide r → Tree ws vs t i r
  unfolding kind_of kinds
  tree_12 e N = let z = N.leaf in record { known = omega arith; few = omega arith; node = imm32 (ap kind_of (sym e)) N }

  tree_18 : {r : ℕ} → get_or ws (3 * i) 0 ≡ 18 → r ≡ 1 → Tree ws vs t i r
  unfolding kind_of kinds
  tree_18 e z = record { known = omega arith; few = omega arith; node = other (ap kind_of (sym e)) z }

  pub tree_6 : {r : ℕ} → get_or ws (3 * i) 0 ≡ 6 → Next i s (get_or ws (3 * i + 1) 0) r → Tree ws vs t i r
  unfolding kind_of kinds
  tree_6 e N =
      let z = N.size in
      let l = B.low in
      record { known = omega arith; few = omega arith; node = one Not (ap kind_of (sym e)) (one_above N) }

  tree_above : {r : ℕ} → 12 < get_or ws (3 * i) 0 → get_or ws (3 * i) 0 < 18 → Next i s (get_or ws (3 * i + 1) 0) r → Tree ws vs t i r
  tree_above g h N =
      let K = ones (get_or ws (3 * i) 0 - 13) (omega arith) in
      let e : 13 + (get_or ws (3 * i) 0 - 13) ≡ get_or ws (3 * i) 0 = omega arith in
      let z = N.size in
      let l = B.low in
      record { known = omega arith; few = omega arith; node = one K.op (K.same ∙ ap kind_of e) (one_above N) }

  tree_by : {c r : ℕ} → get_or ws (3 * i) 0 ≡ c → High (get_or vs i (pos 0)) i s c (get_or ws (3 * i + 1) 0) r → Tree ws vs t i r
  tree_by e (leaf q z) = tree_18 (e ∙ q) z
  tree_by e (number q N) = tree_12 (e ∙ q) N
  tree_by e (above g h N) = tree_above (omega arith) (omega arith) N

  pub tree_high : {r : ℕ} → High (get_or vs i (pos 0)) i s (get_or ws (3 * i) 0) (get_or ws (3 * i + 1) 0) r → Tree ws vs t i r
  tree_high H = tree_by refl H

  pub tree_low : {r : ℕ} → get_or ws (3 * i) 0 < 11 → (get_or ws (3 * i) 0 ≡ 6 → ⊥) → Joined t i s (get_or ws (3 * i + 1) 0) (get_or ws (3 * i + 2) 0) r → Tree ws vs t i r
  tree_low h n J =
      let K = twos (get_or ws (3 * i) 0) h n in
      let f = J.first in
      let z = J.size in
      let w = B.each (get_or ws (3 * i + 1) 0) (omega arith) in
      record { known = omega arith; few = omega arith; node = two K.op K.same (two_above J) }
