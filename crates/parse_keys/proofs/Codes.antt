-- The code of a node, with its sign, stands for what the definitions read there. Assumes nothing.
use mathlib.Core.Path.{◌≡◌, refl, sym, ap, ◌∙◌}
use mathlib.Core.Bool.{Bool, true, false, not, cond}
use mathlib.Core.Option.{Option, none, some}
use mathlib.Core.List.{List}
use Prim.Native.Nat.{ℕ, zero, suc, ◌+◌, ◌-◌, ◌*◌, ◌/◌, ◌%◌, ◌<◌, ◌≤◌}
use native.Mathlib.Omega.{arith}
use lib.Dec.{ltb, eqb}
use lib.ListN.{get_or}
use lib.IntN.{ℤ, pos, negsuc}
use borrow.Author.Tests.{lt-ltb, le-ltb, eq-eqb, ne_eqb, ltb-true, eqb-true, eqb-false}
use Rattle.model.specs.Limits.{wide, wide16, half32}
use Rattle.model.specs.Signed.{is_zero}
use Rattle.model.specs.Requirement.{Requirement, haveItem, haveAtc, haveFlag, number, negate_req}
use Rattle.model.specs.Sheet.{Sheet}
use Rattle.model.specs.Image.{kind_of}
use Rattle.model.specs.Memory.{nodes_in, code_at, left_at, right_at}
use Rattle.model.specs.Parse.{value, id_below, flag_req, read_req, map_req, if_zero, compare_req, signed, parse_requirement}
use Rattle.model.specs.declared.Kind.{Kind}
use Rattle.model.specs.declared.Kind.TheVariants.{Two, One, Imm16, Imm32, Other}
use Rattle.model.specs.declared.Op2.{Op2}
use Rattle.model.specs.declared.Op2.TheVariants.{Equal, NotEqual, Less, LessEqual, Greater, GreaterEqual, Add, Subtract, BitAnd, BitOr}
use Rattle.model.specs.declared.Op1.{Op1}
use Rattle.model.specs.declared.Op1.TheVariants.{Not, Flag, Variable, Item, Atc, Time}
use Rattle.shop_codes.specs.Codes.{InRange, shift, code_of, Narrow, is_missing}
use Rattle.shop_codes.specs.Laws.{code_stands, shift_most}
use Rattle.expr.specs.Tree.{tree_below, below_out, below_two, below_one, below_imm16, below_imm32, below_other}
use Rattle.expr.specs.Requirement.{Has}
use Rattle.parse_keys.specs.Entries.{Subject}
use Rattle.parse_keys.specs.Turns.{signs_meet}
use Rattle.parse_keys.specs.Reads.{Numbered, id_code, flag_code, sign_of, zero_sign, bit_of, signed_code, Codes, Coded, ReadCode, Reading}
use Rattle.parse_keys.specs.Tables.{OfNode}
use Rattle.parse_keys.specs.declared.Known.{Known}

-- ---- subjects

subject_of_lem : (r : Requirement) → is_missing r ≡ false → Narrow r → Subject (code_of r)
subject_of_lem r e n = let b = code_stands r n in record { have = rw b e; code = ap code_of b }

codes_of : (c : ℕ) (r : Requirement) → c ≡ code_of r → 0 < c → is_missing r ≡ false → InRange (number r) → Codes c r
codes_of c r e p h f = let n : Narrow r = record { fits = f } in record { some = p; subject = rw e (subject_of_lem r h n); is = rw e (code_stands r n) }

module _ (base n : ℕ) (f : ℕ → Requirement) (small : n < wide16) (code : (k : ℕ) → base + (k + half32) ≡ code_of (f k)) (have : (k : ℕ) → is_missing (f k) ≡ false)
    (fits : (k : ℕ) → k < half32 → InRange (number (f k))) where
  id_is : (s : ℕ) (z : Option ℤ) → Numbered s z → Coded (id_code base n s) (id_below n f z)
  id_is s none e = rw (e, le-ltb half32 n (omega arith)) refl
  id_is s (some (negsuc k)) e = rw (lt-ltb s half32 (omega (arith, e.0))) refl
  id_is s (some (pos k)) e = rw (le-ltb s half32 (omega (arith, e.0)), d) (by (ltb k n) refl)
    where
      d : s - half32 ≡ k
      d = omega (arith, e.0)

      by : (t : Bool) → ltb k n ≡ t → Coded (cond t (base + s) 0) (cond t (some (f k)) none)
      by true w = codes_of (base + s) (f k) (ap (λ x. base + x) e.0 ∙ code k) (omega (arith, e.0)) (have k) (fits k (omega (arith, ltb-true k n w)))
      by false w = refl

flag_is : (s : ℕ) (z : Option ℤ) → Numbered s z → Coded (flag_code s) (flag_req z)
flag_is s none e = rw (le-ltb s wide (omega arith)) refl
flag_is s (some z) e =
    let m : s < wide = omega (arith, shift_most z e.1, e.0) in
    rw (lt-ltb s wide m) (codes_of (4 * wide + s) (haveFlag z) (ap (λ x. 4 * wide + x) e.0) (omega arith) refl e.1)

-- the code of what an operator reads, n items and a atcs being known; 0 for nothing
abbrev read_code : ℕ → ℕ → Op1 → ℕ → ℕ
read_code n a Not s = 0
read_code n a Flag s = flag_code s
read_code n a Variable s = 0
read_code n a Item s = id_code 0 n s
read_code n a Atc s = id_code (2 * wide) a s
read_code n a Time s = 0

read_is : (h : Sheet) (n a : ℕ) (o : Op1) (s : ℕ) (z : Option ℤ) → Has h n a → n < wide16 → a < wide16 → Numbered s z → Coded (read_code n a o s) (read_req h o z)
read_is h n a Not s z g p q e = refl
read_is h n a Flag s z g p q e = flag_is s z e
read_is h n a Variable s z g p q e = refl
read_is h n a Item s z g p q e = rw g.items (id_is 0 n haveItem p (λ k. omega arith) (λ k. refl) (λ k h. h) s z e)
read_is h n a Atc s z g p q e = rw g.atcs (id_is (2 * wide) a haveAtc q (λ k. refl) (λ k. refl) (λ k h. h) s z e)
read_is h n a Time s z g p q e = refl

-- codes leave room for a sign
id_most : (base n s : ℕ) → base ≤ 2 * wide → n < wide16 → id_code base n s < 8 * wide
id_most base n s p q = by (ltb s half32) (ltb (s - half32) n) refl refl
  where
    by : (t u : Bool) → ltb s half32 ≡ t → ltb (s - half32) n ≡ u → cond t 0 (cond u (base + s) 0) < 8 * wide
    by true u e f = omega arith
    by false true e f = omega (arith, ltb-true (s - half32) n f)
    by false false e f = omega arith

flag_most : (s : ℕ) → flag_code s < 8 * wide
flag_most s = by (ltb s wide) refl
  where
    by : (t : Bool) → ltb s wide ≡ t → cond t (4 * wide + s) 0 < 8 * wide
    by true e = omega (arith, ltb-true s wide e)
    by false e = omega arith

read_most : (n a : ℕ) (o : Op1) (s : ℕ) → n < wide16 → a < wide16 → read_code n a o s < 8 * wide
read_most n a Not s p q = omega arith
read_most n a Flag s p q = flag_most s
read_most n a Variable s p q = omega arith
read_most n a Item s p q = id_most 0 n s (omega arith) p
read_most n a Atc s p q = id_most (2 * wide) a s (omega arith) q
read_most n a Time s p q = omega arith

pub read_by : (n a : ℕ) (o : Op1) (s c : ℕ) → n < wide16 → a < wide16 → c ≡ read_code n a o s → ReadCode n a o s c
read_by n a o s c p q e = record { is = λ h z g y. rw e (read_is h n a o s z g p q y); most = rw e (read_most n a o s p q) }

-- ---- signs

signed_is : (c : ℕ) (neg : Bool) (o : Option Requirement) → Coded c o → Reading (signed_code c neg) (map_req (signed neg) o)
signed_is c neg none e = rw (eq-eqb c 0 e) refl
signed_is c neg (some r) q = rw (ne_eqb c 0 (λ e. omega (arith, q.some))) (by neg)
  where
    by : (t : Bool) → Reading (2 * c + bit_of t) (some (signed t r))
    by true =
        let d : (2 * c + 1) / 2 ≡ c = omega arith in
        record { some = rw d q.some; subject = rw d q.subject; is = rw (d, eq-eqb ((2 * c + 1) % 2) 1 (omega arith)) (ap negate_req q.is) }
    by false =
        let d : (2 * c + 0) / 2 ≡ c = omega arith in
        record { some = rw d q.some; subject = rw d q.subject; is = rw (d, ne_eqb ((2 * c + 0) % 2) 1 (λ e. omega arith)) q.is }

-- ---- comparisons with 0

abbrev by_sign : ℕ → Option Requirement → Option Requirement
by_sign zero o = o
by_sign (suc zero) o = map_req negate_req o
by_sign (suc (suc n)) o = none

if_sign : (op : Op2) (o q : Option Requirement) (z : Option ℤ) → q ≡ by_sign (sign_of op) o → if_zero z q ≡ by_sign (zero_sign op z) o
if_sign op o q none e = refl
if_sign op o q (some z) e = by (is_zero z)
  where
    by : (t : Bool) → cond t q none ≡ by_sign (cond t (sign_of op) 2) o
    by true = e
    by false = refl

none_sign : (op : Op2) (o : Option Requirement) (z : Option ℤ) → sign_of op ≡ 2 → none ≡ by_sign (zero_sign op z) o
none_sign op o none e = refl
none_sign op o (some z) e = by (is_zero z)
  where
    by : (t : Bool) → none ≡ by_sign (cond t (sign_of op) 2) o
    by true = rw e refl
    by false = refl

compare_sign : (op : Op2) (o : Option Requirement) (z : Option ℤ) → compare_req op o z ≡ by_sign (zero_sign op z) o
compare_sign Equal o z = if_sign Equal o (map_req negate_req o) z refl
compare_sign NotEqual o z = if_sign NotEqual o o z refl
compare_sign Less o z = none_sign Less o z refl
compare_sign LessEqual o z = if_sign LessEqual o (map_req negate_req o) z refl
compare_sign Greater o z = if_sign Greater o o z refl
compare_sign GreaterEqual o z = none_sign GreaterEqual o z refl
compare_sign Add o z = none_sign Add o z refl
compare_sign Subtract o z = none_sign Subtract o z refl
compare_sign BitAnd o z = none_sign BitAnd o z refl
compare_sign BitOr o z = none_sign BitOr o z refl

zero_test : (s : ℕ) (z : ℤ) → s ≡ shift z → InRange z → eqb s half32 ≡ is_zero z
zero_test s (pos n) e f = by (eqb n 0) refl
  where
    by : (t : Bool) → eqb n 0 ≡ t → eqb s half32 ≡ t
    by true w = eq-eqb s half32 (omega (arith, eqb-true n 0 w))
    by false w = let d = eqb-false n 0 w in ne_eqb s half32 (λ x. d (omega arith))
zero_test s (negsuc n) e f = ne_eqb s half32 (λ x. omega arith)

zero_not : (op : Op2) (s : ℕ) (z : Option ℤ) → Numbered s z → (s ≡ half32 → ⊥) → 2 ≡ zero_sign op z
zero_not op s none e n = refl
zero_not op s (some z) e n = rw (← zero_test s z e.0 e.1, ne_eqb s half32 n)

zero_is : (op : Op2) (s t : ℕ) (z : Option ℤ) → Numbered s z → s ≡ half32 → t ≡ sign_of op → t ≡ zero_sign op z
zero_is op s t none e f g = absurd (omega arith)
zero_is op s t (some z) e f g = rw (← zero_test s z e.0 e.1, eq-eqb s half32 f) g

module _ (ws : List ℕ) (vs : List ℤ) (i : ℕ) (op : Op2) (s : ℕ) (f : (n : ℕ) → Numbered s (value (tree_below (nodes_in ws vs n) i (right_at (nodes_in ws vs n) i)))) where
  pub zero_other : (s ≡ half32 → ⊥) → (n : ℕ) → 2 ≡ zero_sign op (value (tree_below (nodes_in ws vs n) i (right_at (nodes_in ws vs n) i)))
  zero_other d n = zero_not op s (value (tree_below (nodes_in ws vs n) i (right_at (nodes_in ws vs n) i))) (f n) d

  pub zero_same : (t : ℕ) → s ≡ half32 → t ≡ sign_of op → (n : ℕ) → t ≡ zero_sign op (value (tree_below (nodes_in ws vs n) i (right_at (nodes_in ws vs n) i)))
  zero_same t d g n = zero_is op s t (value (tree_below (nodes_in ws vs n) i (right_at (nodes_in ws vs n) i))) (f n) d g

sign_most : (op : Op2) (z : Option ℤ) → zero_sign op z ≤ 2
sign_most op none = omega arith
sign_most op (some z) = by op (is_zero z)
  where
    by : (op : Op2) (t : Bool) → cond t (sign_of op) 2 ≤ 2
    by op false = omega arith
    by Equal true = omega arith
    by NotEqual true = omega arith
    by Less true = omega arith
    by LessEqual true = omega arith
    by Greater true = omega arith
    by GreaterEqual true = omega arith
    by Add true = omega arith
    by Subtract true = omega arith
    by BitAnd true = omega arith
    by BitOr true = omega arith

-- ---- a node

-- what node i is under a sign
abbrev pub Means : List ℕ → List ℤ → Known → ℕ → ℕ → Bool → ℕ → Type 0
Means ws vs k b i neg x = OfNode ws vs k b i (λ h e. Reading x (map_req (signed neg) (parse_requirement h e)))

module _ (ws : List ℕ) (vs : List ℤ) (k : Known) (b i : ℕ) (neg : Bool) where
  pub means_out : b ≤ i → Means ws vs k b i neg 0
  means_out l h n g = rw (below_out (nodes_in ws vs n) b i l) refl

  module _ (lt : i < b) (d : Kind) (e : d ≡ kind_of (code_at (nodes_in ws vs 0) i)) where
    pub means_imm16 : d ≡ Imm16 → Means ws vs k b i neg 0
    means_imm16 f h n g = rw (below_imm16 (nodes_in ws vs n) b i lt d e f) refl

    pub means_imm32 : d ≡ Imm32 → Means ws vs k b i neg 0
    means_imm32 f h n g = rw (below_imm32 (nodes_in ws vs n) b i lt d e f) refl

    pub means_other : d ≡ Other → Means ws vs k b i neg 0
    means_other f h n g = rw (below_other (nodes_in ws vs n) b i lt d e f) refl

    pub means_one : (o : Op1) (s c x : ℕ) → d ≡ One o
        → ((n : ℕ) → Numbered s (value (tree_below (nodes_in ws vs n) i (left_at (nodes_in ws vs n) i)))) → ReadCode k.items k.atcs o s c → x ≡ signed_code c neg → Means ws vs k b i neg x
    means_one o s c x f y u v h n g =
        let z = value (tree_below (nodes_in ws vs n) i (left_at (nodes_in ws vs n) i)) in
        rw (below_one (nodes_in ws vs n) b i lt d e o f, v) (signed_is c neg (read_req h o z) (u.is h z g (y n)))

    -- a comparison with the sign t
    module _ (o : Op2) (t : ℕ) (f : d ≡ Two o) (s : (n : ℕ) → t ≡ zero_sign o (value (tree_below (nodes_in ws vs n) i (right_at (nodes_in ws vs n) i)))) where
      two_by : (h : Sheet) (n : ℕ) → parse_requirement h (tree_below (nodes_in ws vs n) b i) ≡ by_sign t (parse_requirement h (tree_below (nodes_in ws vs n) i (left_at (nodes_in ws vs n) i)))
      two_by h n = let ns = nodes_in ws vs n in
          ap (parse_requirement h) (below_two ns b i lt d e o f)
          ∙ compare_sign o (parse_requirement h (tree_below ns i (left_at ns i))) (value (tree_below ns i (right_at ns i)))
          ∙ ap (λ m. by_sign m (parse_requirement h (tree_below ns i (left_at ns i)))) (sym (s n))

      pub means_nothing : t ≡ 2 → Means ws vs k b i neg 0
      means_nothing w h n g = rw (two_by h n, w) refl

      module _ (l x : ℕ) (el : l ≡ get_or ws (3 * i + 1) 0) where
        pub means_turned : t ≡ 1 → Means ws vs k i l (not neg) x → Means ws vs k b i neg x
        means_turned w y h n g = rw (two_by h n, w, signs_meet neg (parse_requirement h (tree_below (nodes_in ws vs n) i (left_at (nodes_in ws vs n) i))), ← el) (y h n g)

        pub means_same : (t ≡ 2 → ⊥) → (t ≡ 1 → ⊥) → Means ws vs k i l neg x → Means ws vs k b i neg x
        means_same v w y h n g =
            let m = sign_most o (value (tree_below (nodes_in ws vs n) i (right_at (nodes_in ws vs n) i))) in
            let q = s n in
            let z : t ≡ 0 = omega arith in
            rw (two_by h n, z, ← el) (y h n g)
