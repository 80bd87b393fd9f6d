-- The numbers of a script that an image can hold have their bits, and so have the requirements of its conditions. Assumes nothing.
use Rattle.std.specs.Prelude.{◌≡◌, refl, Bool, true, false, not, cond, ◌&&◌, List, [], ◌∷◌, ℕ, zero, suc, ◌+◌, ◌<◌, ltb, ℤ, pos, negsuc}
use Rattle.std.proofs.Common.{◌∙◌, arith, ltb-true, lt-ltb}
use Rattle.std.proofs.Math.Option.{Option, none, some}
use Rattle.std.specs.Int.Signed.{mag}
use Rattle.std.specs.Int.{Width, w16, w32}
use mir.ValLaws.{to_z-Fits}
use Rattle.model.specs.Limits.{half16, half32}
use Rattle.model.specs.Signed.{cut16, in_range, is_zero, low_bits, wrap}
use Rattle.model.specs.Expr.{Expr, two, one, imm16, imm32, other, negate}
use Rattle.model.specs.declared.Op2.{Op2}
use Rattle.model.specs.declared.Op2.TheVariants.{Equal, NotEqual, Less, LessEqual, Greater, GreaterEqual, Add, Subtract, BitAnd, BitOr}
use Rattle.model.specs.declared.Op1.{Op1}
use Rattle.model.specs.declared.Op1.TheVariants.{Not, Flag, Variable, Item, Atc, Time}
use Rattle.model.specs.Reading.{zig}
use Rattle.model.specs.Requirement.{Requirement, haveItem, missingItem, haveAtc, missingAtc, haveFlag, missingFlag, extend, insert, keep, member, negate_req, settled}
use Rattle.model.specs.Sheet.{Sheet, all, item_count}
use Rattle.model.specs.Parse.{add_req, compare_req, gather, id_below, if_zero, is_join, is_not, join, map_req, parse_requirement, parse_requirements, read_req, signed, value}
use Rattle.model.proofs.Laws.Checks.{and_left, and_right}
use Rattle.model.proofs.Laws.Normal.{all_insert}
use Rattle.model.proofs.Laws.Signed.{low_bits_under}
use Rattle.model.proofs.Laws.ImageExpr.{FitsExpr}
use Rattle.text_model.specs.Text.{req_printable}

pub both : (a b : Bool) → a ≡ true → b ≡ true → a && b ≡ true
both a b p q = rw (p, q)

-- ---- numbers of expressions: an Imm16 has 16 bits, an Imm32 32

abbrev pub imms_fit : Expr → Bool
imms_fit (two o a b) = imms_fit a && imms_fit b
imms_fit (one o a) = imms_fit a
imms_fit (imm16 z) = in_range w16 z
imms_fit (imm32 z) = in_range w32 z
imms_fit other = true

zig_low : (z : ℤ) (n : ℕ) → zig z < n + n → mag z < n
unfolding zig
zig_low (pos k) n l = omega arith
zig_low (negsuc k) n l = omega arith

pub fits_imms : (d : ℕ) (e : Expr) → FitsExpr d e → imms_fit e ≡ true
unfolding FitsExpr
fits_imms zero e f = absurd f
fits_imms (suc d) (two o a b) f = both (imms_fit a) (imms_fit b) (fits_imms d a f.0) (fits_imms d b f.1)
fits_imms (suc d) (one o a) f = fits_imms d a f
fits_imms (suc d) (imm16 z) f = lt-ltb (mag z) half16 (zig_low z half16 f)
fits_imms (suc d) (imm32 z) f = lt-ltb (mag z) half32 (zig_low z half32 f)
fits_imms (suc d) other f = refl

pub negate_imms : (e : Expr) → imms_fit (negate e) ≡ imms_fit e
negate_imms (two Equal a b) = refl
negate_imms (two NotEqual a b) = refl
negate_imms (two Less a b) = refl
negate_imms (two LessEqual a b) = refl
negate_imms (two Greater a b) = refl
negate_imms (two GreaterEqual a b) = refl
negate_imms (two Add a b) = refl
negate_imms (two Subtract a b) = refl
negate_imms (two BitAnd a b) = rw (negate_imms a, negate_imms b)
negate_imms (two BitOr a b) = rw (negate_imms a, negate_imms b)
negate_imms (one Not a) = refl
negate_imms (one Flag a) = refl
negate_imms (one Variable a) = refl
negate_imms (one Item a) = refl
negate_imms (one Atc a) = refl
negate_imms (one Time a) = refl
negate_imms (imm16 z) = refl
negate_imms (imm32 z) = refl
negate_imms other = refl

abbrev pub number_fits : Width → Option ℤ → Bool
number_fits w none = true
number_fits w (some z) = in_range w z

wider : (z : ℤ) → in_range w16 z ≡ true → in_range w32 z ≡ true
wider z f = let l = ltb-true (mag z) half16 f in lt-ltb (mag z) half32 (omega arith)

pub value_fits : (e : Expr) → imms_fit e ≡ true → number_fits w32 (value e) ≡ true
value_fits (two o a b) f = refl
value_fits (one o a) f = refl
value_fits (imm16 z) f = wider z f
value_fits (imm32 z) f = f
value_fits other f = refl

pub cut_fits : (z : ℤ) → in_range w16 (cut16 z) ≡ true
unfolding wrap
cut_fits z = lt-ltb (mag (cut16 z)) half16 (to_z-Fits w16 (low_bits w16 z) (record { fits = low_bits_under w16 z })).sfits

-- ---- requirements

abbrev req_fits : Option Requirement → Bool
req_fits none = true
req_fits (some r) = req_printable r

negate_fits : (r : Requirement) → req_printable (negate_req r) ≡ req_printable r
negate_fits (haveItem i) = refl
negate_fits (missingItem i) = refl
negate_fits (haveAtc a) = refl
negate_fits (missingAtc a) = refl
negate_fits (haveFlag f) = refl
negate_fits (missingFlag f) = refl

negated_fits : (o : Option Requirement) → req_fits o ≡ true → req_fits (map_req negate_req o) ≡ true
negated_fits none f = refl
negated_fits (some r) f = negate_fits r ∙ f

zero_fits : (o : Option ℤ) (r : Option Requirement) → req_fits r ≡ true → req_fits (if_zero o r) ≡ true
zero_fits none r f = refl
zero_fits (some z) r f = by (is_zero z)
  where
    by : (b : Bool) → req_fits (cond b r none) ≡ true
    by true = f
    by false = refl

compare_fits : (o : Op2) (r : Option Requirement) (z : Option ℤ) → req_fits r ≡ true → req_fits (compare_req o r z) ≡ true
compare_fits NotEqual r z f = zero_fits z r f
compare_fits Greater r z f = zero_fits z r f
compare_fits Equal r z f = zero_fits z (map_req negate_req r) (negated_fits r f)
compare_fits LessEqual r z f = zero_fits z (map_req negate_req r) (negated_fits r f)
compare_fits Less r z f = refl
compare_fits GreaterEqual r z f = refl
compare_fits Add r z f = refl
compare_fits Subtract r z f = refl
compare_fits BitAnd r z f = refl
compare_fits BitOr r z f = refl

id_fits : (n : ℕ) (k : ℕ → Requirement) → ((i : ℕ) → req_printable (k i) ≡ in_range w32 (pos i)) → (o : Option ℤ) → number_fits w32 o ≡ true → req_fits (id_below n k o) ≡ true
id_fits n k e none f = refl
id_fits n k e (some (negsuc i)) f = refl
id_fits n k e (some (pos i)) f = by (ltb i n)
  where
    by : (b : Bool) → req_fits (cond b (some (k i)) none) ≡ true
    by true = e i ∙ f
    by false = refl

read_fits : (h : Sheet) (o : Op1) (z : Option ℤ) → number_fits w32 z ≡ true → req_fits (read_req h o z) ≡ true
read_fits h Item z f = id_fits (item_count h) haveItem (λ i. refl) z f
read_fits h Atc z f = id_fits h.atc_count haveAtc (λ i. refl) z f
read_fits h Flag none f = refl
read_fits h Flag (some z) f = f
read_fits h Variable z f = refl
read_fits h Time z f = refl
read_fits h Not z f = refl

requirement_fits : (h : Sheet) (e : Expr) → imms_fit e ≡ true → req_fits (parse_requirement h e) ≡ true
requirement_fits h (two o a b) f = compare_fits o (parse_requirement h a) (value b) (requirement_fits h a (and_left (imms_fit a) (imms_fit b) f))
requirement_fits h (one o a) f = read_fits h o (value a) (value_fits a f)
requirement_fits h (imm16 z) f = refl
requirement_fits h (imm32 z) f = refl
requirement_fits h other f = refl

-- ---- sets of them

keep_fits : (k : Requirement → Bool) (xs : List Requirement) → all req_printable xs ≡ true → all req_printable (keep k xs) ≡ true
keep_fits k [] q = refl
keep_fits k (x ∷ xs) q = by (k x) (keep_fits k xs (and_right (req_printable x) (all req_printable xs) q))
  where
    by : (b : Bool) → all req_printable (keep k xs) ≡ true → all req_printable (cond b (x ∷ keep k xs) (keep k xs)) ≡ true
    by true ih = both (req_printable x) (all req_printable (keep k xs)) (and_left (req_printable x) (all req_printable xs) q) ih
    by false ih = ih

pub extend_fits : (rs xs : List Requirement) → all req_printable rs ≡ true → all req_printable xs ≡ true → all req_printable (extend rs xs) ≡ true
extend_fits rs [] p q = p
extend_fits rs (x ∷ xs) p q =
    extend_fits (insert (negate_req x) rs) xs
    (all_insert req_printable (negate_req x) rs (negate_fits x ∙ and_left (req_printable x) (all req_printable xs) q) p) (and_right (req_printable x) (all req_printable xs) q)

-- ---- those of a condition

signed_fits : (n : Bool) (r : Requirement) → req_printable r ≡ true → req_printable (signed n r) ≡ true
signed_fits true r p = negate_fits r ∙ p
signed_fits false r p = p

add_fits : (n : Bool) (o : Option Requirement) (rs : List Requirement) → req_fits o ≡ true → all req_printable rs ≡ true → all req_printable (add_req n o rs) ≡ true
add_fits n none rs p q = q
add_fits n (some r) rs p q = all_insert req_printable (signed n r) rs (signed_fits n r p) q

gather_fits : (h : Sheet) (e : Expr) (n : Bool) (rs : List Requirement) → imms_fit e ≡ true → all req_printable rs ≡ true → all req_printable (gather h e n rs) ≡ true
unfolding gather
gather_fits h (two o a b) n rs f q =
    by (is_join o) (gather_fits h b n (gather h a n rs) (and_right (imms_fit a) (imms_fit b) f) (gather_fits h a n rs (and_left (imms_fit a) (imms_fit b) f) q))
  where
    by : (j : Bool) → all req_printable (gather h b n (gather h a n rs)) ≡ true → all req_printable (cond j (gather h b n (gather h a n rs)) (add_req n (parse_requirement h (two o a b)) rs)) ≡ true
    by true ih = ih
    by false ih = add_fits n (parse_requirement h (two o a b)) rs (requirement_fits h (two o a b) f) q
gather_fits h (one o a) n rs f q = by (is_not o) (gather_fits h a (not n) rs f q)
  where
    by : (j : Bool) → all req_printable (gather h a (not n) rs) ≡ true → all req_printable (cond j (gather h a (not n) rs) (add_req n (parse_requirement h (one o a)) rs)) ≡ true
    by true ih = ih
    by false ih = add_fits n (parse_requirement h (one o a)) rs (requirement_fits h (one o a) f) q
gather_fits h (imm16 z) n rs f q = q
gather_fits h (imm32 z) n rs f q = q
gather_fits h other n rs f q = q

abbrev pub condition_fits : Option Expr → Bool
condition_fits none = true
condition_fits (some e) = imms_fit e

pub condition_fits_lem : (h : Sheet) (c : Option Expr) → condition_fits c ≡ true → all req_printable (parse_requirements h c) ≡ true
unfolding parse_requirements settled
condition_fits_lem h none f = refl
condition_fits_lem h (some e) f = keep_fits (λ r. not (member (negate_req r) (gather h e false []))) (gather h e false []) (gather_fits h e false [] f refl)

pub join_fits : (c : Option Expr) (e : Expr) → condition_fits c ≡ true → imms_fit e ≡ true → imms_fit (join c e) ≡ true
join_fits none e f g = g
join_fits (some c) e f g = both (imms_fit c) (imms_fit e) f g
