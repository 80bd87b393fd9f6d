-- Laws of the joined tests of an array of codes. Assumes nothing.
use Rattle.std.specs.Prelude.{ℕ, suc, ◌+◌, ◌-◌, ◌≤◌, ◌<◌, ◌≡◌, refl, List, [], ◌∷◌, ◌++◌, map, length, take, drop, get_or}
use Rattle.std.proofs.Common.{ap, sym, ◌∙◌, length-drop, take-append-drop, take-suc, get_or-drop, take-take, le_refl, arith}
use Rattle.std.proofs.lemmas.List.{map-append}
use Rattle.model.specs.Expr.{Expr, two, size}
use Rattle.model.specs.declared.Op2.TheVariants.{BitAnd}
use Rattle.model.specs.Requirement.{Requirement}
use Rattle.model.specs.Compile.{test, join_tests}
use Rattle.shop_codes.specs.Codes.{requirement_of}
use Rattle.expr_build.specs.Tests.{codes_rest}

pub joined_append : (e : Expr) (xs ys : List Requirement) → join_tests e (xs ++ ys) ≡ join_tests (join_tests e xs) ys
unfolding join_tests
joined_append e [] ys = refl
joined_append e (x ∷ xs) ys = joined_append (two BitAnd e (test x)) xs ys

pub joined_grows : (e : Expr) (xs : List Requirement) → size e ≤ size (join_tests e xs)
unfolding join_tests size
joined_grows e [] = le_refl (size e)
joined_grows e (x ∷ xs) = omega (arith, joined_grows (two BitAnd e (test x)) xs)

-- one more test, which is code i
pub joined_step : (e : Expr) (cs : List ℕ) (i : ℕ) → 0 < i → i < length cs
    → join_tests e (codes_rest cs (i + 1)) ≡ two BitAnd (join_tests e (codes_rest cs i)) (test (requirement_of (get_or cs i 0)))
unfolding join_tests
joined_step e cs i h l =
    let at : i + 1 - 1 ≡ suc (i - 1) = omega arith in
    let inside : i - 1 < length (drop 1 cs) = simp length-drop (omega arith) in
    let same : get_or (drop 1 cs) (i - 1) 0 ≡ get_or cs i 0 = get_or-drop 1 cs (i - 1) 0 ∙ ap (λ (k : ℕ). get_or cs k 0) (omega arith) in
    rw (at, take-suc (drop 1 cs) (i - 1) 0 inside, same, map-append, joined_append)

-- fewer tests take no more nodes
pub joined_take : (e : Expr) (cs : List ℕ) (k m : ℕ) → k ≤ m → size (join_tests e (codes_rest cs k)) ≤ size (join_tests e (codes_rest cs m))
joined_take e cs k m h =
    let xs = drop 1 cs in
    let p : take (k - 1) (take (m - 1) xs) ≡ take (k - 1) xs = take-take (k - 1) (m - 1) xs (omega arith) in
    let q : join_tests e (codes_rest cs m) ≡ join_tests (join_tests e (map requirement_of (take (k - 1) (take (m - 1) xs)))) (map requirement_of (drop (k - 1) (take (m - 1) xs)))
    = ap (λ (l : List ℕ). join_tests e (map requirement_of l)) (sym (take-append-drop (k - 1) (take (m - 1) xs)))
    ∙ ap (join_tests e) (map-append requirement_of (take (k - 1) (take (m - 1) xs)) (drop (k - 1) (take (m - 1) xs)))
    ∙ joined_append e (map requirement_of (take (k - 1) (take (m - 1) xs))) (map requirement_of (drop (k - 1) (take (m - 1) xs))) in
    rw (q, p) (joined_grows (join_tests e (codes_rest cs k)) (map requirement_of (drop (k - 1) (take (m - 1) xs))))

-- as long as there is room for all, there is for one more and the node that joins it
pub joined_room : (e : Expr) (cs : List ℕ) (i m : ℕ) → 0 < i → i < length cs → i < m
    → size (join_tests e (codes_rest cs i)) + size (test (requirement_of (get_or cs i 0))) + 1 ≤ size (join_tests e (codes_rest cs m))
unfolding size
joined_room e cs i m h l k = omega (arith, joined_take e cs (i + 1) m (omega arith), ap size (joined_step e cs i h l))
