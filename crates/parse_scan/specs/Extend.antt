-- The negations of requirements joining a set: one by one, or as a set of their own that joins. Assumes nothing.
use Rattle.std.specs.Prelude.{◌≡◌, refl, Bool, true, false, cond, ◌||◌, List, [], ◌∷◌, map, ℕ, suc, ◌≤◌, length}
use Rattle.std.proofs.Common.{sym, ap, ◌∙◌, arith}
use Rattle.std.proofs.Math.Bool.{or_comm, or-false}
use Rattle.model.specs.Requirement.{Requirement, negate_req, same_req, before, insert, member, extend}
use Rattle.model.proofs.Laws.Sets.{Sorted, insert_sorted, member_insert, ext}
use Rattle.model.proofs.Laws.Normal.{extend_sorted, extend_member}
use Rattle.model.proofs.Laws.Bools.{or_move}
use Rattle.shop_codes.specs.Codes.{code_of, AllNarrow}
use Rattle.shop.specs.Sets.{insert_code}
use Rattle.shop.specs.SetLaws.{insert_more}
use Rattle.shop.specs.Codes.{insert_code_lem, insert_narrow}
use Rattle.shop_codes.specs.Subjects.{negate_narrow}

-- the requirements ls join xs
abbrev pub joined : List Requirement → List Requirement → List Requirement
joined xs [] = xs
joined xs (r ∷ ls) = joined (insert r xs) ls

-- .. by their codes
abbrev pub insert_codes : List ℕ → List ℕ → List ℕ
insert_codes cs [] = cs
insert_codes cs (c ∷ ds) = insert_codes (insert_code c cs) ds

-- ---- order and members

joined_sorted : (xs ls : List Requirement) → Sorted xs → Sorted (joined xs ls)
joined_sorted xs [] s = s
joined_sorted xs (r ∷ ls) s = joined_sorted (insert r xs) ls (insert_sorted r xs s)

member_joined : (q : Requirement) (xs ls : List Requirement) → member q (joined xs ls) ≡ member q xs || member q ls
unfolding member
member_joined q xs [] = sym (or-false (member q xs))
member_joined q xs (r ∷ ls) = member_joined q (insert r xs) ls ∙ ap (λ b. b || member q ls) (member_insert q r xs) ∙ sym (or_move (same_req q r) (member q xs) (member q ls))

member_extend : (q : Requirement) (xs rs : List Requirement) → member q (extend xs rs) ≡ member q xs || member q (extend [] rs)
unfolding member
member_extend q xs rs =
    extend_member q xs rs ∙ or_comm (member (negate_req q) rs) (member q xs) ∙ ap (λ b. member q xs || b) (sym (extend_member q [] rs ∙ or-false (member (negate_req q) rs)))

-- two sorted lists with the same members are one
pub extend_joined : (xs rs : List Requirement) → Sorted xs → extend xs rs ≡ joined xs (extend [] rs)
extend_joined xs rs s =
    ext (extend xs rs) (joined xs (extend [] rs)) (extend_sorted xs rs s) (joined_sorted xs (extend [] rs) s)
    (λ q. member_extend q xs rs ∙ sym (member_joined q xs (extend [] rs)))

joined_comm : (xs ls : List Requirement) → Sorted xs → Sorted ls → joined xs ls ≡ joined ls xs
joined_comm xs ls s t =
    ext (joined xs ls) (joined ls xs) (joined_sorted xs ls s) (joined_sorted ls xs t)
    (λ q. member_joined q xs ls ∙ or_comm (member q xs) (member q ls) ∙ sym (member_joined q ls xs))

-- ---- lengths: sets only grow

insert_longer : (r : Requirement) (xs : List Requirement) → length xs ≤ length (insert r xs)
unfolding insert
insert_longer r [] = omega arith
insert_longer r (x ∷ xs) = by (same_req r x) (before r x) (insert_longer r xs)
  where
    by : (s c : Bool) → length xs ≤ length (insert r xs) → suc (length xs) ≤ length (cond s (x ∷ xs) (cond c (r ∷ x ∷ xs) (x ∷ insert r xs)))
    by true c h = omega arith
    by false true h = omega arith
    by false false h = omega arith

joined_longer : (xs ls : List Requirement) → length xs ≤ length (joined xs ls)
joined_longer xs [] = omega arith
joined_longer xs (r ∷ ls) = omega (arith, insert_longer r xs, joined_longer (insert r xs) ls)

-- a set is at least as long as the negations that joined it
pub extend_longer : (xs rs : List Requirement) → Sorted xs → length (extend [] rs) ≤ length (extend xs rs)
extend_longer xs rs s =
    let ls = extend [] rs in
    omega (arith, joined_longer ls xs, ap length (extend_joined xs rs s ∙ joined_comm xs ls s (extend_sorted [] rs tt)))

pub codes_longer : (cs ds : List ℕ) → length cs ≤ length (insert_codes cs ds)
codes_longer cs [] = omega arith
codes_longer cs (d ∷ ds) = omega (arith, (insert_more d cs).0, codes_longer (insert_code d cs) ds)

-- ---- codes

pub extend_narrow : (xs rs : List Requirement) → AllNarrow xs → AllNarrow rs → AllNarrow (extend xs rs)
extend_narrow xs [] p q = p
extend_narrow xs (r ∷ rs) p q = extend_narrow (insert (negate_req r) xs) rs (insert_narrow (negate_req r) xs (negate_narrow r q.0) p) q.1

joined_codes : (xs ls : List Requirement) → AllNarrow xs → AllNarrow ls → map code_of (joined xs ls) ≡ insert_codes (map code_of xs) (map code_of ls)
joined_codes xs [] p q = refl
joined_codes xs (r ∷ ls) p q = joined_codes (insert r xs) ls (insert_narrow r xs q.0 p) q.1 ∙ ap (λ l. insert_codes l (map code_of ls)) (insert_code_lem r xs q.0 p)

-- inserting the codes of the negations is the codes of the set that they join
pub extend_codes : (xs rs : List Requirement) → Sorted xs → AllNarrow xs → AllNarrow rs → insert_codes (map code_of xs) (map code_of (extend [] rs)) ≡ map code_of (extend xs rs)
extend_codes xs rs s p q = sym (ap (map code_of) (extend_joined xs rs s) ∙ joined_codes xs (extend [] rs) p (extend_narrow [] rs tt q))
