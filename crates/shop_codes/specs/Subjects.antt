-- What the requirement of a code is about, by its kind, and whether that has to be missing. Assumes nothing.
use Rattle.std.specs.Prelude.{◌≡◌, refl, false, Bool, true, cond, [], ◌∷◌, List, ℕ, zero, suc, ◌+◌, ◌/◌, ◌%◌, ◌≤◌, ◌<◌, ℤ}
use Rattle.std.proofs.Math.Path.{sym, ap}
use Rattle.std.proofs.Common.{◌∙◌, arith}
use Rattle.model.specs.Limits.{most_items, wide}
use Rattle.model.specs.Requirement.{Requirement, haveItem, missingItem, haveAtc, missingAtc, haveFlag, missingFlag, number, negate_req, keep}
use Rattle.shop_codes.specs.Codes.{InRange, unshift, code_of, id_of, of_kind, requirement_of, Narrow, subject, is_missing, AllNarrow}
use Rattle.shop_codes.specs.Laws.{code_narrow}

-- ---- by the kind

of_item : (k : ℕ) (z : ℤ) → k < 2 → subject (of_kind k z) ≡ haveItem (id_of z)
of_item zero z h = refl
of_item (suc zero) z h = refl
of_item (suc (suc k)) z h = absurd (omega arith)

of_atc : (k : ℕ) (z : ℤ) → 2 ≤ k → k < 4 → subject (of_kind k z) ≡ haveAtc (id_of z)
of_atc zero z h l = absurd (omega arith)
of_atc (suc zero) z h l = absurd (omega arith)
of_atc (suc (suc zero)) z h l = refl
of_atc (suc (suc (suc zero))) z h l = refl
of_atc (suc (suc (suc (suc k)))) z h l = absurd (omega arith)

of_flag : (k : ℕ) (z : ℤ) → 4 ≤ k → k < 6 → subject (of_kind k z) ≡ haveFlag z
of_flag zero z h l = absurd (omega arith)
of_flag (suc zero) z h l = absurd (omega arith)
of_flag (suc (suc zero)) z h l = absurd (omega arith)
of_flag (suc (suc (suc zero))) z h l = absurd (omega arith)
of_flag (suc (suc (suc (suc zero)))) z h l = refl
of_flag (suc (suc (suc (suc (suc zero))))) z h l = refl
of_flag (suc (suc (suc (suc (suc (suc k)))))) z h l = absurd (omega arith)

-- no kind of ours is an item that no sheet has
pub of_rest : (k : ℕ) (z : ℤ) → 6 ≤ k → of_kind k z ≡ haveItem most_items
of_rest zero z h = absurd (omega arith)
of_rest (suc zero) z h = absurd (omega arith)
of_rest (suc (suc zero)) z h = absurd (omega arith)
of_rest (suc (suc (suc zero))) z h = absurd (omega arith)
of_rest (suc (suc (suc (suc zero)))) z h = absurd (omega arith)
of_rest (suc (suc (suc (suc (suc zero))))) z h = absurd (omega arith)
of_rest (suc (suc (suc (suc (suc (suc k)))))) z h = refl

module _ (c : ℕ) where
  -- i is what the number gives
  pub subject_item : (i : ℕ) → i ≡ id_of (unshift (c % wide)) → c / wide < 2 → haveItem i ≡ subject (requirement_of c)
  unfolding requirement_of
  subject_item i e h = sym (of_item (c / wide) (unshift (c % wide)) h ∙ ap haveItem (sym e))

  pub subject_atc : (i : ℕ) → i ≡ id_of (unshift (c % wide)) → 2 ≤ c / wide → c / wide < 4 → haveAtc i ≡ subject (requirement_of c)
  unfolding requirement_of
  subject_atc i e h l = sym (of_atc (c / wide) (unshift (c % wide)) h l ∙ ap haveAtc (sym e))

  pub subject_flag : (z : ℤ) → z ≡ unshift (c % wide) → 4 ≤ c / wide → c / wide < 6 → haveFlag z ≡ subject (requirement_of c)
  unfolding requirement_of
  subject_flag z e h l = sym (of_flag (c / wide) (unshift (c % wide)) h l ∙ ap haveFlag (sym e))

  pub subject_rest : 6 ≤ c / wide → haveItem most_items ≡ subject (requirement_of c)
  unfolding requirement_of
  subject_rest h = sym (ap subject (of_rest (c / wide) (unshift (c % wide)) h))

-- ---- whether it has to be missing

pub missing_kind : (c k : ℕ) → c / wide ≡ k → is_missing (requirement_of c) ≡ is_missing (of_kind k (unshift (c % wide)))
unfolding requirement_of
missing_kind c k e = rw e

had_kind : (k : ℕ) (z : ℤ) → (k ≡ 1 → ⊥) → (k ≡ 3 → ⊥) → (k ≡ 5 → ⊥) → false ≡ is_missing (of_kind k z)
had_kind zero z a b c = refl
had_kind (suc zero) z a b c = absurd (a refl)
had_kind (suc (suc zero)) z a b c = refl
had_kind (suc (suc (suc zero))) z a b c = absurd (b refl)
had_kind (suc (suc (suc (suc zero)))) z a b c = refl
had_kind (suc (suc (suc (suc (suc zero))))) z a b c = absurd (c refl)
had_kind (suc (suc (suc (suc (suc (suc k)))))) z a b c = refl

pub not_missing : (c : ℕ) → (c / wide ≡ 1 → ⊥) → (c / wide ≡ 3 → ⊥) → (c / wide ≡ 5 → ⊥) → false ≡ is_missing (requirement_of c)
unfolding requirement_of
not_missing c x y z = had_kind (c / wide) (unshift (c % wide)) x y z

-- ---- numbers

pub subject_number : (r : Requirement) → number (subject r) ≡ number r
subject_number (haveItem i) = refl
subject_number (missingItem i) = refl
subject_number (haveAtc a) = refl
subject_number (missingAtc a) = refl
subject_number (haveFlag f) = refl
subject_number (missingFlag f) = refl

-- the number of what a code is about has 32 bits
pub subject_low : (c : ℕ) (s : Requirement) → s ≡ subject (requirement_of c) → InRange (number s)
subject_low c s e = rw (e, subject_number (requirement_of c)) (code_narrow c).fits

-- ---- the Missing of a Have

pub missing_code : (r : Requirement) → is_missing r ≡ false → code_of (negate_req r) ≡ code_of r + wide
missing_code (haveItem i) e = omega arith
missing_code (missingItem i) e = let z : ◌≡◌ {A = ℕ} 0 1 = cc in absurd (omega arith)
missing_code (haveAtc a) e = omega arith
missing_code (missingAtc a) e = let z : ◌≡◌ {A = ℕ} 0 1 = cc in absurd (omega arith)
missing_code (haveFlag f) e = omega arith
missing_code (missingFlag f) e = let z : ◌≡◌ {A = ℕ} 0 1 = cc in absurd (omega arith)

pub negate_narrow : (r : Requirement) → Narrow r → Narrow (negate_req r)
negate_narrow (haveItem i) n = record { fits = n.fits }
negate_narrow (missingItem i) n = record { fits = n.fits }
negate_narrow (haveAtc a) n = record { fits = n.fits }
negate_narrow (missingAtc a) n = record { fits = n.fits }
negate_narrow (haveFlag f) n = record { fits = n.fits }
negate_narrow (missingFlag f) n = record { fits = n.fits }

pub keep_narrow : (p : Requirement → Bool) (rs : List Requirement) → AllNarrow rs → AllNarrow (keep p rs)
keep_narrow p [] a = a
keep_narrow p (r ∷ rs) a = by (p r) (keep_narrow p rs a.1)
  where
    by : (t : Bool) → AllNarrow (keep p rs) → AllNarrow (cond t (r ∷ keep p rs) (keep p rs))
    by true b = (a.0, b)
    by false b = b
