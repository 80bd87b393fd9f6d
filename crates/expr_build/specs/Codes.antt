-- The tests of requirements by their codes: what each is about, and Missing as the negation. Assumes nothing.
use Rattle.std.specs.Prelude.{ℕ, ◌≤◌, ◌≡◌, refl, Bool, true, false, ℤ, pos}
use Rattle.std.proofs.Math.Path.{ap}
use Rattle.std.proofs.Common.{sym, ◌∙◌, arith}
use Rattle.model.specs.Expr.{one, imm, negate, size}
use Rattle.model.specs.declared.Op2.{Op2}
use Rattle.model.specs.declared.Op1.{Op1}
use Rattle.model.specs.declared.Op2.TheVariants.{NotEqual}
use Rattle.model.specs.declared.Op1.TheVariants.{Not, Flag, Item, Atc}
use Rattle.model.specs.Requirement.{Requirement, haveItem, missingItem, haveAtc, missingAtc, haveFlag, missingFlag}
use Rattle.model.specs.Compile.{test, item_test, atc_test, flag_test}
use Rattle.shop_codes.specs.Codes.{requirement_of, subject, is_missing}
use Rattle.expr_negate.specs.Turns.{Turns, flips, gains, compared, turns_size}
use Rattle.expr_build.specs.Tests.{with_zero}
use Rattle.expr_build.specs.Laws.{size_imm}

-- ---- Missing is the negation

negated : (r : Requirement) → is_missing r ≡ true → test r ≡ negate (test (subject r))
unfolding test
negated (haveItem i) h = let f : ◌≡◌ {A = ℕ} 0 1 = cc in absurd (omega arith)
negated (missingItem i) h = refl
negated (haveAtc a) h = let f : ◌≡◌ {A = ℕ} 0 1 = cc in absurd (omega arith)
negated (missingAtc a) h = refl
negated (haveFlag f) h = let g : ◌≡◌ {A = ℕ} 0 1 = cc in absurd (omega arith)
negated (missingFlag f) h = refl

had : (r : Requirement) → is_missing r ≡ false → test r ≡ test (subject r)
had (haveItem i) h = refl
had (missingItem i) h = let f : ◌≡◌ {A = ℕ} 0 1 = cc in absurd (omega arith)
had (haveAtc a) h = refl
had (missingAtc a) h = let f : ◌≡◌ {A = ℕ} 0 1 = cc in absurd (omega arith)
had (haveFlag f) h = refl
had (missingFlag f) h = let g : ◌≡◌ {A = ℕ} 0 1 = cc in absurd (omega arith)

pub test_missing : (c : ℕ) → is_missing (requirement_of c) ≡ true → test (requirement_of c) ≡ negate (test (subject (requirement_of c)))
test_missing c h = negated (requirement_of c) h

pub test_had : (c : ℕ) → is_missing (requirement_of c) ≡ false → test (requirement_of c) ≡ test (subject (requirement_of c))
test_had c h = had (requirement_of c) h

-- a comparison flips, flag[f] gains a Not
turns_subject : (r : Requirement) → Turns (test (subject r))
unfolding test item_test atc_test flag_test
turns_subject (haveItem i) = flips (compared refl refl)
turns_subject (missingItem i) = flips (compared refl refl)
turns_subject (haveAtc a) = flips (compared refl refl)
turns_subject (missingAtc a) = flips (compared refl refl)
turns_subject (haveFlag f) = gains refl
turns_subject (missingFlag f) = gains refl

pub subject_turns : (c : ℕ) → Turns (test (subject (requirement_of c)))
subject_turns c = turns_subject (requirement_of c)

-- ---- how many nodes each takes

pub size_compare : (b : Op2) (o : Op1) (z : ℤ) → size (with_zero b o z) ≡ 4
unfolding size
size_compare b o z = rw (size_imm z)

pub size_flag : (z : ℤ) → size (one Flag (imm z)) ≡ 2
unfolding size
size_flag z = rw (size_imm z)

pub size_not_flag : (z : ℤ) → size (one Not (one Flag (imm z))) ≡ 3
unfolding size
size_not_flag z = rw (size_imm z)

-- the test of the subject takes no more than that of the requirement
pub subject_small : (c : ℕ) → size (test (subject (requirement_of c))) ≤ size (test (requirement_of c))
subject_small c = by (is_missing (requirement_of c)) refl
  where
    by : (b : Bool) → is_missing (requirement_of c) ≡ b → size (test (subject (requirement_of c))) ≤ size (test (requirement_of c))
    by true h = rw (test_missing c h) (turns_size (subject_turns c))
    by false h = omega (arith, ap size (test_had c h))

-- ---- the test of what a requirement is about

module _ (c : ℕ) (s : Requirement) (e : s ≡ subject (requirement_of c)) where
  pub about_item : (i : ℕ) → s ≡ haveItem i → test (subject (requirement_of c)) ≡ with_zero NotEqual Item (pos i)
  unfolding test item_test
  about_item i f = ap test (sym e ∙ f)

  pub about_atc : (a : ℕ) → s ≡ haveAtc a → test (subject (requirement_of c)) ≡ with_zero NotEqual Atc (pos a)
  unfolding test atc_test
  about_atc a f = ap test (sym e ∙ f)

  pub about_flag : (z : ℤ) → s ≡ haveFlag z → test (subject (requirement_of c)) ≡ one Flag (imm z)
  unfolding test flag_test
  about_flag z f = ap test (sym e ∙ f)

  pub size_item : (i : ℕ) → s ≡ haveItem i → size (test (subject (requirement_of c))) ≡ 4
  size_item i f = rw (about_item i f) (size_compare NotEqual Item (pos i))

  pub size_atc : (a : ℕ) → s ≡ haveAtc a → size (test (subject (requirement_of c))) ≡ 4
  size_atc a f = rw (about_atc a f) (size_compare NotEqual Atc (pos a))

  pub size_a_flag : (z : ℤ) → s ≡ haveFlag z → size (test (subject (requirement_of c))) ≡ 2
  size_a_flag z f = rw (about_flag z f) (size_flag z)
