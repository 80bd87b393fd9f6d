-- What is told of the first i slots, by their numbers. Assumes nothing.
use Rattle.std.proofs.Common.{◌≡◌, ℕ, List, [], ◌+◌, ◌<◌, map, length, get_or, sym, ap, ◌∙◌, arith, ext_get_or}
use Rattle.std.proofs.lemmas.List.{get_or-map, length-map, get_or-set_same, get_or-set_other}
use Rattle.std.proofs.Math.ListN.{set}
use Rattle.std.proofs.Math.Decide.{ℕ_discrete}
use Rattle.model.proofs.Laws.Places.{any_default}
use Rattle.signed_check.specs.Answer.{finding_is}
use Rattle.signed_check.specs.declared.Finding as code
use Rattle.signed_check.specs.declared.Listed.TheVariants.{Sometimes}
use Rattle.signed_check.specs.declared.Verdict.TheVariants.{Faithful}
use Rattle.capi_signed.specs.declared.Finding.{Finding}
use Rattle.capi_signed.specs.Answers.{finding_as}

-- what a read past the findings would give
abbrev pub before : code.Finding
before = record { verdict = Faithful; limit = 0; doubled = 0; lost = 0; listed = Sometimes; settings = 0; codes = [] }

abbrev pub after : Finding
after = record { verdict = 0; entry = 0; limit = 0; doubled = 0; lost = 0; listed = 0; settings = 0; codes = [] }

-- so many slots are told
pub record ToldUpTo (told : List code.Finding) (slots : List Finding) (i : ℕ) : Type 0 where
  pub each : (k : ℕ) → k < i → finding_as (get_or slots k after) ≡ finding_is (get_or told k before)

pub told_more : (told : List code.Finding) (slots : List Finding) (i : ℕ) (f : Finding) (d : code.Finding) → i < length told → i < length slots → ToldUpTo told slots i → finding_as f ≡ finding_is (get_or told i d) → ToldUpTo told (set slots i f) (i + 1)
told_more told slots i f d l m t e = record { each = each }
  where
    each : (k : ℕ) → k < i + 1 → finding_as (get_or (set slots i f) k after) ≡ finding_is (get_or told k before)
    each k h = by (ℕ_discrete k i)
      where
        by : Dec (k ≡ i) → finding_as (get_or (set slots i f) k after) ≡ finding_is (get_or told k before)
        by (yes q) = rw q (ap finding_as (get_or-set_same slots i f after m) ∙ e ∙ ap finding_is (any_default told i d before l))
        by (no q) = ap finding_as (get_or-set_other slots i k f after q) ∙ t.each k (omega (arith, q))

pub told_whole : (told : List code.Finding) (slots : List Finding) (i : ℕ) → length told ≡ i → length slots ≡ i → ToldUpTo told slots i → map finding_as slots ≡ map finding_is told
told_whole told slots i l m t = ext_get_or (finding_is before) (map finding_as slots) (map finding_is told) (length-map slots finding_as ∙ m ∙ sym l ∙ sym (length-map told finding_is)) each
  where
    each : (k : ℕ) → k < length (map finding_as slots) → get_or (map finding_as slots) k (finding_is before) ≡ get_or (map finding_is told) k (finding_is before)
    each k h =
        let n : k < i = omega (arith, length-map slots finding_as, m) in
        get_or-map finding_as slots k after (finding_is before) (omega (arith, m)) ∙ t.each k n ∙ sym (get_or-map finding_is told k before (finding_is before) (omega (arith, l)))
