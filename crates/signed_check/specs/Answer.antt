-- What is told, in numbers, and what the values of the code stand for. Assumes nothing: these are definitions.
use Rattle.std.specs.Prelude.{List, map, ℕ, zero, suc, length, replicate, Option, Some, None, Result, Ok, Err}
use Rattle.std.proofs.Math.Option as Math
use Rattle.std.proofs.Math.Option.{none, some}
use Rattle.model.specs.Limits.{entry_limit, slot_count}
use Rattle.model.specs.Refusal.{accepted}
use Rattle.model.specs.Refusals.{refusal_number}
use Rattle.model.specs.declared.Refusal.{Refusal}
use Rattle.shop_codes.specs.Codes.{code_of}
use Rattle.shop.specs.Sets.{reqs_of}
use Rattle.signed_model.specs.Findings as Told
use Rattle.signed_model.specs.Findings.{faithful, pair, own, outside}
use Rattle.signed_check.specs.declared.Finding as code
use Rattle.signed_check.specs.declared.Listed.{Listed}
use Rattle.signed_check.specs.declared.Listed.TheVariants.{Sometimes, Never, Always}
use Rattle.signed_check.specs.declared.Reason as Reasons
use Rattle.signed_check.specs.declared.Reason.{Reason}
use Rattle.signed_check.specs.declared.Verdict as Verdicts

-- ---- in numbers

pub record Verdict : Type 0 where
  pub verdict : ℕ
  pub entry : ℕ

-- the verdict, the place of the first entry concerned, the limit, entries given before and lost, whether listed sometimes (0), never (1) or always (2), and the settings by their codes
pub record Finding : Type 0 where
  pub verdict : ℕ
  pub entry : ℕ
  pub limit : ℕ
  pub doubled : ℕ
  pub lost : ℕ
  pub listed : ℕ
  pub settings : ℕ
  pub codes : List ℕ

-- the refusal or 0, and what is told of each slot
pub record Checked : Type 0 where
  pub refusal : ℕ
  pub slots : List Finding

abbrev pub verdict_of : Told.Verdict → Verdict
verdict_of faithful = record { verdict = 0; entry = 0 }
verdict_of (pair i) = record { verdict = 1; entry = i }
verdict_of (own i) = record { verdict = 2; entry = i }
verdict_of (outside i) = record { verdict = 3; entry = i }

-- the settings by their codes; past them every code is 0
unfoldable pub finding_of : Told.Finding → Finding
finding_of f = record {
  verdict = (verdict_of f.verdict).verdict;
  entry = (verdict_of f.verdict).entry;
  limit = f.limit;
  doubled = f.doubled;
  lost = f.lost;
  listed = f.listed;
  settings = length f.settings;
  codes = (reqs_of (map code_of f.settings)).codes;
}

abbrev pub no_finding : Finding
no_finding = record { verdict = 0; entry = 0; limit = 0; doubled = 0; lost = 0; listed = 0; settings = 0; codes = replicate entry_limit 0 }

abbrev pub nothing_told : ℕ → Checked
nothing_told n = record { refusal = n; slots = replicate slot_count no_finding }

-- refused, all is 0
abbrev pub slots_for : ℕ → List Told.Finding → List Finding
slots_for zero fs = map finding_of fs
slots_for (suc n) fs = replicate slot_count no_finding

unfoldable pub checked_of : Told.Checked → Checked
checked_of c = record { refusal = c.answer; slots = slots_for c.answer c.findings }

-- ---- what the values of the code stand for

abbrev pub verdict_is : Verdicts.Verdict → Told.Verdict
verdict_is Verdicts.TheVariants.Faithful = faithful
verdict_is (Verdicts.TheVariants.Pair i) = pair i
verdict_is (Verdicts.TheVariants.Own i) = own i
verdict_is (Verdicts.TheVariants.Outside i) = outside i

-- the number of the verdict that a reason leads to
abbrev pub reason_number : Reason → ℕ
reason_number Reasons.TheVariants.Pair = 1
reason_number Reasons.TheVariants.Own = 2
reason_number Reasons.TheVariants.Outside = 3

abbrev pub listed_number : Listed → ℕ
listed_number Sometimes = 0
listed_number Never = 1
listed_number Always = 2

abbrev pub place_is : Option ℕ → Math.Option ℕ
place_is None = none
place_is (Some i) = some i

abbrev pub finding_is : code.Finding → Finding
finding_is f = record {
  verdict = (verdict_of (verdict_is f.verdict)).verdict;
  entry = (verdict_of (verdict_is f.verdict)).entry;
  limit = f.limit;
  doubled = f.doubled;
  lost = f.lost;
  listed = listed_number f.listed;
  settings = f.settings;
  codes = f.codes;
}

abbrev pub accepted_as : List code.Finding → Checked
accepted_as fs = record { refusal = accepted; slots = map finding_is fs }

-- refused, all is 0
abbrev pub answer_in : Result (List code.Finding) Refusal → Checked
answer_in (Ok fs) = accepted_as fs
answer_in (Err e) = nothing_told (refusal_number e)
