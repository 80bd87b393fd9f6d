-- What the numbers of the call's answer stand for. Assumes nothing: these are definitions.
use Rattle.std.specs.Prelude.{map}
use Rattle.signed_check.specs.Answer as Told
use Rattle.capi_signed.specs.declared.Checked.{Checked}
use Rattle.capi_signed.specs.declared.Finding.{Finding}

abbrev pub finding_as : Finding → Told.Finding
finding_as f = record {
  verdict = f.verdict;
  entry = f.entry;
  limit = f.limit;
  doubled = f.doubled;
  lost = f.lost;
  listed = f.listed;
  settings = f.settings;
  codes = f.codes;
}

abbrev pub checked_as : Checked → Told.Checked
checked_as r = record { refusal = r.refusal; slots = map finding_as r.slots }
