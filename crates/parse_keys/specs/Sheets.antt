-- There is a sheet of so many items and atcs: a fact of every such sheet is a fact of one. Assumes nothing.
use Rattle.std.specs.Prelude.{refl, replicate}
use Rattle.std.proofs.Math.Option.{none}
use Rattle.std.proofs.lemmas.List.{length-replicate}
use Rattle.model.specs.Sheet.{Sheet}
use Rattle.expr.specs.Requirement.{Has}
use Rattle.parse_keys.specs.declared.Known.{Known}

-- a sheet of so many items and atcs
abbrev pub known_sheet : Known → Sheet
known_sheet k = record { atc_of = replicate k.items none; atc_count = k.atcs; timer5 = 0; timer10 = 0; timer15 = 0 }

pub knows : (k : Known) → Has (known_sheet k) k.items k.atcs
knows k = record { items = length-replicate k.items none; atcs = refl }
