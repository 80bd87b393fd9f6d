-- What the calls for a stage's file answer and leave: the limit of its bytes, then sheet and setup number (01, Image and printer). Assumes nothing: these are definitions.
use Rattle.std.specs.Prelude.{cond, List, map, ◌++◌, ℕ, ◌-◌, leb, length, drop, replicate}
use Rattle.model.specs.Limits.{most_items, input_limit}
use Rattle.model.specs.Refusal.{over_limit}
use Rattle.model.specs.Reading.{Answer, got, refused}
use Rattle.model.specs.Sheet.{item_count}
use Rattle.slots_sheet.specs.Outcome.{Head, read_head}
use Rattle.slots_heading.specs.Bytes.{entry_of}
use Rattle.capi_stage.specs.declared.Headed.{Headed}

-- longer than the limit is 3 before all else
unfoldable pub stage_head : List ℕ → Answer Head
stage_head s = cond (leb (length s) input_limit) (read_head s) (refused over_limit)

-- what the call answers and what its array holds then
pub record Told : Type 0 where
  pub answer : Headed
  pub attached : List ℕ

abbrev pub told : Headed → List ℕ → Told
told r ks = record { answer = r; attached = ks }

abbrev pub no_head : ℕ → Headed
no_head e = record { refusal = e; items = 0; atcs = 0; timer5 = 0; timer10 = 0; timer15 = 0; setup = 0; at = 0 }

-- of a head, before so many bytes that are left of s: its numbers, and the place where those bytes begin
abbrev pub numbers_of : List ℕ → Head → List ℕ → Headed
numbers_of s d r = record {
  refusal = 0;
  items = item_count d.sheet;
  atcs = d.sheet.atc_count;
  timer5 = d.sheet.timer5;
  timer10 = d.sheet.timer10;
  timer15 = d.sheet.timer15;
  setup = d.setup;
  at = length s - length r;
}

-- the items' numbers, and past them what the array held; a refused read hands out nothing: all is 0 then
abbrev pub told_of : List ℕ → List ℕ → Answer Head → Told
told_of s ks (got d r) = told (numbers_of s d r) (map entry_of d.sheet.atc_of ++ drop (item_count d.sheet) ks)
told_of s ks (refused e) = told (no_head e) (replicate most_items 0)

unfoldable pub head_told : List ℕ → List ℕ → Told
head_told s ks = told_of s ks (stage_head s)
