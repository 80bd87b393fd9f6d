-- What the calls on a shop's text answer and leave in the arrays that they are lent. Assumes nothing: these are definitions.
use Rattle.std.specs.Prelude.{Bool, cond, List, ℕ, leb, length}
use Rattle.std.proofs.lemmas.List.Edits.{sets}
use Rattle.model.specs.Limits.{entry_limit}
use Rattle.model.specs.Printer.{slot_lines}
use Rattle.model.specs.Sheet.{all}
use Rattle.shop.specs.Shapes.{slots_of}
use Rattle.shop_arrays.specs.Arrays.{Arrays, shop_from, arrays_of}
use Rattle.text_model.specs.Text.{ReadText, slots, bad}
use Rattle.text_read.specs.Shops.{shop_for}

-- ---- reading

pub record TextAnswer : Type 0 where
  pub reason : ℕ
  pub line : ℕ
  pub arrays : Arrays

-- the arrays of the shop; refused, the arrays as they were
abbrev pub read_call : ReadText → Arrays → TextAnswer
read_call (slots xs) a = record { reason = 0; line = 0; arrays = arrays_of (shop_for xs) }
read_call (bad l e) a = record { reason = e; line = l; arrays = a }

-- ---- printing

pub record Printed : Type 0 where
  pub long : ℕ
  pub out : List ℕ

-- a text from the start of the array on
abbrev pub wrote_text : List ℕ → List ℕ → Printed
wrote_text t out = record { long = length t; out = sets out 0 t }

-- no more entries than may be given
abbrev pub few : ℕ → Bool
few n = leb n entry_limit

-- the lines of the shop; where a slot has too many entries there is no text: 0, and the array as it was
unfoldable pub print_call : Arrays → List ℕ → Printed
print_call a out = cond (all few a.lens) (wrote_text (slot_lines 0 (slots_of (shop_from a))) out) (record { long = 0; out = out })
