-- The parser half of demand 3: the reading from a block that links to a shop. Assumes nothing.
use Rattle.std.specs.Prelude.{◌≡◌, refl, Bool, List, map, ℕ, ◌-◌, ◌<◌, set, replicate, pos}
use Rattle.std.proofs.Math.Path.{sym, ap}
use Rattle.std.proofs.Common.{◌∙◌, arith, zero-add}
use Rattle.std.proofs.Math.Bool.{true, false}
use Rattle.std.proofs.Math.Option.{none}
use Rattle.std.proofs.Math.ListN.{get_or, length, length-set, length-map, length-replicate}
use Rattle.std.proofs.Math.Seq.{get_or-set_other, ext_get_or}
use Rattle.model.specs.Limits.{slot_count}
use Rattle.model.specs.Sheet.{Sheet, all}
use Rattle.model.specs.Shop.{Slot, empty_slot, slot_ok}
use Rattle.model.specs.Script.{Block}
use Rattle.model.specs.Compile.{redirect, root_of}
use Rattle.model.specs.Parse.{State, parse, parse_block, visited}
use Rattle.model.specs.Normal.{normal}
use Rattle.model.proofs.Laws.Compiled.{Linked}
use Rattle.model.proofs.Laws.Normal.{SheetOk, slots_normal, slots_ok}
use Rattle.model.proofs.Laws.Reads.{AllOk, End, Reads, Start, read_back, slots_read}
use Rattle.model.proofs.Laws.Walks.{mk}
use Rattle.model.proofs.Laws.Places.{all_one}

pub record ReadSo (as_read : Slot → Slot) (xs : List Slot) (r : State) : Type 0 where
  pub answer : r.answer ≡ 0
  pub slots : r.slots ≡ map as_read xs

module _ (h : Sheet) (n : ℕ) (bs : List Block) (b : ℕ) (xs : List Slot) (b-low : b < n) (link : Linked h n bs b xs) (len : length xs ≡ 20) (good : AllOk h xs) where
  root : ℕ
  root = root_of h link.home 0 xs

  empties : List Slot
  empties = replicate slot_count empty_slot

  fresh_marks : List Bool
  fresh_marks = replicate (length bs) false

  unmarked : (j : ℕ) → get_or fresh_marks j false ≡ false
  unfolding fresh_marks
  unmarked j = all_one false (length bs) j

  begin : Start link.home root 0 empties (set fresh_marks b true)
  unfolding root empties fresh_marks
  begin = record {
    count = refl;
    tiny = refl;
    fresh = λ j p q. get_or-set_other fresh_marks b j true false (omega (arith, link.low)) ∙ unmarked j;
    room = omega (arith, link.inside, length-set fresh_marks b true, length-replicate (length bs) false);
    empty = λ k p. all_one empty_slot slot_count k;
  }

  ended : End h bs root 0 (map (read_back h) xs) empties (set fresh_marks b true) (pos 0)
  unfolding root Reads
  ended = slots_read h bs link.home link.returns xs 0 (omega arith) good link.rest empties (set fresh_marks b true) (pos 0) begin

  first : parse h bs b ≡ parse_block h bs (length bs) root none (mk empties (set fresh_marks b true) (pos 0))
  unfolding parse parse_block visited redirect root empties fresh_marks
  first = rw (unmarked b, link.link.eq, parse_block)

  pub linked_parse : ReadSo (read_back h) xs (parse h bs b)
  unfolding root
  linked_parse =
      let g = ended in
      let all_read : parse h bs b ≡ mk g.S₁ g.M₁ g.l₁ = first ∙ g.walks.eq (length bs) link.inside in
      let many : length (map (read_back h) xs) ≡ 20 = length-map xs (read_back h) ∙ len in
      record {
        answer = ap (λ r. r.answer) all_read;
        slots = ap (λ r. r.slots) all_read ∙ ext_get_or empty_slot g.S₁ (map (read_back h) xs) (g.count ∙ sym many)
            (λ k p. ap (λ j. get_or g.S₁ j empty_slot) (sym (zero-add k)) ∙ g.upper k (omega (arith, many, g.count)));
      }

-- the parser reads there the shop in normal form
pub linked_normal : (h : Sheet) (n : ℕ) (bs : List Block) (b : ℕ) (xs : List Slot) → b < n → Linked h n bs b xs → length xs ≡ 20 → SheetOk h → all (slot_ok h) xs ≡ true → ReadSo (normal h) xs (parse h bs b)
linked_normal h n bs b xs l k t f q =
    let r = linked_parse h n bs b xs l k t (slots_ok h f xs q) in
    record { answer = r.answer; slots = r.slots ∙ slots_normal h f xs q }
