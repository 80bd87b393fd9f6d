use mathlib.Core.Path.{ap, ◌∙◌}
use native.Mathlib.Omega.{arith}
use mir.Syntax.{w16}
use mir.Facts.{to_z-of_z}
use Rattle.shop_arrays.specs.Arrays.{arrays_in, shop_from}
use Rattle.parse_visit.specs.Slots.{bounds}
use Rattle.parse_visit.specs.Ways.{holds_place}
use Rattle.parse_visit.specs.Entering.{open_block, open_cells, open_nodes, open_ready, visits}
use Rattle.model.specs.Refusals.{refusal_in}
use Rattle.parse_visit.specs.State.{answer_in, stopped_as}
use Rattle.parse_visit.specs.declared.Walk.{Walk}
use Rattle.std.proofs.Common.{◌≡◌}
use Rattle.parse_visit.proofs.visit.Goals as goal

pub block_word-first-requires : goal.block_word-first-requires
block_word-first-requires c = (open_block c.requires.fact, omega arith)

pub block_word-held-requires : goal.block_word-held-requires
block_word-held-requires c = (open_block c.requires.fact, omega arith)

pub bounds-marks-b : goal.bounds-marks-b
bounds-marks-b c = let l = open_block c.requires.fact in omega arith

pub scan_block-s-requires : goal.scan_block-s-requires
scan_block-s-requires c = open_ready c.requires.fact _ _ c.block_word-held.ensures c.block_word-first.ensures

pub slots_after-a-requires : goal.slots_after-a-requires
slots_after-a-requires c =
    let o = c.requires.fact in
    let q = c.requires.held.holding in
    record { bounds = (rw c.from.ensures (bounds _ _ _ _ q _ o.low (open_cells o)), q.marked); good_shop = o.good }

pub go_on-requires : goal.go_on-requires
go_on-requires c =
    let o = c.requires.fact in
    let q = c.requires.held.holding in
    let e : answer_in c.scanned-v.result.outcome ≡ refusal_in c.slots_after-a.result.outcome = ap (λ (y : Walk). answer_in y.outcome) c.scanned-v.ensures ∙ stopped_as c.slots_after-a.result.outcome in (
      (open_nodes o, (rw c.scanned-v.ensures (open_cells o), open_block o)),
      (λ z. omega (arith, c.slots_after-a.ensures.fine, e, z), rw c.scanned-v.ensures (holds_place q)),
    )

pub returns : goal.returns
returns c =
    let a = c.args in
    λ f hold. visits c.requires.fact _ _ _ f hold _ _ c.block_word-held.ensures c.block_word-first.ensures _ (to_z-of_z {w = w16} {z = a.w.limit} (record {
      sfits = c.struct_told-1.given.0.1;
    })) c.scan_block-s.result _ _ c.scan_block-s.ensures c.slots_after-a.new.seen c.slots_after-a.new.alive ((shop_from (arrays_in c.slots_after-a.new.items c.slots_after-a.new.limits c.slots_after-a.new.codes c.slots_after-a.new.lens))) c.slots_after-a.result (rw c.from.ensures at c.slots_after-a.ensures)
    c.seen-1.given c.alive-1.given _ _ _ _ _ c.go_on.result (rw c.scanned-v.ensures at c.go_on.ensures.0)
    c.go_on.ensures.1.0 c.go_on.ensures.1.1
