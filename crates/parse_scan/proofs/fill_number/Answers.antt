use Rattle.std.proofs.Common.{◌≡◌, ap, sym, ◌∙◌, negsuc, arith, to_z-of_z, of_z, to_z, w32}
use mir.ValLaws.{to_z_pos}
use borrow.Author.Tests.{lt-ltb, le-ltb}
use Rattle.parse_scan.specs.InPlace.{item_stays, no_item, one_item}
use Rattle.parse_scan.proofs.fill_number.Goals as goal
use Rattle.parse_scan.proofs.fill_number.Goals.{else-x-eqminus1-via-then-x-eqminus1+else-id-known, else-x-eqminus1-via-else-x-eqminus1}

pub returns-then-id-known : goal.returns-then-id-known
returns-then-id-known c =
    let m : c.args.x ≡ negsuc 0 = sym (to_z-of_z c.ranges.x) ∙ ap (to_z w32) c.if-x-eqminus1.true in
    rw (c.from.ensures, to_z_pos w32 c.args.id.0 (omega arith), m, no_item, one_item c.args.id.0 (omega arith), lt-ltb c.args.id.0 c.args.known c.if-id-known.true)

pub returns-else-x-eqminus1 : goal.returns-else-x-eqminus1
returns-else-x-eqminus1 c = elim c.else-x-eqminus1.branch [
  | else-x-eqminus1-via-then-x-eqminus1+else-id-known w ↦
      let m : c.args.x ≡ negsuc 0 = sym (to_z-of_z c.ranges.x) ∙ ap (to_z w32) w.if-x-eqminus1.true in
      rw (to_z-of_z c.ranges.x, m, no_item, le-ltb c.args.id.0 c.args.known w.if-id-known.false)
  | else-x-eqminus1-via-else-x-eqminus1 w ↦ rw (to_z-of_z c.ranges.x) (item_stays c.args.x c.args.id.0 _ (λ e. w.if-x-eqminus1.false (ap (of_z w32) e)))
]
