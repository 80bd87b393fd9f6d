use Rattle.std.proofs.Common.{sym, ap, ◌∙◌, arith}
use Rattle.parse_conditions.specs.Listing.{used_of}
use Rattle.parse_visit.specs.State.{answer_in}
use Rattle.parse_visit.specs.Joins.{with_cell}
use Rattle.parse_visit.specs.declared.Walk.{Walk}
use Rattle.parse_visit.proofs.join.Goals as goal

pub returns-then-cells-at : goal.returns-then-cells-at
returns-then-cells-at c = record { full = λ q l. absurd (omega (arith, c.if-cells-at.true, c.from-at.ensures)); read = λ d. absurd (d c.out_of_room.ensures.0); limit = c.out_of_room.ensures.1 }

pub overflow_sub-s : goal.overflow_sub-s
overflow_sub-s c = let d = c.requires.0.1.0 in omega arith

pub read_condition-requires : goal.read_condition-requires
read_condition-requires c = (rw c.from-n.ensures c.requires.0.0, rw c.place-p.ensures c.requires.1.1)

pub returns-in-None : goal.returns-in-None
returns-in-None c = record {
  full = λ q l. rw (c.place-p.ensures, c.from-i.ensures, c.from-n.ensures) at c.in-None.ensures;
  read = λ d. absurd (d c.out_of_room-in-None.ensures.0);
  limit = c.out_of_room-in-None.ensures.1;
}

pub one_cell_more-requires : goal.one_cell_more-requires
one_cell_more-requires c = c.requires.0.1.1

pub returns-in-Some : goal.returns-in-Some
returns-in-Some c =
    record {
      full = λ q l. absurd (c.requires.1.0 (sym (ap (λ (z : Walk). answer_in z.outcome) c.one_cell_more.ensures) ∙ q));
      read = λ d. record {
        place = c.in-Some.r;
        added = rw (c.place-p.ensures, c.from-i.ensures, c.from-n.ensures) at c.in-Some.ensures;
        rows = omega (arith, c.if-cells-at.false, c.from-at.ensures);
        cell = ◌∙◌ {b = with_cell c.args.cells.now c.from-at.result c.args.b.under.0 c.args.w.used (used_of c.in-Some.r)} c.add_cell.ensures (rw c.from-at.ensures);
        walk = c.one_cell_more.ensures;
      };
      limit = rw c.one_cell_more.ensures;
    }
