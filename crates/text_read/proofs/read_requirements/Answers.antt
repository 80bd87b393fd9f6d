-- The steps are laws of specs/.
use Rattle.std.proofs.Common.{arith}
use Rattle.std.proofs.lemmas.Result.{err_from_is_err_and}
use Rattle.text_read.specs.Lines.{listed_over, listed_no, listed_next, listed_no_end, listed_done}
use Rattle.text_read.proofs.read_requirements.Goals as goal

pub returns-then-n-ge-ENTRIES : goal.returns-then-n-ge-ENTRIES
returns-then-n-ge-ENTRIES c = listed_over _ _ _ _ _ c.loop-row.invariant.listed c.loop-row-test.ensures c.if-n-ge-ENTRIES.true

pub returns-in_err-code : goal.returns-in_err-code
returns-in_err-code c =
    let p = err_from_is_err_and c.from_residual.result c.from_residual.ensures.1 in
    rw (p.1, p.2) (listed_no _ _ _ _ _ c.loop-row.invariant.listed c.loop-row-test.ensures c.if-n-ge-ENTRIES.false _ c.in_err-code.ensures)

pub loop-row-preserved : goal.loop-row-preserved
loop-row-preserved c = record {
  few = omega (arith, c.if-n-ge-ENTRIES.false);
  listed = listed_next _ _ _ _ _ c.loop-row.invariant.listed c.loop-row-test.ensures c.if-n-ge-ENTRIES.false _ _ c.in_ok-code.ensures;
}

pub returns-then-not-stands : goal.returns-then-not-stands
returns-then-not-stands c = listed_no_end _ _ _ _ _ c.loop-row.invariant.listed c.loop-row-test.ensures c.if-not-stands.ensures

pub returns : goal.returns
returns c = listed_done _ _ _ _ _ c.loop-row.invariant.listed c.if-not-stands.ensures
