-- The steps are laws of specs/NumberLaws.antt.
use Rattle.std.proofs.Common.{arith}
use Rattle.image_numbers.specs.NumberLaws.{told_low, told_none, told_end, told_last, told_zero, told_more, told_bad}
use Rattle.image_numbers.proofs.+read_groups.Goals as goal
use Rattle.image_numbers.proofs.+read_groups.Goals.{then-f-eq0-via-then-f-eq0, then-f-eq0-via-else-f-eq0+then-at-s}

pub returns-then-f-eq0 : goal.returns-then-f-eq0
returns-then-f-eq0 t c =
    elim c.then-f-eq0.branch [
      | then-f-eq0-via-then-f-eq0 w ↦ told_none _ c.args.at _ w.if-f-eq0.true
      | then-f-eq0-via-else-f-eq0+then-at-s w ↦ told_end _ _ _ w.if-f-eq0.false w.if-at-s.true
    ]

pub returns-then-b-lt128 : goal.returns-then-b-lt128
returns-then-b-lt128 t c = told_last _ _ _ c.if-f-eq0.false c.if-at-s.false _ c.from-b.ensures c.if-b-lt128.true

pub returns-in_err-v : goal.returns-in_err-v
returns-in_err-v t c =
    rw c.from_residual.ensures
    (told_bad _ _ _ c.if-f-eq0.false c.if-at-s.false _ c.from-b.ensures c.if-b-lt128.false (c.type_inv.s c.args.at).fits c.in_err-v.ensures)

pub returns-then-v-eq0 : goal.returns-then-v-eq0
returns-then-v-eq0 t c =
    told_zero _ _ _ c.if-f-eq0.false c.if-at-s.false _ c.from-b.ensures c.if-b-lt128.false (c.type_inv.s c.args.at).fits _ _ c.in_ok-v.ensures c.if-v-eq0.true

pub overflow_mul-result : goal.overflow_mul-result
overflow_mul-result t c = omega (arith, told_low _ _ _ _ _ (omega arith) c.in_ok-v.ensures)

pub overflow_add-result-2 : goal.overflow_add-result-2
overflow_add-result-2 t c =
    let byte = c.type_inv.s c.args.at in
    omega (arith, told_low _ _ _ _ _ (omega arith) c.in_ok-v.ensures)

pub returns : goal.returns
returns t c =
    told_more _ _ _ c.if-f-eq0.false c.if-at-s.false _ c.from-b.ensures c.if-b-lt128.false (c.type_inv.s c.args.at).fits _ _ c.in_ok-v.ensures c.if-v-eq0.false
