use native.Mathlib.Omega.{arith}
use Rattle.parse_visit.specs.Ways.{left_unread, left_joined}
use Rattle.parse_visit.proofs.go_on.Goals as goal

pub returns-then-not-reads_on : goal.returns-then-not-reads_on
returns-then-not-reads_on c = ((λ seen alive f hold low. left_unread _ _ _ _ _ _ f hold c.requires.1.0 _ _ (c.reads_on.ensures.no c.if-not-reads_on.true)), (c.block_word.ensures, c.block_word-2.ensures))

pub join-j-requires : goal.join-j-requires
join-j-requires c =
    let a = c.requires in
    ((a.0.0, ((c.reads_on.ensures.yes c.if-not-reads_on.false).1.0, a.0.1.0)), a.1)

pub overflow_mul-result : goal.overflow_mul-result
overflow_mul-result c = omega (arith, c.requires.0.1.0)

pub overflow_add-result : goal.overflow_add-result
overflow_add-result c = omega (arith, c.requires.0.1.0)

pub overflow_mul-result-2 : goal.overflow_mul-result-2
overflow_mul-result-2 c = omega (arith, c.requires.0.1.0)

pub overflow_add-result-2 : goal.overflow_add-result-2
overflow_add-result-2 c = omega (arith, c.requires.0.1.0)

pub returns : goal.returns
returns c = (
  (λ seen alive f hold low. left_joined c.args.ws.now c.args.val.now _ _ _ _ _ _ f hold low c.requires.1.0 _ _ _ _ _ _ (c.reads_on.ensures.yes c.if-not-reads_on.false).1.0 c.join-j.ensures _ _ _ _ (omega arith) (omega arith)),
  (c.block_word.ensures, c.block_word-2.ensures),
)
