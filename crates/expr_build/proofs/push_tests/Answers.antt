use Rattle.std.proofs.Common.{◌≡◌, get_or, arith}
use Rattle.model.specs.Compile.{test, join_tests}
use Rattle.shop_codes.specs.Codes.{requirement_of}
use Rattle.memory.specs.PutNodes.{size_pos}
use Rattle.expr_build.specs.Tests.{codes_rest, join_codes}
use Rattle.expr_build.specs.Laws.{two_put}
use Rattle.expr_build.specs.Joined.{joined_room, joined_step, joined_grows}
use Rattle.expr_build.proofs.push_tests.Goals as goal

pub push_test-at-requires : goal.push_test-at-requires
push_test-at-requires c = omega (arith, c.requires.len_bound, joined_grows (test (requirement_of (get_or c.args.codes.now 0 0))) (codes_rest c.args.codes.now c.args.len))

pub loop-i-init : goal.loop-i-init
unfolding join_tests
loop-i-init c = ((λ s e p. p), omega arith, omega (arith, c.requires.len_nonzero))

pub overflow_sub-left_root : goal.overflow_sub-left_root
overflow_sub-left_root c = omega (arith, (c.loop-i.invariant.0 _ _ c.push_test-at.ensures).counted, size_pos (join_codes c.args.codes.now c.loop-i.i))

pub push_test-right_end-requires : goal.push_test-right_end-requires
push_test-right_end-requires c = omega (arith, c.requires.len_bound, (c.loop-i.invariant.0 _ _ c.push_test-at.ensures).counted, joined_room (test (requirement_of (get_or c.args.codes.now 0 0))) c.args.codes.now c.loop-i.i c.args.len c.loop-i.invariant.1 (omega (arith, c.told-codes, c.requires.len_nonzero)) (omega arith))

pub overflow_sub-right_end : goal.overflow_sub-right_end
overflow_sub-right_end c = omega (arith, c.push_test-right_end.ensures.counted, size_pos (test (requirement_of (get_or c.args.codes.now c.loop-i.i 0))))

pub push_two-at-requires : goal.push_two-at-requires
push_two-at-requires c = omega (arith, c.push_test-right_end.ensures.counted, c.requires.len_bound, (c.loop-i.invariant.0 _ _ c.push_test-at.ensures).counted, joined_room (test (requirement_of (get_or c.args.codes.now 0 0))) c.args.codes.now c.loop-i.i c.args.len c.loop-i.invariant.1 (omega (arith, c.told-codes, c.requires.len_nonzero)) (omega arith))

pub loop-i-preserved : goal.loop-i-preserved
loop-i-preserved c = (
  (λ s e p. rw (joined_step e c.args.codes.now c.loop-i.i c.loop-i.invariant.1 (omega (arith, c.told-codes, c.requires.len_nonzero)))
      (two_put (c.loop-i.invariant.0 s e p) c.push_test-right_end.ensures c.push_two-at.ensures)),
  omega arith,
  omega arith,
)

pub returns : goal.returns
returns c =
    let e : c.loop-i.i ≡ c.args.len = omega arith in
    rw e at (c.loop-i.invariant.0 _ _ c.push_test-at.ensures)
