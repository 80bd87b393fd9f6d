-- One block more.
use Rattle.std.proofs.Common.{◌≡◌, refl, arith}
use Rattle.reclaim_pack.specs.Table.{packed_to}
use Rattle.reclaim_pack.specs.Laws.{packed_next, packed_end}
use Rattle.reclaim_pack.proofs.pack.Goals as goal

pub loop-b-init : goal.loop-b-init
unfolding packed_to
loop-b-init c = refl

pub pack_block-requires : goal.pack_block-requires
pack_block-requires c = (c.loop-b-test.true, c.requires.0, c.requires.1, c.requires.2 _ c.loop-b-test.true)

pub loop-b-preserved : goal.loop-b-preserved
loop-b-preserved c = packed_next _ _ _ _ _ _ c.loop-b.invariant c.pack_block.ensures

pub returns : goal.returns
returns c = let e : c.loop-b.b ≡ c.args.blocks = omega (arith, c.loop-b-test.false) in packed_end _ _ _ _ _ _ e c.loop-b.invariant
