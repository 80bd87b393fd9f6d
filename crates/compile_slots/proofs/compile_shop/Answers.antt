-- The Return block, then the slots.
use Rattle.std.proofs.Common.{◌-◌, ◌≡◌, arith}
use Rattle.model.specs.Compile.{shop_blocks}
use Rattle.compile_emit.specs.BlockLaws.{blocks_put, room_first, room_rest}
use Rattle.compile_slots.proofs.compile_shop.Goals as goal

pub push_return-k1-requires : goal.push_return-k1-requires
unfolding shop_blocks
push_return-k1-requires c = room_first c.requires.room

pub compile_slots-requires-clause-room : goal.compile_slots-requires-clause-room
unfolding shop_blocks
compile_slots-requires-clause-room c =
    let e : c.push_return-k1.result.blocks - 1 ≡ c.args.k.blocks = omega (arith, c.push_return-k1.ensures.counted) in
    rw e (room_rest c.requires.room c.push_return-k1.ensures)

pub returns : goal.returns
unfolding shop_blocks
returns c =
    let e : c.push_return-k1.result.blocks - 1 ≡ c.args.k.blocks = omega (arith, c.push_return-k1.ensures.counted) in
    blocks_put c.push_return-k1.ensures (rw e at c.compile_slots.ensures)
