-- S, Z, M and If R, or without requirements the first three.
use Rattle.compile_emit.specs.BlockLaws.{blocks_put}
use Rattle.compile_slots.specs.Cases.{limit_none, limit_some}
use Rattle.compile_slots.proofs.compile_slot_limit.Goals as goal

pub returns-then-x-eq0 : goal.returns-then-x-eq0
returns-then-x-eq0 c = rw (limit_none c.args.x c.args.codes.now c.if-x-eq0.true) (blocks_put c.compile_stock-k1.ensures (blocks_put c.push_reset-k2.ensures c.push_remaining.ensures))

pub returns : goal.returns
returns c =
    rw (limit_some c.args.x c.args.codes.now c.if-x-eq0.false)
    (blocks_put c.compile_stock-k3.ensures (blocks_put c.push_reset-k4.ensures (blocks_put c.push_remaining-k5.ensures c.push_if_visible.ensures)))
