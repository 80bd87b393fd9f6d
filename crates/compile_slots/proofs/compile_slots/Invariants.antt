-- The loop of `compile_slots`: the slots from i on are appended.
use Rattle.std.proofs.Common.{◌-◌}
use Rattle.memory.specs.View.{memory_of}
use Rattle.shop.specs.Shapes.{sheet_of, slots_of}
use Rattle.shop_arrays.specs.Arrays.{arrays_in, shop_from}
use Rattle.compile_emit.specs.Put.{PutBlocks}
use Rattle.compile_slots.specs.Slots.{from}
use Rattle.compile_slots.proofs.compile_slots.Given as goal

abbrev pub invariant-loop-i : goal.invariant-loop-i
invariant-loop-i l =
    PutBlocks (memory_of l.initial.ws l.initial.val l.initial.cw l.initial.bw l.initial.at)
    (from (sheet_of l.attached l.sheet) (l.initial.at.blocks - 1) (slots_of (shop_from (arrays_in l.items l.limits l.codes l.lens))) l.i) (memory_of l.ws l.val l.cw l.bw l.at)
