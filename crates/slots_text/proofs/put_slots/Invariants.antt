-- The lines from slot i on are still to come.
use Rattle.model.specs.Printer.{slot_lines}
use Rattle.shop.specs.Shapes.{slots_of}
use Rattle.slots_text.specs.Written.{Part}
use Rattle.slots_text.specs.Lines.{lines_from}
use Rattle.slots_text.proofs.put_slots.Given as goal

abbrev pub invariant-loop-i : goal.invariant-loop-i
invariant-loop-i l = Part l.fn.out 0 (slot_lines 0 (slots_of l.fn.shop)) (lines_from l.i l.fn.shop) l.out l.p
