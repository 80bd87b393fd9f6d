-- The entries from an index on are still to come.
use Rattle.model.specs.Printer.{requirements_text}
use Rattle.shop.specs.Shapes.{slot_of}
use Rattle.slots_text.specs.Written.{Part}
use Rattle.slots_text.specs.Lines.{entries_from}
use Rattle.slots_text.proofs.put_requirements.Given as goal

abbrev pub invariant-loop-code : goal.invariant-loop-code
invariant-loop-code l = Part l.fn.out l.fn.at (requirements_text (slot_of l.fn.slot).requirements) (entries_from l.code-index l.fn.slot) l.out l.p
