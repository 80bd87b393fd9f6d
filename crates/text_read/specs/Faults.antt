-- The reasons that the code answers, as the numbers of the definitions. Assumes nothing: these are definitions.
use Rattle.std.specs.Prelude.{ℕ}
use Rattle.text_model.specs.Text.{no_slot, no_item, no_limit, no_requirement, many_requirements, no_end, more_text}
use Rattle.text_read.specs.declared.Fault.{Fault}
use Rattle.text_read.specs.declared.Fault.TheVariants.{NoSlot, NoItem, NoLimit, NoRequirement, ManyRequirements, NoEnd, MoreText}

abbrev pub fault_number : Fault → ℕ
fault_number NoSlot = no_slot
fault_number NoItem = no_item
fault_number NoLimit = no_limit
fault_number NoRequirement = no_requirement
fault_number ManyRequirements = many_requirements
fault_number NoEnd = no_end
fault_number MoreText = more_text
