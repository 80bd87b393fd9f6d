-- By the kind found at the node.
use Rattle.expr_cases.specs.Stands.{imm16_stands, imm32_stands, other_stands, if_some}
use Rattle.expr_cases.proofs.+again.Goals as goal

pub returns-in-Imm16 : goal.returns-in-Imm16
returns-in-Imm16 t c = if_some (λ r h. imm16_stands h) c.leaf.result c.leaf.ensures

pub returns-in-Imm32 : goal.returns-in-Imm32
returns-in-Imm32 t c = if_some (λ r h. imm32_stands h) c.leaf-in-Imm32.result c.leaf-in-Imm32.ensures

pub returns-in-Other : goal.returns-in-Other
returns-in-Other t c = if_some (λ r h. other_stands h) c.leaf-in-Other.result c.leaf-in-Other.ensures
