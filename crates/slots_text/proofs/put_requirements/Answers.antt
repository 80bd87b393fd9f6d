-- The entries of the slot in their order.
use Rattle.std.proofs.Common.{rules, ◌≡◌, length}
use Rattle.model.specs.Limits.{entry_limit}
use Rattle.slots_text.specs.Written.{part_of, part_as, part_on, part_done, part_space}
use Rattle.slots_text.specs.Lines.{entries_all, entries_next, entries_end}
use Rattle.slots_text.proofs.put_requirements.Goals as goal

pub loop-code-init : goal.loop-code-init
loop-code-init c =
    let size : length c.args.slot.requirements ≡ entry_limit = search rules in
    part_of (entries_all c.args.slot size c.requires.0)

pub put_requirement-p-requires : goal.put_requirement-p-requires
put_requirement-p-requires c =
    let size : length c.args.slot.requirements ≡ entry_limit = search rules in
    part_space _ c.requires.1 (part_as (entries_next c.args.slot size c.requires.0 c.from.result c.from.ensures c.loop-code.code-index c.loop-code-test.true) c.loop-code.invariant)

pub loop-code-preserved : goal.loop-code-preserved
loop-code-preserved c =
    let size : length c.args.slot.requirements ≡ entry_limit = search rules in
    part_on (part_as (entries_next c.args.slot size c.requires.0 c.from.result c.from.ensures c.loop-code.code-index c.loop-code-test.true) c.loop-code.invariant) c.put_requirement-p.ensures

pub returns : goal.returns
returns c =
    let size : length c.args.slot.requirements ≡ entry_limit = search rules in
    part_done (entries_end c.args.slot size c.requires.0 c.from.result c.from.ensures c.loop-code.code-index c.loop-code-test.false) c.loop-code.invariant
