use Rattle.image_numbers.specs.Stored.{stored_as, room_as}
use Rattle.image_write.specs.Nodes.{root_image_lem}
use Rattle.image_write.proofs.write_term.Goals as goal

pub write_operand-requires : goal.write_operand-requires
write_operand-requires c = (c.requires.0.nodes, room_as (root_image_lem c.args.ws.now c.args.val.now c.args.counts.nodes c.args.i) c.requires.1)

pub returns : goal.returns
returns c = stored_as (root_image_lem c.args.ws.now c.args.val.now c.args.counts.nodes c.args.i) c.write_operand.ensures
