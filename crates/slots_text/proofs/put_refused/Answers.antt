-- Piece by piece.
use Rattle.slots_text.specs.Written.{part_on, part_space, part_end, byte_space, wrote}
use Rattle.slots_text.specs.Lines.{refused_start, refused_space}
use Rattle.slots_text.proofs.put_refused.Goals as goal

pub put_decimal-q-requires : goal.put_decimal-q-requires
put_decimal-q-requires c = rw c.from.ensures (part_space _ (refused_space c.args.n) (part_on (refused_start c.args.n) c.put_bytes-p.ensures))

pub put_byte-requires : goal.put_byte-requires
put_byte-requires c = byte_space (refused_space c.args.n) (part_on (part_on (refused_start c.args.n) c.put_bytes-p.ensures) (rw c.from.ensures at c.put_decimal-q.ensures))

pub returns : goal.returns
returns c = wrote (part_end (part_on (part_on (refused_start c.args.n) c.put_bytes-p.ensures) (rw c.from.ensures at c.put_decimal-q.ensures)) c.put_byte.ensures)
