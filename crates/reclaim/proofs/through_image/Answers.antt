-- The slice holds the image of the judged record, and what is read from it is its blocks.
use Rattle.std.proofs.Common.{sym}
use Rattle.std.proofs.Math.Seq.{length-take-le}
use Rattle.reclaim.specs.Laws.{always_ok, bytes_fit, bytes_read}
use Rattle.reclaim.proofs.through_image.Goals as goal

pub unwrap-n-requires : goal.unwrap-n-requires
unwrap-n-requires c = always_ok _ c.requires.0 _ c.requires.1 _ _ c.write_script.ensures

pub slice_bounds-read_back-end : goal.slice_bounds-read_back-end
slice_bounds-read_back-end c = bytes_fit _ c.requires.0 _ c.requires.1 _ _ c.write_script.ensures _ c.unwrap-n.ensures

pub slice_bounds-read_back-end-2 : goal.slice_bounds-read_back-end-2
slice_bounds-read_back-end-2 c = sym (length-take-le _ _ (bytes_fit _ c.requires.0 _ c.requires.1 _ _ c.write_script.ensures _ c.unwrap-n.ensures))

pub returns : goal.returns
returns c = c.read_back.ensures _ (bytes_read _ c.requires.0 _ c.requires.1 _ _ c.write_script.ensures _ c.unwrap-n.ensures)
