-- Both round trips on script records: what was read and is written again, what was written and is read again. Assumes nothing.
use Rattle.std.specs.Prelude.{◌≡◌, List, [], ◌++◌, ℕ, ◌≤◌, ◌<◌, length, drop}
use borrow.Author.Tests.{le-leb, lt-leb}
use Rattle.model.specs.Refusal.{slice_short}
use Rattle.model.specs.Script.{Block}
use Rattle.model.specs.Reading.{got}
use Rattle.model.specs.Image.{image, read_image}
use Rattle.model.specs.Memory.{Memory, script_of, put_blocks}
use Rattle.model.specs.Record.{judged_record}
use Rattle.model.specs.Files.{write_checked}
use Rattle.model.specs.RecordCalls.{write_in}
use Rattle.model.proofs.Laws.Image.{same_bytes}
use Rattle.model.proofs.Laws.Files.{write_then_read}
use Rattle.memory.specs.Sound.{Long}
use Rattle.memory.specs.ReadRecord.{Empty, read_judged, read_blocks_lem}
use Rattle.memory.specs.Transfer.{accepted_script}

-- a judged record, written and read again, has the same blocks
pub written_reads : (m : Memory) (bs : List Block) (r : List ℕ) → judged_record m ≡ got bs r → read_image (image (script_of m).blocks) ≡ got (script_of m).blocks []
written_reads m bs r p = write_then_read (script_of m) (accepted_script m bs r p)

module _ (m : Memory) (e : Empty m) (long : Long m) (s : List ℕ) (bs : List Block) (r : List ℕ) (p : read_image s ≡ got bs r) where
  -- an accepted image, read and written again, is the same bytes; what stood past it stays
  pub read_writes : (out : List ℕ) → length s ≤ length out → write_in (put_blocks m bs) out ≡ record { answer = 0; slice = s ++ drop (length s) out }
  unfolding write_in write_checked
  read_writes out l = rw (read_judged m e long s bs r p, read_blocks_lem m e long s bs r p, same_bytes s bs r p, le-leb (length s) (length out) l)

  -- a slice that is too short is not written
  pub read_short : (out : List ℕ) → length out < length s → write_in (put_blocks m bs) out ≡ record { answer = slice_short; slice = out }
  unfolding write_in write_checked
  read_short out l = rw (read_judged m e long s bs r p, read_blocks_lem m e long s bs r p, same_bytes s bs r p, lt-leb (length s) (length out) l)
