-- Reading an image and writing one as calls: what they answer and what they leave, refusal 16 (01, Image and Refusals). Assumes nothing: these are definitions.
use Rattle.std.specs.Prelude.{List, [], ◌∷◌, ◌++◌, ℕ, zero, suc, leb, length, drop}
use Rattle.model.specs.Refusal.{check, first_of, slice_short}
use Rattle.model.specs.Reading.{Answer, got, refused}
use Rattle.model.specs.Script.{Block, Script}
use Rattle.model.specs.Image.{image, read_image}
use Rattle.model.specs.Judge.{counted, script_refusal}

-- ---- read: 2 to 5; a refused read hands out nothing

pub record Got : Type 0 where
  pub answer : ℕ
  pub script : Script

abbrev pub got_of : Answer (List Block) → Got
got_of (got bs r) = record { answer = 0; script = counted bs }
got_of (refused e) = record { answer = e; script = counted [] }

unfoldable pub read_call : List ℕ → Got
read_call s = got_of (read_image s)

-- ---- write: 2 to 5 for the script handed in, then 16 where the slice is too short, and then it is not written; in a longer one the bytes past the image stay

pub record Wrote : Type 0 where
  pub answer : ℕ
  pub slice : List ℕ

abbrev pub over : List ℕ → List ℕ → List ℕ
over bytes out = bytes ++ drop (length bytes) out

abbrev pub wrote_of : ℕ → List ℕ → List ℕ → Wrote
wrote_of zero bytes out = record { answer = 0; slice = over bytes out }
wrote_of (suc n) bytes out = record { answer = suc n; slice = out }

-- j is what the judgement of the script answered
unfoldable pub write_checked : ℕ → Script → List ℕ → Wrote
write_checked j sc out =
    wrote_of (first_of (j ∷ check (leb (length (image sc.blocks)) (length out)) slice_short ∷ [])) (image sc.blocks) out

abbrev pub write_call : Script → List ℕ → Wrote
write_call sc out = write_checked (script_refusal sc) sc out
