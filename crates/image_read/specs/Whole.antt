-- The steps that read a whole image, and what its promise says to a caller. Assumes nothing.
use Rattle.std.specs.Prelude.{◌≡◌, Result, Ok, Err, is_err, true, false, cond, List, [], ℕ, ◌*◌, ◌≤◌, ◌<◌, leb, ℤ, pos, length, drop, replicate}
use Rattle.std.proofs.Math.Path.{ap, sym}
use Rattle.std.proofs.Common.{◌∙◌, le-leb, drop_of_length-le}
use Rattle.std.proofs.lemmas.Bool.{lt-leb}
use Rattle.std.proofs.Math.Seq.{drop-cons}
use Rattle.model.specs.Limits.{block_limit, command_limit, node_limit, wide}
use Rattle.model.specs.Refusal.{over_limit}
use Rattle.model.specs.Reading.{Answer, got, refused, onward, number}
use Rattle.model.specs.Script.{Block}
use Rattle.model.specs.Image.{read_blocks, ended, read_within, read_image}
use Rattle.model.specs.Memory.{Memory, memory_in, put_blocks}
use Rattle.memory.specs.View.{memory_of}
use Rattle.memory.specs.declared.Counts.{Counts}
use Rattle.image_read.specs.Told.{ToldNumber, limits_of, PutBlocks, ToldBlocks}
use Rattle.image_read.specs.Outcome.{held, cleared, read_into, outcome}
use Rattle.model.specs.Refusals.{refusal_number}
use Rattle.model.specs.declared.Refusal.{Refusal}
use Rattle.model.specs.declared.Refusal.TheVariants.{BadImage, OverLimit}

pub record PutImage (me : Memory) (a : Answer (List Block)) (t : Memory) : Type 0 where
  pub trees : List Block
  pub read : a ≡ got trees []
  pub after : t ≡ put_blocks me trees

-- of a refusal nothing is said of the arrays
unfoldable pub ToldImage : Memory → Answer (List Block) → Result Counts Refusal → List ℕ → List ℤ → List ℕ → List ℕ → Type 0
ToldImage me a (Ok k) w v c b = PutImage me a (memory_of w v c b k)
ToldImage me a (Err e) w v c b = a ≡ refused (refusal_number e)

module _ (s : List ℕ) (me : Memory) (at : ℕ) where
  pub image_bad : (e : Refusal) (w : List ℕ) (v : List ℤ) (c b : List ℕ) → ToldNumber s (number wide (drop at s)) (Err e) → ToldImage me (read_image (drop at s)) (Err e) w v c b
  unfolding ToldImage read_image read_within ToldNumber
  image_bad e w v c b a = rw (a.0, a.1)

  module _ (k p : ℕ) (a : ToldNumber s (number wide (drop at s)) (Ok (k, p))) where
    pub image_place : p ≤ length s
    unfolding ToldNumber
    image_place = a.1

    at_count : read_image (drop at s) ≡ cond (leb k block_limit) (onward (read_blocks (limits_of k) k 0 0 (drop p s)) ended) (refused over_limit)
    unfolding read_image read_within ToldNumber
    at_count = rw a.0

    pub image_full : (w : List ℕ) (v : List ℤ) (c b : List ℕ) → block_limit < k → ToldImage me (read_image (drop at s)) (Err OverLimit) w v c b
    unfolding ToldImage
    image_full w v c b h = at_count ∙ rw (lt-leb k block_limit h)

    module _ (fits : k ≤ block_limit) (w : List ℕ) (v : List ℤ) (c b : List ℕ) where
      at_blocks : read_image (drop at s) ≡ onward (read_blocks (limits_of k) k 0 0 (drop p s)) ended
      at_blocks = at_count ∙ rw (le-leb k block_limit fits)

      pub image_no : (e : Refusal) (w' : List ℕ) (v' : List ℤ) (c' b' : List ℕ) → ToldBlocks s me (read_blocks (limits_of k) k 0 0 (drop p s)) (Err e) w v c b k → ToldImage me (read_image (drop at s)) (Err e) w' v' c' b'
      unfolding ToldImage ToldBlocks
      image_no e w' v' c' b' f = at_blocks ∙ rw f

      module _ (n m p' : ℕ) (t : ToldBlocks s me (read_blocks (limits_of k) k 0 0 (drop p s)) (Ok (n, m, p')) w v c b k) where
        put : PutBlocks s me (read_blocks (limits_of k) k 0 0 (drop p s)) p' (memory_in w v c b n m k)
        unfolding ToldBlocks
        put = t

        pub image_left : (w' : List ℕ) (v' : List ℤ) (c' b' : List ℕ) → p' < length s → ToldImage me (read_image (drop at s)) (Err BadImage) w' v' c' b'
        unfolding ToldImage ended
        image_left w' v' c' b' g = at_blocks ∙ rw (put.read, drop-cons s p' 0 g)

        whole : length s ≤ p' → read_image (drop at s) ≡ got put.trees []
        unfolding ended
        whole g = at_blocks ∙ ap (λ (a : Answer (List Block)). onward a ended) put.read ∙ rw (drop_of_length-le s g)

        pub image_done : length s ≤ p' → ToldImage me (read_image (drop at s)) (Ok (record { nodes = n; commands = m; blocks = k })) w v c b
        unfolding ToldImage
        image_done g = record { trees = put.trees; read = whole g; after = put.after }

-- ---- the promise

module _ (me : Memory) (a : Answer (List Block)) (w : List ℕ) (v : List ℤ) (c b : List ℕ) where
  pub outcome_read : (r : Result Counts Refusal) → ToldImage me a r w v c b → is_err r ≡ false → outcome r w v c b ≡ read_into me a
  unfolding ToldImage outcome read_into
  outcome_read (Ok k) y e = ap held y.after ∙ sym (ap (read_into me) y.read)
  outcome_read (Err x) y e = cc

  pub outcome_no : (r : Result Counts Refusal) → ToldImage me a r w v c b → is_err r ≡ true → outcome r (replicate (3 * node_limit) 0) (replicate node_limit (pos 0)) (replicate (4 * command_limit) 0) (replicate (5 * block_limit) 0) ≡ read_into me a
  unfolding ToldImage outcome read_into cleared
  outcome_no (Ok k) y e = cc
  outcome_no (Err x) f e = sym (ap (read_into me) f)
