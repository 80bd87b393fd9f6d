-- A block that is named is judged as its number would be read. Assumes nothing.
use Rattle.std.specs.Prelude.{◌≡◌, refl, List, ℕ, zero, suc, ◌+◌, ◌≤◌, ◌<◌, Ok, Err}
use Rattle.std.proofs.Common.{arith}
use borrow.Author.Tests.{lt-ltb, le-ltb}
use Rattle.model.specs.Limits.{wide}
use Rattle.model.specs.Refusal.{no_such_link}
use Rattle.model.specs.Reading.{got, refused, word}
use Rattle.model.specs.Image.{read_block_no, link_of, read_link}
use Rattle.model.specs.Memory.{link_in}
use Rattle.model.proofs.Laws.Reading.{read_word}
use Rattle.image_numbers.specs.Told.{ShortWord}
use Rattle.judge_terms.specs.Told.{Told}
use Rattle.judge_record.specs.Stages.{uncounted}
use Rattle.judge_terms.specs.Pieces.{fine, none}
use Rattle.model.specs.declared.Refusal.TheVariants.{NoSuchLink}

link_read : (b k : ℕ) (t : List ℕ) → k ≤ b → link_of b k t ≡ got (link_in k) t
unfolding link_of
link_read b zero t h = refl
link_read b (suc k) t h = rw (lt-ltb k b (omega arith))

link_past : (b k : ℕ) (t : List ℕ) → b < k → link_of b k t ≡ refused no_such_link
unfolding link_of
link_past b zero t h = absurd (omega arith)
link_past b (suc k) t h = rw (le-ltb k b (omega arith))

module _ (k b n at len : ℕ) (s : ShortWord k len) where
  pub block_there : k < b → Told (read_block_no b) uncounted (word k) n 3 n at (Ok (n, at + len))
  unfolding read_block_no
  block_there h =
      let i = s.is in
      let y = s.short in
      let u = s.low in
      fine (record {
        value = k;
        reads = λ t. rw (read_word wide k t (omega arith) (omega arith), lt-ltb k b h);
        counted = omega arith;
        low = omega arith;
        bytes = omega arith;
        short = omega arith;
      })

  pub block_absent : b ≤ k → Told (read_block_no b) uncounted (word k) n 3 n at (Err NoSuchLink)
  unfolding read_block_no
  block_absent h = let u = s.low in none (λ t. rw (read_word wide k t (omega arith) (omega arith), le-ltb k b h))

  pub link_there : k ≤ b → Told (read_link b) uncounted (word k) n 3 n at (Ok (n, at + len))
  unfolding read_link
  link_there h =
      let i = s.is in
      let y = s.short in
      let u = s.low in
      fine (record {
        value = link_in k;
        reads = λ t. rw (read_word wide k t (omega arith) (omega arith)) (link_read b k t h);
        counted = omega arith;
        low = omega arith;
        bytes = omega arith;
        short = omega arith;
      })

  pub link_absent : b < k → Told (read_link b) uncounted (word k) n 3 n at (Err NoSuchLink)
  unfolding read_link
  link_absent h = let u = s.low in none (λ t. rw (read_word wide k t (omega arith) (omega arith)) (link_past b k t h))
