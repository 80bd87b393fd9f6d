-- What the judge promises of commands, of blocks and of the whole record: the answer is what reading the image gives. Assumes nothing: these are definitions.
use Rattle.std.specs.Prelude.{◌≡◌, Bool, true, false, List, [], ◌++◌, ℕ, ◌+◌, ◌*◌, ◌≤◌, ◌<◌, ℤ, length, Result, Ok, Err}
use Rattle.std.proofs.Common.{subst}
use Rattle.std.proofs.Math.Option.{Option}
use Rattle.memory.specs.declared.Counts.{Counts}
use Rattle.model.specs.Reading.{Answer, got, refused, onward, word}
use Rattle.model.specs.Script.{Block, block_nodes, block_commands}
use Rattle.model.specs.Image.{image, read_link}
use Rattle.model.specs.Memory.{Memory, block_word}
use Rattle.model.specs.Record.{block_tail, record_image, held_kept, limits_kept, judged_record}
use Rattle.memory.specs.View.{memory_of}
use Rattle.judge_terms.specs.Told.{Kept}
use Rattle.model.specs.Refusals.{refusal_number}
use Rattle.model.specs.declared.Refusal.{Refusal}

-- ---- kept counts by value

abbrev pub KeptBy : Counts → Type 0
KeptBy k = Kept k.nodes k.commands k.blocks

-- whether the kept counts are within their limits
pub record Within (k : Counts) (b : Bool) : Type 0 where
  pub kept : b ≡ true → KeptBy k
  pub over : b ≡ false → (ws : List ℕ) (vs : List ℤ) (cw bw : List ℕ) → limits_kept (memory_of ws vs cw bw k) ≡ false

-- ---- commands and blocks

-- what holds no nodes
abbrev pub uncounted : {A : Type 0} → A → ℕ
uncounted a = 0

-- next and else, one after the other
abbrev pub Links : Type 0
Links = Option ℕ × Option ℕ

abbrev pub both : Option ℕ → Option ℕ → Links
both x y = (x, y)

unfoldable pub read_links : ℕ → List ℕ → Answer Links
read_links b s = onward (read_link b s) (λ x t. onward (read_link b t) (λ y u. got (both x y) u))

-- at block i, with k nodes and m commands counted and at bytes passed
pub record Standing (n c b i k m at x : ℕ) : Type 0 where
  pub kept : Kept n c b
  pub there : i < b
  pub few : k ≤ n
  pub room : m ≤ c
  pub soon : at ≤ 6 * k + x

abbrev pub StandingBy : Counts → ℕ → ℕ → ℕ → ℕ → ℕ → Type 0
StandingBy c i k m at x = Standing c.nodes c.commands c.blocks i k m at x

-- the image of block i
abbrev pub block_image_in : Memory → ℕ → List ℕ
block_image_in me i = word (block_word me i 0) ++ block_tail me i (block_word me i 0)

-- the nodes and commands counted and the bytes passed after a block, or why it is refused
abbrev pub Stage : Type 0
Stage = Result (ℕ × ℕ × ℕ) Refusal

-- f accepts the bytes w of a block whatever follows them; nodes come on top of n, commands on top of m
pub record GoodBlock (f : List ℕ → Answer Block) (w : List ℕ) (l c x n m at n' m' to : ℕ) : Type 0 where
  pub value : Block
  pub reads : (t : List ℕ) → f (w ++ t) ≡ got value t
  pub counted : n' ≡ n + block_nodes value
  pub held : m' ≡ m + block_commands value
  pub low : n' ≤ l
  pub room : m' ≤ c
  pub bytes : to ≡ at + length w
  pub short : to + 6 * n + 4 * m ≤ at + 6 * n' + 4 * m' + x

unfoldable pub Shows : (List ℕ → Answer Block) → List ℕ → ℕ → ℕ → ℕ → ℕ → ℕ → ℕ → Stage → Type 0
Shows f w l c x n m at (Ok s) = GoodBlock f w l c x n m at s.0 s.1 s.2
Shows f w l c x n m at (Err e) = (t : List ℕ) → f (w ++ t) ≡ refused (refusal_number e)

-- f accepts the bytes w of a block, or refuses them for the reason that the stage says
pub record Staged (f : List ℕ → Answer Block) (w : List ℕ) (l c x n m at : ℕ) (r : Stage) : Type 0 where
  pub shows : Shows f w l c x n m at r

-- ---- the whole record

-- judged fine: the blocks that it holds, whose image it has, in so many bytes
pub record Accepted (m : Memory) (len : ℕ) : Type 0 where
  pub blocks : List Block
  pub judged : judged_record m ≡ got blocks []
  pub same : record_image m ≡ image blocks
  pub bytes : len ≡ length (image blocks)

-- the length of the image in bytes, or why the record is refused
abbrev pub Judged : Type 0
Judged = Result ℕ Refusal

-- the answer is the judgement
unfoldable pub JudgedAs : Memory → Judged → Type 0
JudgedAs m (Ok len) = Accepted m len
JudgedAs m (Err e) = judged_record m ≡ refused (refusal_number e)

pub fine_of : (m : Memory) {r : Judged} {len : ℕ} → JudgedAs m r → r ≡ Ok len → Accepted m len
unfolding JudgedAs
fine_of m j e = subst (JudgedAs m) e j

pub no_of : (m : Memory) {r : Judged} {e : Refusal} → JudgedAs m r → r ≡ Err e → judged_record m ≡ refused (refusal_number e)
unfolding JudgedAs
no_of m j e = subst (JudgedAs m) e j

-- the answer of the walk: it is the judgement, unless something is held past the kept counts
unfoldable pub WalkedAs : Memory → Judged → Type 0
WalkedAs m (Ok len) = Accepted m len
WalkedAs m (Err e) = held_kept m ≡ true → judged_record m ≡ refused (refusal_number e)
