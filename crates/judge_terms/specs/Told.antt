-- What the functions of expressions promise: the answer is what reading the image gives, whatever follows it. Assumes nothing: these are definitions.
use Rattle.std.specs.Prelude.{◌≡◌, cond, List, ◌++◌, ℕ, ◌+◌, ◌*◌, ◌≤◌, ltb, length, Result, Ok, Err}
use Rattle.memory.specs.declared.Counts.{Counts}
use Rattle.model.specs.Limits.{node_limit, command_limit, block_limit, depth_limit}
use Rattle.model.specs.Reading.{Answer, got, refused, word}
use Rattle.model.specs.Image.{Limits, limits}
use Rattle.model.specs.Refusals.{refusal_number}
use Rattle.model.specs.declared.Refusal.{Refusal}
use Rattle.model.specs.declared.Refusal.TheVariants.{BadImage}

-- ---- kept counts by value

abbrev pub limits_by : Counts → Limits
limits_by k = limits k.blocks k.commands k.nodes

-- ---- what callers have to bring

-- the kept counts are within their limits
pub record Kept (n c b : ℕ) : Type 0 where
  pub nodes : n ≤ node_limit
  pub commands : c ≤ command_limit
  pub blocks : b ≤ block_limit

-- k nodes were counted and at bytes passed: six for each node at most, and x besides, so that no sum of lengths wraps
pub record Ready (n c b k at x : ℕ) : Type 0 where
  pub kept : Kept n c b
  pub few : k ≤ n
  pub soon : at ≤ 6 * k + x

abbrev pub ReadyBy : Counts → ℕ → ℕ → ℕ → Type 0
ReadyBy c k at x = Ready c.nodes c.commands c.blocks k at x

-- the same at a node that has to be below b, at some depth
pub record Walking (b l depth k at : ℕ) : Type 0 where
  pub low : b ≤ node_limit
  pub limit : l ≤ node_limit
  pub levels : depth ≤ depth_limit
  pub few : k ≤ l
  pub soon : at ≤ 6 * k + 200000

-- ---- what they get

-- the nodes counted and the bytes passed after a piece of the image, or why it is refused
abbrev pub Step : Type 0
Step = Result (ℕ × ℕ) Refusal

-- f accepts the bytes w whatever follows them. The nodes of what it reads come on top of n and stay within l,
-- the bytes on top of at, and there are six for each node and x besides at most
pub record Good {A : Type 0} (f : List ℕ → Answer A) (size : A → ℕ) (w : List ℕ) (l x n at m to : ℕ) : Type 0 where
  pub value : A
  pub reads : (t : List ℕ) → f (w ++ t) ≡ got value t
  pub counted : m ≡ n + size value
  pub low : m ≤ l
  pub bytes : to ≡ at + length w
  pub short : to + 6 * n ≤ at + 6 * m + x

unfoldable pub Says : {A : Type 0} → (List ℕ → Answer A) → (A → ℕ) → List ℕ → ℕ → ℕ → ℕ → ℕ → Step → Type 0
Says f size w l x n at (Ok s) = Good f size w l x n at s.0 s.1
Says f size w l x n at (Err e) = (t : List ℕ) → f (w ++ t) ≡ refused (refusal_number e)

-- f accepts the bytes w, or refuses them for the reason that the step says, whatever follows them
pub record Told {A : Type 0} (f : List ℕ → Answer A) (size : A → ℕ) (w : List ℕ) (l x n at : ℕ) (r : Step) : Type 0 where
  pub says : Says f size w l x n at r

unfoldable pub imm_judged : ℕ → ℕ → ℕ → ℕ → Step
imm_judged v l n at = cond (ltb v l) (Ok (n, at + length (word v))) (Err BadImage)
