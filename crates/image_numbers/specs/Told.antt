-- What is promised of a number: what was read and the place after it, or how long it is. Assumes nothing: these are definitions.
use Rattle.std.specs.Prelude.{◌≡◌, Option, Some, None, List, ℕ, ◌≤◌, ◌<◌, length, drop}
use Rattle.model.specs.Limits.{wide16}
use Rattle.model.specs.Refusal.{bad_image}
use Rattle.model.specs.Reading.{Answer, got, refused, word}

unfoldable pub Told : List ℕ → Option (ℕ × ℕ) → Answer ℕ → Type 0
Told s (Some (v, p)) a = (a ≡ got v (drop p s)) × (p ≤ length s)
Told s None a = a ≡ refused bad_image

-- the number of groups of an element of an array
pub record ShortWord (x r : ℕ) : Type 0 where
  pub is : r ≡ length (word x)
  pub short : r ≤ 3
  pub low : x < wide16
