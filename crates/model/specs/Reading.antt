-- What reading bytes gives, and numbers in groups of seven bits (01, Image and printer). Assumes nothing: these are definitions.
use Rattle.std.specs.Prelude.{cond, List, [], ◌∷◌, ℕ, zero, suc, ◌+◌, ◌-◌, ◌*◌, ◌/◌, ◌%◌, ltb, eqb, ℤ, pos, negsuc}
use Rattle.model.specs.Refusal.{bad_image}

-- a value and the bytes left, or a refusal's number
pub data Answer (A : Type 0) : Type 0 where
  got : A → List ℕ → Answer A
  refused : ℕ → Answer A

-- read on from what was read
abbrev pub onward : {A B : Type 0} → Answer A → (A → List ℕ → Answer B) → Answer B
onward (got x r) k = k x r
onward (refused e) k = refused e

abbrev pub refusal_of : {A : Type 0} → Answer A → ℕ
refusal_of (got x r) = 0
refusal_of (refused e) = e

-- ---- numbers: low group first, high bit on all but the last, shortest, at most 32 bits

-- a group that is not the last, before what follows: that is not 0, or a shorter form would do
unfoldable pub more : ℕ → Answer ℕ → Answer ℕ
more b (got zero r) = refused bad_image
more b (got (suc v) r) = got (b + 128 * suc v) r
more b (refused e) = refused bad_image

-- what f groups hold
abbrev pub room : ℕ → ℕ
room zero = 1
room (suc f) = 128 * room f

-- a number of at most f groups
unfoldable pub groups : ℕ → List ℕ → Answer ℕ
groups zero s = refused bad_image
groups (suc f) [] = refused bad_image
groups (suc f) (b ∷ s) = cond (ltb b 128) (got b s) (cond (ltb b 256) (more (b - 128) (groups f s)) (refused bad_image))

unfoldable pub under : ℕ → Answer ℕ → Answer ℕ
under l (got v r) = cond (ltb v l) (got v r) (refused bad_image)
under l (refused e) = refused bad_image

-- a number below l, where l is at most 2 ^ 32: a code that is known, or a number not too wide
unfoldable pub number : ℕ → List ℕ → Answer ℕ
number l s = under l (groups 5 s)

-- the groups of n, at most f
unfoldable pub word_to : ℕ → ℕ → List ℕ
word_to zero n = []
word_to (suc f) n = cond (ltb n 128) (n ∷ []) ((n % 128 + 128) ∷ word_to f (n / 128))

unfoldable pub word : ℕ → List ℕ
word n = word_to 5 n

-- ---- signed n: 2n, or −2n−1 below 0

unfoldable pub zig : ℤ → ℕ
zig (pos n) = 2 * n
zig (negsuc n) = 2 * n + 1

unfoldable pub zag : ℕ → ℤ
zag n = cond (eqb (n % 2) 0) (pos (n / 2)) (negsuc (n / 2))
