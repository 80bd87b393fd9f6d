-- Taking back dead blocks: which blocks the roots reach, the new number of each, and the script of those that survive (02, A.4). Assumes nothing: these are definitions.
use Rattle.std.specs.Prelude.{Bool, true, false, cond, ◌&&◌, List, [], ◌∷◌, map, ℕ, zero, suc, ltb, leb, get_or, set, length, replicate}
use Rattle.std.proofs.Math.Option.{Option, none, some}
use Rattle.std.proofs.lemmas.List.Edits.{sets}
use Rattle.model.specs.Limits.{block_limit, root_limit}
use Rattle.model.specs.Refusal.{bad_roots, check, first_of}
use Rattle.model.specs.Sheet.{all}
use Rattle.model.specs.Script.{Block}
use Rattle.reclaim_model.specs.Rename.{links_of, rename_block}

-- ---- the checks

-- "a list of up to 256 root blocks", each of them one of n blocks
abbrev pub roots_ok : ℕ → List ℕ → Bool
roots_ok n rs = leb (length rs) root_limit && all (λ r. ltb r n) rs

-- 18 before any other check, then 2 to 5, of which the script's judgement answers j
abbrev pub reclaim_checks : ℕ → ℕ → List ℕ → ℕ
reclaim_checks n j rs = first_of (check (roots_ok n rs) bad_roots ∷ j ∷ [])

-- ---- what the roots reach, as a mark for each block

-- the first of some links that is a block without a mark
unfoldable pub first_missed : List Bool → List ℕ → Option ℕ
first_missed ms [] = none
first_missed ms (k ∷ ks) = cond (get_or ms k true) (first_missed ms ks) (some k)

abbrev pub or_next : Option ℕ → Option ℕ → Option ℕ
or_next none o = o
or_next (some k) o = some k

-- the first such link of a marked block; `own` are the marks of the blocks bs
unfoldable pub missed : List Bool → List Bool → List Block → Option ℕ
missed ms [] bs = none
missed ms (m ∷ own) [] = none
missed ms (true ∷ own) (b ∷ bs) = or_next (first_missed ms (links_of b)) (missed ms own bs)
missed ms (false ∷ own) (b ∷ bs) = missed ms own bs

-- as long as a marked block links to one without a mark, that one is marked too
unfoldable pub reach_from : ℕ → List Block → List Bool → List Bool
reach_from zero bs ms = ms
reach_from (suc n) bs ms = elim (missed ms ms bs) [ none ↦ ms | some k ↦ reach_from n bs (set ms k true) ]

abbrev pub mark_roots : List ℕ → List Bool → List Bool
mark_roots [] ms = ms
mark_roots (r ∷ rs) ms = set (mark_roots rs ms) r true

-- the roots, and what they reach by next, else or command targets
unfoldable pub reached : List Block → List ℕ → List Bool
reached bs rs = reach_from (length bs) bs (mark_roots rs (replicate (length bs) false))

-- ---- what is left of a list, and the new numbers

-- "survivors keep their order"
unfoldable pub survivors : {A : Type 0} → List Bool → List A → List A
survivors [] xs = []
survivors (m ∷ ms) [] = []
survivors (true ∷ ms) (x ∷ xs) = x ∷ survivors ms xs
survivors (false ∷ ms) (x ∷ xs) = survivors ms xs

-- how many survive below number b
unfoldable pub rank : List Bool → ℕ → ℕ
rank [] b = 0
rank (m ∷ ms) zero = 0
rank (m ∷ ms) (suc b) = cond m (suc (rank ms b)) (rank ms b)

-- "for each old block its new number or that it is gone"
abbrev pub new_number : List Bool → ℕ → Option ℕ
new_number ms b = cond (get_or ms b false) (some (rank ms b)) none

-- "links follow"
unfoldable pub kept_blocks : List Bool → List Block → List Block
kept_blocks ms bs = map (rename_block (rank ms)) (survivors ms bs)

-- ---- the answer in an array of a place for each block

-- the new number of an old block and 1, or 0 where it is gone
abbrev pub moved_word : Option ℕ → ℕ
moved_word none = 0
moved_word (some k) = suc k

-- what such a word tells
abbrev pub word_tells : ℕ → Option ℕ
word_tells zero = none
word_tells (suc k) = some k

-- the words of the old blocks, n surviving before them
unfoldable pub moved_from : ℕ → List Bool → List ℕ
moved_from n [] = []
moved_from n (true ∷ ms) = suc n ∷ moved_from (suc n) ms
moved_from n (false ∷ ms) = 0 ∷ moved_from n ms

-- a place past the old blocks holds 0
abbrev pub moved_words : List Bool → List ℕ
moved_words ms = sets (replicate block_limit 0) 0 (moved_from 0 ms)
