-- New numbers as a table, targets renamed command by command, survivors' words moved together (02, A.4). Assumes nothing: these are definitions.
use Rattle.std.specs.Prelude.{◌≡◌, Bool, false, cond, List, ℕ, zero, suc, ◌+◌, ◌*◌, ◌≤◌, ◌<◌, ltb, get_or, set}
use Rattle.model.specs.Limits.{block_limit}
use Rattle.model.specs.Memory.{block_words}
use Rattle.reclaim_record.specs.Packed.{follow_code, follow_link}

-- one more where it survives
abbrev pub plus_if : ℕ → Bool → ℕ
plus_if n b = cond b (n + 1) n

-- the survivors below n
unfoldable pub rank_to : List Bool → ℕ → ℕ
rank_to live zero = 0
rank_to live (suc n) = plus_if (rank_to live n) (get_or live n false)

-- the table after n blocks
unfoldable pub ranks_to : List Bool → ℕ → List ℕ → List ℕ
ranks_to live zero rk = rk
ranks_to live (suc n) rk = set (ranks_to live n rk) n (rank_to live n)

-- a number of a block as the table has it; what is no block gets the number of all survivors
unfoldable pub table_rank : List ℕ → ℕ → ℕ → ℕ → ℕ
table_rank rk n total t = cond (ltb t n) (get_or rk t 0) total

-- the table holds the new number of each of n blocks
abbrev pub Ranks : List Bool → ℕ → List ℕ → Type 0
Ranks live n rk = (b : ℕ) → b < n → get_or rk b 0 ≡ rank_to live b

-- every number of the table fits, with room for one more
abbrev pub Small : List ℕ → ℕ → ℕ → Type 0
Small rk n total = (t : ℕ) → table_rank rk n total t ≤ block_limit

-- command c with its target renamed
unfoldable pub followed_at : (ℕ → ℕ) → List ℕ → ℕ → List ℕ
followed_at f cw c = set cw (4 * c + 3) (follow_code f (get_or cw (4 * c) 0) (get_or cw (4 * c + 3) 0))

unfoldable pub followed_to : (ℕ → ℕ) → ℕ → List ℕ → List ℕ
followed_to f zero cw = cw
followed_to f (suc n) cw = followed_at f (followed_to f n cw) n

-- block b moved to its new place, if it survives
unfoldable pub packed_at : (ℕ → ℕ) → List Bool → List ℕ → ℕ → List ℕ
packed_at f live bw b =
    cond (get_or live b false)
    (block_words bw (f b) (get_or bw (5 * b) 0) (get_or bw (5 * b + 1) 0) (get_or bw (5 * b + 2) 0) (follow_link f (get_or bw (5 * b + 3) 0)) (follow_link f (get_or bw (5 * b + 4) 0)))
    bw

unfoldable pub packed_to : (ℕ → ℕ) → List Bool → ℕ → List ℕ → List ℕ
packed_to f live zero bw = bw
packed_to f live (suc n) bw = packed_at f live (packed_to f live n bw) n
