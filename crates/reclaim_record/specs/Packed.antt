-- A way to reclaim in memory: links renamed command by command and survivors' words moved together give a record whose image is that of the survivors, and that image read back is what the reclaim leaves. Assumes nothing.
use Rattle.std.specs.Prelude.{◌≡◌, Bool, true, false, get_or, length}
use mathlib.Core.List.{List}
use Prim.Native.Nat.{ℕ, zero, suc, ◌<◌}
use Rattle.model.specs.Script.{code}
use Rattle.model.specs.Memory.{Coded, Memory, command_word, block_word}
use Rattle.reclaim_model.specs.Reclaim.{rank, survivors}

-- the fourth word of a command of code k: a block for Goto, If and EndIf
unfoldable pub follow_code : (ℕ → ℕ) → ℕ → ℕ → ℕ
follow_code f zero t = t
follow_code f (suc zero) t = f t
follow_code f (suc (suc zero)) t = t
follow_code f (suc (suc (suc zero))) t = f t
follow_code f (suc (suc (suc (suc zero)))) t = f t
follow_code f (suc (suc (suc (suc (suc k))))) t = t

-- next and else: 0 none, k + 1 block k
unfoldable pub follow_link : (ℕ → ℕ) → ℕ → ℕ
follow_link f zero = zero
follow_link f (suc k) = suc (f k)

-- every command of the kept count with its target renamed, once, whichever blocks hold it
pub record Followed (f : ℕ → ℕ) (co co' : Coded) : Type 0 where
  pub nodes : co'.nodes ≡ co.nodes
  pub count : co'.count ≡ co.count
  pub words : (c j : ℕ) → c < co.count → j < 3 → command_word co' c j ≡ command_word co c j
  pub target : (c : ℕ) → c < co.count → command_word co' c 3 ≡ follow_code f (command_word co c 0) (command_word co c 3)

-- the words of the survivors, one after the other
pub record Packed (f : ℕ → ℕ) (ms : List Bool) (m m' : Memory) : Type 0 where
  pub coded : Followed f m.coded m'.coded
  pub count : m'.count ≡ rank ms (length ms)
  pub words : (b j : ℕ) → get_or ms b false ≡ true → j < 3 → block_word m' (rank ms b) j ≡ block_word m b j
  pub next : (b : ℕ) → get_or ms b false ≡ true → block_word m' (rank ms b) 3 ≡ follow_link f (block_word m b 3)
  pub else : (b : ℕ) → get_or ms b false ≡ true → block_word m' (rank ms b) 4 ≡ follow_link f (block_word m b 4)
