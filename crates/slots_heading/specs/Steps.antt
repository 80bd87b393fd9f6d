-- The parts of a heading as it is written: the items' numbers, the two halves, and how long the numbers are. Assumes nothing: these are definitions.
use Rattle.std.specs.Prelude.{ℕ, zero, suc, ◌+◌, get_or}
use mathlib.Core.List.{List, [], ◌++◌}
use Rattle.std.proofs.Math.ListN.{length}
use Rattle.model.specs.Reading.{word}
use Rattle.shop.specs.declared.Sheet.{Sheet}

-- of h items from item f on
unfoldable pub entries_bytes : List ℕ → ℕ → ℕ → List ℕ
entries_bytes ks zero f = []
entries_bytes ks (suc h) f = word (get_or ks f 0) ++ entries_bytes ks h (suc f)

abbrev pub counts_bytes : ℕ → ℕ → List ℕ → List ℕ
counts_bytes n m ks = word n ++ (word m ++ entries_bytes ks (length ks) 0)

abbrev pub timers_bytes : Sheet → ℕ → List ℕ
timers_bytes h b = word h.timer5.0 ++ (word h.timer10.0 ++ (word h.timer15.0 ++ word b))

abbrev pub numbers_length : ℕ → Sheet → ℕ → ℕ
numbers_length n h b = length (word n) + length (word h.atcs) + n + (length (word h.timer5.0) + length (word h.timer10.0) + length (word h.timer15.0)) + length (word b)
