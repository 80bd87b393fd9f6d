-- Blocks whose links are shifted: what a compile appends in a script with more blocks (02, A.14). Assumes nothing: these are definitions.
use Rattle.std.specs.Prelude.{List, map, ℕ, ◌+◌}
use Rattle.model.specs.Script.{Block}
use Rattle.reclaim_model.specs.Rename.{rename_block}

-- "links shifted": each link, next, else or command target, goes to a number that is higher by d; all else is the same
unfoldable pub shifted : ℕ → List Block → List Block
shifted d bs = map (rename_block (λ k. k + d)) bs
