-- Blocks that an image can hold, apart from what they count: links below a number, expressions not too deep; and the fit as that and two sums. Assumes nothing.
use Rattle.std.specs.Prelude.{◌≡◌, ℕ, zero, suc, ◌+◌, ◌≤◌, ◌<◌, length, set}
use Rattle.std.proofs.Math.Option.{Option, none, some}
use mathlib.Core.List.{List, [], ◌∷◌, ◌++◌}
use native.Mathlib.Omega.{arith}
use Rattle.model.specs.Limits.{block_limit, depth_limit}
use Rattle.model.specs.Script.{Command, return, goto, set_variable, set_other, if_else, end_if, other_command, Block, placeholder, code, data_block, command_nodes, commands_nodes, block_nodes, block_commands, sum_of}
use Rattle.model.specs.Image.{Limits, limits}
use Rattle.model.proofs.Laws.ImageExpr.{FitsExpr}
use Rattle.model.proofs.Laws.Image.{FitsLink, FitsCommand, FitsCommands, FitsBlock, FitsBlocks, FitsScript}

unfoldable pub SoundCommand : ℕ → Command → Type 0
SoundCommand k return = Unit
SoundCommand k (goto j) = j < k
SoundCommand k (set_variable t e) = FitsExpr depth_limit t × FitsExpr depth_limit e
SoundCommand k (set_other e) = FitsExpr depth_limit e
SoundCommand k (if_else e j) = FitsExpr depth_limit e × (j < k)
SoundCommand k (end_if j) = j < k
SoundCommand k other_command = Unit

unfoldable pub SoundCommands : ℕ → List Command → Type 0
SoundCommands k [] = Unit
SoundCommands k (c ∷ cs) = SoundCommand k c × SoundCommands k cs

unfoldable pub SoundBlock : ℕ → Block → Type 0
SoundBlock k placeholder = Unit
SoundBlock k (code cs nx el) = SoundCommands k cs × FitsLink k nx × FitsLink k el
SoundBlock k data_block = Unit

unfoldable pub SoundBlocks : ℕ → List Block → Type 0
SoundBlocks k [] = Unit
SoundBlocks k (b ∷ bs) = SoundBlock k b × SoundBlocks k bs

-- ---- more blocks

module _ (j k : ℕ) (h : j ≤ k) where
  more_link : (x : Option ℕ) → FitsLink j x → FitsLink k x
  unfolding FitsLink
  more_link none f = tt
  more_link (some i) f = omega arith

  more_command : (c : Command) → SoundCommand j c → SoundCommand k c
  unfolding SoundCommand
  more_command return f = tt
  more_command (goto i) f = omega arith
  more_command (set_variable t e) f = f
  more_command (set_other e) f = f
  more_command (if_else e i) f = let g = f.1 in (f.0, omega arith)
  more_command (end_if i) f = omega arith
  more_command other_command f = tt

  more_commands : (cs : List Command) → SoundCommands j cs → SoundCommands k cs
  unfolding SoundCommands
  more_commands [] f = tt
  more_commands (c ∷ cs) f = (more_command c f.0, more_commands cs f.1)

  pub more_block : (b : Block) → SoundBlock j b → SoundBlock k b
  unfolding SoundBlock
  more_block placeholder f = tt
  more_block (code cs nx el) f = (more_commands cs f.0, more_link nx f.1, more_link el f.2)
  more_block data_block f = tt

  pub more_blocks : (bs : List Block) → SoundBlocks j bs → SoundBlocks k bs
  unfolding SoundBlocks
  more_blocks [] f = tt
  more_blocks (b ∷ bs) f = (more_block b f.0, more_blocks bs f.1)

-- ---- append, and one block replaced

pub sound_append : (k : ℕ) (xs ys : List Block) → SoundBlocks k xs → SoundBlocks k ys → SoundBlocks k (xs ++ ys)
unfolding SoundBlocks
sound_append k [] ys f g = g
sound_append k (x ∷ xs) ys f g = (f.0, sound_append k xs ys f.1 g)

pub sound_set : (k : ℕ) (xs : List Block) (i : ℕ) (y : Block) → SoundBlocks k xs → SoundBlock k y → SoundBlocks k (set xs i y)
unfolding SoundBlocks
sound_set k [] i y f g = tt
sound_set k (x ∷ xs) zero y f g = (g, f.1)
sound_set k (x ∷ xs) (suc i) y f g = (f.0, sound_set k xs i y f.1 g)

pub sum_append : {A : Type 0} (f : A → ℕ) (xs ys : List A) → sum_of f (xs ++ ys) ≡ sum_of f xs + sum_of f ys
sum_append f [] ys = omega arith
sum_append f (x ∷ xs) ys = omega (arith, sum_append f xs ys)

-- what counts nothing, put in the place of anything
pub sum_set : {A : Type 0} (f : A → ℕ) (xs : List A) (i : ℕ) (y : A) → f y ≡ 0 → sum_of f (set xs i y) ≤ sum_of f xs
sum_set f [] i y p = omega arith
sum_set f (x ∷ xs) zero y p = omega arith
sum_set f (x ∷ xs) (suc i) y p = omega (arith, sum_set f xs i y p)

-- ---- the fit, and what it is made of

module _ (l : Limits) where
  pub command_fits_lem : (n : ℕ) (c : Command) → SoundCommand l.blocks c → n + command_nodes c ≤ l.nodes → FitsCommand l n c
  unfolding SoundCommand FitsCommand command_nodes
  command_fits_lem n return f h = tt
  command_fits_lem n (goto k) f h = f
  command_fits_lem n (set_variable t e) f h = (record { fit = f.0; room = omega arith }, record { fit = f.1; room = omega arith })
  command_fits_lem n (set_other e) f h = record { fit = f; room = h }
  command_fits_lem n (if_else e k) f h = (record { fit = f.0; room = h }, f.1)
  command_fits_lem n (end_if k) f h = f
  command_fits_lem n other_command f h = tt

  commands_fit : (n : ℕ) (cs : List Command) → SoundCommands l.blocks cs → n + commands_nodes cs ≤ l.nodes → FitsCommands l n cs
  unfolding SoundCommands FitsCommands commands_nodes
  commands_fit n [] f h = tt
  commands_fit n (c ∷ cs) f h = (command_fits_lem n c f.0 (omega arith), commands_fit (n + command_nodes c) cs f.1 (omega arith))

  pub block_fits : (m n : ℕ) (b : Block) → SoundBlock l.blocks b → m + block_commands b ≤ l.commands → n + block_nodes b ≤ l.nodes → FitsBlock l m n b
  unfolding SoundBlock FitsBlock block_nodes block_commands
  block_fits m n placeholder f h g = tt
  block_fits m n (code cs nx el) f h g = (h, commands_fit n cs f.0 g, f.1, f.2)
  block_fits m n data_block f h g = tt

  pub blocks_fit : (m n : ℕ) (bs : List Block) → SoundBlocks l.blocks bs → m + sum_of block_commands bs ≤ l.commands → n + sum_of block_nodes bs ≤ l.nodes → FitsBlocks l m n bs
  unfolding SoundBlocks FitsBlocks
  blocks_fit m n [] f h g = tt
  blocks_fit m n (b ∷ bs) f h g =
      (block_fits m n b f.0 (omega arith) (omega arith), blocks_fit (m + block_commands b) (n + block_nodes b) bs f.1 (omega arith) (omega arith))

  -- and back
  command_parts : (n : ℕ) (c : Command) → n ≤ l.nodes → FitsCommand l n c → SoundCommand l.blocks c × (n + command_nodes c ≤ l.nodes)
  unfolding SoundCommand FitsCommand command_nodes
  command_parts n return h f = (tt, omega arith)
  command_parts n (goto k) h f = (f, omega arith)
  command_parts n (set_variable t e) h f = let g = f.1.room in ((f.0.fit, f.1.fit), omega arith)
  command_parts n (set_other e) h f = (f.fit, f.room)
  command_parts n (if_else e k) h f = ((f.0.fit, f.1), f.0.room)
  command_parts n (end_if k) h f = (f, omega arith)
  command_parts n other_command h f = (tt, omega arith)

  commands_parts : (n : ℕ) (cs : List Command) → n ≤ l.nodes → FitsCommands l n cs → SoundCommands l.blocks cs × (n + commands_nodes cs ≤ l.nodes)
  unfolding SoundCommands FitsCommands commands_nodes
  commands_parts n [] h f = (tt, omega arith)
  commands_parts n (c ∷ cs) h f =
      let a = command_parts n c h f.0 in
      let b = commands_parts (n + command_nodes c) cs a.1 f.1 in
      let g = b.1 in
      ((a.0, b.0), omega arith)

  block_parts : (m n : ℕ) (b : Block) → m ≤ l.commands → n ≤ l.nodes → FitsBlock l m n b
      → SoundBlock l.blocks b × (m + block_commands b ≤ l.commands) × (n + block_nodes b ≤ l.nodes)
  unfolding SoundBlock FitsBlock block_nodes block_commands
  block_parts m n placeholder h g f = (tt, omega arith, omega arith)
  block_parts m n (code cs nx el) h g f = let a = commands_parts n cs g f.1 in ((a.0, f.2, f.3), f.0, a.1)
  block_parts m n data_block h g f = (tt, omega arith, omega arith)

  pub blocks_parts : (m n : ℕ) (bs : List Block) → m ≤ l.commands → n ≤ l.nodes → FitsBlocks l m n bs
      → SoundBlocks l.blocks bs × (m + sum_of block_commands bs ≤ l.commands) × (n + sum_of block_nodes bs ≤ l.nodes)
  unfolding SoundBlocks FitsBlocks
  blocks_parts m n [] h g f = (tt, omega arith, omega arith)
  blocks_parts m n (b ∷ bs) h g f =
      let a = block_parts m n b h g f.0 in
      let d = blocks_parts (m + block_commands b) (n + block_nodes b) bs a.1 a.2 f.1 in
      let d₁ = d.1 in
      let d₂ = d.2 in
      ((a.0, d.0), omega arith, omega arith)

-- a script fits where its blocks are few and sound, and what they hold is at most c and n
pub record Held (c n : ℕ) (bs : List Block) : Type 0 where
  pub few : length bs ≤ block_limit
  pub sound : SoundBlocks (length bs) bs
  pub commands : sum_of block_commands bs ≤ c
  pub nodes : sum_of block_nodes bs ≤ n

pub fits_held : (c n : ℕ) (bs : List Block) → FitsScript c n bs → Held c n bs
unfolding FitsScript
fits_held c n bs f =
    let a = blocks_parts (limits (length bs) c n) 0 0 bs (omega arith) (omega arith) f.1 in
    let a₁ = a.1 in
    let a₂ = a.2 in
    record { few = f.0; sound = a.0; commands = omega arith; nodes = omega arith }

pub held_fits : (c n : ℕ) (bs : List Block) → Held c n bs → FitsScript c n bs
unfolding FitsScript
held_fits c n bs h =
    let hc = h.commands in
    let hn = h.nodes in
    (h.few, blocks_fit (limits (length bs) c n) 0 0 bs h.sound (omega arith) (omega arith))
