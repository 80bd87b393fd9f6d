-- A slot's block with its EndIf or without, and what the arrays and the counts become where one or an If ends. Assumes nothing: these are definitions.
use Rattle.std.specs.Prelude.{Bool, true, false, List, ◌≡◌, ℕ, ◌+◌, ◌-◌, ℤ}
use Rattle.model.specs.Expr.{Expr}
use Rattle.model.specs.Script.{Block}
use Rattle.model.specs.Memory.{Coded, coded_in, command_words, block_words}
use Rattle.model.specs.Compile.{set_slot, set_slot_end}
use Rattle.memory.specs.declared.Counts.{Counts}
use Rattle.compile_emit.specs.declared.Held.{Held}

-- the commands of a script with their counts
abbrev pub held_in : List ℕ → List ℤ → List ℕ → Held → Coded
held_in ws vs cw h = coded_in ws vs cw h.nodes h.commands

-- writes item and count of slot i, with EndIf or without
abbrev pub slot_block : Bool → ℕ → ℕ → Expr → Expr → Block
slot_block true end i a b = set_slot_end end i a b
slot_block false end i a b = set_slot end i a b

-- one command more where there is an EndIf
abbrev pub with_end : Bool → ℕ → ℕ
with_end true n = n + 1
with_end false n = n

-- the words of the commands, of which there are n, with the EndIf where there is one
abbrev pub end_words : Bool → List ℕ → ℕ → ℕ → List ℕ
end_words true cw n end = command_words cw n 4 0 0 end
end_words false cw n end = cw

-- the end of a slot's block, whose two Sets reach to h: what the two arrays and the counts become
pub record PushedEnd (cw bw : List ℕ) (k : Counts) (h : Held) (end : ℕ) (endif : Bool) (cw' bw' : List ℕ) (m : Counts) : Type 0 where
  pub commands_are : cw' ≡ end_words endif cw h.commands end
  pub blocks_are : bw' ≡ block_words bw k.blocks 1 k.commands (with_end endif 2) (end + 1) 0
  pub nodes : m.nodes ≡ h.nodes
  pub commands : m.commands ≡ with_end endif h.commands
  pub blocks : m.blocks ≡ k.blocks + 1

-- an If whose condition's nodes end at n, in a block of its own: what the two arrays and the counts become
pub record PushedIf (cw bw : List ℕ) (k : Counts) (n next other : ℕ) (cw' bw' : List ℕ) (m : Counts) : Type 0 where
  pub commands_are : cw' ≡ command_words cw k.commands 3 (n - 1) 0 other
  pub blocks_are : bw' ≡ block_words bw k.blocks 1 k.commands 1 (next + 1) (other + 1)
  pub nodes : m.nodes ≡ n
  pub commands : m.commands ≡ k.commands + 1
  pub blocks : m.blocks ≡ k.blocks + 1
