-- Small reclaims, computed from the definitions. Assumes nothing.
use Rattle.std.specs.Prelude.{◌≡◌, refl, true, false, List, [], ◌∷◌, ℕ, length, replicate, pos}
use Rattle.std.proofs.Math.Option.{none, some}
use Rattle.model.specs.Refusal.{bad_roots, over_limit}
use Rattle.model.specs.Expr.{imm16}
use Rattle.model.specs.Script.{return, goto, if_else, end_if, Block, placeholder, code, data_block, block_commands, block_nodes, commands_nodes, command_nodes}
use Rattle.model.specs.Judge.{counts_ok, judged}
use Rattle.model.proofs.Cases.{first, opened, sheet}
use Rattle.reclaim_model.specs.Rename.{links_of, targets, rename_block}
use Rattle.reclaim_model.specs.Reclaim.{reached, reach_from, missed, first_missed, survivors, rank, moved_from, kept_blocks}
use Rattle.reclaim_model.specs.Changes.{BornScript, appended_born, compile_refusal_born, compiled_born, kept_only, reclaim_refusal, reclaimed}
use Rattle.model.specs.declared.Loader.TheVariants.{Disc}

-- block 0 goes on to 4 by next and names 2 by else; 1 links to 0 and is reached by none; 2 and 4 end; 3 is data that 5 leads to by a Goto, and 5 is reached by none
abbrev blocks : List Block
blocks =
    code [] (some 4) (some 2)
    ∷ code [] (some 0) none
    ∷ code (return ∷ []) none none
    ∷ data_block
    ∷ code (return ∷ []) none none
    ∷ code (goto 3 ∷ []) none none
    ∷ []

-- from root 0: it, what it reaches and nothing else
pub from_0 : reached blocks (0 ∷ []) ≡ true ∷ false ∷ true ∷ false ∷ true ∷ false ∷ []
unfolding reached reach_from missed first_missed links_of targets
from_0 = refl

-- from root 5, named twice: 5 and, by the Goto, 3
pub from_5 : reached blocks (5 ∷ 5 ∷ []) ≡ false ∷ false ∷ false ∷ true ∷ false ∷ true ∷ []
unfolding reached reach_from missed first_missed links_of targets
from_5 = refl

-- no roots: nothing is left
pub from_none : reached blocks [] ≡ replicate 6 false
unfolding reached reach_from missed first_missed links_of targets
from_none = refl

-- else links, If targets and EndIf targets are followed: 2 is reached by else alone, 3 by the If's target, 5 by the EndIf's
abbrev followed : List Block
followed =
    code (if_else (imm16 (pos 1)) 3 ∷ []) none (some 2)
    ∷ data_block
    ∷ code (end_if 5 ∷ []) none none
    ∷ code (return ∷ []) none none
    ∷ placeholder
    ∷ data_block
    ∷ []

pub each_link : reached followed (0 ∷ []) ≡ true ∷ false ∷ true ∷ true ∷ false ∷ true ∷ []
unfolding reached reach_from missed first_missed links_of targets
each_link = refl

-- and follow their blocks
pub each_follows : kept_blocks (true ∷ false ∷ true ∷ true ∷ false ∷ true ∷ []) followed
    ≡ code (if_else (imm16 (pos 1)) 2 ∷ []) none (some 1) ∷ code (end_if 3 ∷ []) none none ∷ code (return ∷ []) none none ∷ data_block ∷ []
unfolding kept_blocks survivors rank rename_block
each_follows = refl

-- the answer for root 0, and the script that is left: links follow, counts are taken afresh, marks go along, the count of compiles stays
pub answer_0 : moved_from 0 (true ∷ false ∷ true ∷ false ∷ true ∷ false ∷ []) ≡ 1 ∷ 0 ∷ 2 ∷ 0 ∷ 3 ∷ 0 ∷ []
unfolding moved_from
answer_0 = refl

pub left_0 : kept_only (true ∷ false ∷ true ∷ false ∷ true ∷ false ∷ []) (record { script = record { blocks = blocks; commands = 40; nodes = 7 }; births = 0 ∷ 3 ∷ 1 ∷ 0 ∷ 2 ∷ 3 ∷ []; compiles = 3 })
    ≡ record { script = record { blocks = code [] (some 2) (some 1) ∷ code (return ∷ []) none none ∷ code (return ∷ []) none none ∷ []; commands = 2; nodes = 0 }; births = 0 ∷ 1 ∷ 2 ∷ []; compiles = 3 }
unfolding kept_only kept_blocks survivors rank rename_block block_commands block_nodes commands_nodes command_nodes
left_0 = refl

-- ---- the call

-- the empty shop at block 0 of one Return block, which is emptied: of 42 commands counted the 22 blocks, all reached, hold 41
abbrev empty_shop : BornScript
empty_shop = compiled_born sheet (record { script = first; births = 0 ∷ []; compiles = 0 }) (record { loader = Disc; setup = 0; shop = [] })

abbrev sizes : BornScript → List ℕ
sizes k = length k.script.blocks ∷ k.script.commands ∷ k.script.nodes ∷ length k.births ∷ k.compiles ∷ []

pub shop_before : sizes empty_shop ≡ 22 ∷ 42 ∷ 80 ∷ 22 ∷ 1 ∷ []
unfolding opened compiled_born compile_refusal_born appended_born
shop_before = refl

pub shop_after : sizes (reclaimed empty_shop (0 ∷ [])) ≡ 22 ∷ 41 ∷ 80 ∷ 22 ∷ 1 ∷ []
unfolding opened compiled_born compile_refusal_born appended_born reclaimed reclaim_refusal kept_only kept_blocks reached reach_from missed first_missed links_of targets survivors rank rename_block
shop_after = refl

-- a script of too many commands: at a root that is no block 18 answers before 3, as with a root too many
abbrev over : BornScript
over = record { script = record { blocks = blocks; commands = 16385; nodes = 0 }; births = replicate 6 0; compiles = 0 }

pub no_block : reclaim_refusal over (6 ∷ []) ≡ bad_roots
unfolding reclaim_refusal
no_block = refl

pub too_many : reclaim_refusal over (replicate 257 5) ≡ bad_roots
unfolding reclaim_refusal
too_many = refl

pub most : reclaim_refusal over (replicate 256 5) ≡ over_limit
unfolding reclaim_refusal judged counts_ok
most = refl
