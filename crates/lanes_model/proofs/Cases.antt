-- Small walks, computed from the definitions. Assumes nothing.
use Rattle.std.specs.Prelude.{◌≡◌, refl, true, false, List, [], ◌∷◌, map, ℕ, replicate, pos}
use Rattle.std.proofs.Common.{ap, ◌∙◌}
use Rattle.std.proofs.Math.Option.{Option, none, some}
use Rattle.model.specs.Limits.{walk_blocks}
use Rattle.model.specs.Refusal.{bad_save, bad_walk, no_flag, not_code}
use Rattle.model.specs.Requirement.{haveFlag}
use Rattle.model.specs.Expr.{one, imm16}
use Rattle.model.specs.Save.{Save}
use Rattle.model.specs.Script.{Block, code, data_block, goto, if_else, return, set_variable, Script}
use Rattle.model.specs.Judge.{counted}
use Rattle.model.specs.Compile.{compiled}
use Rattle.model.specs.Run.{Ran}
use Rattle.model.proofs.Cases.{opened, sheet, slot_of, first, saved}
use Rattle.model.specs.declared.Loader.TheVariants.{Disc}
use Rattle.model.specs.declared.Op1.TheVariants.{Flag, Item}
use Rattle.reclaim_model.specs.Rename.{links_of, targets}
use Rattle.lanes_model.specs.Falls.{falls, sweep}
use Rattle.lanes_model.specs.Walk.{Walked, trail, walk_call, walk_checks, walk_refusal}
use Rattle.lanes_model.specs.Lanes.{walk, walk_all}
use Rattle.lanes_model.proofs.Laws.Walks.{by_lanes, walk_call_lem}

-- ---- what links to lower numbers only

pub line : Option ℕ → Block
line k = code [] k none

-- 0 leads to itself; up to 2 and from there down; to 2 whose else, never taken, is itself; to 1 which has a Goto to itself behind a Return, and to 1 whose If has itself for its else target;
-- to 1, back to 0 and so up again
pub falls_cases : falls (line (some 0) ∷ []) 0 ∷ falls (line (some 2) ∷ line none ∷ line (some 1) ∷ []) 0
    ∷ falls (line (some 2) ∷ line none ∷ code [] (some 1) (some 2) ∷ []) 0 ∷ falls (line (some 1) ∷ code (return ∷ goto 1 ∷ []) none none ∷ []) 0
    ∷ falls (line (some 1) ∷ code (if_else (imm16 (pos 1)) 1 ∷ []) (some 0) none ∷ []) 0 ∷ falls (line (some 1) ∷ line (some 0) ∷ []) 0 ∷ []
    ≡ false ∷ true ∷ false ∷ false ∷ false ∷ false ∷ []
unfolding falls sweep links_of targets line
falls_cases = refl

-- ---- the order of the checks

-- 12 before 22 whatever the blocks and however many saves; none and 65 that fit are 22
pub order_cases : walk_checks not_code false (line (some 0) ∷ []) 0 65 ∷ walk_checks 0 false (line (some 0) ∷ []) 0 65 ∷ walk_checks 0 false (line none ∷ []) 0 1
    ∷ walk_checks 0 true (line none ∷ []) 0 65 ∷ walk_checks 0 true (line none ∷ []) 0 0 ∷ walk_checks 0 true (line none ∷ []) 0 64 ∷ walk_checks 0 true (line (some 0) ∷ []) 0 64 ∷ []
    ≡ not_code ∷ bad_save ∷ bad_save ∷ bad_walk ∷ bad_walk ∷ 0 ∷ bad_walk ∷ []
unfolding walk_checks falls sweep links_of targets line
order_cases = refl

-- ---- walks

pub counts : Walked → List ℕ
counts w = w.answer ∷ w.read ∷ map (λ (r : Ran). r.entered) w.runs

-- from the setup block to a data block: both are read, and the run is refused there
pub data_case : counts (walk_call sheet (counted (data_block ∷ line (some 0) ∷ [])) 1 (saved 0 (pos 1) 1 0 (pos 0) ∷ [])) ≡ 0 ∷ 2 ∷ 2 ∷ []
unfolding opened counts line walk_call walk_checks falls sweep links_of targets trail
data_case = refl

-- A.10: both lanes read the flag whose number is how many they hold of item 7: 2,048 stops its lane there with 23, 2,047 goes on to the Return
pub outside : Walked
outside = walk_call sheet (counted (code (return ∷ []) none none ∷ code (set_variable (imm16 (pos 1)) (one Flag (one Item (imm16 (pos 7)))) ∷ []) (some 0) none ∷ [])) 1 (saved 7 (pos 2048) 1 0 (pos 0) ∷ saved 7 (pos 2047) 1 0 (pos 0) ∷ [])

pub flag_case : map (λ (r : Ran). r.answer) outside.runs ∷ counts outside ∷ [] ≡ (no_flag ∷ 0 ∷ []) ∷ (0 ∷ 2 ∷ 1 ∷ 2 ∷ []) ∷ []
unfolding opened counts outside walk_call walk_checks falls sweep links_of targets trail
flag_case = refl

-- twenty slots of Timer5 with a requirement, and four saves: all 142 blocks are read, 62 by each run
pub fullest : Script
fullest = compiled sheet first (record { loader = Disc; setup = 0; shop = replicate 20 (slot_of 0 (pos 1) (haveFlag (pos 1) ∷ [])) })

pub four : List Save
four = saved 0 (pos 1) 1 0 (pos 0) ∷ saved 7 (pos 0) 1 0 (pos 0) ∷ saved 7 (pos 0) 1 1 (pos 0) ∷ saved 1 (pos 1) 1 1 (pos 0) ∷ []

full_passes : walk_refusal sheet fullest 0 four ≡ 0
unfolding opened fullest four walk_checks falls sweep links_of targets
full_passes = refl

full_lanes : counts (by_lanes fullest.blocks 0 four) ≡ 0 ∷ walk_blocks ∷ 62 ∷ 62 ∷ 62 ∷ 62 ∷ []
unfolding opened counts fullest four walk walk_all
full_lanes = refl

pub full_case : counts (walk_call sheet fullest 0 four) ≡ 0 ∷ walk_blocks ∷ 62 ∷ 62 ∷ 62 ∷ 62 ∷ []
full_case = ap counts (walk_call_lem sheet fullest 0 four full_passes) ∙ full_lanes
