-- What the loader of a compile asks (02, A.6): the disc no more than 9 does, the demo blocks and commands; and an accepted compile leaves what its loader loads. Assumes nothing.
use Rattle.std.specs.Prelude.{◌≡◌, refl, Bool, true, false, ◌&&◌, List, [], ◌∷◌, ◌++◌, ◌+◌, ◌≤◌, leb, length}
use Rattle.std.proofs.Common.{◌∙◌, arith, length-set, length-append, le-leb}
use Rattle.std.proofs.Math.Bool.{and-true}
use Rattle.model.specs.declared.Loader.TheVariants.{Disc}
use Rattle.model.specs.Limits.{node_limit, demo_blocks, demo_commands}
use Rattle.model.specs.Refusal.{check, first_of, no_room, demo_full}
use Rattle.model.specs.Sheet.{Sheet}
use Rattle.model.specs.Shop.{with_slots}
use Rattle.model.specs.Script.{Block, Script, sum_of, block_commands, block_nodes}
use Rattle.model.specs.Image.{Limits}
use Rattle.model.specs.Judge.{script_refusal}
use Rattle.model.specs.Compile.{Call, compile_refusal, appended, fresh_blocks, root_of, redirect, disc_limits, demo_limits, limits_of, has_room, room_refusal}
use Rattle.model.proofs.Laws.Checks.{compile_passed}
use Rattle.model.proofs.Laws.Judged.{room_low}

-- the disc is answered by 9 alone, as document 01 has it
pub disc_room : (sc : Script) (xs : List Block) → room_refusal Disc sc xs ≡ check (has_room disc_limits sc xs) no_room
unfolding room_refusal
disc_room sc xs = by (has_room disc_limits sc xs)
  where
    by : (b : Bool) → first_of (check b no_room ∷ check b demo_full ∷ []) ≡ check b no_room
    by true = refl
    by false = refl

-- where 9 passes, the demo asks no nodes
pub demo_room : (sc : Script) (xs : List Block) → has_room disc_limits sc xs ≡ true
    → has_room demo_limits sc xs ≡ leb (length sc.blocks + length xs) demo_blocks && leb (sc.commands + sum_of block_commands xs) demo_commands
unfolding has_room
demo_room sc xs p =
    let c : Bool = leb (sc.commands + sum_of block_commands xs) demo_commands in
    rw (le-leb (sc.nodes + sum_of block_nodes xs) node_limit (room_low disc_limits sc xs p).nodes, and-true c) refl

-- the counts of a script pass no limit of l
pub record Loads (l : Limits) (sc : Script) : Type 0 where
  pub blocks : length sc.blocks ≤ l.blocks
  pub commands : sc.commands ≤ l.commands
  pub nodes : sc.nodes ≤ l.nodes

pub kept_loads : (h : Sheet) (sc : Script) (c : Call) → compile_refusal h sc c ≡ 0 → Loads (limits_of c.loader) (appended h sc c)
unfolding appended
kept_loads h sc c e =
    let xs = fresh_blocks h sc c in
    let r = room_low (limits_of c.loader) sc xs (compile_passed h (script_refusal sc) 0 sc c e).loads in
    let n = length-set (sc.blocks ++ xs) c.setup (redirect (root_of h (length sc.blocks) 0 (with_slots c.shop))) ∙ length-append sc.blocks xs in
    record { blocks = omega (arith, n, r.blocks); commands = r.commands; nodes = r.nodes }
