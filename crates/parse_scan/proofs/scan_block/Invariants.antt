-- What the commands that are left do to the state is what all of them do to the first one.
use Rattle.std.proofs.Common.{◌≡◌, ℕ, ◌+◌, ◌-◌}
use Rattle.std.proofs.Math.Option.{Option}
use Rattle.model.specs.Expr.{Expr}
use Rattle.model.specs.Memory.{nodes_in, coded_in, commands_in}
use Rattle.model.specs.Parse.{scan}
use Rattle.parse_scan.specs.Block.{scan_of}
use Rattle.parse_scan.specs.LastIf.{last_if}
use Rattle.parse_scan.proofs.scan_block.Given as goal

abbrev pub invariant-loop-c : goal.invariant-loop-c
invariant-loop-c l = (l.s.last_if ≡ last_if l.cw (l.c - l.first) l.first)
    × ((n m : ℕ) (e : Option Expr) → scan e (commands_in (coded_in l.ws l.val l.cw n m) l.held l.first) (scan_of (nodes_in l.ws l.val n) e l.initial.s l.initial.ids l.initial.counts)
    ≡ scan e (commands_in (coded_in l.ws l.val l.cw n m) (l.first + l.held - l.c) l.c) (scan_of (nodes_in l.ws l.val n) e l.s l.ids l.counts))
