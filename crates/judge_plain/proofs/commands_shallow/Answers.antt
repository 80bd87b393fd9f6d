-- Of each command it is asked. Assumes nothing.
use Rattle.std.proofs.Common.{ℕ, List, ◌≡◌, ◌<◌, get_or, length, true, arith, rules}
use Rattle.std.proofs.lemmas.Iterator.{YieldsList-from_range, cases_from_all}
use Rattle.std.proofs.lemmas.List.FromFn.{length-range_with_len, get_or-range_with_len}
use Rattle.std.specs.List.{range_with_len}
use Rattle.judge_plain.specs.Counted.{LowCommand}
use Rattle.judge_plain.proofs.commands_shallow.Goals as goal

nth : (n k : ℕ) → k < n → get_or (range_with_len 0 n) k 0 ≡ k
nth n k l = omega (arith, get_or-range_with_len 0 n k 0 l)

pub returns-else-most-lt64 : goal.returns-else-most-lt64
returns-else-most-lt64 c = λ e h.
    let n = c.args.counts.commands in
    let m = cases_from_all _ _ c.all.result (LowCommand c.args.ws.now c.args.sizes.now c.args.cw.now c.args.counts) (λ x. Unit {0}) c.all.ensures.ran (YieldsList-from_range 0 n n (rw c.from.ensures) (omega arith)) (λ x q k. search rules) (λ x q k. tt) in
    let a = rw e at m in
    record { each = λ j l. rw (nth n j l) at (a j 0 (omega arith) (rw (length-range_with_len 0 n) l)) }
