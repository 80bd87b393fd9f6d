-- What is counted and what is left are all. Assumes nothing.
use Rattle.std.proofs.Common.{arith, refl, Bool, true, false, ℕ, ◌+◌, ◌≡◌, ◌∙◌, ap, take, length-take-le}
use mir.Val.{bool_byte}
use Rattle.settings_model.specs.Closed.{bit}
use Rattle.settings.specs.Counting.{more_taken, end}
use Rattle.settings.proofs.count_subjects.Goals as goal

byte_is : (b : Bool) → bool_byte b ≡ bit b
byte_is true = refl
byte_is false = refl

pub loop-i-preserved : goal.loop-i-preserved
loop-i-preserved c =
    let z = length-take-le c.args.len c.args.row.now (omega arith) in
    more_taken c.args.one c.args.own c.args.row.now c.args.len z c.loop-i.i c.loop-i.n c.loop-i.invariant c.loop-i-test.true _
    (ap (λ (k : ℕ). c.loop-i.n + k) (c.from-n.ensures ∙ byte_is c.is_new.result ∙ ap bit (rw c.from.ensures at c.is_new.ensures)))

pub returns : goal.returns
returns c =
    let z = length-take-le c.args.len c.args.row.now (omega arith) in
    (end c.args.one c.args.own (take c.args.len c.args.row.now) c.loop-i.i c.loop-i.n c.loop-i.invariant (omega arith), omega (arith, c.loop-i.invariant.few))
