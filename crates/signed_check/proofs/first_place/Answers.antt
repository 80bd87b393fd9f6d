-- The codes are asked one by one. Assumes nothing.
use Rattle.std.proofs.Common.{arith, ap, sym, ◌∙◌, take, get_or-take, length-take-le}
use Rattle.signed_check.specs.Answer.{reason_number}
use Rattle.signed_check.specs.Codes.{concerns_code, passed_found, passed_more, passed_none, passed_start, place_code}
use Rattle.signed_check.proofs.first_place.Goals as goal

pub loop-i-init : goal.loop-i-init
loop-i-init c = passed_start _ _

pub loop-i-preserved : goal.loop-i-preserved
loop-i-preserved c =
    let cs = take c.args.n c.args.row.now in
    let p = concerns_code (reason_number c.args.reason) c.args.own cs in
    let z = length-take-le c.args.n c.args.row.now (omega arith) in
    let e = get_or-take c.args.n c.args.row.now c.loop-i.i 0 c.loop-i-test.true in
    passed_more p cs c.loop-i.i c.loop-i.invariant (omega arith) (ap p e ∙ sym (rw c.from.ensures at c.if-concerns.ensures))

pub returns-then-concerns : goal.returns-then-concerns
unfolding place_code
returns-then-concerns c =
    let cs = take c.args.n c.args.row.now in
    let p = concerns_code (reason_number c.args.reason) c.args.own cs in
    let z = length-take-le c.args.n c.args.row.now (omega arith) in
    let e = get_or-take c.args.n c.args.row.now c.loop-i.i 0 c.loop-i-test.true in
    passed_found p cs c.loop-i.i c.loop-i.invariant (omega arith) (ap p e ∙ sym (rw c.from.ensures at c.if-concerns.ensures))

pub returns : goal.returns
unfolding place_code
returns c =
    let cs = take c.args.n c.args.row.now in
    let z = length-take-le c.args.n c.args.row.now (omega arith) in
    passed_none (concerns_code (reason_number c.args.reason) c.args.own cs) cs c.loop-i.i c.loop-i.invariant (omega arith)
