-- By the places found. Assumes nothing.
use Rattle.std.proofs.Common.{take}
use Rattle.signed_check.specs.Codes.{verdict_any, verdict_outside, verdict_own, verdict_own_none, verdict_pair}
use Rattle.signed_check.proofs.verdict_of.Goals as goal

pub returns-in-Some : goal.returns-in-Some
returns-in-Some c = verdict_outside c.args.one c.args.own (take c.args.n c.args.row.now) _ c.in-Some.ensures

pub returns-in-Some-first_place : goal.returns-in-Some-first_place
returns-in-Some-first_place c = verdict_pair c.args.one c.args.own (take c.args.n c.args.row.now) c.in_default.ensures _ c.in-Some-first_place.ensures

pub returns-in-Some-first_place-2 : goal.returns-in-Some-first_place-2
returns-in-Some-first_place-2 c = verdict_own c.args.one c.args.own (take c.args.n c.args.row.now) c.in_default.ensures c.in_default-first_place.ensures c.if-one.true _ c.in-Some-first_place-2.ensures

pub returns-in_default-first_place-2 : goal.returns-in_default-first_place-2
returns-in_default-first_place-2 c = verdict_own_none c.args.one c.args.own (take c.args.n c.args.row.now) c.in_default.ensures c.in_default-first_place.ensures c.if-one.true c.in_default-first_place-2.ensures

pub returns-else-one : goal.returns-else-one
returns-else-one c = verdict_any c.args.one c.args.own (take c.args.n c.args.row.now) c.in_default.ensures c.in_default-first_place.ensures c.if-one.false
