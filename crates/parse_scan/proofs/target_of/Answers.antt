use Rattle.std.proofs.Common.{arith, nat_abs, of_z, to_z, w32}
use mir.Val.{SFits}
use Rattle.parse_scan.specs.Reads.{target_is_lem, target_fits, place_first, place_low, place_item, place_count, place_high}
use Rattle.parse_scan.proofs.target_of.Goals as goal

pub returns-in-0 : goal.returns-in-0
returns-in-0 c =
    let f : SFits w32 c.in-Some.z = record { sfits = c.in-Some.known_told-1-own.given.0.1 } in
    target_is_lem _ c.in-Some.z _ c.in-Some.is f c.if-z-lt0.false (omega (arith, target_fits c.in-Some.z f)) (place_first (nat_abs (to_z w32 (of_z w32 c.in-Some.z))) c.in-0.is)

pub returns-in-600-to-619 : goal.returns-in-600-to-619
returns-in-600-to-619 c =
    let f : SFits w32 c.in-Some.z = record { sfits = c.in-Some.known_told-1-own.given.0.1 } in
    target_is_lem _ c.in-Some.z _ c.in-Some.is f c.if-z-lt0.false (omega (arith, target_fits c.in-Some.z f)) (place_item (nat_abs (to_z w32 (of_z w32 c.in-Some.z))) (omega arith) (omega arith))

pub returns-in-620-to-639 : goal.returns-in-620-to-639
returns-in-620-to-639 c =
    let f : SFits w32 c.in-Some.z = record { sfits = c.in-Some.known_told-1-own.given.0.1 } in
    target_is_lem _ c.in-Some.z _ c.in-Some.is f c.if-z-lt0.false (omega (arith, target_fits c.in-Some.z f)) (place_count (nat_abs (to_z w32 (of_z w32 c.in-Some.z))) (omega arith) (omega arith))

pub returns-in_default-n : goal.returns-in_default-n
returns-in_default-n c =
    let f : SFits w32 c.in-Some.z = record { sfits = c.in-Some.known_told-1-own.given.0.1 } in
    target_is_lem _ c.in-Some.z _ c.in-Some.is f c.if-z-lt0.false (omega (arith, target_fits c.in-Some.z f)) (place_low (nat_abs (to_z w32 (of_z w32 c.in-Some.z))) (omega arith) (omega arith))

pub returns-in_default-n-2 : goal.returns-in_default-n-2
returns-in_default-n-2 c =
    let f : SFits w32 c.in-Some.z = record { sfits = c.in-Some.known_told-1-own.given.0.1 } in
    target_is_lem _ c.in-Some.z _ c.in-Some.is f c.if-z-lt0.false (omega (arith, target_fits c.in-Some.z f)) (place_high (nat_abs (to_z w32 (of_z w32 c.in-Some.z))) (omega arith))
