use Rattle.std.proofs.Common.{◌≡◌, true, false, Result, Ok, Err, is_err, refl, sym, ap, ◌∙◌, arith}
use Rattle.std.proofs.lemmas.Result.{err_from_is_err_and}
use Rattle.model.specs.Refusals.{refusal_in}
use Rattle.model.specs.declared.Refusal.{Refusal}
use Rattle.memory.specs.View.{memory_of}
use Rattle.shop.specs.Shapes.{sheet_of}
use Rattle.shop_arrays.specs.Arrays.{arrays_in, shop_from}
use Rattle.shop_arrays.specs.Slots.{shop_none}
use Rattle.model.specs.Refusals.{refuses}
use Rattle.checks.specs.Passed.{call_passed, items_low}
use Rattle.parse.specs.Checked.{parse_refused, parse_stopped, parse_read, items_counted, atcs_counted}
use Rattle.parse.proofs.parse_arrays.Goals as goal

refused : {A : Type 0} (o : Result A Refusal) → is_err o ≡ true → refusal_in o ≡ 0 → ⊥
refused (Ok x) e z = cc
refused (Err r) e z = refuses r z

answered : {A : Type 0} (o : Result A Refusal) → is_err o ≡ false → refusal_in o ≡ 0
answered (Ok x) e = refl
answered (Err r) e = cc

pub returns-in_err-check_call : goal.returns-in_err-check_call
returns-in_err-check_call c =
    let h = sheet_of c.args.attached.now c.args.sheet in
    let m = memory_of c.args.ws.now c.args.val.now c.args.cw.now c.args.bw.now c.args.counts in
    let p = err_from_is_err_and c.from_residual.result c.from_residual.ensures.1 in
    let n : refusal_in c.check_call.result ≡ 0 → ⊥ = λ z. refuses _ (rw c.in_err-check_call.was at z) in
    let x = c.clear_arrays.new in
    rw (p.1, p.2) (rw c.in_err-check_call.was at (parse_refused h m c.args.setup.0 _ c.check_call.ensures n (arrays_in x.items x.limits x.codes x.lens) c.clear_arrays.ensures))

pub overflow_cast-known : goal.overflow_cast-known
overflow_cast-known c =
    let h = sheet_of c.args.attached.now c.args.sheet in
    let m = memory_of c.args.ws.now c.args.val.now c.args.cw.now c.args.bw.now c.args.counts in
    let z : refusal_in c.check_call.result ≡ 0 = rw c.in_ok-check_call.was in
    let passes = sym c.check_call.ensures ∙ z in
    record { fits = omega (arith, items_low c.args.attached.now c.args.sheet m c.args.setup.0 passes) }

pub walk-outcome-requires-clause-accepted : goal.walk-outcome-requires-clause-accepted
walk-outcome-requires-clause-accepted c =
    let h = sheet_of c.args.attached.now c.args.sheet in
    let m = memory_of c.args.ws.now c.args.val.now c.args.cw.now c.args.bw.now c.args.counts in
    let z : refusal_in c.check_call.result ≡ 0 = rw c.in_ok-check_call.was in
    let passes = sym c.check_call.ensures ∙ z in
    let p = call_passed h m c.args.setup.0 passes in
    let x = c.clear_arrays.new in
    (record { blocks = p.blocks; rest = p.rest; is = p.judged }, ap shop_from {x = arrays_in x.items x.limits x.codes x.lens} c.clear_arrays.ensures ∙ shop_none)

pub walk-outcome-requires-clause-setup_lt_blocks : goal.walk-outcome-requires-clause-setup_lt_blocks
walk-outcome-requires-clause-setup_lt_blocks c =
    let h = sheet_of c.args.attached.now c.args.sheet in
    let m = memory_of c.args.ws.now c.args.val.now c.args.cw.now c.args.bw.now c.args.counts in
    let z : refusal_in c.check_call.result ≡ 0 = rw c.in_ok-check_call.was in
    let passes = sym c.check_call.ensures ∙ z in
    (call_passed h m c.args.setup.0 passes).inside

pub returns-then-is_err : goal.returns-then-is_err
returns-then-is_err c =
    let h = sheet_of c.args.attached.now c.args.sheet in
    let m = memory_of c.args.ws.now c.args.val.now c.args.cw.now c.args.bw.now c.args.counts in
    let z : refusal_in c.check_call.result ≡ 0 = rw c.in_ok-check_call.was in
    let passes = sym c.check_call.ensures ∙ z in
    let w = c.walk-outcome.ensures h (record { items = items_counted c.args.attached.now c.args.sheet; atcs = atcs_counted c.args.attached.now c.args.sheet }) in
    let x = c.clear_arrays-then-is_err.new in
    parse_stopped h m c.args.setup.0 _ passes w.answer (refused _ (sym c.is_err.ensures.value ∙ c.if-is_err.true)) (arrays_in x.items x.limits x.codes x.lens) c.clear_arrays-then-is_err.ensures

pub returns-else-is_err : goal.returns-else-is_err
returns-else-is_err c =
    let h = sheet_of c.args.attached.now c.args.sheet in
    let m = memory_of c.args.ws.now c.args.val.now c.args.cw.now c.args.bw.now c.args.counts in
    let z : refusal_in c.check_call.result ≡ 0 = rw c.in_ok-check_call.was in
    let passes = sym c.check_call.ensures ∙ z in
    let w = c.walk-outcome.ensures h (record { items = items_counted c.args.attached.now c.args.sheet; atcs = atcs_counted c.args.attached.now c.args.sheet }) in
    let o = answered _ (sym c.is_err.ensures.value ∙ c.if-is_err.false) in
    let x = c.walk-outcome.new in
    parse_read h m c.args.setup.0 _ (arrays_in x.items x.limits x.codes x.lens) passes w.answer o (w.slots o) (record { items = omega arith; limits = omega arith; codes = omega arith; lens = omega arith }) (w.good o)
