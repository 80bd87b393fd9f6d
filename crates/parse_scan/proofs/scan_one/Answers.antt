use Rattle.std.proofs.Common.{◌≡◌, ◌*◌, ◌∙◌, arith, get_or, to_z-of_z, w16}
use Rattle.parse_scan.specs.Block.{met_if, met_other_lem, met_set_other, met_set}
use Rattle.parse_scan.specs.LastIf.{last_met, last_kept}
use Rattle.parse_scan.proofs.scan_one.Goals as goal

pub returns-in-3 : goal.returns-in-3
returns-in-3 c = let a = c.args in
    let b = to_z-of_z {w = w16} {z = a.s.limit} (record { sfits = c.struct_told-1.given.1.1.0.1 }) in
    let e = rw c.from-i.ensures at c.in-3.is in
    rw c.from-i.ensures (record { is = λ n m o. met_if a.ws.now a.val.now a.cw.now n m o a.c a.s a.ids.now a.counts.now e _ b; last = last_met a.cw.now a.c a.s.last_if e })

pub returns-in-2 : goal.returns-in-2
returns-in-2 c = let a = c.args in
    let e = rw c.from-i.ensures at c.in-2.is in
    let z = rw c.from-i.ensures at c.if-cw-i-eq0.true in
    let s = rw c.from-i.ensures at c.evaluate_set.ensures in
    record {
      is = λ n m o. met_set a.ws.now a.val.now a.cw.now n m o a.c a.s a.ids.now a.counts.now e z _ _ _ (s.is n o);
      last = s.last ∙ last_kept a.cw.now a.c a.s.last_if (λ x. omega arith);
    }

pub returns-in_default : goal.returns-in_default
returns-in_default c = let a = c.args in
    let e = rw c.from-i.ensures at c.in-2.is in
    let z = rw c.from-i.ensures at c.if-cw-i-eq0.false in
    record { is = λ n m o. met_set_other a.ws.now a.val.now a.cw.now n m o a.c a.s a.ids.now a.counts.now e z; last = last_kept a.cw.now a.c a.s.last_if (λ x. omega arith) }

pub returns-in_default-2 : goal.returns-in_default-2
returns-in_default-2 c = let a = c.args in
    let t : get_or a.cw.now (4 * c.from-i.result) 0 ≡ 3 → ⊥ = λ e. omega arith in
    let u : get_or a.cw.now (4 * c.from-i.result) 0 ≡ 2 → ⊥ = λ e. omega arith in
    let t' = rw c.from-i.ensures at t in
    let u' = rw c.from-i.ensures at u in
    record { is = λ n m o. met_other_lem a.ws.now a.val.now a.cw.now n m o a.c a.s a.ids.now a.counts.now t' u'; last = last_kept a.cw.now a.c a.s.last_if t' }
