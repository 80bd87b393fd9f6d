use Prim.Native.Nat.{◌<◌}
use native.Mathlib.Omega.{arith}
use lib.ListN.{length}
use Rattle.parse_filter.proofs.Sifting.{coding_start, coding_end, coding_on, coding_full}
use Rattle.parse_filter.proofs.companion_codes.Goals as goal

pub loop-i-init : goal.loop-i-init
loop-i-init c =
    coding_start c.args.keys.now c.args.companions.now c.args.alive.now c.args.n c.requires.held c.args.codes.now

pub bounds-alive-i : goal.bounds-alive-i
bounds-alive-i c =
    omega (arith, c.loop-i-test.true, c.requires.held)

pub offset_bounds-companions-from : goal.offset_bounds-companions-from
offset_bounds-companions-from c =
    let h : c.from.result < length c.args.companions.now = rw c.from.ensures (c.requires.entry c.loop-i.i c.loop-i-test.true) in
    omega arith

pub bounds-companions-from : goal.bounds-companions-from
bounds-companions-from c =
    rw c.from.ensures (c.requires.entry c.loop-i.i c.loop-i-test.true)

pub entry_code-requires : goal.entry_code-requires
entry_code-requires c =
    rw c.from.ensures (c.requires.key c.loop-i.i c.loop-i-test.true, c.requires.small c.loop-i.i c.loop-i-test.true)

pub insert_in-len-requires : goal.insert_in-len-requires
insert_in-len-requires c = c.loop-i.invariant.few

pub returns-then-len-gt-ENTRIES : goal.returns-then-len-gt-ENTRIES
returns-then-len-gt-ENTRIES c =
    coding_full _ _ _ _ c.requires.held _ c.loop-i.len c.loop-i.i c.loop-i.invariant c.loop-i-test.true _ (rw (← c.from.ensures) c.entry_code.ensures) _ _ c.insert_in-len.ensures c.if-len-gt-ENTRIES.true

pub loop-i-preserved : goal.loop-i-preserved
loop-i-preserved c =
    coding_on _ _ _ _ c.requires.held _ c.loop-i.len c.loop-i.i c.loop-i.invariant c.loop-i-test.true _ (rw (← c.from.ensures) c.entry_code.ensures) _ _ c.insert_in-len.ensures c.if-len-gt-ENTRIES.false

pub returns : goal.returns
returns c =
    coding_end _ _ _ _ c.requires.held _ c.loop-i.len c.loop-i.i c.loop-i.invariant c.loop-i-test.false
