use Prim.Native.Nat.{◌<◌}
use native.Mathlib.Omega.{arith}
use Rattle.parse_keys.specs.Search.{seek_start, seek_free, seek_on, seek_up, seek_low}
use Rattle.parse_keys.proofs.find.Goals as goal

pub loop-m-init : goal.loop-m-init
loop-m-init c = seek_start _ _ _ _ c.requires.1

pub bounds-kids-link : goal.bounds-kids-link
bounds-kids-link c = omega (arith, c.loop-m.invariant.most, c.requires.0.1)

pub returns-then-c-eq0 : goal.returns-then-c-eq0
returns-then-c-eq0 c = seek_free _ _ _ _ c.requires.1 c.loop-m.at c.loop-m.bits c.loop-m.invariant _ c.from-c.ensures c.if-c-eq0.true

pub offset_bounds-keys-c : goal.offset_bounds-keys-c
offset_bounds-keys-c c = omega (arith, seek_low _ _ _ _ c.requires.1 c.loop-m.at c.loop-m.bits c.loop-m.invariant _ c.from-c.ensures)

pub bounds-keys-c : goal.bounds-keys-c
bounds-keys-c c = omega (arith, seek_low _ _ _ _ c.requires.1 c.loop-m.at c.loop-m.bits c.loop-m.invariant _ c.from-c.ensures, c.requires.1.keys.long)

pub returns-then-keys-c : goal.returns-then-keys-c
returns-then-keys-c c = let i : 0 < c.from-c.result = omega arith in record { some = i; most = seek_low _ _ _ _ c.requires.1 c.loop-m.at c.loop-m.bits c.loop-m.invariant _ c.from-c.ensures; code = c.if-keys-c.true }

pub loop-m-smaller : goal.loop-m-smaller
loop-m-smaller c = omega (arith, seek_up _ _ _ _ c.requires.1 c.loop-m.at c.loop-m.bits c.loop-m.invariant _ c.from-c.ensures (omega arith), seek_low _ _ _ _ c.requires.1 c.loop-m.at c.loop-m.bits c.loop-m.invariant _ c.from-c.ensures)

pub loop-m-preserved : goal.loop-m-preserved
loop-m-preserved c = seek_on _ _ _ _ c.requires.1 c.loop-m.at c.loop-m.bits c.loop-m.invariant _ c.from-c.ensures (omega arith) c.if-keys-c.false
