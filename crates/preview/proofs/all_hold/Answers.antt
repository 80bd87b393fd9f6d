-- The entries are asked one by one. Assumes nothing.
use Rattle.std.proofs.Common.{arith, ◌<◌, ap, sym, ◌∙◌, length}
use Rattle.shop.specs.Shapes.{entries}
use Rattle.shop.specs.Slots.{entries_length}
use Rattle.shop.proofs.All.{start, more, stop, done}
use Rattle.checks.specs.Calls.{save_of}
use Rattle.shop_flags.specs.Entries.{entry_is}
use Rattle.preview.proofs.Codes.{all_held}
use Rattle.preview.proofs.all_hold.Invariants.{held}
use Rattle.preview.proofs.all_hold.Goals as goal

pub loop-i-init : goal.loop-i-init
loop-i-init c = λ t v. start _ _

pub loop-i-preserved : goal.loop-i-preserved
loop-i-preserved c = λ t v.
    let p = held c.args.items.now c.args.atcs.now c.args.flags.now t v in
    let i = c.loop-i.i in
    let b : i < c.args.len = omega arith in
    let l : i < length (entries c.args.len c.args.row.now) = omega (arith, entries_length c.args.len c.args.row.now) in
    more p (entries c.args.len c.args.row.now) i (c.loop-i.invariant t v) 0 l
    (ap p (entry_is c.args.len c.args.row.now i b ∙ sym c.entry_at.ensures) ∙ sym (c.if-not-holds.ensures t v))

pub returns-then-not-holds : goal.returns-then-not-holds
returns-then-not-holds c = λ t v.
    let p = held c.args.items.now c.args.atcs.now c.args.flags.now t v in
    let i = c.loop-i.i in
    let b : i < c.args.len = omega arith in
    let l : i < length (entries c.args.len c.args.row.now) = omega (arith, entries_length c.args.len c.args.row.now) in
    stop p (entries c.args.len c.args.row.now) i (c.loop-i.invariant t v) 0 l
    (ap p (entry_is c.args.len c.args.row.now i b ∙ sym c.entry_at.ensures) ∙ sym (c.if-not-holds.ensures t v))
    ∙ all_held (save_of c.args.items.now c.args.atcs.now c.args.flags.now t v) (entries c.args.len c.args.row.now)

pub returns : goal.returns
returns c = λ t v.
    done (held c.args.items.now c.args.atcs.now c.args.flags.now t v) (entries c.args.len c.args.row.now) c.loop-i.i (c.loop-i.invariant t v) (omega (arith, entries_length c.args.len c.args.row.now))
    ∙ all_held (save_of c.args.items.now c.args.atcs.now c.args.flags.now t v) (entries c.args.len c.args.row.now)
