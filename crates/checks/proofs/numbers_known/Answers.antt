-- Assumes nothing.
use Rattle.std.proofs.Common.{◌∙◌, get_or, rules, sym, take_all}
use Rattle.std.specs.Prelude.{pos}
use Rattle.std.specs.Int.{w32}
use Rattle.std.proofs.lemmas.List.Folds.{list_all_more}
use borrow.Author.Tests.{lt-ltb}
use mir.Val.{SFits}
use Rattle.model.specs.Signed.{in_range}
use Rattle.shop.proofs.All.{all_same}
use Rattle.checks.proofs.numbers_known.Goals as goal

pub loop-x-preserved : goal.loop-x-preserved
loop-x-preserved c =
    let f : SFits w32 (get_or c.args.list.now c.loop-x._x-index (pos 0)) = record { sfits = search rules } in
    list_all_more (in_range w32) c.args.list.now c.loop-x._x-index (pos 0) c.loop-x-test.true ∙ rw (c.loop-x.invariant, lt-ltb _ _ f.sfits)

pub returns : goal.returns
returns c = sym (all_same (in_range w32) c.args.list.now) ∙ (rw (take_all _ _ c.loop-x-test.false) at c.loop-x.invariant)
