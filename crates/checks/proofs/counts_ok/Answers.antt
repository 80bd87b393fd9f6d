-- The test of each number is the definition's. Assumes nothing.
use Rattle.std.proofs.Common.{◌∙◌, rules, tests}
use Rattle.std.proofs.lemmas.Iterator.{YieldsList-from_slice}
use Rattle.std.proofs.lemmas.Iterator.Search.{all_from_yields_List}
use Rattle.model.specs.Sheet.{is_count}
use Rattle.shop.proofs.All.{all_same}
use Rattle.checks.proofs.counts_ok.Goals as goal

pub returns : goal.returns
returns c =
    all_from_yields_List is_count _ _ _ c.all.ensures.ran (YieldsList-from_slice c.args.items.now cc) (λ x b q k. search (rules, tests))
    ∙ all_same is_count c.args.items.now
