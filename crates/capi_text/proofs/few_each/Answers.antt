-- The test of each length is the definition's.
use Rattle.std.proofs.Common.{◌∙◌, rules, tests}
use Rattle.std.proofs.lemmas.Iterator.{YieldsList-from_slice}
use Rattle.std.proofs.lemmas.Iterator.Search.{all_from_yields_List}
use Rattle.shop.proofs.All.{all_same}
use Rattle.capi_text.specs.Calls.{few}
use Rattle.capi_text.proofs.few_each.Goals as goal

pub returns : goal.returns
returns c =
    all_from_yields_List few _ _ _ c.all.ensures.ran (YieldsList-from_slice c.args.lens.now cc) (λ x b q k. search (rules, tests))
    ∙ all_same few c.args.lens.now
