-- The test of each code is the definition's. Assumes nothing.
use Rattle.std.proofs.Common.{◌∙◌, not, eqb, take, rules, tests}
use Rattle.std.proofs.lemmas.Iterator.{YieldsList-from_slice}
use Rattle.std.proofs.lemmas.Iterator.Search.{all_from_yields_List}
use Rattle.settings.specs.Codes.{all_same, lacks_code}
use Rattle.settings.proofs.lacks.Goals as goal

pub returns : goal.returns
unfolding lacks_code
returns c =
    all_from_yields_List (λ y. not (eqb c.args.x y)) _ _ _ c.all.ensures.ran (YieldsList-from_slice (take c.args.n c.args.row.now) (cc)) (λ x b q k. search (rules, tests))
    ∙ all_same (λ y. not (eqb c.args.x y)) (take c.args.n c.args.row.now)
