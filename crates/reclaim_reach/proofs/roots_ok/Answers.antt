-- So many at most, and each is one of the blocks.
use Rattle.std.proofs.Common.{◌≡◌, refl, ap, ◌∙◌, Bool, ◌&&◌, List, [], ◌∷◌, ltb, length, le-leb, rules, tests}
use Rattle.std.proofs.lemmas.Iterator.{YieldsList-from_slice}
use Rattle.std.proofs.lemmas.Iterator.Search.{all_from_yields_List}
use Rattle.std.specs.List.{list_all}
use Rattle.model.specs.Limits.{root_limit}
use Rattle.model.specs.Sheet.{all}
use Rattle.reclaim_reach.proofs.roots_ok.Goals as goal

all_same : {A : Type 0} (p : A → Bool) (xs : List A) → list_all p xs ≡ all p xs
all_same p [] = refl
all_same p (x ∷ xs) = ap (λ b. p x && b) (all_same p xs)

pub returns-then-roots-le-ROOTS : goal.returns-then-roots-le-ROOTS
returns-then-roots-le-ROOTS c =
    rw (le-leb (length c.args.roots.now) root_limit c.if-roots-le-ROOTS.true)
    (all_from_yields_List (λ r. ltb r c.args.blocks) _ _ _ c.all.ensures.ran (YieldsList-from_slice c.args.roots.now cc) (λ x b q k. search (rules, tests))
    ∙ all_same (λ r. ltb r c.args.blocks) c.args.roots.now)
