-- The entries are the codes at their numbers. Assumes nothing.
use Rattle.std.proofs.Common.{◌≡◌, refl, sym, ap, ◌∙◌, Bool, ℕ, List, map, get_or, arith, rules, tests}
use Rattle.std.proofs.lemmas.Iterator.{YieldsList-from_range}
use Rattle.std.proofs.lemmas.Iterator.Search.{all_from_yields_List}
use Rattle.std.proofs.lemmas.List.Folds.{list_all-map}
use Rattle.std.proofs.lemmas.List.FromFn.{fill_by_all}
use Rattle.std.specs.List.{list_all, range_with_len}
use Rattle.model.specs.Flags.{req_inside}
use Rattle.model.specs.Sheet.{all}
use Rattle.shop_codes.specs.Codes.{requirement_of}
use Rattle.shop.specs.Shapes.{entries}
use Rattle.shop.specs.Slots.{entries_length}
use Rattle.shop.proofs.All.{all_same, all_map}
use Rattle.shop_flags.specs.Entries.{entry_is}
use Rattle.shop_flags.proofs.all_inside.Goals as goal

abbrev inside : ℕ → Bool
inside k = req_inside (requirement_of k)

by_number : (n : ℕ) (cs : List ℕ) → list_all (λ i. inside (get_or cs i 0)) (range_with_len 0 n) ≡ all req_inside (map requirement_of (entries n cs))
by_number n cs =
    sym (list_all-map inside (λ i. get_or cs i 0) (range_with_len 0 n))
    ∙ ap (list_all inside) (sym (fill_by_all (λ i. get_or cs i 0) (entries n cs) n 0 (entries_length n cs) (entry_is n cs)))
    ∙ all_same inside (entries n cs)
    ∙ sym (all_map req_inside requirement_of (entries n cs))

pub returns : goal.returns
returns c =
    all_from_yields_List (λ i. inside (get_or c.args.row.now i 0)) _ _ _ c.all.ensures.ran (YieldsList-from_range 0 c.from.result c.args.len refl (omega arith)) (λ x b q k. search (rules, tests))
    ∙ by_number c.args.len c.args.row.now
