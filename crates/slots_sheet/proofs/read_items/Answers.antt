-- The steps are laws of specs/.
use Rattle.std.proofs.lemmas.Result.{err_from_is_err_and}
use Rattle.model.specs.Limits.{fewest_items, most_items, most_atcs}
use Rattle.slots_sheet.specs.Told.{within}
use Rattle.slots_sheet.specs.Steps.{entry_read, entry_refused}
use Rattle.slots_sheet.specs.Whole.{items_no, atcs_count_no, atcs_refused, items_got, atcs_got, atcs_not}
use Rattle.slots_sheet.proofs.read_items.Goals as goal

pub returns-in_err-items : goal.returns-in_err-items
returns-in_err-items c =
    let p = err_from_is_err_and c.from_residual.result c.from_residual.ensures.1 in
    rw (p.1, p.2) (items_no _ _ (entry_refused c.args.s.now 0 (within fewest_items most_items) c.read_within.ensures c.in_err-items.was))

pub returns-in_err-atcs : goal.returns-in_err-atcs
returns-in_err-atcs c =
    let x = entry_read c.args.s.now 0 (within fewest_items most_items) c.read_within.ensures c.in_ok-items.was in
    let p = err_from_is_err_and c.from_residual-in_err-atcs.result c.from_residual-in_err-atcs.ensures.1 in
    rw (p.1, p.2) (atcs_count_no _ _ _ x _ (entry_refused c.args.s.now c.in_ok-items.after (within 0 most_atcs) c.read_within-2.ensures c.in_err-atcs.was))

pub returns-in_err-at : goal.returns-in_err-at
returns-in_err-at c =
    let x = entry_read c.args.s.now 0 (within fewest_items most_items) c.read_within.ensures c.in_ok-items.was in
    let y = entry_read c.args.s.now c.in_ok-items.after (within 0 most_atcs) c.read_within-2.ensures c.in_ok-atcs.was in
    let p = err_from_is_err_and c.from_residual-in_err-at.result c.from_residual-in_err-at.ensures.1 in
    rw (p.1, p.2) (atcs_refused _ _ _ x _ _ y _ (atcs_not _ c.args.attached.now _ _ _ _ c.read_atcs.ensures c.in_err-at.was))

pub returns : goal.returns
returns c =
    let x = entry_read c.args.s.now 0 (within fewest_items most_items) c.read_within.ensures c.in_ok-items.was in
    let y = entry_read c.args.s.now c.in_ok-items.after (within 0 most_atcs) c.read_within-2.ensures c.in_ok-atcs.was in
    items_got _ _ _ x _ _ y _ _ _ (atcs_got _ _ _ _ _ _ c.read_atcs.ensures c.in_ok-at.was)
