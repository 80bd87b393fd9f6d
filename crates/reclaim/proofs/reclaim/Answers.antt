-- The checks answer in their order, then the survivors are kept.
use Rattle.std.proofs.Common.{sym, ◌∙◌}
use Rattle.std.proofs.lemmas.Result.{err_from_is_err_and}
use Rattle.memory.specs.View.{memory_of}
use Rattle.model.specs.Refusals.{refuses}
use Rattle.reclaim.specs.Laws.{answer_roots, answer_judged, answer_kept, kept_born}
use Rattle.reclaim.proofs.reclaim.Goals as goal

pub returns-then-not-roots_ok : goal.returns-then-not-roots_ok
returns-then-not-roots_ok c = λ n. answer_roots _ _ _ (sym c.roots_ok.ensures ∙ c.if-not-roots_ok.true)

pub returns-in_err-check_record : goal.returns-in_err-check_record
returns-in_err-check_record c = λ n.
    let p = err_from_is_err_and c.from_residual.result c.from_residual.ensures.1 in
    rw (p.1, p.2) (answer_judged _ _ _ (sym c.roots_ok.ensures ∙ c.if-not-roots_ok.false) _ c.in_err-check_record.ensures (refuses c.in_err-check_record.field-0.0))

pub returns : goal.returns
returns c = λ n.
    let k = c.keep_survivors.ensures in
    answer_kept _ _ _ (sym c.roots_ok.ensures ∙ c.if-not-roots_ok.false) (sym c.in_ok-check_record.ensures) _ _
    (kept_born _ _ _ _ c.args.counts _ c.args.roots.now (memory_of c.keep_survivors.new.ws c.keep_survivors.new.val c.keep_survivors.new.cw c.keep_survivors.new.bw c.keep_survivors.result) _ _ k n) k.tells
