use Rattle.std.proofs.Common.{Some, None, [], refl, sym, ap, ◌∙◌, arith}
use borrow.Author.Tests.{not-true}
use Rattle.parse_conditions.specs.Gathered.{toggles}
use Rattle.parse_conditions.proofs.Reading.{read_out, join_full, read_join, read_single, through}
use Rattle.parse_conditions.proofs.+read_condition.Goals as goal

pub returns-then-o : goal.returns-then-o
returns-then-o t c =
    let o = c.under_nots-o.result in
    (through c.args.ws.now c.args.val.now c.args.b c.args.i c.args.neg o.b o.i o.neg (c.under_nots-o.ensures.same c.args.val.now)
    c.args.known c.args.r c.args.keys.now c.args.list.now c.args.keys.now c.args.kids.now c.args.companions.now c.args.list.now (Some c.args.r)
    (read_out c.args.ws.now c.args.val.now c.args.known o.b o.i o.neg c.args.r _ _ _ _ c.requires.1 c.if-o.true))

pub returns-in_err-mid : goal.returns-in_err-mid
returns-in_err-mid t c =
    let o = c.under_nots-o.result in
    rw c.from_residual.ensures
    (through c.args.ws.now c.args.val.now c.args.b c.args.i c.args.neg o.b o.i o.neg (c.under_nots-o.ensures.same c.args.val.now)
    c.args.known c.args.r c.args.keys.now c.args.list.now c.read_condition.new.keys c.read_condition.new.kids c.read_condition.new.companions c.read_condition.new.list None
    (join_full c.args.ws.now c.args.val.now c.args.known o.b o.i o.neg c.args.r _ _
    c.if-o.false _ c.kind_of.ensures (sym c.is_join.ensures ∙ c.if-is_join.true) _ _ c.from-l.ensures refl [] [] [] [] c.in_err-mid.ensures))

pub returns-then-is_join : goal.returns-then-is_join
returns-then-is_join t c =
    let o = c.under_nots-o.result in
    (through c.args.ws.now c.args.val.now c.args.b c.args.i c.args.neg o.b o.i o.neg (c.under_nots-o.ensures.same c.args.val.now)
    c.args.known c.args.r c.args.keys.now c.args.list.now c.read_condition-then-is_join.new.keys c.read_condition-then-is_join.new.kids c.read_condition-then-is_join.new.companions c.read_condition-then-is_join.new.list c.read_condition-then-is_join.result
    (read_join c.args.ws.now c.args.val.now c.args.known o.b o.i o.neg c.args.r _ _
    c.if-o.false _ c.kind_of.ensures (sym c.is_join.ensures ∙ c.if-is_join.true) _ _ c.from-l.ensures c.from-q.ensures _ _ _ _ _
    c.in_ok-mid.ensures _ _ _ _ _ c.read_condition-then-is_join.ensures))

pub returns : goal.returns
returns t c =
    let o = c.under_nots-o.result in
    (through c.args.ws.now c.args.val.now c.args.b c.args.i c.args.neg o.b o.i o.neg (c.under_nots-o.ensures.same c.args.val.now)
    c.args.known c.args.r c.args.keys.now c.args.list.now c.read_leaf.new.keys c.read_leaf.new.kids c.read_leaf.new.companions c.read_leaf.new.list c.read_leaf.result
    (read_single c.args.ws.now c.args.val.now c.args.known o.b o.i o.neg c.args.r _ _
    c.if-o.false _ c.kind_of.ensures (sym c.is_join.ensures ∙ c.if-is_join.false) (ap toggles c.kind_of.ensures ∙ not-true _ (c.under_nots-o.ensures.stripped (omega arith))) _ _ _ _ _
    c.read_leaf.ensures))
