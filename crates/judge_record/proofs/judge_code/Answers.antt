-- Count, commands, next and else in turn. Assumes nothing.
use Rattle.std.proofs.Common.{arith}
use Rattle.std.proofs.lemmas.Result.{err_from_is_err_and}
use Rattle.memory.specs.View.{memory_of}
use Rattle.judge_terms.specs.Told.{limits_by}
use Rattle.judge_terms.specs.Pieces.{good_of}
use Rattle.judge_record.specs.Blocks.{code_over, code_no, code_link_no, code_told}
use Rattle.judge_record.proofs.judge_code.Goals as goal

pub returns-then-held-room : goal.returns-then-held-room
returns-then-held-room c = code_over (limits_by c.args.counts) (memory_of c.args.ws.now c.args.val.now c.args.cw.now c.args.bw.now c.args.counts) _ _ _ _ _ c.short_length-len.ensures (omega arith)

pub returns-in_err-k : goal.returns-in_err-k
returns-in_err-k c =
    let p = err_from_is_err_and c.from_residual.result c.from_residual.ensures.1 in
    rw (p.1, p.2) (code_no (limits_by c.args.counts) (memory_of c.args.ws.now c.args.val.now c.args.cw.now c.args.bw.now c.args.counts) _ _ _ _ _ c.short_length-len.ensures (omega arith) c.judge_commands.ensures c.in_err-k.was)

pub judge_links-requires : goal.judge_links-requires
judge_links-requires c =
    let g = good_of c.judge_commands.ensures c.in_ok-k.was in
    omega (arith, g.short, g.low, c.short_length-len.ensures.short, c.short_length-len.ensures.low)

pub returns-in_err-k-2 : goal.returns-in_err-k-2
returns-in_err-k-2 c =
    let p = err_from_is_err_and c.from_residual-in_err-k-2.result c.from_residual-in_err-k-2.ensures.1 in
    rw (p.1, p.2) (code_link_no (limits_by c.args.counts) (memory_of c.args.ws.now c.args.val.now c.args.cw.now c.args.bw.now c.args.counts) _ _ _ _ _ c.short_length-len.ensures (omega arith) c.judge_commands.ensures c.in_ok-k.was c.judge_links.ensures c.in_err-k-2.was)

pub returns : goal.returns
returns c = code_told (limits_by c.args.counts) (memory_of c.args.ws.now c.args.val.now c.args.cw.now c.args.bw.now c.args.counts) _ _ _ _ _ c.short_length-len.ensures (omega arith) c.judge_commands.ensures c.in_ok-k.was c.judge_links.ensures c.in_ok-k-2.was
