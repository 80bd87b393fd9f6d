use Rattle.std.proofs.lemmas.Result.{err_from_is_err_and}
use Rattle.parse.specs.Answer.{answer_of}
use Rattle.parse.proofs.parse.Goals as goal

pub returns-in_err-parse_arrays : goal.returns-in_err-parse_arrays
unfolding answer_of
returns-in_err-parse_arrays c =
    let p = err_from_is_err_and c.from_residual.result c.from_residual.ensures.1 in
    let e = c.parse_arrays.ensures.refusal in
    rw (p.1, p.2) (record { refusal = rw c.in_err-parse_arrays.was at e; shop = tt })

pub returns : goal.returns
unfolding answer_of
returns c =
    let e = c.parse_arrays.ensures.refusal in
    let s = rw c.in_ok-parse_arrays.was at c.parse_arrays.ensures.stands in
    record { refusal = rw c.in_ok-parse_arrays.was at e; shop = rw c.shop_from.ensures s }
