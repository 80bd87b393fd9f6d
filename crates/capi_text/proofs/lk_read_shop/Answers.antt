-- The shop, or the reason.
use Rattle.text_model.specs.Text.{read_text}
use Rattle.capi_text.specs.Arrays.{read_refused, read_taken}
use Rattle.capi_text.proofs.lk_read_shop.Goals as goal

pub returns-in-Ok : goal.returns-in-Ok
returns-in-Ok c = read_taken (read_text c.args.text.now) c.in-Ok.shop _ _ c.in-Ok.ensures c.put_shop.ensures

pub returns-in-Err : goal.returns-in-Err
returns-in-Err c = rw c.number.ensures (read_refused (read_text c.args.text.now) c.in-Err.bad _ c.in-Err.ensures)
