-- `text::put_decimal` meets its contract, ten digits being enough. Assumes nothing.
use Rattle.model.specs.Printer.{decimal}
use Rattle.slots_text.proofs.put_decimal.Statement.{statement}
use Rattle.slots_text.proofs.put_decimal.Tie as tie

put-digits-requires : tie.Need-put_digits-requires
unfolding decimal
put-digits-requires c κs = c.requires

returns : tie.Need-returns
unfolding decimal
returns c = c.put_digits.ensures

pub put_decimal_spec : {M : Type 1} → statement M
put_decimal_spec = tie.close (tie.spec
    put-digits-requires
    returns)
