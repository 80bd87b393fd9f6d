-- `text::letter_of` meets its contract, kind by kind. Assumes nothing.
use Rattle.model.specs.Printer.{letter}
use Rattle.shop_codes.specs.Subjects.{of_rest}
use native.Mathlib.Omega.{arith}
use Prim.Native.Nat.{◌≤◌}
use Rattle.slots_text.proofs.letter_of.Statement.{statement}
use Rattle.slots_text.proofs.letter_of.Tie as tie

returns : tie.Need-returns-in-0
unfolding letter
returns c = λ z. rw c.in-0.is

returns-2 : tie.Need-returns-in-1
unfolding letter
returns-2 c = λ z. rw c.in-1.is

returns-3 : tie.Need-returns-in-2
unfolding letter
returns-3 c = λ z. rw c.in-2.is

returns-4 : tie.Need-returns-in-3
unfolding letter
returns-4 c = λ z. rw c.in-3.is

returns-5 : tie.Need-returns-in-4
unfolding letter
returns-5 c = λ z. rw c.in-4.is

returns-6 : tie.Need-returns-in-5
unfolding letter
returns-6 c = λ z. rw c.in-5.is

returns-7 : tie.Need-returns-in_default
unfolding letter
returns-7 c = λ z. let h : 6 ≤ c.args.kind = omega arith in rw (of_rest c.args.kind z h)

pub letter_of_spec : {M : Type 1} → statement M
letter_of_spec =
    tie.close (tie.spec
    returns
    returns-2
    returns-3
    returns-4
    returns-5
    returns-6
    returns-7)
