-- `text::put_requirement` meets its contract: a blank, the letter and the number. Assumes nothing.
use mathlib.Core.Path.{ap, sym, ◌∙◌}
use Prim.Native.Nat.{◌%◌}
use mir.Syntax.{w32}
use mir.Facts.{to_z-of_z}
use Rattle.model.specs.Limits.{wide}
use Rattle.model.specs.Printer.{signed_decimal}
use Rattle.shop_codes.specs.Codes.{unshift}
use Rattle.slots_text.specs.Written.{part_byte, part_byte_is, part_as, part_end, last_space}
use Rattle.slots_text.specs.Lines.{requirement_start}
use borrow.Author.Rules.{rules}
use Rattle.slots_text.proofs.put_requirement.Statement.{statement}
use Rattle.slots_text.proofs.put_requirement.Tie as tie

put-signed-requires : tie.Need-put_signed-requires
put-signed-requires c κs = let s = c.before.before.before.before.before.before.before.before in let l = rw c.kind_of.ensures at (c.letter_of.ensures (unshift (s.args.code % wide))) in let e = to_z-of_z {w = w32} (record { sfits = c.number_of.type_inv }) ∙ c.number_of.ensures in let p = part_byte_is l (part_byte (requirement_start s.args.code) c.put_byte-p.ensures) c.put_byte-q.ensures in last_space s.requires (part_as (ap signed_decimal (sym e)) p)

returns : tie.Need-returns
returns c = let s = c.before.before.before.before.before.before.before.before.before in let l = rw c.kind_of.ensures at (c.letter_of.ensures (unshift (s.args.code % wide))) in let e = to_z-of_z {w = w32} (record { sfits = c.number_of.type_inv }) ∙ c.number_of.ensures in let p = part_byte_is l (part_byte (requirement_start s.args.code) c.put_byte-p.ensures) c.put_byte-q.ensures in part_end (part_as (ap signed_decimal (sym e)) p) c.put_signed.ensures

pub put_requirement_spec : {M : Type 1} → statement M
put_requirement_spec =
    tie.close
    (tie.spec
    (λ c κs. search rules)
    (λ c κs. search rules)
    (λ c κs. search rules)
    (λ c κs. search rules)
    (λ c κs. search rules)
    put-signed-requires
    returns)
