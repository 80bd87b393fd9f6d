-- The kinds that have to be missing, and every other.
use Rattle.std.proofs.Common.{sym, inl, inr, arith}
use Rattle.shop_codes.specs.Subjects.{missing_kind, not_missing}
use Rattle.shop_codes.proofs.is_missing.Goals as goal

pub returns-in-1 : goal.returns-in-1
returns-in-1 c = elim c.in-1.is [
  | inl e ↦ sym (missing_kind c.args.code 1 e)
  | inr r ↦ elim r [ inl e ↦ sym (missing_kind c.args.code 3 e) | inr e ↦ sym (missing_kind c.args.code 5 e) ]
]

pub returns-in_default : goal.returns-in_default
returns-in_default c = grind (arith, not_missing)
