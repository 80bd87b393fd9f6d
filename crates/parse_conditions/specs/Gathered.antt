-- The requirements of a condition in the order in which they are met, repeats kept (01, Parser: And/Or both join, Not toggles). Assumes nothing: these are definitions.
use Rattle.std.specs.Prelude.{Bool, false, not, cond, List, [], ◌∷◌, ◌++◌}
use Rattle.std.proofs.Math.Option.{Option, none, some}
use Rattle.model.specs.Expr.{Expr, two, one, imm16, imm32, other}
use Rattle.model.specs.Requirement.{Requirement, insert}
use Rattle.model.specs.Sheet.{Sheet}
use Rattle.model.specs.Parse.{is_join, is_not, map_req, signed, parse_requirement}
use Rattle.model.specs.declared.Kind.{Kind}
use Rattle.model.specs.declared.Kind.TheVariants.{Two, One, Imm16, Imm32, Other}

abbrev pub joins : Kind → Bool
joins (Two o) = is_join o
joins (One o) = false
joins Imm16 = false
joins Imm32 = false
joins Other = false

abbrev pub toggles : Kind → Bool
toggles (Two o) = false
toggles (One o) = is_not o
toggles Imm16 = false
toggles Imm32 = false
toggles Other = false

-- one requirement, or none
abbrev pub single : Option Requirement → List Requirement
single none = []
single (some r) = r ∷ []

-- those of a node that neither joins nor toggles, under the sign n
abbrev pub alone : Sheet → Expr → Bool → List Requirement
alone h e n = single (map_req (signed n) (parse_requirement h e))

-- those that gather inserts, in that order
unfoldable pub gathered : Sheet → Expr → Bool → List Requirement
gathered h (two o a b) n = cond (is_join o) (gathered h a n ++ gathered h b n) (alone h (two o a b) n)
gathered h (one o a) n = cond (is_not o) (gathered h a (not n)) (alone h (one o a) n)
gathered h (imm16 z) n = []
gathered h (imm32 z) n = []
gathered h other n = []

-- xs inserted into rs, the first one first
abbrev pub inserted : List Requirement → List Requirement → List Requirement
inserted [] rs = rs
inserted (x ∷ xs) rs = inserted xs (insert x rs)
