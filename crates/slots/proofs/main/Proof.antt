-- `main` is safe: the bytes that it lends lie in its arrays. Assumes nothing.
use mathlib.Core.Path.{◌≡◌, sym, ap, ◌∙◌}
use Prim.Native.Nat.{◌≤◌}
use native.Mathlib.Omega.{arith}
use lib.ListN.{length}
use lib.Seq.{length-take-le, length-sets}
use borrow.Author.Rules.{rules}
use Rattle.slots.proofs.main.Statement.{statement}
use Rattle.slots.proofs.main.Tie as tie

-- the text lies in the array
size : (c : tie.After-slots-m) → length c.slots-m.new.out ≡ 16384
size c = ap length c.slots-m.ensures.wrote.is ∙ simp length-sets (search rules)

inside : (c : tie.After-slots-m) → c.slots-m.result ≤ length c.slots-m.new.out
inside c = omega (arith, size c, c.slots-m.ensures.fits)

array-share-prefix-out : tie.Need-slice_bounds-out-end
array-share-prefix-out c = inside c

slice-aggregate-write-all : tie.Need-slice_bounds-write_all-end
slice-aggregate-write-all c = sym (length-take-le _ _ (inside c.before))

pub main_spec : {M : Type 1} → statement M
main_spec =
    tie.close
    (tie.spec
    (λ c. search rules)
    (λ c κs. search rules)
    (λ c. search rules)
    (λ c. search rules)
    (λ c κs. search rules)
    array-share-prefix-out
    slice-aggregate-write-all
    (λ c κs. search rules)
    (λ c. search rules))
