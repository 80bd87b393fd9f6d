-- Things read one after the other: some were seen, the rest follows. Assumes nothing.
use Rattle.std.specs.Prelude.{◌≡◌, refl, List, [], ◌∷◌, ◌++◌}
use Rattle.std.proofs.Common.{ap, sym}
use Rattle.std.proofs.Math.Seq.{append_snoc}
use Rattle.model.specs.Reading.{Answer, got, refused, onward}

module _ {A : Type 0} where
  -- one more was seen
  pub seen_more : (a : Answer (List A)) (seen : List A) (x : A) → onward (onward a (λ zs u. got (x ∷ zs) u)) (λ ys r. got (seen ++ ys) r) ≡ onward a (λ zs r. got ((seen ++ x ∷ []) ++ zs) r)
  seen_more (got zs r) seen x = ap (λ (l : List A). got l r) (sym (append_snoc seen x zs))
  seen_more (refused e) seen x = refl

  pub seen_none : (a : Answer (List A)) → a ≡ onward a (λ ys r. got ([] ++ ys) r)
  seen_none (got zs r) = refl
  seen_none (refused e) = refl
