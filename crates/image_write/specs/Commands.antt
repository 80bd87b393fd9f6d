-- The image of a command by its code. Assumes nothing.
use Rattle.std.specs.Prelude.{◌≡◌, get_or}
use Rattle.std.proofs.Math.Path.{refl}
use mathlib.Core.List.{List, [], ◌++◌, append_assoc}
use Prim.Native.Nat.{ℕ, zero, suc, ◌*◌, ◌≤◌, ◌<◌}
use Rattle.std.proofs.Common.{lt-ltb, le-ltb}
use Rattle.model.specs.Reading.{word}
use Rattle.model.specs.Memory.{Coded, command_word}
use Rattle.model.specs.Record.{root_image, target_image, command_tail, command_image_in}
use Rattle.memory.specs.NodeLaws.{first_word}

module _ (co : Coded) (c : ℕ) where
  -- what follows the target's code of a Set
  unfoldable pub set_rest : ℕ → List ℕ
  set_rest zero = root_image co.nodes (command_word co c 1) ++ root_image co.nodes (command_word co c 2)
  set_rest (suc t) = root_image co.nodes (command_word co c 2)

  target_image_lem : (t : ℕ) → target_image co c t ++ root_image co.nodes (command_word co c 2) ≡ word t ++ set_rest t
  unfolding target_image set_rest
  target_image_lem zero = append_assoc (word 0) (root_image co.nodes (command_word co c 1)) (root_image co.nodes (command_word co c 2))
  target_image_lem (suc t) = refl

  pub set_image : command_tail co c 2 ≡ word (command_word co c 3) ++ set_rest (command_word co c 3)
  unfolding command_tail
  set_image = target_image_lem (command_word co c 3)

  pub rest_variable : (t : ℕ) → t ≡ 0 → set_rest t ≡ root_image co.nodes (command_word co c 1) ++ root_image co.nodes (command_word co c 2)
  unfolding set_rest
  rest_variable t e = rw e

  pub rest_other : (t : ℕ) → (t ≡ 0 → ⊥) → set_rest t ≡ root_image co.nodes (command_word co c 2)
  unfolding set_rest
  rest_other zero h = absurd (h refl)
  rest_other (suc t) h = refl

  pub if_image : command_tail co c 3 ≡ root_image co.nodes (command_word co c 1) ++ word (command_word co c 3)
  unfolding command_tail
  if_image = refl

  pub goto_image : (k : ℕ) → k ≡ 1 → command_tail co c k ≡ word (command_word co c 3)
  unfolding command_tail
  goto_image k e = rw e

  pub end_if_image : (k : ℕ) → k ≡ 4 → command_tail co c k ≡ word (command_word co c 3)
  unfolding command_tail
  end_if_image k e = rw e

  -- nothing follows the other codes
  pub bare_image : (k : ℕ) → (k ≡ 1 → ⊥) → (k ≡ 2 → ⊥) → (k ≡ 3 → ⊥) → (k ≡ 4 → ⊥) → command_tail co c k ≡ []
  unfolding command_tail
  bare_image zero a b d e = refl
  bare_image (suc zero) a b d e = absurd (a refl)
  bare_image (suc (suc zero)) a b d e = absurd (b refl)
  bare_image (suc (suc (suc zero))) a b d e = absurd (d refl)
  bare_image (suc (suc (suc (suc zero)))) a b d e = absurd (e refl)
  bare_image (suc (suc (suc (suc (suc k))))) a b d e = refl

  pub absent_image : co.count ≤ c → command_image_in co c ≡ word 6
  unfolding command_image_in
  absent_image h = rw (le-ltb c co.count h)

  pub command_image_lem : c < co.count → command_image_in co c ≡ word (get_or co.words (4 * c) 0) ++ command_tail co c (get_or co.words (4 * c) 0)
  unfolding command_image_in
  command_image_lem h = rw (lt-ltb c co.count h, first_word co.words (4 * c))
