-- The array that a reclaim answers with: at each old block the word of its new number. Assumes nothing.
use Rattle.std.specs.Prelude.{◌≡◌, refl, Bool, true, false, cond, List, [], ◌∷◌, ◌++◌, ℕ, zero, suc, ◌+◌, ◌≤◌, get_or, drop, length, replicate}
use Rattle.std.proofs.Common.{ap, ◌∙◌, zero-add, arith, get_or-drop}
use Rattle.std.proofs.Math.Option.{none, some}
use Rattle.std.proofs.lemmas.List.{length-replicate}
use Rattle.std.proofs.lemmas.List.Edits.{sets, sets-eq}
use Rattle.model.specs.Limits.{block_limit}
use Rattle.model.proofs.Laws.Places.{all_one}
use Rattle.reclaim_model.specs.Reclaim.{rank, new_number, moved_word, moved_from, moved_words}

-- what is stored from the start on over one value reads as it is, and that value past it
ends_in : {A : Type 0} (d : A) (vs zs : List A) → ((b : ℕ) → get_or zs b d ≡ d) → (b : ℕ) → get_or (vs ++ zs) b d ≡ get_or vs b d
ends_in d [] zs h b = h b
ends_in d (v ∷ vs) zs h zero = refl
ends_in d (v ∷ vs) zs h (suc b) = ends_in d vs zs h b

stored_at : {A : Type 0} (d : A) (n : ℕ) (vs : List A) → length vs ≤ n → (b : ℕ) → get_or (sets (replicate n d) 0 vs) b d ≡ get_or vs b d
stored_at d n vs l b =
    let k = 0 + length vs in
    ap (λ xs. get_or xs b d) (sets-eq vs (replicate n d) 0 (omega (arith, length-replicate n d)))
    ∙ ends_in d vs (drop k (replicate n d)) (λ j. get_or-drop k (replicate n d) j d ∙ all_one d n (k + j)) b

moved_long : (n : ℕ) (ms : List Bool) → length (moved_from n ms) ≡ length ms
unfolding moved_from
moved_long n [] = refl
moved_long n (true ∷ ms) = ap suc (moved_long (suc n) ms)
moved_long n (false ∷ ms) = ap suc (moved_long n ms)

-- n surviving before
moved_shifted : (n : ℕ) (ms : List Bool) (b : ℕ) → get_or (moved_from n ms) b 0 ≡ moved_word (cond (get_or ms b false) (some (n + rank ms b)) none)
unfolding moved_from rank
moved_shifted n [] b = refl
moved_shifted n (true ∷ ms) zero = omega arith
moved_shifted n (false ∷ ms) zero = refl
moved_shifted n (true ∷ ms) (suc b) = moved_shifted (suc n) ms b ∙ ap (λ k. moved_word (cond (get_or ms b false) (some k) none)) (omega arith)
moved_shifted n (false ∷ ms) (suc b) = moved_shifted n ms b

-- "for each old block its new number or that it is gone"; past the blocks nothing
pub moved_at : (ms : List Bool) (b : ℕ) → length ms ≤ block_limit → get_or (moved_words ms) b 0 ≡ moved_word (new_number ms b)
moved_at ms b l =
    stored_at 0 block_limit (moved_from 0 ms) (omega (arith, moved_long 0 ms)) b
    ∙ moved_shifted 0 ms b
    ∙ ap (λ k. moved_word (cond (get_or ms b false) (some k) none)) (zero-add (rank ms b))
