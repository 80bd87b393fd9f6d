-- "the same roots again drop nothing": a second reclaim, by the roots under their new numbers, leaves what the first left. Assumes nothing.
use Rattle.std.specs.Prelude.{◌≡◌, Bool, false, ℕ, zero, suc, ◌≤◌, ◌<◌, get_or, replicate}
use Rattle.std.proofs.Math.Path.{refl, ap, ap₂}
use Rattle.std.proofs.Common.{sym, ◌∙◌, subst, arith, ltb-true, lt-ltb, ext_get_or}
use Rattle.std.proofs.Math.Bool.{true}
use Rattle.std.proofs.Math.Option.{some}
use mathlib.Core.List.{List, [], ◌∷◌, map, Memᴰ}
use Rattle.std.proofs.Math.Decide.{dec_le}
use Rattle.std.proofs.Math.Dec.{leb, ltb}
use Rattle.std.proofs.Math.ListN.{length, get_or-eq_default}
use Rattle.std.proofs.lemmas.List.{length-map, length-replicate, get_or-replicate}
use Rattle.model.specs.Limits.{root_limit}
use Rattle.model.specs.Sheet.{all}
use Rattle.model.specs.Script.{Block, placeholder, block_at}
use Rattle.model.specs.Judge.{counted, script_refusal}
use Rattle.model.proofs.Laws.Checks.{and_left, and_right}
use Rattle.model.proofs.Laws.Sound.{SoundBlock, SoundBlocks}
use Rattle.reclaim_model.specs.Rename.{links_of, rename_block}
use Rattle.reclaim_model.specs.Reclaim.{survivors, rank, new_number, kept_blocks}
use Rattle.reclaim_model.specs.Changes.{BornScript, lives, kept_only, reclaim_refusal, reclaimed}
use Rattle.reclaim_model.proofs.Laws.Renames.{links_map, rename_agree, rename_same}
use Rattle.reclaim_model.proofs.Laws.Reached.{Leads, root, onward, no_links, reached_long, reached_root, reached_only, reached_all}
use Rattle.reclaim_model.proofs.Laws.Survivors.{rank_in, length_left, left_from_lem}
use Rattle.reclaim_model.proofs.Laws.Reclaimed.{every_both, links_below, length_kept, reclaim_passed, reclaim_done, reclaim_renamed, reclaim_held, reclaim_judged}

-- ---- where all survive, nothing moves

rank_all : (n b : ℕ) → b ≤ n → rank (replicate n true) b ≡ b
unfolding rank
rank_all zero b l = omega arith
rank_all (suc n) zero l = refl
rank_all (suc n) (suc b) l = ap suc (rank_all n b (omega arith))

left_all : {A : Type 0} (n : ℕ) (xs : List A) → length xs ≤ n → survivors (replicate n true) xs ≡ xs
unfolding survivors
left_all zero [] l = refl
left_all zero (x ∷ xs) l = absurd (omega arith)
left_all (suc n) [] l = refl
left_all (suc n) (x ∷ xs) l = ap (λ ys. x ∷ ys) (left_all n xs (omega arith))

module _ (n : ℕ) where
  block_all : (x : Block) → SoundBlock n x → rename_block (rank (replicate n true)) x ≡ x
  block_all x s =
      let low = links_below n x s in
      rename_agree (rank (replicate n true)) (λ k. k) x (every_both (λ k. k < n) (λ k. k < n) (λ k. rank (replicate n true) k ≡ k) (λ k p q. rank_all n k (omega arith)) (links_of x) low low) ∙ rename_same x

  renamed_all : (bs : List Block) → SoundBlocks n bs → map (rename_block (rank (replicate n true))) bs ≡ bs
  unfolding SoundBlocks
  renamed_all [] s = refl
  renamed_all (x ∷ bs) s = ap₂ ◌∷◌ (block_all x s.0) (renamed_all bs s.1)

  blocks_all : (bs : List Block) → length bs ≤ n → SoundBlocks n bs → kept_blocks (replicate n true) bs ≡ bs
  unfolding kept_blocks
  blocks_all bs l s = ap (map (rename_block (rank (replicate n true)))) (left_all n bs l) ∙ renamed_all bs s

-- ---- what is left of a list is no longer than the survivors are many

left_most : {A : Type 0} (ms : List Bool) (xs : List A) → length (survivors ms xs) ≤ rank ms (length ms)
unfolding survivors rank
left_most [] xs = omega arith
left_most (true ∷ ms) [] = omega arith
left_most (false ∷ ms) [] = omega arith
left_most (true ∷ ms) (x ∷ xs) = omega (arith, left_most ms xs)
left_most (false ∷ ms) (x ∷ xs) = left_most ms xs

-- ---- roots that are blocks

pub in_map : (f : ℕ → ℕ) (k : ℕ) (ks : List ℕ) → Memᴰ k ks → Memᴰ (f k) (map f ks)
in_map f k ks (Memᴰ.head e) = Memᴰ.head (ap f e)
in_map f k ks (Memᴰ.tail {x} {xs} p) = Memᴰ.tail (in_map f k xs p)

-- the number first, since where it stands goes by it
in_all_of : (n r : ℕ) (rs : List ℕ) → all (λ r. ltb r n) rs ≡ true → Memᴰ r rs → r < n
in_all_of n r rs a (Memᴰ.head {x} {xs} e) = rw e (ltb-true x n (and_left (ltb x n) _ a))
in_all_of n r rs a (Memᴰ.tail {x} {xs} p) = in_all_of n r xs (and_right (ltb x n) _ a) p

pub all_in : (n : ℕ) (rs : List ℕ) → all (λ r. ltb r n) rs ≡ true → (r : ℕ) → Memᴰ r rs → r < n
all_in n rs a r = in_all_of n r rs a

in_all : (f : ℕ → ℕ) (n : ℕ) (rs : List ℕ) → ((r : ℕ) → Memᴰ r rs → f r < n) → all (λ r. ltb r n) (map f rs) ≡ true
in_all f n [] h = refl
in_all f n (r ∷ rs) h = rw (lt-ltb (f r) n (h r (Memᴰ.head refl)), in_all f n rs (λ q p. h q (Memᴰ.tail p)))

-- ---- the second reclaim

pub record DropsNothing (m : BornScript) (rs : List ℕ) : Type 0 where
  pub accepted : reclaim_refusal m rs ≡ 0
  pub same : reclaimed m rs ≡ m
  pub numbers : (b : ℕ) → b < length m.script.blocks → new_number (lives m rs) b ≡ some b

module _ (m : BornScript) (rs : List ℕ) (e : reclaim_refusal m rs ≡ 0) where
  abbrev bs : List Block
  bs = m.script.blocks

  abbrev ms : List Bool
  ms = lives m rs

  abbrev left : BornScript
  left = kept_only ms m

  abbrev again : List ℕ
  again = map (rank ms) rs

  judged : script_refusal m.script ≡ 0
  judged = (reclaim_passed m rs e).judged

  -- what the roots reached is reached again
  leads_moved : (b : ℕ) → Leads bs rs b → get_or ms b false ≡ true → Leads left.script.blocks again (rank ms b)
  leads_moved b (root p) l = root (in_map (rank ms) b rs p)
  leads_moved b (onward {b = a} q p) l = by (dec_le (length bs) a) (leads_moved a q)
    where
      by : Dec (length bs ≤ a) → (get_or ms a false ≡ true → Leads left.script.blocks again (rank ms a)) → Leads left.script.blocks again (rank ms b)
      by (yes d) ih = absurd (no_links (block_at bs a) b (get_or-eq_default bs placeholder d) p)
      by (no d) ih =
          let live = reached_all bs rs a q (omega arith) in
          let moved : links_of (block_at left.script.blocks (rank ms a)) ≡ map (rank ms) (links_of (block_at bs a))
          = ap links_of ((reclaim_renamed m rs judged).same a live) ∙ links_map (rank ms) (block_at bs a) in
          onward (ih live) (subst (λ (ks : List ℕ). Memᴰ (rank ms b) ks) (sym moved) (in_map (rank ms) b (links_of (block_at bs a)) p))

  live_again : (j : ℕ) → j < length left.script.blocks → get_or (lives left again) j false ≡ true
  live_again j l =
      let o = left_from_lem ms bs placeholder j (reached_long bs rs) (omega (arith, length_kept m rs judged, length_left ms bs (reached_long bs rs))) in
      let p = leads_moved o.from (reached_only bs rs o.from o.lives) o.lives in
      reached_all left.script.blocks again j (subst (λ (k : ℕ). Leads left.script.blocks again k) o.number p) l

  lives_again : lives left again ≡ replicate (length left.script.blocks) true
  lives_again =
      let n = length left.script.blocks in
      let long = reached_long left.script.blocks again in
      ext_get_or false (lives left again) (replicate n true) (long ∙ sym (length-replicate n true))
      (λ j l. live_again j (omega arith) ∙ sym (get_or-replicate n j true false (omega arith)))

  accepted_again : reclaim_refusal left again ≡ 0
  unfolding reclaim_refusal
  accepted_again =
      let n = length left.script.blocks in
      let p = (reclaim_passed m rs e).roots in
      let short : leb (length again) root_limit ≡ true = rw (length-map rs (rank ms)) (and_left (leb (length rs) root_limit) _ p) in
      let blocks : all (λ r. ltb r n) again ≡ true = in_all (rank ms) n rs
      (λ r q. let l = all_in (length bs) rs (and_right (leb (length rs) root_limit) _ p) r q in omega (arith, rank_in ms r (reached_root bs rs r q l), length_kept m rs judged)) in
      rw (short, blocks, reclaim_judged m rs judged)

  kept_again : kept_only (replicate (length left.script.blocks) true) left ≡ left
  unfolding kept_only
  kept_again =
      let n = length left.script.blocks in
      let p : kept_blocks (replicate n true) (kept_blocks ms bs) ≡ kept_blocks ms bs = blocks_all n (kept_blocks ms bs) (omega arith) (reclaim_held m rs judged).sound in
      let q : survivors (replicate n true) (survivors ms m.births) ≡ survivors ms m.births = left_all n (survivors ms m.births) (omega (arith, left_most ms m.births, length_kept m rs judged)) in
      λ i. record { script = counted (p i); births = q i; compiles = m.compiles }

  number_again : (b : ℕ) → b < length left.script.blocks → new_number (lives left again) b ≡ some b
  number_again b l =
      let n = length left.script.blocks in
      rw (lives_again, get_or-replicate n b true false l) (ap some (rank_all n b (omega arith)))

  drops_nothing : DropsNothing left again
  drops_nothing = record {
    accepted = accepted_again;
    same = reclaim_done left again accepted_again ∙ ap (λ ks. kept_only ks left) lives_again ∙ kept_again;
    numbers = number_again;
  }

pub reclaim_twice : (m : BornScript) (rs : List ℕ) → reclaim_refusal m rs ≡ 0 → DropsNothing (reclaimed m rs) (map (rank (lives m rs)) rs)
reclaim_twice m rs e = subst (λ (t : BornScript). DropsNothing t (map (rank (lives m rs)) rs)) (sym (reclaim_done m rs e)) (drops_nothing m rs e)
