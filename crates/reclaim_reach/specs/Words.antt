-- The links of a block as its words have them. Assumes nothing.
use Rattle.std.specs.Prelude.{◌≡◌, Bool, true, cond, List, [], eqb, get_or}
use Rattle.std.proofs.Math.Path.{refl, ap}
use Rattle.std.proofs.Common.{◌∙◌, arith, add-zero}
use Rattle.std.proofs.Math.Option.{Option, none, some}
use Prim.Native.Nat.{ℕ, zero, suc, ◌+◌, ◌*◌, ◌≤◌, ◌<◌}
use borrow.Author.Tests.{ne_eqb}
use Rattle.model.specs.Limits.{block_limit, command_limit}
use Rattle.model.specs.Memory.{Coded, Memory, command_word, set_in, command_by, command_in, commands_in, block_word, link_in, block_by, block_in}
use Rattle.reclaim_model.specs.Rename.{target, with_link, targets, links_of, Every}
use Rattle.reclaim_model.proofs.Laws.Reclaimed.{every_both}

-- Goto, If and EndIf
unfoldable pub names_block : ℕ → Bool
names_block k = cond (eqb k 1) true (cond (eqb k 3) true (eqb k 4))

-- of a command by its code
unfoldable pub target_by : ℕ → ℕ → Option ℕ
target_by k t = cond (names_block k) (some t) none

abbrev pub target_at : List ℕ → ℕ → Option ℕ
target_at cw c = target_by (get_or cw (4 * c) 0) (get_or cw (4 * c + 3) 0)

-- h commands from command c on
unfoldable pub targets_at : List ℕ → ℕ → ℕ → List ℕ
targets_at cw zero c = []
targets_at cw (suc h) c = with_link (target_at cw c) (targets_at cw h (suc c))

-- of a block by its kind
unfoldable pub links_by : List ℕ → List ℕ → ℕ → ℕ → List ℕ
links_by cw bw b zero = []
links_by cw bw b (suc zero) =
    with_link (link_in (get_or bw (5 * b + 3) 0)) (with_link (link_in (get_or bw (5 * b + 4) 0)) (targets_at cw (get_or bw (5 * b + 2) 0) (get_or bw (5 * b + 1) 0)))
links_by cw bw b (suc (suc k)) = []

unfoldable pub links_at : List ℕ → List ℕ → ℕ → List ℕ
links_at cw bw b = links_by cw bw b (get_or bw (5 * b) 0)

-- ---- they are the links of the block, whatever its expressions

module _ (co : Coded) where
  target_set : (c t : ℕ) → target (set_in co c t) ≡ none
  unfolding set_in
  target_set c zero = refl
  target_set c (suc t) = refl

  target_is_lem : (c k : ℕ) → target (command_by co c k) ≡ target_by k (command_word co c 3)
  unfolding command_by target_by names_block
  target_is_lem c zero = refl
  target_is_lem c (suc zero) = refl
  target_is_lem c (suc (suc zero)) = target_set c (command_word co c 3)
  target_is_lem c (suc (suc (suc zero))) = refl
  target_is_lem c (suc (suc (suc (suc zero)))) = refl
  target_is_lem c (suc (suc (suc (suc (suc k))))) = rw (ne_eqb (suc (suc (suc (suc (suc k))))) 1 (λ q. omega arith), ne_eqb (suc (suc (suc (suc (suc k))))) 3 (λ q. omega arith), ne_eqb (suc (suc (suc (suc (suc k))))) 4 (λ q. omega arith))

  targets_are : (h c : ℕ) → targets (commands_in co h c) ≡ targets_at co.words h c
  unfolding targets commands_in command_in targets_at
  targets_are zero c = refl
  targets_are (suc h) c =
      let first : target (command_by co c (command_word co c 0)) ≡ target_at co.words c
      = target_is_lem c (command_word co c 0) ∙ ap (λ (n : ℕ). target_by (get_or co.words n 0) (command_word co c 3)) (add-zero (4 * c)) in
      λ i. with_link (first i) (targets_are h (suc c) i)

module _ (m : Memory) (b : ℕ) where
  kind_links : (k : ℕ) → links_of (block_by m b k) ≡ links_by m.coded.words m.words b k
  unfolding links_of block_by links_by
  kind_links zero = refl
  kind_links (suc zero) = ap (λ ks. with_link (link_in (block_word m b 3)) (with_link (link_in (block_word m b 4)) ks)) (targets_are m.coded (block_word m b 2) (block_word m b 1))
  kind_links (suc (suc k)) = refl

  pub links_are : links_of (block_in m b) ≡ links_at m.coded.words m.words b
  unfolding block_in links_at
  links_are = kind_links (block_word m b 0) ∙ ap (λ (n : ℕ). links_by m.coded.words m.words b (get_or m.words n 0)) (add-zero (5 * b))

-- ---- what following them needs

-- a number that the marks have a place for
abbrev pub Low : ℕ → Type 0
Low k = k < block_limit

pub every_to : (P Q : ℕ → Type 0) → ((k : ℕ) → P k → Q k) → (ks : List ℕ) → Every P ks → Every Q ks
every_to P Q h ks a = every_both P P Q (λ k p q. h k p) ks a a

pub below_low : (n : ℕ) → n ≤ block_limit → (ks : List ℕ) → Every (λ k. k < n) ks → Every Low ks
below_low n h ks a = every_to (λ k. k < n) Low (λ k l. omega arith) ks a

-- of the words of one block; where it holds no command its first may be any
pub record SafeAt (cw bw : List ℕ) (b : ℕ) : Type 0 where
  pub fits : get_or bw (5 * b) 0 ≡ 1 → (j : ℕ) → j < get_or bw (5 * b + 2) 0 → get_or bw (5 * b + 1) 0 + j < command_limit
  pub low : Every Low (links_at cw bw b)

-- of the words of n blocks: their links are among them
pub record Safe (cw bw : List ℕ) (n : ℕ) : Type 0 where
  pub few : n ≤ block_limit
  pub fits : (b : ℕ) → b < n → get_or bw (5 * b) 0 ≡ 1 → (j : ℕ) → j < get_or bw (5 * b + 2) 0 → get_or bw (5 * b + 1) 0 + j < command_limit
  pub inside : (b : ℕ) → b < n → Every (λ k. k < n) (links_at cw bw b)
