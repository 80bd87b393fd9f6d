-- One compile: the setup block links to the shop's blocks, which were appended and are code, and other blocks are as they were. Assumes nothing.
use Rattle.std.specs.Prelude.{◌≡◌, Bool, cond, ◌&&◌, ◌≢◌, set}
use Rattle.std.proofs.Math.Path.{refl}
use Rattle.std.proofs.Common.{sym, ap, ◌∙◌, length-set, get_or-append-add}
use Rattle.std.proofs.Math.Bool.{true, false, and-false}
use mathlib.Core.List.{List, [], ◌∷◌, ◌++◌}
use Prim.Native.Nat.{ℕ, suc, ◌-◌, ◌+◌, ◌<◌, ◌≤◌}
use native.Mathlib.Omega.{arith}
use Rattle.std.proofs.Math.Decide.{dec_le, ℕ_discrete}
use Rattle.std.proofs.Math.ListN.{length, length-append, get_or-append}
use Rattle.std.proofs.Math.Seq.{get_or-set_same, get_or-set_other, append_snoc, get_or-append_seam}
use Rattle.std.proofs.lemmas.List.{get_or_at}
use Rattle.std.proofs.Math.Dec.{eqb}
use borrow.Author.Tests.{eqb-false}
use Rattle.model.specs.Sheet.{Sheet}
use Rattle.model.specs.Shop.{Slot, with_slots}
use Rattle.model.specs.Script.{Block, Script, block_at, is_code, placeholder}
use Rattle.model.specs.Compile.{Call, appended, compile_refusal, compiled, fresh_blocks, last_of, redirect, return_block, root_of, shop_blocks, slots_blocks}
use Rattle.model.specs.Lists.{accepted_at, compiles}
use Rattle.model.specs.Judge.{script_refusal}
use Rattle.model.proofs.Laws.AllCode.{shop_code}
use Rattle.model.proofs.Laws.Checks.{compile_passed}
use Rattle.model.proofs.Laws.SlotRuns.{After, Stands}

-- ---- blocks that stand after a number

pub last_of_is : (n : ℕ) (xs : List Block) → last_of n xs ≡ n + length xs
last_of_is n [] = omega arith
last_of_is n (x ∷ xs) = omega (arith, last_of_is (suc n) xs)

module _ (bs bs' : List Block) where
  after_kept : (n : ℕ) (xs : List Block) → ((j : ℕ) → n < j → j ≤ last_of n xs → block_at bs' j ≡ block_at bs j) → After bs n xs → After bs' n xs
  after_kept n [] k a = tt
  after_kept n (x ∷ xs) k a =
      (record { eq = k (suc n) (omega arith) (omega (arith, last_of_is (suc n) xs)) ∙ a.0.eq }, after_kept (suc n) xs (λ j p q. k j (omega arith) q) a.1)

after_intro : (pre : List Block) (y : Block) (xs bs : List Block) (n : ℕ) → bs ≡ pre ++ y ∷ xs → length pre ≡ n → After bs n xs
after_intro pre y [] bs n p q = tt
after_intro pre y (x ∷ xs) bs n p q =
    let p' : bs ≡ (pre ++ y ∷ []) ++ x ∷ xs = p ∙ sym (append_snoc pre y (x ∷ xs)) in
    let q' : length (pre ++ y ∷ []) ≡ suc n = length-append pre (y ∷ []) ∙ omega arith in
    (record { eq = rw p' (get_or_at (pre ++ y ∷ []) x xs placeholder (suc n) q') }, after_intro (pre ++ y ∷ []) x xs bs (suc n) p' q')

-- ---- one compile

-- block b links to the blocks of xs, which stand from `home` on, at n or above
pub record Linked (h : Sheet) (n : ℕ) (bs : List Block) (b : ℕ) (xs : List Slot) : Type 0 where
  pub home : ℕ
  pub low : n ≤ home
  pub link : Stands bs b (redirect (root_of h home 0 xs))
  pub returns : Stands bs home return_block
  pub rest : After bs home (slots_blocks h home 0 xs)
  pub inside : root_of h home 0 xs < length bs

module _ (h : Sheet) (sc : Script) (c : Call) where
  pub length_linked : length (appended h sc c).blocks ≡ length sc.blocks + length (fresh_blocks h sc c)
  unfolding appended
  length_linked = simp (length-set, length-append)

  pub fresh_linked : (m : ℕ) → m ≤ length sc.blocks → c.setup < length sc.blocks → Linked h m (appended h sc c).blocks c.setup (with_slots c.shop)
  unfolding appended shop_blocks
  fresh_linked m low b-in =
      let n : ℕ = length sc.blocks in
      let xs : List Block = slots_blocks h n 0 (with_slots c.shop) in
      let pushed : List Block = sc.blocks ++ return_block ∷ xs in
      let len : length pushed ≡ n + suc (length xs) = length-append sc.blocks (return_block ∷ xs) in
      let kept : (j : ℕ) → n ≤ j → block_at (appended h sc c).blocks j ≡ block_at pushed j = λ j p. get_or-set_other pushed c.setup j _ placeholder (omega arith) in
      record {
        home = n;
        low = low;
        link = record { eq = get_or-set_same pushed c.setup _ placeholder (omega arith) };
        returns = record { eq = kept n (omega arith) ∙ get_or-append_seam sc.blocks return_block xs placeholder };
        rest = after_kept pushed (appended h sc c).blocks n xs (λ j p q. kept j (omega arith)) (after_intro sc.blocks return_block xs pushed n refl refl);
        inside = omega (arith, last_of_is n xs, length_linked);
      }

  -- a block where this compile was not accepted is as it was
  pub kept_once : (j : ℕ) → j < length sc.blocks → accepted_at (compiles h) sc c j ≡ false → block_at (compiled h sc c).blocks j ≡ block_at sc.blocks j
  unfolding compiled appended
  kept_once j l = by (eqb (compile_refusal h sc c) 0)
    where
      by : (b : Bool) → b && eqb c.setup j ≡ false → block_at (cond b (appended h sc c) sc).blocks j ≡ block_at sc.blocks j
      by true e =
          let ne : j ≢ c.setup = λ q. eqb-false c.setup j e (sym q) in
          get_or-set_other (sc.blocks ++ fresh_blocks h sc c) c.setup j _ placeholder ne ∙ get_or-append sc.blocks (fresh_blocks h sc c) placeholder j l
      by false e = refl

  pub grows : length sc.blocks ≤ length (compiled h sc c).blocks
  unfolding compiled
  grows = by (eqb (compile_refusal h sc c) 0)
    where
      by : (b : Bool) → length sc.blocks ≤ length (cond b (appended h sc c) sc).blocks
      by true = omega (arith, length_linked)
      by false = omega arith

  -- a block that was code stays code, and what is appended is code
  pub code_once : (j : ℕ) → (j < length sc.blocks → is_code (block_at sc.blocks j) ≡ true) → j < length (appended h sc c).blocks → is_code (block_at (appended h sc c).blocks j) ≡ true
  unfolding appended redirect
  code_once j was l = at_setup (ℕ_discrete j c.setup)
    where
      n : ℕ
      n = length sc.blocks

      pushed : List Block
      pushed = sc.blocks ++ fresh_blocks h sc c

      long : j < length pushed
      long = omega (arith, length-set pushed c.setup (redirect (root_of h n 0 (with_slots c.shop))))

      in_pushed : Dec (n ≤ j) → is_code (block_at pushed j) ≡ true
      in_pushed (yes d) =
          let e : j ≡ n + (j - n) = omega arith in
          ap (λ (i : ℕ). is_code (block_at pushed i)) e ∙ ap is_code (get_or-append-add sc.blocks (fresh_blocks h sc c) (j - n) placeholder)
          ∙ shop_code h n (with_slots c.shop) (j - n) (omega (arith, long, length-append sc.blocks (fresh_blocks h sc c)))
      in_pushed (no d) = ap is_code (get_or-append sc.blocks (fresh_blocks h sc c) placeholder j (omega arith)) ∙ was (omega arith)

      at_setup : Dec (j ≡ c.setup) → is_code (block_at (set pushed c.setup (redirect (root_of h n 0 (with_slots c.shop)))) j) ≡ true
      at_setup (yes e) = rw (← e) (ap is_code (get_or-set_same pushed j (redirect (root_of h n 0 (with_slots c.shop))) placeholder long))
      at_setup (no d) = ap is_code (get_or-set_other pushed c.setup j _ placeholder d) ∙ in_pushed (dec_le n j)

  -- what an accepted compile leaves at its setup block
  pub here_linked : (n b : ℕ) → n ≤ length sc.blocks → compile_refusal h sc c ≡ 0 → c.setup ≡ b → Linked h n (compiled h sc c).blocks b (with_slots c.shop)
  unfolding compiled
  here_linked n b p z w = rw (← w, z) (fresh_linked n p (compile_passed h (script_refusal sc) 0 sc c z).inside)

  -- a shop linked before stays where nothing is accepted at its blocks
  pub linked_once : (n b : ℕ) (xs : List Slot) → Linked h n sc.blocks b xs → b < length sc.blocks → accepted_at (compiles h) sc c b ≡ false
      → ((j : ℕ) → n ≤ j → j < length sc.blocks → eqb c.setup j ≡ false) → Linked h n (compiled h sc c).blocks b xs
  linked_once n b xs k l e clean =
      let root : ℕ = root_of h k.home 0 xs in
      let last_is = last_of_is k.home (slots_blocks h k.home 0 xs) in
      let same : (j : ℕ) → n ≤ j → j ≤ root → block_at (compiled h sc c).blocks j ≡ block_at sc.blocks j = λ j q r.
      kept_once j (omega (arith, k.inside)) (rw (clean j q (omega (arith, k.inside))) (and-false (eqb (compile_refusal h sc c) 0))) in
      record {
        home = k.home;
        low = k.low;
        link = record { eq = kept_once b l e ∙ k.link.eq };
        returns = record { eq = same k.home k.low (omega arith) ∙ k.returns.eq };
        rest = after_kept sc.blocks (compiled h sc c).blocks k.home (slots_blocks h k.home 0 xs) (λ j q r. same j (omega (arith, k.low)) r) k.rest;
        inside = omega (arith, k.inside, grows);
      }
