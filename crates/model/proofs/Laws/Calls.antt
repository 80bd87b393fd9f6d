-- Lists of compiles: at a block where one was accepted the last shop accepted there is linked and the checks of run and parse pass, as they do at appended blocks; other blocks of the start are as they were. Assumes nothing.
use Rattle.std.specs.Prelude.{◌≡◌, Bool, cond, List, ℕ, ◌<◌, ◌≤◌, length}
use Rattle.std.proofs.Math.Path.{refl}
use Rattle.std.proofs.Common.{sym, ◌∙◌, subst, true≢false, arith}
use Rattle.std.proofs.Math.Bool.{true, false}
use Rattle.std.proofs.Math.Option.{Option, none, some}
use Rattle.std.proofs.Math.Decide.{dec_le}
use Rattle.std.proofs.Math.Dec.{eqb}
use borrow.Author.Tests.{lt-ltb, eqb-true}
use Rattle.model.specs.Limits.{slot_count}
use Rattle.model.specs.Sheet.{Sheet, all, sheet_refusal}
use Rattle.model.specs.Shop.{Slot, slot_ok, with_slots}
use Rattle.model.specs.Script.{Script, block_at}
use Rattle.model.specs.Judge.{call_refusal, script_refusal, shared_refusal}
use Rattle.model.specs.Compile.{Call, appended, compile_refusal, compiled, redirect, slots_blocks}
use Rattle.model.specs.Lists.{NoneAppended, accepted_at, after_all, compiles, last_at, latest}
use Rattle.model.proofs.Laws.Checks.{and_left, and_right, compile_passed}
use Rattle.model.proofs.Laws.Compiled.{Linked, grows, here_linked, kept_once, last_of_is, linked_once}
use Rattle.model.proofs.Laws.FitBlocks.{length_padded}
use Rattle.model.proofs.Laws.Judged.{kept_judged}
use Rattle.model.proofs.Laws.Lists.{kept_all, stays}

-- b is one of the first n blocks, and xs the shop accepted last there
pub record ShopAt (h : Sheet) (n : ℕ) (sc : Script) (b : ℕ) (xs : List Slot) : Type 0 where
  pub low : b < n
  pub link : Linked h n sc.blocks b xs
  pub twenty : length xs ≡ slot_count
  pub ok : all (slot_ok h) xs ≡ true
  pub sheet : sheet_refusal h ≡ 0
  pub judged : script_refusal sc ≡ 0

module _ (h : Sheet) (n : ℕ) (sc : Script) (b : ℕ) (xs : List Slot) (a : ShopAt h n sc b xs) where
  pub accepted_inside : b < length sc.blocks
  accepted_inside = let k = a.link in omega (arith, a.low, k.low, k.inside, last_of_is k.home (slots_blocks h k.home 0 xs))

  pub call_passes : call_refusal h sc b ≡ 0
  unfolding shared_refusal redirect
  call_passes = rw (a.sheet, a.judged, lt-ltb b (length sc.blocks) accepted_inside, a.link.link.eq)

-- ---- one compile

module _ (h : Sheet) (n : ℕ) (sc : Script) (c : Call) (clean : (b : ℕ) → n ≤ b → b < length sc.blocks → eqb c.setup b ≡ false) (b : ℕ) where
  -- compiles keep a judged script judged
  judged_once : script_refusal sc ≡ 0 → script_refusal (compiled h sc c) ≡ 0
  unfolding compiled
  judged_once j = by (eqb (compile_refusal h sc c) 0) refl
    where
      by : (t : Bool) → eqb (compile_refusal h sc c) 0 ≡ t → script_refusal (cond t (appended h sc c) sc) ≡ 0
      by true e = kept_judged h sc c (eqb-true _ _ e)
      by false e = j

  low_once : eqb c.setup b ≡ true → b < length sc.blocks → Dec (n ≤ b) → b < n
  low_once t l (yes p) = absurd (true≢false (sym t ∙ clean b p l))
  low_once t l (no p) = omega arith

  accepted_once : n ≤ length sc.blocks → accepted_at (compiles h) sc c b ≡ true → ShopAt h n (compiled h sc c) b (with_slots c.shop)
  accepted_once p e =
      let z : compile_refusal h sc c ≡ 0 = eqb-true _ _ (and_left _ _ e) in
      let t : eqb c.setup b ≡ true = and_right (eqb (compile_refusal h sc c) 0) _ e in
      let w : c.setup ≡ b = eqb-true _ _ t in
      let q = compile_passed h (script_refusal sc) 0 sc c z in
      record {
        low = low_once t (omega (arith, q.inside)) (dec_le n b);
        link = here_linked h sc c n b p z w;
        twenty = length_padded slot_count c.shop;
        ok = q.slots;
        sheet = q.sheet;
        judged = judged_once q.judged;
      }

  accepted_kept : (xs : List Slot) → accepted_at (compiles h) sc c b ≡ false → ShopAt h n sc b xs → ShopAt h n (compiled h sc c) b xs
  accepted_kept xs e a = record {
    low = a.low;
    link = linked_once h sc c n b xs a.link (accepted_inside h n sc b xs a) e clean;
    twenty = a.twenty;
    ok = a.ok;
    sheet = a.sheet;
    judged = judged_once a.judged;
  }

-- ---- a list on the script `start`

module _ (h : Sheet) (start : Script) where
  abbrev n : ℕ
  n = length start.blocks

  -- what stands at block b, o being the shop accepted last there
  abbrev Standing : Script → ℕ → Option (List Slot) → Type 0
  Standing sc b none = b < n → block_at sc.blocks b ≡ block_at start.blocks b
  Standing sc b (some xs) = ShopAt h n sc b xs

  abbrev Held : Script → ℕ → Option (List Slot) → Type 0
  Held sc b o = (n ≤ length sc.blocks) × Standing sc b o

  held_once : (sc : Script) (c : Call) (b k : ℕ) (o : Option (List Slot)) → ((j : ℕ) → n ≤ j → j < length sc.blocks → eqb c.setup j ≡ false)
      → ◌≡◌ {A = Option ℕ} (some b) (some k) → Held sc b o → Held (compiled h sc c) k (latest (compiles h) sc c b o)
  held_once sc c b k o clean e q =
      let z : b ≡ k = cc in
      subst (λ (j : ℕ). Held (compiled h sc c) j (latest (compiles h) sc c b o)) z (omega (arith, q.0, grows h sc c), by (accepted_at (compiles h) sc c b) refl o q.1)
    where
      by : (t : Bool) → accepted_at (compiles h) sc c b ≡ t → (o : Option (List Slot)) → Standing sc b o → Standing (compiled h sc c) b (cond t (some (with_slots c.shop)) o)
      by true u o a = accepted_once h n sc c clean b q.0 u
      by false u none a = λ l. kept_once h sc c b (omega (arith, q.0)) u ∙ a l
      by false u (some xs) a = accepted_kept h n sc c clean b xs u a

  module _ (cs : List Call) (clean : NoneAppended (compiles h) n start cs) where
    held_all : (b : ℕ) → Held (after_all (compiles h) start cs) b (last_at (compiles h) start cs b)
    held_all b = kept_all (compiles h) _ Held held_once start cs clean b b none (stays (compiles h) (λ s c j. refl) start cs b) (omega arith, λ l. refl)

    pub accepted_all : (b : ℕ) (xs : List Slot) → last_at (compiles h) start cs b ≡ some xs → ShopAt h n (after_all (compiles h) start cs) b xs
    accepted_all b xs e = (subst (Held (after_all (compiles h) start cs) b) e (held_all b)).1

    pub kept_blocks_lem : (b : ℕ) → b < n → last_at (compiles h) start cs b ≡ none → block_at (after_all (compiles h) start cs).blocks b ≡ block_at start.blocks b
    kept_blocks_lem b l e = (subst (Held (after_all (compiles h) start cs) b) e (held_all b)).1 l
