-- One more in the bag (02, A.14) over the calls of the library: lk_run of a compiled shop under two saves alike but for one item. Each call comes in by its own promise. Assumes nothing.
use Rattle.std.specs.Prelude.{◌≡◌, refl, Bool, true, false, cond, ◌&&◌, List, [], ◌∷◌, ℕ, ◌≤◌, eqb, ℤ, length}
use Rattle.std.proofs.Common.{sym, ap, ◌∙◌, arith}
use Rattle.std.proofs.Math.Bool.{and-false}
use Rattle.std.proofs.Math.Option.{Option, none, some}
use Rattle.model.specs.Limits.{run_blocks, slot_count}
use Rattle.model.specs.Save.{Save}
use Rattle.model.specs.Sheet.{Sheet, save_refusal}
use Rattle.model.specs.Shop.{Slot}
use Rattle.model.specs.Flags.{flag_answer}
use Rattle.model.specs.RecordCalls.{Born, run_in}
use Rattle.model.specs.Lists.{Along, after_all, following, last_at, last_from, now_at}
use Rattle.model.proofs.Laws.Lists.{none≢some}
use Rattle.reclaim_record.proofs.Stands.{LongBorn}
use Rattle.capi.specs.declared.Ran.{Ran}
use Rattle.capi.specs.Answers.{ran_as}
use Rattle.library.specs.Delivered.{Asked, compile, reclaim, Made, AsPromised, given_by, left_by, made}
use Rattle.library.proofs.Delivered.{delivered, shop_long}
use Rattle.moves_model.specs.OneMore.{OneMore, Differ}
use Rattle.moves_model.proofs.Differs.{means_differ}

-- ---- a shop that was accepted has twenty slots

-- of a call that was accepted at a block
named_long : (x : Made) (b : ℕ) (a : Asked) → x.asked ≡ a → eqb x.answer.refusal 0 && made.names x b ≡ true → length (given_by x.asked) ≡ slot_count
named_long x b (compile o s a) e p = rw e (shop_long a)
named_long x b (reclaim rs mv) e p = let z : ◌≡◌ {A = Bool} false true = sym (and-false (eqb x.answer.refusal 0)) ∙ (rw e at p) in let n : ◌≡◌ {A = ℕ} 0 1 = cc in absurd (omega arith)

last_long : (k : Born) (xs : List Made) (o : Option (List Slot)) (b : ℕ) (ys : List Slot) → ((zs : List Slot) → o ≡ some zs → length zs ≡ slot_count) → last_from made o k xs b ≡ some ys → length ys ≡ slot_count
unfolding last_from
last_long k [] o b ys f e = f ys e
last_long k (x ∷ xs) o b ys f e = by (made.now k x b) (eqb x.answer.refusal 0 && made.names x b) refl (last_long (left_by x) xs) e
  where
    by : (j : Option ℕ) (t : Bool) → eqb x.answer.refusal 0 && made.names x b ≡ t
        → ((o : Option (List Slot)) (b : ℕ) (ys : List Slot) → ((zs : List Slot) → o ≡ some zs → length zs ≡ slot_count) → last_from made o (left_by x) xs b ≡ some ys → length ys ≡ slot_count)
        → following j (λ i. last_from made (cond t (some (given_by x.asked)) o) (left_by x) xs i) ≡ some ys → length ys ≡ slot_count
    by none t p ih e = absurd (none≢some e)
    by (some i) true p ih e = ih (some (given_by x.asked)) i ys (λ zs z. let same : given_by x.asked ≡ zs = cc in ap length (sym same) ∙ named_long x b x.asked refl p) e
    by (some i) false p ih e = ih o i ys f e

module _ (h : Sheet) (k : Born) (xs : List Made) (long : LongBorn k) (promised : Along made (AsPromised h) k xs) where
  -- b is a block of the start, b' its number after any list of lk_compile and lk_reclaim, ys the shop accepted last at it; each run has a budget of its own.
  -- Both are answered 0, or both 23 where a slot with an item has a flag outside the save (A.10), and then the same holds of what they wrote
  pub one_more_lem : (b b' : ℕ) (ys : List Slot) → now_at made k xs b ≡ some b' → last_at made k xs b ≡ some ys
      → (w n : ℕ) (s t : Save) → OneMore w n s t → save_refusal h s ≡ 0 → save_refusal h t ≡ 0
      → (budget other : ℕ) → run_blocks ≤ budget → run_blocks ≤ other
      → (r q : Ran) (u v : List ℤ) → ran_as r u ≡ run_in h (after_all made k xs).memory b' s budget → ran_as q v ≡ run_in h (after_all made k xs).memory b' t other
      → (r.refusal ≡ flag_answer ys) × Differ h w ys (ran_as r u) (ran_as q v)
  one_more_lem b b' ys at last w n s t m f g budget other p p' r q u v e e' =
      let a = (delivered h k xs long promised).ends b b' ys at last s f budget r u e in
      let c = (delivered h k xs long promised).ends b b' ys at last t g other q v e' in
      let z = a.answered p in
      let y = c.answered p' in
      (z, means_differ h w n s t m ys (last_long k xs none b ys (λ zs i. absurd (none≢some i)) last) (ran_as r u) (ran_as q v) (z ∙ sym y) (a.means z) (c.means y))
