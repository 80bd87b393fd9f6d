-- The bill after a run of a compiled shop (02, A.11): any list of lk_compile and lk_reclaim as they were made and answered, then lk_run, then lk_bill with the counts that it left. Each call comes in by its own promise. Assumes nothing.
use Rattle.std.specs.Prelude.{◌≡◌, refl, Bool, true, false, cond, ℕ, ◌≤◌, eqb, ℤ, length}
use Rattle.std.proofs.Common.{sym, ◌∙◌, true≢false}
use Rattle.std.proofs.Math.Path.{subst}
use Rattle.std.proofs.Math.Option.{Option, none, some}
use mathlib.Core.List.{List}
use borrow.Author.Tests.{eqb-true}
use Rattle.model.specs.Limits.{slot_count}
use Rattle.model.specs.Save.{Save}
use Rattle.model.specs.Sheet.{Sheet, all, save_refusal}
use Rattle.model.specs.Shop.{Slot, slot_ok}
use Rattle.model.specs.Memory.{script_of}
use Rattle.model.specs.RecordCalls.{Born, born_at, compile_refusal_in, record_refusal, run_in}
use Rattle.model.specs.Lists.{Along, accepted_at, after_all, last_at, latest, now_at}
use Rattle.model.proofs.Laws.Checks.{and_left, and_right, compile_passed}
use Rattle.model.proofs.Laws.Lists.{kept_all, none≢some}
use Rattle.shop_arrays.specs.Arrays.{shop_from}
use Rattle.compile.specs.Answer.{call_of, CompiledAs}
use Rattle.preview.specs.Accepted.{with_all}
use Rattle.reclaim_record.specs.Demand.{Given}
use Rattle.reclaim_record.proofs.Stands.{LongBorn}
use Rattle.capi.specs.declared.Ran.{Ran}
use Rattle.capi.specs.Answers.{loader_by, ran_as}
use Rattle.library.specs.Delivered.{Asked, AsPromised, Made, compile, given_by, made, reclaim, shop_of}
use Rattle.library.proofs.Delivered.{means_of, shop_long}
use Rattle.bill_model.specs.Tariff.{Tariff, tariff_refusal}
use Rattle.bill_model.specs.Bill.{leaves}
use Rattle.bill_model.specs.Sorting.{bill_by_item}
use Rattle.bill_model.proofs.Totals.{by_item_answer}
use Rattle.bill_model.proofs.Left.{LeftBy, TakesFrom, counts_from, left_by_lem}
use Rattle.bill.specs.Billed.{BilledAs}

-- ---- the shop accepted last at a block passed 1 and 8

module _ (h : Sheet) where
  asked_given : (k : Born) (x : Made) (a : Asked) → x.asked ≡ a → AsPromised h k x → (b : ℕ) → eqb x.answer.refusal 0 ≡ true → made.names x b ≡ true → Given h (given_by a)
  unfolding compile_refusal_in
  asked_given k x (compile o b a) e p j z n =
      let c = call_of (loader_by o) b (shop_from a) in
      let q : CompiledAs h k c x.answer.refusal _ = rw e at p in
      let u = compile_passed h (record_refusal k.memory) (born_at k b) (script_of k.memory) c (sym q.answer ∙ eqb-true _ _ z) in
      record { sheet = u.sheet; twenty = shop_long a; ok = subst (λ (ys : List Slot). all (slot_ok h) ys ≡ true) (with_all (shop_of a) (shop_long a)) u.slots }
  asked_given k x (reclaim rs mv) e p j z n = absurd (true≢false (sym (rw e at n)))

  -- what is known of the shop accepted last, if there is one
  abbrev GivenIf : Option (List Slot) → Type 0
  GivenIf o = (ys : List Slot) → o ≡ some ys → Given h ys

  keeps : (k : Born) (x : Made) (b j : ℕ) (o : Option (List Slot)) → AsPromised h k x → made.now k x b ≡ some j → GivenIf o → GivenIf (latest made k x b o)
  keeps k x b j o p w g = by (accepted_at made k x b) refl
    where
      by : (t : Bool) → accepted_at made k x b ≡ t → GivenIf (cond t (some (given_by x.asked)) o)
      by true e ys z =
          let q : given_by x.asked ≡ ys = cc in
          subst (Given h) q (asked_given k x x.asked refl p b (and_left (eqb x.answer.refusal 0) _ e) (and_right (eqb x.answer.refusal 0) _ e))
      by false e ys z = g ys z

-- ---- the bill

-- what lk_bill answers of the save that a run left, by its promise
pub record Billable (h : Sheet) (s : Save) (v : List ℤ) : Type 0 where
  -- with the counts themselves as the basket 24 alone can refuse: neither 1 nor 12 nor 25
  pub counts : (t : Tariff) (n total : ℕ) (is is' : List ℤ) (ss ss' cs cs' : List ℕ) → BilledAs (bill_by_item h (leaves s v) t (counts_from v 0 slot_count)) n total is is' ss ss' cs cs'
      → n ≡ tariff_refusal h t
  -- and so with every basket that takes at most the counts
  pub takes : (t : Tariff) (ks : List ℤ) → length ks ≤ slot_count → TakesFrom v 0 ks → (n total : ℕ) (is is' : List ℤ) (ss ss' cs cs' : List ℕ)
      → BilledAs (bill_by_item h (leaves s v) t ks) n total is is' ss ss' cs cs' → n ≡ tariff_refusal h t

-- the list as in demand 3: the first call gets the script k, each later one the script as the one before left it
module _ (h : Sheet) (k : Born) (xs : List Made) (long : LongBorn k) (promised : Along made (AsPromised h) k xs) where
  given : (b b' : ℕ) (ys : List Slot) → now_at made k xs b ≡ some b' → last_at made k xs b ≡ some ys → Given h ys
  given b b' ys n e = kept_all made (AsPromised h) (λ t i o. GivenIf h o) (keeps h) k xs promised b b' none n (λ zs q. absurd (none≢some q)) ys e

  -- lk_run from a surviving block where an lk_compile was accepted, under a save that fits the sheet, answered r without a refusal and left the variables v
  pub billable : (b b' : ℕ) (ys : List Slot) → now_at made k xs b ≡ some b' → last_at made k xs b ≡ some ys → (s : Save) → save_refusal h s ≡ 0 → (budget : ℕ) (r : Ran) (v : List ℤ)
      → ran_as r v ≡ run_in h (after_all made k xs).memory b' s budget → r.refusal ≡ 0 → Billable h s v
  billable b b' ys n e s f budget r v p z =
      let g = given b b' ys n e in
      let m = means_of h k xs long promised b b' ys n e s f budget r v p z in
      let l : LeftBy h s v = left_by_lem h g.sheet ys g.twenty g.ok s f v m in
      record {
        counts = λ t n total is is' ss ss' cs cs' q. q.answer ∙ by_item_answer h (leaves s v) t (counts_from v 0 slot_count) ∙ l.counts t;
        takes = λ t ks j u n total is is' ss ss' cs cs' q. q.answer ∙ by_item_answer h (leaves s v) t ks ∙ l.takes t ks j u;
      }
