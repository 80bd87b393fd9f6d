-- The walk over the list of slots. Assumes nothing.
use Rattle.std.specs.Prelude.{◌≡◌, refl, Bool, cond, get_or, length, T, ltb, leb, ℤ, pos}
use Rattle.std.proofs.Common.{◌∙◌, arith, add-zero}
use Rattle.std.proofs.Math.Bool.{true, false}
use Rattle.std.proofs.Math.Option.{Option, none, some}
use mathlib.Core.List.{List, [], ◌∷◌, map}
use Prim.Native.Nat.{ℕ, zero, suc, ◌-◌, ◌+◌, ◌<◌, ◌≤◌}
use Rattle.std.proofs.Math.ListN.{set}
use Rattle.std.proofs.Math.Seq.{get_or-set_same}
use borrow.Author.Tests.{lt-ltb, ne_eqb, leb-false}
use Rattle.std.specs.Int.{w16}
use Rattle.model.specs.Limits.{most_stock, half16}
use Rattle.model.specs.Signed.{cut16}
use Rattle.model.specs.Expr.{imm, imm16, negate, two}
use Rattle.model.specs.declared.Op2.TheVariants.{BitAnd}
use Rattle.model.specs.Sheet.{Sheet, all}
use Rattle.model.specs.Requirement.{Requirement, extend, sorted}
use Rattle.model.specs.Shop.{Slot, empty_slot, limit_of, timer_of}
use Rattle.model.specs.Script.{Block, return}
use Rattle.model.specs.Compile.{acquired_expr, blocks_for, item_expr, join_tests, last_of, limit_blocks, return_block, slot_blocks, slots_blocks, test, unique_blocks}
use Rattle.model.specs.Run.{done}
use Rattle.model.specs.Parse.{few_entries, parse_requirements, visited}
use Rattle.model.specs.Normal.{filled_slot}
use Rattle.model.proofs.Laws.Compiled.{last_of_is}
use Rattle.model.proofs.Laws.Runs.{after_append, last_of_append, limit_le}
use Rattle.model.proofs.Laws.Signed.{wrap_id}
use Rattle.model.proofs.Laws.SlotReads.{Before, Got, Rel, Rested, empty_walks, rel_mark, stock_bare_walks, stock_hid_walks, unique_bare_walks, unique_hid_walks}
use Rattle.model.proofs.Laws.SlotRuns.{After, Stands, at}
use Rattle.model.proofs.Laws.Walks.{Walks, entered_return, mk, w_end}

-- ---- a slot as the walk reads it: its requirements come from the condition of its hiding block

unfoldable pub unique_reqs : Sheet → ℕ → List Requirement → List Requirement
unique_reqs h w [] = []
unique_reqs h w (r ∷ rs) = extend [] (parse_requirements h (some (two BitAnd (negate (two BitAnd (negate (acquired_expr h w)) (join_tests (test r) rs))) (negate (acquired_expr h w)))))

unfoldable pub limit_reqs : Sheet → List Requirement → List Requirement
limit_reqs h [] = []
limit_reqs h (r ∷ rs) = extend [] (parse_requirements h (some (negate (join_tests (test r) rs))))

abbrev pub filled_read : Sheet → ℕ → ℕ → List Requirement → Slot
filled_read h w l qs = cond (leb l 1) (filled_slot w 1 (unique_reqs h w qs)) (filled_slot w l (limit_reqs h qs))

abbrev pub read_for : Sheet → Option ℕ → ℤ → List Requirement → Slot
read_for h none z qs = empty_slot
read_for h (some w) z qs = filled_read h w (limit_of h w z) qs

unfoldable pub read_back : Sheet → Slot → Slot
read_back h x = read_for h x.item x.limit (sorted x.requirements)

-- what refusal 8 leaves of an item, and that the slot read has few entries
abbrev pub ItemOk : Sheet → Option ℕ → Type 0
ItemOk h none = Unit {0}
ItemOk h (some w) = (ltb w (length h.atc_of) ≡ true) × (w < half16)

pub record SlotOk (h : Sheet) (x : Slot) : Type 0 where
  pub item_ok : ItemOk h x.item
  pub tiny : few_entries (read_back h x) ≡ true

abbrev pub AllOk : Sheet → List Slot → Type 0
AllOk h [] = Unit {0}
AllOk h (x ∷ xs) = SlotOk h x × AllOk h xs

imm_small : (w : ℕ) → w < half16 → item_expr w ≡ imm16 (pos w)
unfolding imm
imm_small w p = rw (lt-ltb w half16 p)

cut_small : (q : ℕ) → q ≤ most_stock → cut16 (pos q) ≡ pos q
cut_small q p = wrap_id w16 (pos q) (omega arith)

module _ (h : Sheet) (bs : List Block) (home i e : ℕ) (ys : List Slot) (i-in : i < 20)
    (rest : (hi : ℕ) (x : Slot) (S : List Slot) (M : List Bool) (l : ℤ) → e ≤ hi → Before home i e ys hi x S M → Rested h bs home i e ys hi x S M l) where
  module _ (w : ℕ) (known : ltb w (length h.atc_of) ≡ true) (w-in : w < half16) (S : List Slot) (M : List Bool) (l : ℤ) where
    unique_reads : (qs : List Requirement) → few_entries (filled_slot w 1 (unique_reqs h w qs)) ≡ true → After bs e (unique_blocks h i e w qs)
        → Before home i e ys (last_of e (unique_blocks h i e w qs)) empty_slot S M → Got h bs home i e ys (last_of e (unique_blocks h i e w qs)) none e (filled_slot w 1 (unique_reqs h w qs)) S M l
    unfolding unique_blocks unique_reqs
    unique_reads [] t a b = unique_bare_walks h bs home i e ys i-in rest w (imm_small w w-in) known (timer_of h w) (negate (acquired_expr h w)) S M l a b
    unique_reads (r ∷ rs) t a b =
        unique_hid_walks h bs home i e ys i-in rest w (imm_small w w-in) known (two BitAnd (negate (acquired_expr h w)) (join_tests (test r) rs)) (acquired_expr h w) t (timer_of h w) S M l a b

    stock_reads : (q : ℕ) (qs : List Requirement) → q ≤ 10 → leb q 1 ≡ false → few_entries (filled_slot w q (limit_reqs h qs)) ≡ true → After bs e (limit_blocks i e w q qs)
        → Before home i e ys (last_of e (limit_blocks i e w q qs)) empty_slot S M → Got h bs home i e ys (last_of e (limit_blocks i e w q qs)) none e (filled_slot w q (limit_reqs h qs)) S M l
    unfolding limit_blocks limit_reqs
    stock_reads q [] p g t a b = stock_bare_walks h bs home i e ys i-in rest w (imm_small w w-in) known q (cut_small q p) (ne_eqb q 0 (λ z. omega (arith, leb-false q 1 g))) S M l a b
    stock_reads q (r ∷ rs) p g t a b =
        stock_hid_walks h bs home i e ys i-in rest w (imm_small w w-in) known q (cut_small q p) (ne_eqb q 0 (λ z. omega (arith, leb-false q 1 g))) (join_tests (test r) rs) t S M l a b

    ware_reads : (q : ℕ) (qs : List Requirement) (v : Bool) → q ≤ 10 → leb q 1 ≡ v → few_entries (cond v (filled_slot w 1 (unique_reqs h w qs)) (filled_slot w q (limit_reqs h qs))) ≡ true
        → After bs e (cond v (unique_blocks h i e w qs) (limit_blocks i e w q qs)) → Before home i e ys (last_of e (cond v (unique_blocks h i e w qs) (limit_blocks i e w q qs))) empty_slot S M
        → Got h bs home i e ys (last_of e (cond v (unique_blocks h i e w qs) (limit_blocks i e w q qs))) none e (cond v (filled_slot w 1 (unique_reqs h w qs)) (filled_slot w q (limit_reqs h qs))) S M l
    ware_reads q qs true p g t a b = unique_reads qs t a b
    ware_reads q qs false p g t a b = stock_reads q qs p g t a b

  opt_reads : (o : Option ℕ) (z : ℤ) (qs : List Requirement) → ItemOk h o → few_entries (read_for h o z qs) ≡ true → (S : List Slot) (M : List Bool) (l : ℤ) → After bs e (blocks_for h i e o z qs)
      → Before home i e ys (last_of e (blocks_for h i e o z qs)) empty_slot S M → Got h bs home i e ys (last_of e (blocks_for h i e o z qs)) none e (read_for h o z qs) S M l
  opt_reads none z qs k t S M l a b = empty_walks h bs home i e ys i-in rest S M l a b
  opt_reads (some w) z qs k t S M l a b = ware_reads w k.0 k.1 S M l (limit_of h w z) qs (leb (limit_of h w z) 1) (limit_le h w z) refl t a b

  slot_reads : (x : Slot) → SlotOk h x → (S : List Slot) (M : List Bool) (l : ℤ) → After bs e (slot_blocks h i e x)
      → Before home i e ys (last_of e (slot_blocks h i e x)) empty_slot S M → Got h bs home i e ys (last_of e (slot_blocks h i e x)) none e (read_back h x) S M l
  unfolding slot_blocks read_back
  slot_reads x k S M l a b = opt_reads x.item x.limit (sorted x.requirements) k.item_ok k.tiny S M l a b

-- ---- the list

-- before and after the walk of the slots from i on, whose root is top
pub record Start (home top i : ℕ) (S : List Slot) (M : List Bool) : Type 0 where
  pub count : length S ≡ 20
  pub tiny : all few_entries S ≡ true
  pub fresh : (j : ℕ) → home ≤ j → j ≤ top → get_or M j false ≡ false
  pub room : top < length M
  pub empty : (k : ℕ) → i ≤ k → get_or S k empty_slot ≡ empty_slot

pub record End (h : Sheet) (bs : List Block) (top i : ℕ) (ys : List Slot) (S : List Slot) (M : List Bool) (l : ℤ) : Type 0 where
  pub S₁ : List Slot
  pub M₁ : List Bool
  pub l₁ : ℤ
  pub count : length S₁ ≡ 20
  pub tiny : all few_entries S₁ ≡ true
  pub upper : (k : ℕ) → k < length ys → get_or S₁ (i + k) empty_slot ≡ get_or ys k empty_slot
  pub begun : get_or M₁ top false ≡ true
  pub rel : Rel i top S M S₁ M₁
  pub walks : Walks h bs top none (mk S M l) (mk S₁ M₁ l₁)

module _ (h : Sheet) (bs : List Block) (home : ℕ) (returns : Stands bs home return_block) where
  -- the later slots' result, as one slot's walk needs it
  rested : (i e : ℕ) (ys : List Slot) → ((S : List Slot) (M : List Bool) (l : ℤ) → Start home e (suc i) S M → End h bs e (suc i) ys S M l)
      → (hi : ℕ) (x : Slot) (S : List Slot) (M : List Bool) (l : ℤ) → e ≤ hi → Before home i e ys hi x S M → Rested h bs home i e ys hi x S M l
  rested i e ys f hi x S M l p b =
      let g = f S M l (record { count = b.ctx.count; tiny = b.ctx.tiny; fresh = b.fresh; room = omega (arith, b.ctx.room); empty = λ k q. b.empty k (omega arith) }) in
      record {
        S₁ = g.S₁;
        M₁ = g.M₁;
        l₁ = g.l₁;
        done = record {
          ctx = record {
            count = g.count;
            tiny = g.tiny;
            mine = g.rel.lower i (omega arith) ∙ b.ctx.mine;
            unseen = λ j q r. g.rel.above j q ∙ b.ctx.unseen j q r;
            room = omega (arith, b.ctx.room, g.rel.long);
          };
          seen = g.begun;
          upper = g.upper;
        };
        rel = record { lower = λ k q. g.rel.lower k (omega arith); mono = g.rel.mono; above = g.rel.above; long = g.rel.long };
        walks = g.walks;
      }

  one_read_lem : (x : Slot) (i e : ℕ) (ys : List Slot) → i < 20 → home ≤ e → SlotOk h x → After bs e (slot_blocks h i e x)
      → ((S : List Slot) (M : List Bool) (l : ℤ) → Start home e (suc i) S M → End h bs e (suc i) ys S M l)
      → (S : List Slot) (M : List Bool) (l : ℤ) → Start home (last_of e (slot_blocks h i e x)) i S M → End h bs (last_of e (slot_blocks h i e x)) i (read_back h x ∷ ys) S M l
  one_read_lem x i e ys i-in p k a f S M l st =
      let high = last_of_is e (slot_blocks h i e x) in
      let b : Before home i e ys (last_of e (slot_blocks h i e x)) empty_slot S M = record {
        ctx = record { count = st.count; tiny = st.tiny; mine = st.empty i (omega arith); unseen = λ j q r. st.fresh j (omega arith) r; room = st.room };
        fresh = λ j q r. st.fresh j q (omega arith);
        empty = λ j q. st.empty j (omega arith);
      } in
      let g = slot_reads h bs home i e ys i-in (rested i e ys f) x k S M l a b in
      record {
        S₁ = g.S₁;
        M₁ = g.M₁;
        l₁ = g.l₁;
        count = g.done.ctx.count;
        tiny = g.done.ctx.tiny;
        begun = g.begun;
        rel = g.rel;
        walks = g.walks;
        upper = both g.S₁ g.done.ctx.mine g.done.upper;
      }
    where
      both : (T : List Slot) → get_or T i empty_slot ≡ read_back h x → ((k : ℕ) → k < length ys → get_or T (suc i + k) empty_slot ≡ get_or ys k empty_slot)
          → (k : ℕ) → k < suc (length ys) → get_or T (i + k) empty_slot ≡ get_or (read_back h x ∷ ys) k empty_slot
      both T m u zero q = rw (add-zero i) m
      both T m u (suc k) q = let z : i + suc k ≡ suc i + k = omega arith in rw z (u k (omega arith))

  unfoldable pub Reads : List Slot → ℕ → Type 0
  Reads xs i = i + length xs ≤ 20 → AllOk h xs → After bs home (slots_blocks h home i xs)
      → (S : List Slot) (M : List Bool) (l : ℤ) → Start home (last_of home (slots_blocks h home i xs)) i S M → End h bs (last_of home (slots_blocks h home i xs)) i (map (read_back h) xs) S M l

  nil_read : (i : ℕ) → Reads [] i
  unfolding Reads slots_blocks
  nil_read i p k a S M l st =
      let g : Walks h bs home none (mk S M l) (visited h home none (return ∷ []) (mk S M l)) = w_end (st.fresh home (omega arith) (omega arith)) returns in
      record {
        S₁ = S;
        M₁ = set M home true;
        l₁ = l;
        count = st.count;
        tiny = st.tiny;
        upper = λ k q. absurd (omega arith);
        begun = get_or-set_same M home true false st.room;
        rel = rel_mark (omega arith);
        walks = rw (entered_return h home none S M l st.tiny) at g;
      }

  cons_read : (x : Slot) (xs : List Slot) (i : ℕ) → Reads xs (suc i) → Reads (x ∷ xs) i
  unfolding Reads slots_blocks
  cons_read x xs i ih p k a S M l st =
      let later : List Block = slots_blocks h home (suc i) xs in
      let e : ℕ = last_of home later in
      let parts = after_append bs home later (slot_blocks h i e x) a in
      rw (last_of_append home later (slot_blocks h i e x))
      (one_read_lem x i e (map (read_back h) xs) (omega arith) (omega (arith, last_of_is home later)) k.0 parts.1 (ih (omega arith) k.1 parts.0) S M l
      (rw (last_of_append home later (slot_blocks h i e x)) at st))

  pub slots_read : (xs : List Slot) (i : ℕ) → Reads xs i
  slots_read [] i = nil_read i
  slots_read (x ∷ xs) i = cons_read x xs i (slots_read xs (suc i))
