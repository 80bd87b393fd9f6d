-- The walk over one slot's blocks, in falling order of their numbers, with the later slots walked in between. Assumes nothing.
use Rattle.std.specs.Prelude.{◌≡◌, Bool, List, [], ◌∷◌, get_or, set, length, ltb, eqb, ℤ, pos, negsuc}
use Rattle.std.proofs.Math.Path.{refl}
use Rattle.std.proofs.Common.{◌∙◌, arith, length-set, get_or-set_same, get_or-set_other}
use Rattle.std.proofs.Math.Bool.{true, false}
use Rattle.std.proofs.Math.Option.{Option, none, some}
use Prim.Native.Nat.{ℕ, suc, ◌-◌, ◌+◌, ◌<◌, ◌≤◌}
use Rattle.model.specs.Signed.{cut16}
use Rattle.model.specs.Expr.{Expr, imm16, negate, two}
use Rattle.model.specs.declared.Op2.TheVariants.{BitAnd, Less}
use Rattle.model.specs.Sheet.{Sheet, all}
use Rattle.model.specs.Requirement.{extend}
use Rattle.model.specs.Shop.{Slot, Timer, empty_slot, fifteen, five, plain, ten}
use Rattle.model.specs.Script.{Block}
use Rattle.model.specs.Compile.{enable_blocks, hide_block, if_block, item_expr, last_of, no_timer_expr, remaining_block, reset_block, set_slot, set_slot_end, temp_var}
use Rattle.model.specs.Parse.{State, few_entries, join, parse_requirements, place_of, update_slot, value, written}
use Rattle.model.specs.Normal.{filled_slot}
use Rattle.model.proofs.Laws.Compiled.{last_of_is}
use Rattle.model.proofs.Laws.SlotRuns.{After, Stands, hidden_blocks}
use Rattle.model.proofs.Laws.Walks.{Walks, entered_if, entered_left, entered_pair, entered_pair_end, entered_reset, mk, place_count, place_item, w_fork, w_go, w_seen}
use Rattle.model.proofs.Laws.Places.{marks_stay, all_set}

-- in the walk of slot i over the blocks e+1 .. : those up to hi are yet to be visited; the slot is x so far
pub record Ctx (i e hi : ℕ) (x : Slot) (S : List Slot) (M : List Bool) : Type 0 where
  pub count : length S ≡ 20
  pub tiny : all few_entries S ≡ true
  pub mine : get_or S i empty_slot ≡ x
  pub unseen : (j : ℕ) → e < j → j ≤ hi → get_or M j false ≡ false
  pub room : hi < length M

-- what a stretch of the walk leaves alone: lower slots, marks above top; a mark stays
pub record Rel (i top : ℕ) (S : List Slot) (M : List Bool) (S₁ : List Slot) (M₁ : List Bool) : Type 0 where
  pub lower : (k : ℕ) → k < i → get_or S₁ k empty_slot ≡ get_or S k empty_slot
  pub mono : (j : ℕ) → get_or M j false ≡ true → get_or M₁ j false ≡ true
  pub above : (j : ℕ) → top < j → get_or M₁ j false ≡ get_or M j false
  pub long : length M₁ ≡ length M

pub rel_trans : {i top : ℕ} {S S₁ S₂ : List Slot} {M M₁ M₂ : List Bool} → Rel i top S M S₁ M₁ → Rel i top S₁ M₁ S₂ M₂ → Rel i top S M S₂ M₂
rel_trans a b = record {
  lower = λ k p. b.lower k p ∙ a.lower k p;
  mono = λ j p. b.mono j (a.mono j p);
  above = λ j p. b.above j p ∙ a.above j p;
  long = b.long ∙ a.long;
}

pub rel_mark : {i top b : ℕ} {S : List Slot} {M : List Bool} → b ≤ top → Rel i top S M S (set M b true)
rel_mark {b} {M} l = record { lower = λ k p. refl; mono = marks_stay M b; above = λ j p. get_or-set_other M b j true false (omega arith); long = length-set M b true }

rel_set : {i top : ℕ} {S : List Slot} {M : List Bool} (y : Slot) → Rel i top S M (set S i y) M
rel_set {i} {S} y = record { lower = λ k p. get_or-set_other S i k y empty_slot (omega arith); mono = λ j p. p; above = λ j p. refl; long = refl }

module _ {i e n : ℕ} {x : Slot} {S : List Slot} {M : List Bool} where
  ctx_mark : Ctx i e (suc n) x S M → Ctx i e n x S (set M (suc n) true)
  ctx_mark c = record {
    count = c.count;
    tiny = c.tiny;
    mine = c.mine;
    unseen = λ j p q. get_or-set_other M (suc n) j true false (omega arith) ∙ c.unseen j p (omega arith);
    room = omega (arith, c.room, length-set M (suc n) true);
  }

  ctx_set : (y : Slot) → few_entries y ≡ true → i < 20 → Ctx i e n x S M → Ctx i e n y (set S i y) M
  ctx_set y t l c = record {
    count = length-set S i y ∙ c.count;
    tiny = all_set few_entries S i y c.tiny t;
    mine = get_or-set_same S i y empty_slot (omega (arith, c.count));
    unseen = c.unseen;
    room = c.room;
  }

-- ---- one block's visit

module _ (h : Sheet) (bs : List Block) (i e : ℕ) (i-in : i < 20) where
  module _ {n : ℕ} {c : Option Expr} {x : Slot} {S : List Slot} {M : List Bool} {l : ℤ} (k : Ctx i e (suc n) x S M) (low : e ≤ n) where
    v_if : {y : Expr} {m j : ℕ} {st' st'' : State} → Stands bs (suc n) (if_block m y j) → m ≤ n → j ≤ n
        → Walks h bs m (some (join c y)) (mk S (set M (suc n) true) l) st' → Walks h bs j (some (join c (negate y))) st' st'' → Walks h bs (suc n) c (mk S M l) st''
    v_if {y} {j} s p q w w' = w_fork (k.unseen (suc n) (omega arith) (omega arith)) s (omega arith) (omega arith) (rw (entered_if h (suc n) c S M l k.tiny y j) w) w'

    v_reset : {m : ℕ} {st' : State} → Stands bs (suc n) (reset_block m) → m ≤ n → Walks h bs m none (mk S (set M (suc n) true) l) st' → Walks h bs (suc n) c (mk S M l) st'
    unfolding place_of
    v_reset s p w = w_go (k.unseen (suc n) (omega arith) (omega arith)) s (omega arith) (rw (entered_reset h (suc n) c S M l k.tiny) w)

    module _ (a z : Expr) (u v : ℤ) (wa : written a l ≡ some u) (wz : written z l ≡ some v) (y : Slot) (upd : update_slot h (parse_requirements h c) (some u) (some v) x ≡ y) (t : few_entries y ≡ true) where
      v_pair : {m : ℕ} {st' : State} → Stands bs (suc n) (set_slot m i a z) → m ≤ n → Walks h bs m none (mk (set S i y) (set M (suc n) true) l) st' → Walks h bs (suc n) c (mk S M l) st'
      v_pair s p w = w_go (k.unseen (suc n) (omega arith) (omega arith)) s (omega arith)
          (rw (entered_pair h (suc n) c S M l k.tiny i i-in a z u v wa wz x y k.mine upd t, place_item i i-in, place_count i i-in) w)

      v_pair_end : {m : ℕ} {st' : State} → Stands bs (suc n) (set_slot_end m i a z) → m ≤ n → Walks h bs m none (mk (set S i y) (set M (suc n) true) l) st' → Walks h bs (suc n) c (mk S M l) st'
      v_pair_end {m} s p w = w_go (k.unseen (suc n) (omega arith) (omega arith)) s (omega arith)
          (rw (entered_pair_end h (suc n) c S M l k.tiny i i-in a z u v wa wz x y k.mine upd t m, place_item i i-in, place_count i i-in) w)

    v_left : {q w m : ℕ} {st' st'' : State} → Stands bs (suc n) (remaining_block q w m) → suc m ≤ n → value (item_expr w) ≡ some (pos w) → cut16 (pos q) ≡ pos q
        → Walks h bs (suc m) (some (join c (two Less temp_var (imm16 (pos 0))))) (mk S (set M (suc n) true) (pos q)) st'
        → Walks h bs m (some (join c (negate (two Less temp_var (imm16 (pos 0)))))) st' st'' → Walks h bs (suc n) c (mk S M l) st''
    v_left {q} {w} {m} s p vi cu a b = w_fork (k.unseen (suc n) (omega arith) (omega arith)) s (omega arith) (omega arith) (rw (entered_left h (suc n) c S M l k.tiny q w m vi cu) a) b

-- ---- one slot, over what the later slots do

rel_up : {i top top' : ℕ} {S S₁ : List Slot} {M M₁ : List Bool} → top ≤ top' → Rel i top S M S₁ M₁ → Rel i top' S M S₁ M₁
rel_up p r = record { lower = r.lower; mono = r.mono; above = λ j q. r.above j (omega arith); long = r.long }

module _ (home i e : ℕ) (ys : List Slot) where
  -- before the later slots are walked
  pub record Before (hi : ℕ) (x : Slot) (S : List Slot) (M : List Bool) : Type 0 where
    pub ctx : Ctx i e hi x S M
    pub fresh : (j : ℕ) → home ≤ j → j ≤ e → get_or M j false ≡ false
    pub empty : (k : ℕ) → i < k → get_or S k empty_slot ≡ empty_slot

  -- after that: they read as ys
  pub record Done (hi : ℕ) (x : Slot) (S : List Slot) (M : List Bool) : Type 0 where
    pub ctx : Ctx i e hi x S M
    pub seen : get_or M e false ≡ true
    pub upper : (k : ℕ) → k < length ys → get_or S (suc i + k) empty_slot ≡ get_or ys k empty_slot

  before_mark : {n : ℕ} {x : Slot} {S : List Slot} {M : List Bool} → e ≤ n → Before (suc n) x S M → Before n x S (set M (suc n) true)
  before_mark {n} {M} p b = record { ctx = ctx_mark b.ctx; fresh = λ j q r. get_or-set_other M (suc n) j true false (omega arith) ∙ b.fresh j q r; empty = b.empty }

  before_set : {n : ℕ} {x : Slot} {S : List Slot} {M : List Bool} → i < 20 → (y : Slot) → few_entries y ≡ true → Before n x S M → Before n y (set S i y) M
  before_set {S} i-in y t b = record { ctx = ctx_set y t i-in b.ctx; fresh = b.fresh; empty = λ k p. get_or-set_other S i k y empty_slot (omega arith) ∙ b.empty k p }

  done_mark : {n : ℕ} {x : Slot} {S : List Slot} {M : List Bool} → Done (suc n) x S M → Done n x S (set M (suc n) true)
  done_mark {n} {M} d = record { ctx = ctx_mark d.ctx; seen = marks_stay M (suc n) e d.seen; upper = d.upper }

  done_set : {n : ℕ} {x : Slot} {S : List Slot} {M : List Bool} → i < 20 → (y : Slot) → few_entries y ≡ true → Done n x S M → Done n y (set S i y) M
  done_set {S} i-in y t d = record { ctx = ctx_set y t i-in d.ctx; seen = d.seen; upper = λ k p. get_or-set_other S i (suc i + k) y empty_slot (omega arith) ∙ d.upper k p }

module _ (h : Sheet) (bs : List Block) (home i e : ℕ) (ys : List Slot) where
  pub record Rested (hi : ℕ) (x : Slot) (S : List Slot) (M : List Bool) (l : ℤ) : Type 0 where
    pub S₁ : List Slot
    pub M₁ : List Bool
    pub l₁ : ℤ
    pub done : Done home i e ys hi x S₁ M₁
    pub rel : Rel i e S M S₁ M₁
    pub walks : Walks h bs e none (mk S M l) (mk S₁ M₁ l₁)

  -- walked from top on, the slot is y and its blocks above n are visited; what goes on from block k completes the walk
  pub record Mid (top n : ℕ) (y : Slot) (k : ℕ) (c : Option Expr) (S : List Slot) (M : List Bool) (l : ℤ) : Type 0 where
    pub S₁ : List Slot
    pub M₁ : List Bool
    pub l₁ : ℤ
    pub done : Done home i e ys n y S₁ M₁
    pub rel : Rel i top S M S₁ M₁
    pub begun : get_or M₁ top false ≡ true
    pub then : (st : State) → Walks h bs k c (mk S₁ M₁ l₁) st → Walks h bs top none (mk S M l) st

  -- the walk from top is over; the slot's blocks above n are visited
  pub record Got (top : ℕ) (c : Option Expr) (n : ℕ) (y : Slot) (S : List Slot) (M : List Bool) (l : ℤ) : Type 0 where
    pub S₁ : List Slot
    pub M₁ : List Bool
    pub l₁ : ℤ
    pub done : Done home i e ys n y S₁ M₁
    pub rel : Rel i top S M S₁ M₁
    pub begun : get_or M₁ top false ≡ true
    pub walks : Walks h bs top c (mk S M l) (mk S₁ M₁ l₁)

  module _ (i-in : i < 20) (rest : (hi : ℕ) (x : Slot) (S : List Slot) (M : List Bool) (l : ℤ) → e ≤ hi → Before home i e ys hi x S M → Rested hi x S M l)
      (w : ℕ) (iw : item_expr w ≡ imm16 (pos w)) (known : ltb w (length h.atc_of) ≡ true) where
    wi : (l : ℤ) → written (item_expr w) l ≡ some (pos w)
    wi l = rw iw

    enable_plain : (n k : ℕ) (c : Expr) (S : List Slot) (M : List Bool) (l : ℤ) → e ≤ n → k ≤ suc n
        → Stands bs (suc n) (set_slot_end e i (item_expr w) (imm16 (pos 1))) → Stands bs (suc (suc n)) (if_block (suc n) c k) → Before home i e ys (suc (suc n)) empty_slot S M
        → Mid (suc (suc n)) n (filled_slot w 1 []) k (some (negate c)) S M l
    enable_plain n k c S M l p q N U b =
        let b₁ = before_mark home i e ys (omega arith) b in
        let b₂ = before_set home i e ys i-in (filled_slot w 1 []) refl (before_mark home i e ys p b₁) in
        let r = rest n (filled_slot w 1 []) _ _ l p b₂ in
        let q₁ = rel_trans (rel_mark {top = suc (suc n)} {b = suc n} (omega arith)) (rel_trans (rel_set (filled_slot w 1 [])) (rel_up (omega arith) r.rel)) in
        record {
          S₁ = r.S₁;
          M₁ = r.M₁;
          l₁ = r.l₁;
          done = r.done;
          rel = rel_trans (rel_mark {b = suc (suc n)} (omega arith)) q₁;
          begun = q₁.mono (suc (suc n)) (get_or-set_same M (suc (suc n)) true false b.ctx.room);
          then = λ st f. v_if h bs i e i-in b.ctx (omega arith) U (omega arith) (omega arith)
              (v_pair_end h bs i e i-in b₁.ctx p (item_expr w) (imm16 (pos 1)) (pos w) (pos 1) (wi l) refl (filled_slot w 1 []) (rw known) refl N (omega arith) r.walks) f;
        }

    -- N is number suc n, then D2, T and V
    enable_five : (n k : ℕ) (c t : Expr) (S : List Slot) (M : List Bool) (l : ℤ) → e ≤ n → k ≤ suc n
        → Stands bs (suc n) (set_slot_end e i (item_expr w) (imm16 (pos 1))) → Stands bs (suc (suc n)) (set_slot_end e i (item_expr w) (imm16 (pos 0)))
        → Stands bs (suc (suc (suc n))) (if_block (suc (suc n)) t (suc n)) → Stands bs (suc (suc (suc (suc n)))) (if_block (suc (suc (suc n))) c k)
        → Before home i e ys (suc (suc (suc (suc n)))) empty_slot S M
        → Mid (suc (suc (suc (suc n)))) n (filled_slot w 1 []) k (some (negate c)) S M l
    enable_five n k c t S M l p q N D T' U b =
        let b₁ = before_mark home i e ys (omega arith) b in
        let b₂ = before_mark home i e ys (omega arith) b₁ in
        go b₁ b₂ (rest (suc n) (filled_slot w 0 []) _ _ l (omega arith) (before_set home i e ys i-in (filled_slot w 0 []) refl (before_mark home i e ys (omega arith) b₂)))
      where
        top : ℕ
        top = suc (suc (suc (suc n)))

        -- what is left of the slot's blocks is given: filled in it would be a large term
        go : Before home i e ys (suc (suc (suc n))) empty_slot S (set M top true) → Before home i e ys (suc (suc n)) empty_slot S (set (set M top true) (suc (suc (suc n))) true)
            → Rested (suc n) (filled_slot w 0 []) (set S i (filled_slot w 0 [])) (set (set (set M top true) (suc (suc (suc n))) true) (suc (suc n)) true) l
            → Mid top n (filled_slot w 1 []) k (some (negate c)) S M l
        go b₁ b₂ r =
            let d = done_set home i e ys i-in (filled_slot w 1 []) refl (done_mark home i e ys r.done) in
            let q₁ = rel_trans (rel_mark {top = top} {b = suc (suc (suc n))} (omega arith)) (rel_trans (rel_mark {b = suc (suc n)} (omega arith)) (rel_trans (rel_set (filled_slot w 0 []))
            (rel_trans (rel_up (omega arith) r.rel) (rel_trans (rel_mark {b = suc n} (omega arith)) (rel_set (filled_slot w 1 [])))))) in
            record {
              S₁ = set r.S₁ i (filled_slot w 1 []);
              M₁ = set r.M₁ (suc n) true;
              l₁ = r.l₁;
              done = d;
              rel = rel_trans (rel_mark {b = top} (omega arith)) q₁;
              begun = q₁.mono top (get_or-set_same M top true false b.ctx.room);
              then = λ st f. v_if h bs i e i-in b.ctx (omega arith) U (omega arith) (omega arith)
                  (v_if h bs i e i-in b₁.ctx (omega arith) {st' = mk r.S₁ r.M₁ r.l₁} T' (omega arith) (omega arith)
                  (v_pair_end h bs i e i-in b₂.ctx (omega arith) (item_expr w) (imm16 (pos 0)) (pos w) (pos 0) (wi l) refl (filled_slot w 0 []) (rw known) refl D (omega arith) r.walks)
                  (v_pair_end h bs i e i-in r.done.ctx p (item_expr w) (imm16 (pos 1)) (pos w) (pos 1) (wi r.l₁) refl (filled_slot w 1 []) refl refl N (omega arith) (w_seen d.seen))) f;
            }

    enable_walks : (t : Timer) (n k : ℕ) (c : Expr) (S : List Slot) (M : List Bool) (l : ℤ) → e ≤ n → k ≤ suc n
        → Stands bs (suc n) (set_slot_end e i (item_expr w) (imm16 (pos 1))) → After bs (suc n) (enable_blocks h i e w t c k (suc n))
        → Before home i e ys (last_of (suc n) (enable_blocks h i e w t c k (suc n))) empty_slot S M
        → Mid (last_of (suc n) (enable_blocks h i e w t c k (suc n))) n (filled_slot w 1 []) k (some (negate c)) S M l
    enable_walks plain n k c S M l p q N a b = enable_plain n k c S M l p q N a.0 b
    enable_walks ten n k c S M l p q N a b = enable_plain n k c S M l p q N a.0 b
    enable_walks fifteen n k c S M l p q N a b = enable_plain n k c S M l p q N a.0 b
    enable_walks five n k c S M l p q N a b = enable_five n k c (no_timer_expr h) S M l p q N a.0 a.1.0 a.1.1.0 b

    -- ---- limit 1

    pub unique_bare_walks : (t : Timer) (c : Expr) (S : List Slot) (M : List Bool) (l : ℤ)
        → After bs e (set_slot e i (item_expr w) (imm16 (pos 0)) ∷ set_slot_end e i (item_expr w) (imm16 (pos 1)) ∷ enable_blocks h i e w t c (suc e) (suc (suc e)))
        → Before home i e ys (last_of (suc (suc e)) (enable_blocks h i e w t c (suc e) (suc (suc e)))) empty_slot S M
        → Got (last_of (suc (suc e)) (enable_blocks h i e w t c (suc e) (suc (suc e)))) none e (filled_slot w 1 []) S M l
    unique_bare_walks t c S M l a b =
        let m = enable_walks t (suc e) (suc e) c S M l (omega arith) (omega arith) a.1.0 a.1.1 b in
        let d = done_set home i e ys i-in (filled_slot w 1 []) refl (done_mark home i e ys m.done) in
        let q = rel_trans (rel_mark {i = i} {top = last_of (suc (suc e)) (enable_blocks h i e w t c (suc e) (suc (suc e)))} {b = suc e} (omega (arith, last_of_is (suc (suc e)) (enable_blocks h i e w t c (suc e) (suc (suc e)))))) (rel_set (filled_slot w 1 [])) in
        record {
          S₁ = set m.S₁ i (filled_slot w 1 []);
          M₁ = set m.M₁ (suc e) true;
          l₁ = m.l₁;
          done = d;
          rel = rel_trans m.rel q;
          begun = q.mono _ m.begun;
          walks = m.then _ (v_pair h bs i e i-in m.done.ctx (omega arith) (item_expr w) (imm16 (pos 0)) (pos w) (pos 0) (wi m.l₁) refl (filled_slot w 1 []) refl refl a.0 (omega arith) (w_seen d.seen));
        }

    module _ (c f : Expr) (fits : few_entries (filled_slot w 1 (extend [] (parse_requirements h (some (two BitAnd (negate c) (negate f)))))) ≡ true) where
      abbrev pub got : Slot
      got = filled_slot w 1 (extend [] (parse_requirements h (some (two BitAnd (negate c) (negate f)))))

      pub unique_hid_walks : (t : Timer) (S : List Slot) (M : List Bool) (l : ℤ) → After bs e (hidden_blocks h i e w t c f)
          → Before home i e ys (last_of e (hidden_blocks h i e w t c f)) empty_slot S M → Got (last_of e (hidden_blocks h i e w t c f)) none e got S M l
      unique_hid_walks t S M l a b =
          let full : Slot = filled_slot w 1 [] in
          let top : ℕ = last_of e (hidden_blocks h i e w t c f) in
          let high = last_of_is e (hidden_blocks h i e w t c f) in
          let m = enable_walks t (suc (suc (suc e))) (suc (suc (suc e))) c S M l (omega arith) (omega arith) a.1.1.1.0 a.1.1.1.1 b in
          let d₁ = done_mark home i e ys m.done in
          let d₂ = done_set home i e ys i-in full refl (done_mark home i e ys d₁) in
          let d₃ = done_set home i e ys i-in got fits (done_mark home i e ys d₂) in
          let q = rel_trans (rel_mark {i = i} {top = top} {b = suc (suc (suc e))} (omega arith)) (rel_trans (rel_mark {b = suc (suc e)} (omega arith)) (rel_trans (rel_set full)
          (rel_trans (rel_mark {b = suc e} (omega arith)) (rel_set got)))) in
          record {
            S₁ = _;
            M₁ = _;
            l₁ = m.l₁;
            done = d₃;
            rel = rel_trans m.rel q;
            begun = q.mono top m.begun;
            walks = m.then _ (v_if h bs i e i-in m.done.ctx (omega arith) a.1.1.0 (omega arith) (omega arith)
                (v_pair_end h bs i e i-in d₁.ctx (omega arith) (item_expr w) (imm16 (pos 0)) (pos w) (pos 0) (wi m.l₁) refl full refl refl a.1.0 (omega arith) (w_seen d₂.seen))
                (v_pair h bs i e i-in d₂.ctx (omega arith) (imm16 (negsuc 0)) (imm16 (pos 0)) (negsuc 0) (pos 0) refl refl got refl fits a.0 (omega arith) (w_seen d₃.seen)));
          }

    -- ---- a higher limit: S is number suc n, then Z and M

    left_walks : (n q : ℕ) (c : Option Expr) (S : List Slot) (M : List Bool) (l : ℤ) → e ≤ n
        → ((S : List Slot) (M : List Bool) (st : State) → Ctx i e (suc n) empty_slot S M → Walks h bs e none (mk (set S i (filled_slot w q [])) (set M (suc n) true) (pos q)) st → Walks h bs (suc n) none (mk S M (pos q)) st)
        → Stands bs (suc (suc n)) (reset_block (suc n)) → Stands bs (suc (suc (suc n))) (remaining_block q w (suc n)) → cut16 (pos q) ≡ pos q
        → Before home i e ys (suc (suc (suc n))) empty_slot S M → Got (suc (suc (suc n))) c n (filled_slot w q []) S M l
    left_walks n q c S M l p vs Z L cu b =
        let b₁ = before_mark home i e ys (omega arith) b in
        let b₂ = before_mark home i e ys (omega arith) b₁ in
        let b₃ = before_set home i e ys i-in (filled_slot w q []) refl (before_mark home i e ys p b₂) in
        let r = rest n (filled_slot w q []) _ _ (pos q) p b₃ in
        let q₁ = rel_trans (rel_mark {i = i} {top = suc (suc (suc n))} {b = suc (suc n)} (omega arith)) (rel_trans (rel_mark {b = suc n} (omega arith)) (rel_trans (rel_set (filled_slot w q [])) (rel_up (omega arith) r.rel))) in
        record {
          S₁ = r.S₁;
          M₁ = r.M₁;
          l₁ = r.l₁;
          done = r.done;
          rel = rel_trans (rel_mark {b = suc (suc (suc n))} (omega arith)) q₁;
          begun = q₁.mono (suc (suc (suc n))) (get_or-set_same M (suc (suc (suc n))) true false b.ctx.room);
          walks = v_left h bs i e i-in b.ctx (omega arith) L (omega arith) (rw iw) cu
              (v_reset h bs i e i-in b₁.ctx (omega arith) Z (omega arith) (vs _ _ _ b₂.ctx r.walks))
              (w_seen (r.rel.mono (suc n) (get_or-set_same (set (set M (suc (suc (suc n))) true) (suc (suc n)) true) (suc n) true false b₂.ctx.room)));
        }

    module _ (q : ℕ) (cu : cut16 (pos q) ≡ pos q) (q-pos : eqb q 0 ≡ false) where
      pub stock_bare_walks : (S : List Slot) (M : List Bool) (l : ℤ) → After bs e (set_slot e i (item_expr w) temp_var ∷ reset_block (suc e) ∷ remaining_block q w (suc e) ∷ [])
          → Before home i e ys (suc (suc (suc e))) empty_slot S M → Got (suc (suc (suc e))) none e (filled_slot w q []) S M l
      stock_bare_walks S M l a b =
          left_walks e q none S M l (omega arith) (λ S M st k f. v_pair h bs i e i-in k (omega arith) (item_expr w) temp_var (pos w) (pos q) (wi (pos q)) refl (filled_slot w q []) (rw (known, q-pos)) refl a.0 (omega arith) f)
          a.1.0 a.1.1.0 cu b

      module _ (c : Expr) (fits : few_entries (filled_slot w q (extend [] (parse_requirements h (some (negate c))))) ≡ true) where
        pub stock_hid_walks : (S : List Slot) (M : List Bool) (l : ℤ)
            → After bs e (hide_block e i ∷ set_slot_end e i (item_expr w) temp_var ∷ reset_block (suc (suc e)) ∷ remaining_block q w (suc (suc e)) ∷ if_block (suc (suc (suc (suc e)))) c (suc e) ∷ [])
            → Before home i e ys (suc (suc (suc (suc (suc e))))) empty_slot S M
            → Got (suc (suc (suc (suc (suc e))))) none e (filled_slot w q (extend [] (parse_requirements h (some (negate c))))) S M l
        stock_hid_walks S M l a b =
            let top : ℕ = suc (suc (suc (suc (suc e)))) in
            let y : Slot = filled_slot w q (extend [] (parse_requirements h (some (negate c)))) in
            let b₁ = before_mark home i e ys (omega arith) b in
            let g = left_walks (suc e) q (some c) S _ l (omega arith)
            (λ S M st k f. v_pair_end h bs i e i-in k (omega arith) (item_expr w) temp_var (pos w) (pos q) (wi (pos q)) refl (filled_slot w q []) (rw (known, q-pos)) refl a.1.0 (omega arith) f)
            a.1.1.0 a.1.1.1.0 cu b₁ in
            let d = done_set home i e ys i-in y fits (done_mark home i e ys g.done) in
            let q₁ = rel_trans (rel_up {top' = top} (omega arith) g.rel) (rel_trans (rel_mark {b = suc e} (omega arith)) (rel_set y)) in
            record {
              S₁ = _;
              M₁ = _;
              l₁ = g.l₁;
              done = d;
              rel = rel_trans (rel_mark {b = top} (omega arith)) q₁;
              begun = q₁.mono top (get_or-set_same M top true false b.ctx.room);
              walks = v_if h bs i e i-in b.ctx (omega arith) {st' = mk g.S₁ g.M₁ g.l₁} a.1.1.1.1.0 (omega arith) (omega arith) g.walks
                  (v_pair h bs i e i-in g.done.ctx (omega arith) (imm16 (negsuc 0)) (imm16 (pos 0)) (negsuc 0) (pos 0) refl refl y refl fits a.0 (omega arith) (w_seen d.seen));
            }

  pub empty_walks : i < 20 → ((hi : ℕ) (x : Slot) (S : List Slot) (M : List Bool) (l : ℤ) → e ≤ hi → Before home i e ys hi x S M → Rested hi x S M l)
      → (S : List Slot) (M : List Bool) (l : ℤ) → After bs e (hide_block e i ∷ []) → Before home i e ys (suc e) empty_slot S M → Got (suc e) none e empty_slot S M l
  unfolding parse_requirements
  empty_walks i-in rest S M l a b =
      let b₁ = before_set home i e ys i-in empty_slot refl (before_mark home i e ys (omega arith) b) in
      let r = rest e empty_slot _ _ l (omega arith) b₁ in
      let q₁ = rel_trans (rel_set {i = i} {top = suc e} empty_slot) (rel_up (omega arith) r.rel) in
      record {
        S₁ = r.S₁;
        M₁ = r.M₁;
        l₁ = r.l₁;
        done = r.done;
        rel = rel_trans (rel_mark {b = suc e} (omega arith)) q₁;
        begun = q₁.mono (suc e) (get_or-set_same M (suc e) true false b.ctx.room);
        walks = v_pair h bs i e i-in b.ctx (omega arith) (imm16 (negsuc 0)) (imm16 (pos 0)) (negsuc 0) (pos 0) refl refl empty_slot refl refl a.0 (omega arith) r.walks;
      }
