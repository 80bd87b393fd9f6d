-- The parser's walk over a slot's blocks. Assumes nothing.
use Rattle.std.specs.Prelude.{◌≡◌, Bool, true, false, List, [], ◌∷◌, get_or, set, length, replicate, ℤ, pos}
use Rattle.std.proofs.Math.Path.{refl}
use Rattle.std.proofs.Common.{ap, ◌∙◌, arith, le-ltb, lt-ltb, ne_eqb}
use Rattle.std.proofs.Math.Option.{Option, none, some}
use Prim.Native.Nat.{ℕ, zero, suc, ◌-◌, ◌+◌, ◌<◌}
use Rattle.model.specs.Limits.{count_first, item_first, slot_count}
use Rattle.model.specs.Signed.{cut16}
use Rattle.model.specs.Expr.{Expr, imm16, one, two}
use Rattle.model.specs.declared.Op2.TheVariants.{Less, Subtract}
use Rattle.model.specs.declared.Op1.TheVariants.{Item}
use Rattle.model.specs.Sheet.{Sheet, all}
use Rattle.model.specs.Requirement.{Requirement}
use Rattle.model.specs.Shop.{Slot, empty_slot}
use Rattle.model.specs.Script.{Block, Command, code, end_if, if_else, return}
use Rattle.model.specs.Compile.{emit_set, item_expr, temp_var}
use Rattle.model.specs.Parse.{State, blank, countVar, few_entries, itemVar, parse_block, parse_requirements, place_of, scanned, update_slot, update_slots, value, visited, written}
use Rattle.model.specs.Printer.{slots}
use Rattle.model.proofs.Laws.SlotRuns.{Stands}
use Rattle.model.proofs.Laws.Places.{all_set}

pub place_item : (i : ℕ) → i < 20 → place_of (item_first + i) ≡ itemVar i
unfolding place_of
place_item i h = rw (ne_eqb (item_first + i) 0 (λ q. omega arith), le-ltb (item_first + i) item_first (omega arith), lt-ltb (item_first + i) count_first (omega arith)) (ap itemVar (omega arith))

pub place_count : (i : ℕ) → i < 20 → place_of (count_first + i) ≡ countVar i
unfolding place_of
place_count i h =
    rw (ne_eqb (count_first + i) 0 (λ q. omega arith), le-ltb (count_first + i) item_first (omega arith), le-ltb (count_first + i) count_first (omega arith), lt-ltb (count_first + i) (count_first + slot_count) (omega arith))
    (ap countVar (omega arith))

-- ---- update_slots

pub updates_length : (h : Sheet) (rs : List Requirement) (ms ns : List (Option ℤ)) (xs : List Slot) → length (update_slots h rs ms ns xs) ≡ length xs
updates_length h rs [] ns xs = refl
updates_length h rs (a ∷ ms) [] xs = refl
updates_length h rs (a ∷ ms) (b ∷ ns) [] = refl
updates_length h rs (a ∷ ms) (b ∷ ns) (x ∷ xs) = ap suc (updates_length h rs ms ns xs)

pub updates_blank : (h : Sheet) (rs : List Requirement) (n : ℕ) (xs : List Slot) → update_slots h rs (replicate n none) (replicate n none) xs ≡ xs
updates_blank h rs zero xs = refl
updates_blank h rs (suc n) [] = refl
updates_blank h rs (suc n) (x ∷ xs) = ap {B = List Slot} (λ ys. x ∷ ys) (updates_blank h rs n xs)

updates_one : (h : Sheet) (rs : List Requirement) (n i : ℕ) (a b : Option ℤ) (xs : List Slot) → i < n
    → update_slots h rs (set (replicate n none) i a) (set (replicate n none) i b) xs ≡ set xs i (update_slot h rs a b (get_or xs i empty_slot))
updates_one h rs zero i a b xs l = absurd (omega arith)
updates_one h rs (suc n) zero a b [] l = refl
updates_one h rs (suc n) (suc i) a b [] l = refl
updates_one h rs (suc n) zero a b (x ∷ xs) l = ap {B = List Slot} (λ ys. update_slot h rs a b x ∷ ys) (updates_blank h rs n xs)
updates_one h rs (suc n) (suc i) a b (x ∷ xs) l = ap {B = List Slot} (λ ys. x ∷ ys) (updates_one h rs n i a b xs (omega arith))

-- a state in which nothing is refused
abbrev pub mk : List Slot → List Bool → ℤ → State
mk S M l = record { slots = S; marks = M; current = l; answer = 0 }

-- with enough depth, the walk from b leads from st to st'
pub record Walks (h : Sheet) (bs : List Block) (b : ℕ) (c : Option Expr) (st st' : State) : Type 0 where
  pub eq : (f : ℕ) → b < f → parse_block h bs f b c st ≡ st'

module _ {h : Sheet} {bs : List Block} {b : ℕ} {c : Option Expr} {S : List Slot} {M : List Bool} {l : ℤ} where
  pub w_seen : get_or M b false ≡ true → Walks h bs b c (mk S M l) (mk S M l)
  unfolding parse_block
  w_seen m = record { eq = λ f p. go f p }
    where
      go : (f : ℕ) → b < f → parse_block h bs f b c (mk S M l) ≡ mk S M l
      go zero p = refl
      go (suc f) p = rw (m, parse_block)

  pub w_end : {cs : List Command} → get_or M b false ≡ false → Stands bs b (code cs none none) → Walks h bs b c (mk S M l) (visited h b c cs (mk S M l))
  unfolding parse_block
  w_end {cs} m k = record { eq = λ f p. go f p }
    where
      go : (f : ℕ) → b < f → parse_block h bs f b c (mk S M l) ≡ visited h b c cs (mk S M l)
      go zero p = absurd (omega arith)
      go (suc f) p = rw (m, k.eq, parse_block)

  pub w_go : {cs : List Command} {k : ℕ} {st' : State} → get_or M b false ≡ false → Stands bs b (code cs (some k) none) → k < b
      → Walks h bs k (scanned c cs (mk S M l)).on_next (visited h b c cs (mk S M l)) st' → Walks h bs b c (mk S M l) st'
  unfolding parse_block
  w_go {cs} {k} {st'} m s lt w = record { eq = λ f p. go f p }
    where
      go : (f : ℕ) → b < f → parse_block h bs f b c (mk S M l) ≡ st'
      go zero p = absurd (omega arith)
      go (suc f) p = rw (m, s.eq, parse_block) (w.eq f (omega arith))

  pub w_fork : {cs : List Command} {k j : ℕ} {st' st'' : State} → get_or M b false ≡ false → Stands bs b (code cs (some k) (some j)) → k < b → j < b
      → Walks h bs k (scanned c cs (mk S M l)).on_next (visited h b c cs (mk S M l)) st' → Walks h bs j (scanned c cs (mk S M l)).on_else st' st'' → Walks h bs b c (mk S M l) st''
  unfolding parse_block
  w_fork {cs} {k} {j} {st'} {st''} m s lt lt' w w' = record { eq = λ f p. go f p }
    where
      go : (f : ℕ) → b < f → parse_block h bs f b c (mk S M l) ≡ st''
      go zero p = absurd (omega arith)
      go (suc f) p = rw (m, s.eq, parse_block, w.eq f (omega arith)) (w'.eq f (omega arith))

-- ---- what one block leaves

module _ (h : Sheet) (b : ℕ) (c : Option Expr) (S : List Slot) (M : List Bool) (l : ℤ) (tiny : all few_entries S ≡ true) where
  pub entered_if : (x : Expr) (k : ℕ) → visited h b c (if_else x k ∷ []) (mk S M l) ≡ mk S (set M b true) l
  unfolding visited
  entered_if x k = rw (updates_blank h (parse_requirements h c) 20 S, tiny)

  pub entered_return : visited h b c (return ∷ []) (mk S M l) ≡ mk S (set M b true) l
  unfolding visited
  entered_return = rw (updates_blank h (parse_requirements h c) 20 S, tiny)

  pub entered_reset : visited h b c (emit_set 0 (imm16 (pos 0)) ∷ []) (mk S M l) ≡ mk S (set M b true) l
  unfolding visited place_of
  entered_reset = rw (updates_blank h (parse_requirements h c) 20 S, tiny)

  pub entered_left : (n w k : ℕ) → value (item_expr w) ≡ some (pos w) → cut16 (pos n) ≡ pos n
      → visited h b c (emit_set 0 (two Subtract (imm16 (pos n)) (one Item (item_expr w))) ∷ if_else (two Less temp_var (imm16 (pos 0))) k ∷ []) (mk S M l) ≡ mk S (set M b true) (pos n)
  unfolding visited place_of
  entered_left n w k p q = rw (p, q, updates_blank h (parse_requirements h c) 20 S, tiny)

  module _ (i : ℕ) (i-in : i < 20) (a z : Expr) (x y : ℤ) (wa : written a l ≡ some x) (wz : written z l ≡ some y)
      (s₀ s₁ : Slot) (mine : get_or S i empty_slot ≡ s₀) (upd : update_slot h (parse_requirements h c) (some x) (some y) s₀ ≡ s₁) (fits : few_entries s₁ ≡ true) where
    pair_slots : update_slots h (parse_requirements h c) (set blank i (some x)) (set blank i (some y)) S ≡ set S i s₁
    pair_slots = updates_one h (parse_requirements h c) 20 i (some x) (some y) S i-in ∙ rw (mine, upd)

    pub entered_pair : visited h b c (emit_set (item_first + i) a ∷ emit_set (count_first + i) z ∷ []) (mk S M l) ≡ mk (set S i s₁) (set M b true) l
    unfolding visited
    entered_pair = rw (place_item i i-in, place_count i i-in, wa, wz, pair_slots, all_set few_entries S i s₁ tiny fits)

    pub entered_pair_end : (e : ℕ) → visited h b c (emit_set (item_first + i) a ∷ emit_set (count_first + i) z ∷ end_if e ∷ []) (mk S M l) ≡ mk (set S i s₁) (set M b true) l
    unfolding visited
    entered_pair_end e = rw (place_item i i-in, place_count i i-in, wa, wz, pair_slots, all_set few_entries S i s₁ tiny fits)
