-- A block's commands one by one: what the code's value stands for, and a command's effect on it. Assumes nothing.
use Rattle.std.specs.Prelude.{◌≡◌, List, ℤ, length, get_or}
use Rattle.std.proofs.Math.Path.{refl, ap}
use Rattle.std.proofs.Common.{sym, ◌∙◌, add-zero, arith}
use Rattle.std.proofs.Math.Option.{Option, none, some}
use Prim.Native.Nat.{ℕ, zero, suc, ◌+◌, ◌*◌, ◌-◌, ◌<◌}
use Rattle.std.proofs.Math.Numerals.{add-one}
use Rattle.model.specs.Limits.{slot_count}
use Rattle.model.specs.Expr.{Expr, negate}
use Rattle.model.specs.Memory.{Nodes, Coded, nodes_in, coded_in, tree, set_in, command_by, command_in, commands_in}
use Rattle.model.specs.Parse.{Scan, Place, temp, elsewhere, itemVar, countVar, value, place, new_limit, written, put_at, evaluate_set, scan_one, scan, join, blank}
use Rattle.parse_scan.specs.Table.{table_of, table_none}
use Rattle.parse_scan.specs.LastIf.{last_at, last_if}
use Rattle.parse_scan.specs.declared.Scanned.{Scanned}

-- the conditions of next and else, by the last If: 0 for none, or 1 + its root
abbrev pub on_next_of : Nodes → Option Expr → ℕ → Option Expr
on_next_of ns c zero = none
on_next_of ns c (suc i) = some (join c (tree ns i))

abbrev pub on_else_of : Nodes → Option Expr → ℕ → Option Expr
on_else_of ns c zero = none
on_else_of ns c (suc i) = some (join c (negate (tree ns i)))

-- under the condition c of the block, with the numbers that it wrote
unfoldable pub scan_of : Nodes → Option Expr → Scanned → List ℤ → List ℤ → Scan
scan_of ns c s ids counts = record {
  items = table_of s.item_mask ids;
  counts = table_of s.count_mask counts;
  limit = s.limit;
  on_next = on_next_of ns c s.last_if;
  on_else = on_else_of ns c s.last_if;
}

-- before any command
abbrev pub fresh_scan : ℤ → Scan
fresh_scan l = record { items = blank; counts = blank; limit = l; on_next = none; on_else = none }

made : {a b : List (Option ℤ)} {f g : List (Option ℤ)} {l m : ℤ} {x y : Option Expr} → a ≡ b → f ≡ g → l ≡ m
    → ◌≡◌ {A = Scan} (record { items = a; counts = f; limit = l; on_next = x; on_else = y }) (record { items = b; counts = g; limit = m; on_next = x; on_else = y })
made p q r = rw (p, q, r)

-- the masks are empty, whatever the arrays hold
pub scan_fresh : (ns : Nodes) (c : Option Expr) (s : Scanned) (ids counts : List ℤ) (l : ℤ) → s.item_mask ≡ 0 → s.count_mask ≡ 0 → s.limit ≡ l → s.last_if ≡ 0
    → length ids ≡ slot_count → length counts ≡ slot_count → scan_of ns c s ids counts ≡ fresh_scan l
unfolding scan_of
scan_fresh ns c s ids counts l p q r u i j = rw (p, q, r, u) (made (table_none ids i) (table_none counts j) refl)

-- ---- the contracts

-- a Set of target t and value v
pub record SetScanned (ws : List ℕ) (vs : List ℤ) (t v : ℕ) (s : Scanned) (ids counts : List ℤ) (r : Scanned) (ids' counts' : List ℤ) : Type 0 where
  pub is : (n : ℕ) (e : Option Expr) → scan_of (nodes_in ws vs n) e r ids' counts' ≡ evaluate_set (place (value (tree (nodes_in ws vs n) t))) (tree (nodes_in ws vs n) v) (scan_of (nodes_in ws vs n) e s ids counts)
  pub last : r.last_if ≡ s.last_if

-- command c
pub record OneScanned (ws : List ℕ) (vs : List ℤ) (cw : List ℕ) (c : ℕ) (s : Scanned) (ids counts : List ℤ) (r : Scanned) (ids' counts' : List ℤ) : Type 0 where
  pub is : (n m : ℕ) (e : Option Expr) → scan_of (nodes_in ws vs n) e r ids' counts' ≡ scan_one e (command_in (coded_in ws vs cw n m) c) (scan_of (nodes_in ws vs n) e s ids counts)
  pub last : r.last_if ≡ last_at cw c s.last_if

-- h commands from command f on, under the limit l
pub record BlockScanned (ws : List ℕ) (vs : List ℤ) (cw : List ℕ) (f h : ℕ) (l : ℤ) (r : Scanned) (ids counts : List ℤ) : Type 0 where
  pub is : (n m : ℕ) (e : Option Expr) → scan_of (nodes_in ws vs n) e r ids counts ≡ scan e (commands_in (coded_in ws vs cw n m) h f) (fresh_scan l)
  pub last : r.last_if ≡ last_if cw h f

-- ---- a Set of the value e at the place p

module _ (ns : Nodes) (c : Option Expr) (s : Scanned) (ids counts : List ℤ) (p : Place) (e : Expr) where
  abbrev before : Scan
  before = scan_of ns c s ids counts

  pub set_first : temp ≡ p → (l : ℤ) → l ≡ new_limit e s.limit
      → scan_of ns c (record { item_mask = s.item_mask; count_mask = s.count_mask; limit = l; last_if = s.last_if }) ids counts ≡ evaluate_set p e before
  unfolding scan_of
  set_first q l h = rw (← q) (made refl refl h)

  pub set_unused : elsewhere ≡ p → before ≡ evaluate_set p e before
  set_unused q = rw (← q)

  pub set_item : (i : ℕ) → itemVar i ≡ p → (m : ℕ) (xs : List ℤ) (l : ℤ) → l ≡ s.limit → table_of m xs ≡ put_at (table_of s.item_mask ids) i (written e s.limit)
      → scan_of ns c (record { item_mask = m; count_mask = s.count_mask; limit = l; last_if = s.last_if }) xs counts ≡ evaluate_set p e before
  unfolding scan_of
  set_item i q m xs l h a = rw (← q) (made a refl h)

  pub set_count : (i : ℕ) → countVar i ≡ p → (m : ℕ) (xs : List ℤ) (l : ℤ) → l ≡ s.limit → table_of m xs ≡ put_at (table_of s.count_mask counts) i (written e s.limit)
      → scan_of ns c (record { item_mask = s.item_mask; count_mask = m; limit = l; last_if = s.last_if }) ids xs ≡ evaluate_set p e before
  unfolding scan_of
  set_count i q m xs l h a = rw (← q) (made refl a h)

-- ---- command c, by its words

module _ (ws : List ℕ) (vs : List ℤ) (cw : List ℕ) (n m : ℕ) (e : Option Expr) (c : ℕ) (s : Scanned) (ids counts : List ℤ) where
  abbrev start : Scan
  start = scan_of (nodes_in ws vs n) e s ids counts

  -- its first word, as the code reads it
  command_is : command_in (coded_in ws vs cw n m) c ≡ command_by (coded_in ws vs cw n m) c (get_or cw (4 * c) 0)
  unfolding command_in
  command_is = ap (λ i. command_by (coded_in ws vs cw n m) c (get_or cw i 0)) (add-zero (4 * c))

  pub met_if : get_or cw (4 * c) 0 ≡ 3 → (l : ℤ) → l ≡ s.limit
      → scan_of (nodes_in ws vs n) e (record { item_mask = s.item_mask; count_mask = s.count_mask; limit = l; last_if = get_or cw (4 * c + 1) 0 + 1 }) ids counts ≡ scan_one e (command_in (coded_in ws vs cw n m) c) start
  unfolding scan_of command_by
  met_if q l h = rw (command_is, q, add-one (get_or cw (4 * c + 1) 0)) (made refl refl h)

  by_code : (w : ℕ) → (w ≡ 3 → ⊥) → (w ≡ 2 → ⊥) → start ≡ scan_one e (command_by (coded_in ws vs cw n m) c w) start
  unfolding command_by
  by_code zero p q = refl
  by_code (suc zero) p q = refl
  by_code (suc (suc zero)) p q = absurd (q refl)
  by_code (suc (suc (suc zero))) p q = absurd (p refl)
  by_code (suc (suc (suc (suc zero)))) p q = refl
  by_code (suc (suc (suc (suc (suc w))))) p q = refl

  pub met_other_lem : (get_or cw (4 * c) 0 ≡ 3 → ⊥) → (get_or cw (4 * c) 0 ≡ 2 → ⊥) → start ≡ scan_one e (command_in (coded_in ws vs cw n m) c) start
  met_other_lem p q = rw command_is (by_code (get_or cw (4 * c) 0) p q)

  by_target : (w : ℕ) → (w ≡ 0 → ⊥) → start ≡ scan_one e (set_in (coded_in ws vs cw n m) c w) start
  unfolding set_in
  by_target zero p = absurd (p refl)
  by_target (suc w) p = refl

  pub met_set_other : get_or cw (4 * c) 0 ≡ 2 → (get_or cw (4 * c + 3) 0 ≡ 0 → ⊥) → start ≡ scan_one e (command_in (coded_in ws vs cw n m) c) start
  unfolding command_by
  met_set_other q p = rw (command_is, q) (by_target (get_or cw (4 * c + 3) 0) p)

  pub met_set : get_or cw (4 * c) 0 ≡ 2 → get_or cw (4 * c + 3) 0 ≡ 0 → (r : Scanned) (ids' counts' : List ℤ)
      → scan_of (nodes_in ws vs n) e r ids' counts' ≡ evaluate_set (place (value (tree (nodes_in ws vs n) (get_or cw (4 * c + 1) 0)))) (tree (nodes_in ws vs n) (get_or cw (4 * c + 2) 0)) start
      → scan_of (nodes_in ws vs n) e r ids' counts' ≡ scan_one e (command_in (coded_in ws vs cw n m) c) start
  unfolding command_by set_in
  met_set q p r ids' counts' h = rw (command_is, q, p) h

-- ---- the first of the commands that are left

first_left : (co : Coded) (e : Option Expr) (h c : ℕ) (k : Scan) → 0 < h → scan e (commands_in co h c) k ≡ scan e (commands_in co (h - 1) (c + 1)) (scan_one e (command_in co c) k)
unfolding commands_in
first_left co e zero c k p = absurd (omega arith)
first_left co e (suc h) c k p = let q : suc h - 1 ≡ h = omega arith in rw (add-one c, q)

-- all of them are left
pub scan_start : (co : Coded) (e : Option Expr) (held first : ℕ) (k : Scan) → scan e (commands_in co held first) k ≡ scan e (commands_in co (first + held - first) first) k
scan_start co e held first k = let q : held ≡ first + held - first = omega arith in ap (λ n. scan e (commands_in co n first) k) q

-- one of them
pub scan_step : (co : Coded) (e : Option Expr) (end c : ℕ) (k k' : Scan) → c < end → k' ≡ scan_one e (command_in co c) k
    → scan e (commands_in co (end - c) c) k ≡ scan e (commands_in co (end - (c + 1)) (c + 1)) k'
scan_step co e end c k k' l s =
    let q : end - c - 1 ≡ end - (c + 1) = omega arith in
    first_left co e (end - c) c k (omega arith) ∙ ap (λ n. scan e (commands_in co n (c + 1)) (scan_one e (command_in co c) k)) q
    ∙ ap (scan e (commands_in co (end - (c + 1)) (c + 1))) (sym s)

-- none of them
pub scan_done : (co : Coded) (e : Option Expr) (h c : ℕ) (k : Scan) → h ≡ 0 → scan e (commands_in co h c) k ≡ k
unfolding commands_in
scan_done co e h c k p = rw p
