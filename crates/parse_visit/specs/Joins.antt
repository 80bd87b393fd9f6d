-- A cell more: what the tables hold after the last If of a block was read and joined to the block's condition. Assumes nothing.
use Rattle.std.specs.Prelude.{◌≡◌, refl, Bool, true, false, cond, List, ◌++◌, map, ℕ, ◌+◌, ◌*◌, ◌-◌, ◌%◌, ◌≤◌, ◌<◌, eqb, get_or, length, set}
use Rattle.std.proofs.Common.{sym, ◌∙◌, arith, length-set, get_or-set_same, get_or-set_other, eq-eqb, ne_eqb}
use Rattle.std.proofs.Math.Option.{Option, none, some}
use Rattle.std.proofs.Math.Decide.{dec_le, ℕ_discrete}
use Rattle.std.proofs.Math.Seq.{slice}
use Rattle.std.proofs.lemmas.Bool.{eqb-false}
use Rattle.model.specs.Expr.{Expr, negate}
use Rattle.model.specs.Requirement.{negate_req}
use Rattle.model.specs.Sheet.{Sheet}
use Rattle.model.specs.Parse.{join}
use Rattle.expr.specs.Requirement.{Has}
use Rattle.parse_keys.specs.Entries.{Valid}
use Rattle.parse_keys.specs.Sheets.{known_sheet, knows}
use Rattle.parse_keys.specs.Tables.{Tables, Grown}
use Rattle.parse_keys.specs.Turns.{turn_valid}
use Rattle.parse_keys.specs.declared.Known.{Known}
use Rattle.parse_conditions.specs.Gathered.{gathered}
use Rattle.parse_conditions.specs.Gathers.{gathered_negated}
use Rattle.parse_conditions.specs.Listing.{Listing}
use Rattle.parse_filter.specs.Chains.{cell_of, joined_to, to_of, is_else, signed_part, top_of, entries_in, CellAt, Chains}
use Rattle.parse_filter.proofs.ChainLaws.{entries_at}
use Rattle.parse_filter.proofs.Frames.{Kept, entries_frame, marked_frame}
use Rattle.parse_filter.specs.Marks.{MarkedAs}
use Rattle.parse_visit.specs.Entries.{Reads, reads_append, reads_grown, reads_other, reads_plain, listing_reads, listing_valid}
use Rattle.parse_visit.specs.State.{Stored, stored_in, gathered_of, Holding}
use Rattle.parse_visit.specs.declared.Walk.{Walk}

-- cell n holds condition p and where the If's entries begin and end
abbrev pub with_cell : List ℕ → ℕ → ℕ → ℕ → ℕ → List ℕ
with_cell cells n p from to = set (set (set cells (3 * n) p) (3 * n + 1) from) (3 * n + 2) to

-- the conditions, the If e being joined to condition p in cell n
abbrev pub with_if : (ℕ → Option Expr) → ℕ → ℕ → Expr → ℕ → Option Expr
with_if f n p e c = cond (eqb c (2 * n + 1)) (some (join (f p) e)) (cond (eqb c (2 * n + 2)) (some (join (f p) (negate e))) (f c))

module _ (f : ℕ → Option Expr) (n p : ℕ) (e : Expr) where
  pub if_next : with_if f n p e (2 * n + 1) ≡ some (join (f p) e)
  if_next = rw (eq-eqb (2 * n + 1) (2 * n + 1) refl)

  pub if_else_lem : with_if f n p e (2 * n + 2) ≡ some (join (f p) (negate e))
  if_else_lem = rw (ne_eqb (2 * n + 2) (2 * n + 1) (λ q. omega arith), eq-eqb (2 * n + 2) (2 * n + 2) refl)

  pub if_same : (c : ℕ) → c ≤ 2 * n → with_if f n p e c ≡ f c
  if_same c l = rw (ne_eqb c (2 * n + 1) (λ q. omega arith), ne_eqb c (2 * n + 2) (λ q. omega arith))

gathered_join : (h : Sheet) (c : Option Expr) (e : Expr) → gathered_of h (some (join c e)) ≡ gathered_of h c ++ gathered h e false
unfolding gathered
gathered_join h none e = refl
gathered_join h (some c) e = refl

-- ---- the words of the new cell

module _ (cells : List ℕ) (n p from to : ℕ) (long : 3 * n + 3 ≤ length cells) where
  abbrev cells' : List ℕ
  cells' = with_cell cells n p from to

  row_below : (i : ℕ) → i < 3 * n → get_or cells' i 0 ≡ get_or cells i 0
  row_below i l =
      get_or-set_other (set (set cells (3 * n) p) (3 * n + 1) from) (3 * n + 2) i to 0 (λ e. omega arith)
      ∙ get_or-set_other (set cells (3 * n) p) (3 * n + 1) i from 0 (λ e. omega arith)
      ∙ get_or-set_other cells (3 * n) i p 0 (λ e. omega arith)

  row_joined : get_or cells' (3 * n) 0 ≡ p
  row_joined =
      get_or-set_other (set (set cells (3 * n) p) (3 * n + 1) from) (3 * n + 2) (3 * n) to 0 (λ e. omega arith)
      ∙ get_or-set_other (set cells (3 * n) p) (3 * n + 1) (3 * n) from 0 (λ e. omega arith)
      ∙ get_or-set_same cells (3 * n) p 0 (omega arith)

  row_from : get_or cells' (3 * n + 1) 0 ≡ from
  row_from =
      get_or-set_other (set (set cells (3 * n) p) (3 * n + 1) from) (3 * n + 2) (3 * n + 1) to 0 (λ e. omega arith)
      ∙ get_or-set_same (set cells (3 * n) p) (3 * n + 1) from 0 (simp length-set (omega arith))

  row_to : get_or cells' (3 * n + 2) 0 ≡ to
  row_to = get_or-set_same (set (set cells (3 * n) p) (3 * n + 1) from) (3 * n + 2) to 0 (simp length-set (omega arith))

  row_length : length cells' ≡ length cells
  row_length = simp length-set

-- ---- the tables after

-- the If e was read: its entries follow the others in the list
pub record IfRead (known : Known) (t : Stored) (w : Walk) (e : Expr) (ks' kd' cs' ls' : List ℕ) (m' u' : ℕ) : Type 0 where
  pub tables : Tables ks' kd' cs' m'
  pub grown : Grown t.keys w.keyed ks' m'
  pub up : w.used ≤ u'
  pub few : m' + w.used ≤ w.keyed + u'
  pub fits : u' ≤ length ls'
  pub same : (j : ℕ) → j < w.used → get_or ls' j 0 ≡ get_or t.list j 0
  pub long : length ls' ≡ length t.list
  pub entries : (h : Sheet) → Has h known.items known.atcs → Listing ks' m' ls' w.used (gathered h e false) u'

module _ (known : Known) (t : Stored) (w : Walk) (f : ℕ → Option Expr) (hold : Holding known t w f) (e : Expr) (ks' kd' cs' ls' : List ℕ) (m' u' : ℕ) (a : IfRead known t w e ks' kd' cs' ls' m' u')
    (c : ℕ) (low : c ≤ 2 * w.cells) (long : 3 * w.cells + 3 ≤ length t.cells) where
  abbrev n : ℕ
  n = w.cells

  abbrev cw : List ℕ
  cw = with_cell t.cells n c w.used u'

  abbrev t' : Stored
  t' = stored_in ks' kd' cs' ls' t.seen t.alive cw

  abbrev w' : Walk
  w' = record { limit = w.limit; cells = n + 1; outcome = w.outcome; used = u'; keyed = m'; marked = w.marked }

  valid_up : (x : ℕ) → Valid w.keyed x → Valid m' x
  valid_up x v = record { low = v.low; high = omega (arith, v.high, a.grown.up) }

  row_same : (j d : ℕ) → j < 3 → 0 < d → d ≤ 2 * n → get_or cw (3 * cell_of d + j) 0 ≡ get_or t.cells (3 * cell_of d + j) 0
  row_same j d k p l = row_below t.cells n c w.used u' long (3 * cell_of d + j) (omega arith)

  joined_same : (d : ℕ) → 0 < d → d ≤ 2 * n → joined_to cw d ≡ joined_to t.cells d
  joined_same d p l = row_below t.cells n c w.used u' long (3 * cell_of d) (omega arith)

  stays : Kept t.companions t.cells t.list cs' cw ls' (2 * n) w.keyed w.used
  stays = record {
    companions = λ x v. a.tables.companions x (valid_up x v) ∙ sym (hold.tables.companions x v);
    joined = joined_same;
    froms = λ d p l. row_same 1 d (omega arith) p l;
    tos = λ d p l. row_same 2 d (omega arith) p l;
    words = a.same;
    long = omega (arith, a.up, a.fits);
  }

  entries_stay : (d : ℕ) → d ≤ 2 * n → entries_in cs' cw ls' d ≡ entries_in t.companions t.cells t.list d
  entries_stay = entries_frame t.companions t.cells t.list (length t.seen) (2 * n) w.keyed w.used hold.chains cs' cw ls' stays

  -- ---- the cells

  top_same : (d : ℕ) → d ≤ 2 * n → top_of cw d ≡ top_of t.cells d
  top_same d l = by (eqb d 0) refl
    where
      by : (z : Bool) → eqb d 0 ≡ z → cond z 0 (to_of cw d) ≡ cond z 0 (to_of t.cells d)
      by true q = refl
      by false q = let o = eqb-false d 0 q in row_same 2 d (omega arith) (omega arith) l

  top_used : (d : ℕ) → d ≤ 2 * n → top_of t.cells d ≤ w.used
  top_used d l = by (eqb d 0) refl
    where
      by : (z : Bool) → eqb d 0 ≡ z → cond z 0 (to_of t.cells d) ≤ w.used
      by true q = omega arith
      by false q = let o = eqb-false d 0 q in (hold.chains.cell d (omega arith) l).high

  -- one of those that there were
  cell_old : (d : ℕ) → 0 < d → d ≤ 2 * n → CellAt cw u' d
  cell_old d p l =
      let x = hold.chains.cell d p l in
      let j = joined_same d p l in
      let y = x.lower in
      record {
        row = omega (arith, x.row, row_length t.cells n c w.used u' long);
        lower = rw j y;
        after = rw (j, top_same (joined_to t.cells d) (omega arith), row_same 1 d (omega arith) p l) x.after;
        low = rw (row_same 1 d (omega arith) p l, row_same 2 d (omega arith) p l) x.low;
        high = rw (row_same 2 d (omega arith) p l) (omega (arith, x.high, a.up));
      }

  -- the new one
  cell_new : (d : ℕ) → cell_of d ≡ n → 2 * n < d → CellAt cw u' d
  cell_new d q o = record {
    row = omega (arith, row_length t.cells n c w.used u' long);
    lower = rw (q, row_joined t.cells n c w.used u' long) (omega arith);
    after = rw (q, row_joined t.cells n c w.used u' long, top_same c low, row_from t.cells n c w.used u' long) (top_used c low);
    low = rw (q, row_from t.cells n c w.used u' long, row_to t.cells n c w.used u' long) a.up;
    high = rw (q, row_to t.cells n c w.used u' long) (omega arith);
  }

  cell_at : (d : ℕ) → 0 < d → d ≤ 2 * (n + 1) → CellAt cw u' d
  cell_at d p l = by (dec_le d (2 * n))
    where
      by : Dec (d ≤ 2 * n) → CellAt cw u' d
      by (yes q) = cell_old d p q
      by (no q) = cell_new d (omega arith) (omega arith)

  valid_at : (i : ℕ) → i < u' → Valid m' (get_or ls' i 0)
  valid_at i l = by (dec_le w.used i)
    where
      by : Dec (w.used ≤ i) → Valid m' (get_or ls' i 0)
      by (yes q) = listing_valid ks' m' ls' w.used (gathered (known_sheet known) e false) u' (a.entries (known_sheet known) (knows known)) i q l
      by (no q) = rw (a.same i (omega arith)) (valid_up (get_or t.list i 0) (hold.chains.entry i (omega arith)))

  chains_after : Chains cs' cw ls' (length t.seen) (2 * (n + 1)) m' u'
  chains_after = record {
    cell = cell_at;
    held = a.fits;
    entry = valid_at;
    back = λ x v. rw (a.tables.companions x v) (turn_valid m' x true v);
    others = omega (arith, a.tables.room, a.tables.others);
    marks = omega (arith, a.tables.room, a.grown.long, hold.sized.marks);
  }

  marked_after : MarkedAs cs' cw ls' t.seen t.alive w.marked
  marked_after = marked_frame t.companions t.cells t.list (length t.seen) (2 * n) w.keyed w.used hold.chains cs' cw ls' stays t.seen t.alive w.marked hold.below hold.marked

  -- ---- what is read

  part_read : (h : Sheet) → Has h known.items known.atcs → Reads ks' m' (slice w.used u' ls') (gathered h e false)
  part_read h k = listing_reads ks' m' ls' w.used (gathered h e false) u' a.fits (a.entries h k)

  base_read : (h : Sheet) → Has h known.items known.atcs → (d : ℕ) → d ≤ 2 * n → Reads ks' m' (entries_in cs' cw ls' d) (gathered_of h (f d))
  base_read h k d l = rw (entries_stay d l) (reads_grown t.keys w.keyed ks' m' a.grown (entries_in t.companions t.cells t.list d) (gathered_of h (f d)) (hold.reads h k d l))

  new_entries : (d : ℕ) → cell_of d ≡ n → 2 * n < d → entries_in cs' cw ls' d ≡ entries_in cs' cw ls' c ++ signed_part cs' ls' (is_else d) w.used u'
  new_entries d q o =
      let x = (cell_new d q o).lower in
      entries_at cs' cw ls' d (omega arith) x
      ∙ rw (q, row_joined t.cells n c w.used u' long, row_from t.cells n c w.used u' long, row_to t.cells n c w.used u' long)

  next_read : (h : Sheet) → Has h known.items known.atcs → Reads ks' m' (entries_in cs' cw ls' (2 * n + 1)) (gathered_of h (with_if f n c e (2 * n + 1)))
  next_read h k =
      rw (new_entries (2 * n + 1) (omega arith) (omega arith), ne_eqb ((2 * n + 1 - 1) % 2) 1 (λ z. omega arith), if_next f n c e, gathered_join h (f c) e)
      (reads_append ks' m' (entries_in cs' cw ls' c) _ (gathered_of h (f c)) (gathered h e false) (base_read h k c low) (reads_plain ks' cs' m' (slice w.used u' ls') (gathered h e false) (part_read h k)))

  else_read : (h : Sheet) → Has h known.items known.atcs → Reads ks' m' (entries_in cs' cw ls' (2 * n + 2)) (gathered_of h (with_if f n c e (2 * n + 2)))
  else_read h k =
      rw (new_entries (2 * n + 2) (omega arith) (omega arith), eq-eqb ((2 * n + 2 - 1) % 2) 1 (omega arith), if_else_lem f n c e, gathered_join h (f c) (negate e), gathered_negated h e)
      (reads_append ks' m' (entries_in cs' cw ls' c) _ (gathered_of h (f c)) (map negate_req (gathered h e false)) (base_read h k c low) (reads_other ks' cs' m' a.tables.companions (slice w.used u' ls') (gathered h e false) (part_read h k)))

  all_read : (h : Sheet) → Has h known.items known.atcs → (d : ℕ) → d ≤ 2 * (n + 1) → Reads ks' m' (entries_in cs' cw ls' d) (gathered_of h (with_if f n c e d))
  all_read h k d l = by (dec_le d (2 * n)) (ℕ_discrete d (2 * n + 1))
    where
      by : Dec (d ≤ 2 * n) → Dec (d ≡ 2 * n + 1) → Reads ks' m' (entries_in cs' cw ls' d) (gathered_of h (with_if f n c e d))
      by (yes q) z = rw (if_same f n c e d q) (base_read h k d q)
      by (no q) (yes z) = rw z (next_read h k)
      by (no q) (no z) = let y : d ≡ 2 * n + 2 = omega arith in rw y (else_read h k)

  pub if_joined : Holding known t' w' (with_if f n c e)
  if_joined = record {
    tables = a.tables;
    chains = chains_after;
    marked = marked_after;
    below = omega (arith, hold.below);
    few = omega (arith, a.few, hold.few);
    sized = record {
      marks = omega (arith, a.grown.long, hold.sized.marks);
      room = omega (arith, a.long, hold.sized.room);
      small = omega (arith, a.long, hold.sized.small);
    };
    nothing = if_same f n c e 0 (omega arith) ∙ hold.nothing;
    reads = all_read;
  }
