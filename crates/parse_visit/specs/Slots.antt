-- The slots after a block: hidden under its condition, filled, or as they were; and the codes of a condition's negated requirements as the slots ask for them. Assumes nothing.
use Rattle.std.specs.Prelude.{Result, ◌≡◌, refl, Bool, true, false, cond, List, [], map, ℕ, ◌*◌, ◌≤◌, ◌<◌, max, ℤ, length}
use Rattle.std.proofs.Common.{sym, ap, ◌∙◌, arith}
use Rattle.std.proofs.Math.Option.{Option, none, some}
use Rattle.std.proofs.lemmas.List.{length-map}
use Rattle.model.specs.Limits.{block_limit}
use Rattle.model.specs.Expr.{Expr}
use Rattle.model.specs.Refusals.{refusal_in}
use Rattle.model.specs.Requirement.{Requirement, settled, extend}
use Rattle.model.specs.Sheet.{Sheet, item_count, all}
use Rattle.model.specs.Shop as Model
use Rattle.model.specs.Refusal.{parse_too_many}
use Rattle.model.specs.Parse.{parse_requirements, few_entries}
use Rattle.expr.specs.Requirement.{Has}
use Rattle.shop.specs.Good.{GoodShop}
use Rattle.shop_codes.specs.Codes.{code_of}
use Rattle.shop.specs.Shapes.{slots_of}
use Rattle.shop.specs.declared.Shop.{Shop}
use Rattle.parse_keys.specs.Entries.{Valid}
use Rattle.parse_keys.specs.Small.{key_small}
use Rattle.parse_keys.specs.declared.Known.{Known}
use Rattle.parse_conditions.specs.Gathered.{inserted}
use Rattle.parse_conditions.specs.Gathers.{gather_inserts}
use Rattle.parse_filter.specs.Chains.{has, entries_in, Bounds}
use Rattle.parse_filter.specs.Filter.{negated_codes, Holds}
use Rattle.parse_filter.proofs.Frames.{entries_valid}
use Rattle.parse_filter.specs.Marks.{MarkedAs}
use Rattle.parse_filter.proofs.Negations.{inserted_codes, inserted_narrow}
use Rattle.parse_filter.specs.declared.Marked.{Marked}
use Rattle.parse_scan.specs.Slots.{Stands}
use Rattle.parse_scan.specs.AllSlots.{slots_then, UpdatedBy}
use Rattle.parse_visit.specs.Entries.{reads_map}
use Rattle.parse_visit.specs.State.{Stored, stored_in, gathered_of, Holding}
use Rattle.parse_visit.specs.declared.Stop.{Stop}
use Rattle.parse_visit.specs.declared.Walk.{Walk}
use Rattle.parse_visit.specs.declared.Slotted.{Slotted}

-- the slots xs of the definition, or the refusal
pub record Moved (xs : List Model.Slot) (to : Shop) (a : ℕ) : Type 0 where
  pub answer : a ≡ cond (all few_entries xs) 0 parse_too_many
  pub slots : a ≡ 0 → slots_of to ≡ xs
  pub good : a ≡ 0 → GoodShop to

pub moved_by : {h : Sheet} {rs : List Requirement} {shop : Shop} {ms ns : List (Option ℤ)} {u : Bool} {to : Shop} → UpdatedBy h rs shop ms ns u to → Moved (slots_then h rs ms ns shop) to (cond u 0 parse_too_many)
moved_by {u = true} v = record { answer = rw (sym v.ok); slots = λ q. v.is refl; good = λ q. v.good refl }
moved_by {u = false} v = record { answer = rw (sym v.ok); slots = λ q. absurd (omega arith); good = λ q. absurd (omega arith) }

refusal_low : (u : Bool) → cond u 0 parse_too_many ≤ parse_too_many
refusal_low true = omega arith
refusal_low false = omega arith

-- whatever holds the codes of the condition's entries that stay stands for rs
abbrev pub Means : List ℕ → List ℕ → List ℕ → List ℕ → ℕ → List Requirement → Type 0
Means ks cs cells list c rs = (codes : List ℕ) (n : ℕ) → Holds (negated_codes ks cs (entries_in cs cells list c)) codes n → Stands codes n rs

-- what is left of the slots and the marks, ms and ns being the items and counts that the block wrote
pub record Slots (ks cs cells list : List ℕ) (c known first : ℕ) (ms ns : List (Option ℤ)) (shop : Shop) (seen : List Bool) (alive : List ℕ) (shop' : Shop) (r : Slotted) : Type 0 where
  pub marked : MarkedAs cs cells list seen alive r.marked
  pub most : r.marked.first ≤ max first c
  pub fine : refusal_in r.outcome ≤ parse_too_many
  pub moved : (h : Sheet) (rs : List Requirement) → item_count h ≡ known → Means ks cs cells list c rs → Moved (slots_then h rs ms ns shop) shop' (refusal_in r.outcome)

pub slots_updated : {ks cs cells list : List ℕ} {c known first : ℕ} {ms ns : List (Option ℤ)} {shop : Shop} {seen : List Bool} {alive : List ℕ} {shop' : Shop} {r : Slotted} {u : Bool} {m : Marked}
    → (refusal_in r.outcome ≡ cond u 0 parse_too_many) × (r.marked ≡ m) → MarkedAs cs cells list seen alive m → m.first ≤ max first c
    → ((h : Sheet) (rs : List Requirement) → item_count h ≡ known → Means ks cs cells list c rs → UpdatedBy h rs shop ms ns u shop')
    → Slots ks cs cells list c known first ms ns shop seen alive shop' r
slots_updated {u = u} e k l up = record {
  marked = rw e.1 k;
  most = rw e.1 l;
  fine = rw e.0 (refusal_low u);
  moved = λ h rs i mean. rw e.0 (moved_by (up h rs i mean));
}

-- ---- the requirements of a condition

requirements_are : (h : Sheet) (o : Option Expr) → parse_requirements h o ≡ settled (inserted (gathered_of h o) [])
unfolding parse_requirements settled
requirements_are h none = refl
requirements_are h (some e) = ap settled (gather_inserts h e false [])

module _ (known : Known) (t : Stored) (w : Walk) (f : ℕ → Option Expr) (hold : Holding known t w f) (c : ℕ) (low : c ≤ 2 * w.cells) where
  abbrev es : List ℕ
  es = entries_in t.companions t.cells t.list c

  module _ (h : Sheet) (k : Has h known.items known.atcs) where
    abbrev rs : List Requirement
    rs = settled (inserted (gathered_of h (f c)) [])

    es_valid : (e : ℕ) → has e es ≡ true → Valid w.keyed e
    es_valid = entries_valid t.companions t.cells t.list (length t.seen) (2 * w.cells) w.keyed w.used hold.chains c low

    codes_are : negated_codes t.keys t.companions es ≡ map code_of (extend [] rs)
    codes_are = inserted_codes t.keys t.companions w.keyed hold.tables.table.keys hold.tables.companions es es_valid inserted (λ ys. refl) (λ y ys zs. refl) (gathered_of h (f c)) (reads_map t.keys w.keyed es (gathered_of h (f c)) (hold.reads h k c low))

    stands : Means t.keys t.companions t.cells t.list c rs
    stands codes n o = record {
      narrow = inserted_narrow t.keys t.companions w.keyed hold.tables.table.keys hold.tables.companions es es_valid inserted (λ ys. refl) (λ y ys zs. refl) (gathered_of h (f c)) (reads_map t.keys w.keyed es (gathered_of h (f c)) (hold.reads h k c low));
      codes = λ l. o.is l ∙ codes_are;
      over = λ l. omega (arith, o.count, ap length codes_are ∙ length-map (extend [] rs) code_of);
    }

    pub means : Means t.keys t.companions t.cells t.list c (parse_requirements h (f c))
    means = rw (requirements_are h (f c)) stands

  -- ---- what parse_requirements asks for

  pub bounds : w.cells < block_limit → Bounds t.keys t.companions t.cells t.list (length t.seen) (length t.alive) w.marked.first c
  bounds few = record {
    keys = w.keyed;
    used = w.used;
    top = 2 * w.cells;
    chains = hold.chains;
    marked = hold.below;
    asked = low;
    most = omega arith;
    few = omega (arith, hold.chains.held, hold.sized.small);
    space = omega (arith, hold.chains.held, hold.sized.room);
    subjects = hold.tables.room;
    small = key_small t.keys w.keyed hold.tables.table.keys;
  }

  -- ---- the tables after: other marks
  pub marks_hold : (l : ℤ) (o : Result Unit Stop) (r : Slotted) (seen' : List Bool) (alive' : List ℕ) → MarkedAs t.companions t.cells t.list seen' alive' r.marked → r.marked.first ≤ max w.marked.first c
      → length seen' ≡ length t.seen → length alive' ≡ length t.alive
      → Holding known (stored_in t.keys t.kids t.companions t.list seen' alive' t.cells) (record { limit = l; cells = w.cells; outcome = o; used = w.used; keyed = w.keyed; marked = r.marked }) f
  marks_hold l a r seen' alive' m n p q = record {
    tables = hold.tables;
    chains = rw p hold.chains;
    marked = m;
    below = omega (arith, hold.below);
    few = hold.few;
    sized = record { marks = omega (arith, hold.sized.marks, p); room = omega (arith, hold.sized.room, q); small = hold.sized.small };
    nothing = hold.nothing;
    reads = hold.reads;
  }
