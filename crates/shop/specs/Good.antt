-- Slots as parsing keeps them: at most entry_limit requirements in rising order, each by its code, and zeros past them. Assumes nothing.
use Rattle.std.specs.Prelude.{◌≡◌, refl, true, List, [], map, ℕ, zero, suc, ◌≤◌, ◌<◌, pos, length, get_or, replicate, None}
use Rattle.std.proofs.Common.{sym, ◌∙◌, arith}
use Rattle.std.proofs.Math.Path.{ap, subst}
use Rattle.std.proofs.Math.ListN.{length-map}
use borrow.Author.Tests.{le-leb}
use Rattle.model.specs.Limits.{slot_count, entry_limit}
use Rattle.model.specs.Requirement.{Requirement}
use Rattle.model.specs.Parse.{few_entries}
use Rattle.model.proofs.Laws.Sets.{Sorted}
use Rattle.shop_codes.specs.Codes.{code_of, requirement_of, AllNarrow}
use Rattle.shop.specs.Shapes.{entries, slot_of, no_slot, no_shop}
use Rattle.shop.specs.Sets.{Reqs, held, reqs_of, reqs_in}
use Rattle.shop.specs.SetLaws.{held_set, set_entries}
use Rattle.shop_codes.specs.Laws.{codes_stand}
use Rattle.shop.specs.Slots.{entries_length}
use Rattle.shop.specs.declared.Slot.{Slot}
use Rattle.shop.specs.declared.Shop.{Shop}

-- the set that a slot holds
abbrev pub own_reqs : Slot → Reqs
own_reqs x = reqs_in x.requirements x.len

pub record GoodSlot (x : Slot) : Type 0 where
  pub few : x.len ≤ entry_limit
  pub sorted : Sorted (slot_of x).requirements
  pub codes : own_reqs x ≡ reqs_of (map code_of (slot_of x).requirements)

-- what a read past the array would give
abbrev pub beyond : Slot
beyond = record { item = None; limit = pos 0; requirements = []; len = 0 }

pub record GoodShop (s : Shop) : Type 0 where
  pub each : (j : ℕ) → j < slot_count → GoodSlot (get_or s.slots j beyond)

-- a slot that holds the set of zs stands for zs
module _ (x : Slot) (zs : List Requirement) (p : AllNarrow zs) (e : own_reqs x ≡ reqs_of (map code_of zs)) where
  pub stands_for : (slot_of x).requirements ≡ zs
  unfolding slot_of
  stands_for = ap (map requirement_of) (ap (λ (s : Reqs). entries s.len s.codes) e ∙ set_entries (map code_of zs)) ∙ codes_stand zs p

  pub good_slot : Sorted zs → length zs ≤ entry_limit → GoodSlot x
  unfolding reqs_of
  good_slot s h = record {
    few = omega (arith, ap (λ (r : Reqs). r.len) e, length-map zs code_of);
    sorted = subst Sorted (sym stands_for) s;
    codes = e ∙ ap (λ l. reqs_of (map code_of l)) (sym stands_for);
  }

-- the empty shop

good_empty : GoodSlot no_slot
unfolding reqs_of
good_empty = good_slot no_slot [] tt refl tt (omega arith)

empty_at : (n j : ℕ) → j < n → get_or (replicate n no_slot) j beyond ≡ no_slot
empty_at zero j h = absurd (omega arith)
empty_at (suc n) zero h = refl
empty_at (suc n) (suc j) h = empty_at n j (omega arith)

pub good_start : GoodShop no_shop
good_start = record { each = λ j h. subst GoodSlot (sym (empty_at slot_count j h)) good_empty }

-- the set of a slot

module _ (x : Slot) (g : GoodSlot x) where
  pub own_held : held (own_reqs x) ≡ map code_of (slot_of x).requirements
  own_held = ap held g.codes ∙ held_set (map code_of (slot_of x).requirements)

  pub own_few : few_entries (slot_of x) ≡ true
  unfolding slot_of
  own_few = le-leb (length (map requirement_of (entries x.len x.requirements))) entry_limit (omega (arith, g.few, length-map (entries x.len x.requirements) requirement_of, entries_length x.len x.requirements))
