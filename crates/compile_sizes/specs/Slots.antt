-- A slot's size from what the shop's functions give, and the slots one after the other, the highest-numbered first. Assumes nothing.
use Rattle.std.specs.Prelude.{◌≡◌, List, ◌∷◌, map, length, take, Some, None}
use Rattle.std.proofs.Math.Path.{ap}
use Rattle.std.proofs.Common.{◌∙◌, le-leb, drop_of_length-le}
use Prim.Native.Nat.{ℕ, suc, ◌+◌, ◌*◌, ◌-◌, ◌≤◌, ◌<◌}
use native.Mathlib.Omega.{arith}
use Rattle.std.proofs.lemmas.Bool.{lt-leb}
use Rattle.std.proofs.Math.ListN.{drop, get_or}
use Rattle.std.proofs.lemmas.List.{length-map}
use Rattle.std.proofs.Math.Seq.{drop-cons}
use Rattle.model.specs.Limits.{entry_limit, slot_count, wide16}
use Rattle.model.specs.declared.ItemId.{ItemId}
use Rattle.model.specs.Requirement.{sorted}
use Rattle.model.specs.Sheet as Model
use Rattle.model.specs.Shop.{Timer, timer_of, limit_of}
use Rattle.shop.specs.declared.Slot.{Slot}
use Rattle.shop.specs.declared.Shop.{Shop}
use Rattle.shop_codes.specs.Codes.{code_of, requirement_of}
use Rattle.shop.specs.Shapes.{slot_of, slots_of}
use Rattle.shop.specs.Sets.{Exact, Reqs, reqs_of, sorted_reqs}
use Rattle.shop_codes.specs.Laws.{codes_stand}
use Rattle.shop.specs.Codes.{sorted_narrow}
use Rattle.shop.specs.SetLaws.{held_set, sorted_fits}
use Rattle.shop.specs.Slots.{slot_narrow}
use Rattle.compile_sizes.specs.declared.Size.{Size}
use Rattle.compile_sizes.specs.Sizes.{AtMost, tests_nodes, plus, hide_size, unique_size, limit_size, filled_size, slot_size, return_size, shop_size}

-- ---- the set of a slot

module _ (x : Slot) (e : Exact x) (s : Reqs) (set : s ≡ sorted_reqs x) where
  set_length : s.len ≡ length (sorted (slot_of x).requirements)
  unfolding reqs_of
  set_length = rw set (length-map (sorted (slot_of x).requirements) code_of)

  pub set_few : s.len ≤ entry_limit
  set_few = omega (arith, set_length, sorted_fits x e, length-map (sorted (slot_of x).requirements) code_of)

  -- its codes are those of the sorted requirements
  set_stands : map requirement_of (take s.len s.codes) ≡ sorted (slot_of x).requirements
  set_stands =
      rw set
      (ap (map requirement_of) (held_set (map code_of (sorted (slot_of x).requirements)))
      ∙ codes_stand (sorted (slot_of x).requirements) (sorted_narrow (slot_of x).requirements (slot_narrow x)))

  -- .. with item w, limit l, and tests of v nodes
  module _ (h : Model.Sheet) (w : ItemId) (l v : ℕ) (item : x.item ≡ Some w) (limit : l ≡ limit_of h w.0 x.limit)
      (tests : v ≡ tests_nodes (map requirement_of (take s.len s.codes))) where
    filled_is : filled_size (timer_of h w.0) l s.len v ≡ slot_size h (slot_of x)
    unfolding slot_size slot_of
    filled_is = rw (item, tests, set_stands, set_length, limit)

    pub unique_is : (t : Timer) → t ≡ timer_of h w.0 → l ≤ 1 → unique_size t s.len v ≡ slot_size h (slot_of x)
    unique_is t e q = rw (← e, le-leb l 1 q) at filled_is

    pub limit_is : 1 < l → limit_size s.len v ≡ slot_size h (slot_of x)
    limit_is q = rw (lt-leb l 1 q) at filled_is

-- no item: H alone
pub none_is : (h : Model.Sheet) (x : Slot) → x.item ≡ None → hide_size ≡ slot_size h (slot_of x)
unfolding slot_size slot_of
none_is h x o = rw o

-- ---- the slots from i on

pub record Summed (h : Model.Sheet) (xs : List Slot) (i : ℕ) (r : Size) : Type 0 where
  pub is : r ≡ shop_size h (map slot_of (drop i xs))
  pub few : AtMost r (1 + 256 * (slot_count - i))
  pub low : i ≤ slot_count

module _ (h : Model.Sheet) (xs : List Slot) (all : length xs ≡ slot_count) where
  pub none_summed : Summed h xs slot_count return_size
  unfolding shop_size
  none_summed = record {
    is = rw (drop_of_length-le xs {i = slot_count} (omega arith));
    few = record { blocks = omega arith; commands = omega arith; nodes = omega arith };
    low = omega arith;
  }

  pub one_summed : (i : ℕ) (r q : Size) (d : Slot) → Summed h xs i r → 0 < i → q ≡ slot_size h (slot_of (get_or xs (i - 1) d)) → AtMost q 256 → Summed h xs (i - 1) (plus q r)
  unfolding shop_size
  one_summed i r q d p l e f = record {
    is =
        let at : suc (i - 1) ≡ i = omega arith in
        let step : drop (i - 1) xs ≡ get_or xs (i - 1) d ∷ drop i xs = drop-cons xs (i - 1) d (omega (arith, p.low)) ∙ ap (λ (n : ℕ). get_or xs (i - 1) d ∷ drop n xs) at in
        rw (step, e, p.is);
    few = record { blocks = omega (arith, p.few.blocks, p.low); commands = omega (arith, p.few.commands, p.low); nodes = omega (arith, p.few.nodes, p.low) };
    low = omega (arith, p.low);
  }

pub all_summed : (h : Model.Sheet) (s : Shop) (i : ℕ) (r : Size) → Summed h s.slots i r → i ≡ 0 → r ≡ shop_size h (slots_of s)
unfolding slots_of
all_summed h s i r p e = rw e at p.is

pub summed_few : {h : Model.Sheet} {xs : List Slot} {i : ℕ} {r : Size} → Summed h xs i r → AtMost r wide16
summed_few p = record { blocks = omega (arith, p.few.blocks); commands = omega (arith, p.few.commands); nodes = omega (arith, p.few.nodes) }
