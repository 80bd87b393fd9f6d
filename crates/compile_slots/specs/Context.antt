-- A slot's context from what the shop's functions give: how its item counts as acquired, and its sorted requirements. Assumes nothing.
use Rattle.std.specs.Prelude.{◌≡◌, refl, Bool, false, List, [], ◌∷◌, map, ℕ, zero, suc, ◌≤◌, ◌<◌, ℤ, length, Some, None}
use Rattle.std.proofs.Common.{ap, sym, ◌∙◌, arith, length-append}
use Rattle.std.proofs.Math.Option.{Option}
use Rattle.std.proofs.lemmas.List.{length-replicate}
use Rattle.model.specs.Limits.{entry_limit, half16}
use Rattle.model.specs.declared.Op1.TheVariants.{Item, Atc}
use Rattle.model.specs.Requirement.{Requirement, sorted}
use Rattle.model.specs.Shop.{Timer, plain, five, ten, fifteen, timer_of, limit_of}
use Rattle.model.specs.Printer.{atc_entry}
use Rattle.model.specs.Compile.{test, item_test, atc_test, acquired_req, rate_of, or_rate, acquired_expr}
use Rattle.shop.specs.declared.Sheet.{Sheet}
use Rattle.shop.specs.declared.Slot.{Slot}
use Rattle.shop.specs.declared.Timer as Kinds
use Rattle.shop.specs.declared.Timer.TheVariants.{Plain, Five, Ten, Fifteen}
use Rattle.shop_codes.specs.Codes.{code_of, requirement_of}
use Rattle.shop.specs.Shapes.{sheet_of, atc_at, timer_is, rate_word, entries, slot_of}
use Rattle.shop.specs.Sets.{Reqs, reqs_of, sorted_reqs, Exact}
use Rattle.shop_codes.specs.Laws.{codes_narrow, codes_stand}
use Rattle.shop.specs.Codes.{sorted_narrow, sorted_code}
use Rattle.shop.specs.SetLaws.{held_set, sorted_few}
use Rattle.shop.specs.Slots.{atc_for_lem, entries_length}
use Rattle.expr_build.specs.declared.Acquired.{Acquired}
use Rattle.expr_build.specs.Tests.{acquired_of}
use Rattle.model.specs.Sheet as Model
use Rattle.model.specs.declared.BlockNo.{BlockNo}
use Rattle.model.specs.declared.ItemId.{ItemId}
use Rattle.model.specs.Compile.{slot_blocks, hide_block}
use Rattle.compile_slots.specs.declared.ItemContext.{ItemContext}
use Rattle.compile_slots.specs.Parts.{is_five, filled_of, Stands, Listed, Fitting}
use Rattle.compile_slots.specs.Same.{filled_same}

-- the item's atc plus 1, or 0; the item; the rate
abbrev pub acquired_by : ℕ → ℕ → ℕ → Acquired
acquired_by zero w r = record { of = Item; id = w; rate = r }
acquired_by (suc a) w r = record { of = Atc; id = a; rate = r }

acquired_word : (t : Timer) (a w : ℕ) → acquired_of (acquired_by a w (rate_word t)) ≡ or_rate (rate_of t) (test (acquired_req (atc_entry a) w))
unfolding test item_test atc_test
acquired_word plain zero w = refl
acquired_word plain (suc a) w = refl
acquired_word five zero w = refl
acquired_word five (suc a) w = refl
acquired_word ten zero w = refl
acquired_word ten (suc a) w = refl
acquired_word fifteen zero w = refl
acquired_word fifteen (suc a) w = refl

pub acquired_same : (ks : List ℕ) (h : Sheet) (w : ℕ) → acquired_of (acquired_by (atc_at ks w) w (rate_word (timer_of (sheet_of ks h) w))) ≡ acquired_expr (sheet_of ks h) w
unfolding acquired_expr
acquired_same ks h w =
    acquired_word (timer_of (sheet_of ks h) w) (atc_at ks w) w
    ∙ ap (λ (a : Option ℕ). or_rate (rate_of (timer_of (sheet_of ks h) w)) (test (acquired_req a w))) (sym (atc_for_lem ks h w))

pub rate_low : (a w : ℕ) (t : Timer) → (acquired_by a w (rate_word t)).rate < half16
rate_low zero w plain = omega arith
rate_low zero w five = omega arith
rate_low zero w ten = omega arith
rate_low zero w fifteen = omega arith
rate_low (suc a) w plain = omega arith
rate_low (suc a) w five = omega arith
rate_low (suc a) w ten = omega arith
rate_low (suc a) w fifteen = omega arith

-- ---- the sorted requirements

-- what the set of a slot stands for
pub sorted_listed : (x : Slot) → Exact x → Listed (sorted_reqs x).codes (sorted_reqs x).len (sorted (slot_of x).requirements)
unfolding slot_of reqs_of
sorted_listed x e =
    let rs : List Requirement = sorted (map requirement_of (entries x.len x.requirements)) in
    let n = codes_narrow (entries x.len x.requirements) in
    let few : length (map code_of rs) ≤ entry_limit
    = omega (arith, ap length (sorted_code (map requirement_of (entries x.len x.requirements)) n), sorted_few (map code_of (map requirement_of (entries x.len x.requirements))), ap length e.same, entries_length x.len x.requirements, e.few) in
    record {
      few = few;
      long = simp (length-append, length-replicate) (omega arith);
      is = ap (map requirement_of) (held_set (map code_of rs)) ∙ codes_stand rs (sorted_narrow (map requirement_of (entries x.len x.requirements)) n);
    }

-- ---- the context of a slot on a sheet

pub record Context (x : ItemContext) (h : Model.Sheet) (z : ℤ) (i : ℕ) (e : BlockNo) (w : ItemId) (n : ℕ) : Type 0 where
  pub stands : Stands x h z
  pub index : x.index ≡ i
  pub end : x.end ≡ e
  pub item : x.item ≡ w
  pub len : x.len ≡ n

module _ (x : ItemContext) (h : Model.Sheet) (y : Slot) (i : ℕ) (e : BlockNo) (w : ItemId) (s : Reqs) (c : Context x h y.limit i e w s.len) (ex : Exact y) (es : s ≡ sorted_reqs y) where
  listed : Listed s.codes x.len (sorted (slot_of y).requirements)
  listed = rw (c.len, es) (sorted_listed y ex)

  -- its blocks are the slot's
  pub context_blocks : y.item ≡ Some w → filled_of x s.codes ≡ slot_blocks h i e.0 (slot_of y)
  unfolding slot_blocks slot_of
  context_blocks o =
      filled_same x s.codes h y.limit (sorted (slot_of y).requirements) c.stands listed
      ∙ rw (c.index, c.end, c.item, o)

  pub context_fits : i < 20 → Fitting x
  context_fits l = record { index = omega (arith, c.index); few = listed.few; rate = c.stands.rate }

-- from the answers of the functions that make it
pub context_made : (ks : List ℕ) (h : Sheet) (z : ℤ) (i : ℕ) (e : BlockNo) (w : ItemId) (n : ℕ) (t : Kinds.Timer) (r l : ℕ) (a : Acquired) (f : Bool)
    → timer_is t ≡ timer_of (sheet_of ks h) w.0 → r ≡ rate_word (timer_is t) → a ≡ acquired_by (atc_at ks w.0) w.0 r
    → l ≡ limit_of (sheet_of ks h) w.0 z → f ≡ is_five (timer_is t)
    → Context (record { index = i; item = w; limit = l; end = e; acquired = a; five = f; ten = h.timer10; fifteen = h.timer15; len = n }) (sheet_of ks h) z i e w n
unfolding sheet_of
context_made ks h z i e w n t r l a f et er ea el ef =
    let q : a ≡ acquired_by (atc_at ks w.0) w.0 (rate_word (timer_of (sheet_of ks h) w.0)) = ea ∙ ap (λ (m : ℕ). acquired_by (atc_at ks w.0) w.0 m) (er ∙ ap rate_word et) in
    record {
      stands = record {
        limit = el;
        acquired = ap acquired_of q ∙ acquired_same ks h w.0;
        rate = rw q (rate_low (atc_at ks w.0) w.0 (timer_of (sheet_of ks h) w.0));
        five = ef ∙ ap is_five et;
        ten = refl;
        fifteen = refl;
      };
      index = refl;
      end = refl;
      item = refl;
      len = refl;
    }

-- any timer but Timer5
pub not_five : (t : Kinds.Timer) → (t ≡ Five → ⊥) → false ≡ is_five (timer_is t)
not_five Plain h = refl
not_five Five h = absurd (h refl)
not_five Ten h = refl
not_five Fifteen h = refl

-- no item: H alone, whatever the requirements are
pub none_blocks : (h : Model.Sheet) (y : Slot) (i e : ℕ) → y.item ≡ None → slot_blocks h i e (slot_of y) ≡ hide_block e i ∷ []
unfolding slot_blocks slot_of
none_blocks h y i e o = rw o
