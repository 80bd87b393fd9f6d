-- What a parse answers where a check refuses, where the walk stops and where the slots were read. Assumes nothing.
use Rattle.std.specs.Prelude.{◌≡◌, Option, Some, None, List, [], ◌∷◌, map, ℕ, zero, suc, ◌<◌, length, get_or}
use Rattle.std.proofs.Math.Path.{refl, sym, ap}
use Rattle.std.proofs.Common.{ap₂, ◌∙◌, subst, arith}
use Rattle.std.proofs.lemmas.List.{length-map}
use Rattle.model.specs.Limits.{slot_count}
use Rattle.model.specs.Sheet as Model
use Rattle.model.specs.Sheet.{item_count}
use Rattle.model.specs.Printer.{atc_entry}
use Rattle.model.specs.Shop.{padded}
use Rattle.model.specs.Memory.{Memory, script_of}
use Rattle.model.specs.Parse.{State, Parsed, after_checks, parse, parse_checked}
use Rattle.model.specs.RecordCalls.{call_in, parse_in}
use Rattle.model.specs.declared.ItemId.{ItemId}
use Rattle.shop.specs.declared.Shop.{Shop}
use Rattle.shop.specs.declared.Slot as code
use Rattle.shop.specs.declared.Sheet as Given
use Rattle.shop.specs.Shapes.{sheet_of, item_of, slot_of, slots_of, no_shop}
use Rattle.shop.specs.Sets.{Reqs, reqs_of}
use Rattle.shop.specs.Slots.{with_all, items_few}
use Rattle.shop_arrays.specs.Arrays.{Arrays, shop_from, arrays_of}
use Rattle.shop_arrays.specs.Slots.{slots_long, no_arrays, shop_none}
use Rattle.shop_arrays.specs.Back.{Full, none_back}
use Rattle.shop.specs.Good.{beyond, GoodSlot, GoodShop, good_start}
use Rattle.checks.specs.Passed.{call_passed}
use Rattle.parse.specs.Answer.{item_as, slot_with, slot_as, ParsedShop, answer_of, ParsedAs, ParsedInto}
use Rattle.parse.specs.Known.{slots_arrays}

-- ---- slots and what they stand for

item_back : (i : Option ItemId) → item_as (item_of i) ≡ i
item_back None = refl
item_back (Some w) = refl

slot_back : (x : code.Slot) → GoodSlot x → slot_as (slot_of x) ≡ x
unfolding slot_of
slot_back x g =
    ap (λ (s : Reqs). slot_with (slot_of x) s) (sym g.codes)
    ∙ ap (λ (i : Option ItemId). record { item = i; limit = x.limit; requirements = x.requirements; len = x.len }) (item_back x.item)

each_back : (xs : List code.Slot) → ((j : ℕ) → j < length xs → GoodSlot (get_or xs j beyond)) → map slot_as (map slot_of xs) ≡ xs
each_back [] g = refl
each_back (x ∷ xs) g = ap₂ (λ (y : code.Slot) (ys : List code.Slot). y ∷ ys) (slot_back x (g 0 (omega arith))) (each_back xs (λ j l. g (suc j) (omega arith)))

shop_back : (s : Shop) → length s.slots ≡ slot_count → GoodShop s → map slot_as (slots_of s) ≡ s.slots
unfolding slots_of
shop_back s e g =
    each_back s.slots (λ j l. g.each j (omega arith))

-- ---- the answers

abbrev refused_by : ℕ → ParsedShop
refused_by n = record { refusal = n; shop = no_shop }

nothing : (n : ℕ) → refused_by n ≡ answer_of (record { answer = n; slots = [] })
unfolding answer_of padded reqs_of
nothing n = refl

into : (p : Parsed) (n : ℕ) (a : Arrays) → ParsedAs p (record { refusal = n; shop = shop_from a }) → a ≡ arrays_of (shop_from a) → ParsedInto p n a
into p n a q e = record { refusal = ap (λ (r : ParsedShop). r.refusal) q.is; arrays = e ∙ ap (λ (r : ParsedShop). arrays_of r.shop) q.is; stands = q }

module _ (h : Model.Sheet) (m : Memory) (b : ℕ) where
  abbrev end : State
  end = parse h (script_of m).blocks b

  by_call : parse_in h m b ≡ after_checks (call_in h m b) end
  unfolding parse_in parse_checked call_in
  by_call = refl

  checked : (n : ℕ) → (n ≡ 0 → ⊥) → refused_by n ≡ answer_of (after_checks n end)
  checked zero d = absurd (d refl)
  checked (suc n) d = nothing (suc n)

  -- nothing was handed out
  refused_as : (n : ℕ) → (n ≡ 0 → ⊥) → refused_by n ≡ answer_of (parse_in h m b) → (a : Arrays) → a ≡ no_arrays → ParsedInto (parse_in h m b) n a
  refused_as n d e a k =
      let s : shop_from a ≡ no_shop = ap shop_from k ∙ shop_none in
      into (parse_in h m b) n a (record { is = ap (λ (t : Shop). record { refusal = n; shop = t }) s ∙ e; slots = λ z. absurd (d z); good = subst GoodShop (sym s) good_start })
      (k ∙ none_back ∙ ap arrays_of (sym s))

  pub parse_refused : (n : ℕ) → n ≡ call_in h m b → (n ≡ 0 → ⊥) → (a : Arrays) → a ≡ no_arrays → ParsedInto (parse_in h m b) n a
  parse_refused n e d = refused_as n d (checked n d ∙ ap (λ k. answer_of (after_checks k end)) e ∙ ap answer_of (sym by_call))

  stopped : (n : ℕ) (st : State) → n ≡ st.answer → (n ≡ 0 → ⊥) → refused_by n ≡ answer_of (after_checks 0 st)
  stopped zero st e d = absurd (d refl)
  stopped (suc n) st e d = nothing (suc n) ∙ rw (← e) refl

  pub parse_stopped : (n : ℕ) → call_in h m b ≡ 0 → n ≡ end.answer → (n ≡ 0 → ⊥) → (a : Arrays) → a ≡ no_arrays → ParsedInto (parse_in h m b) n a
  parse_stopped n c e d = refused_as n d (stopped n end e d ∙ ap answer_of (sym (by_call ∙ ap (λ k. after_checks k end) c)))

  module _ (n : ℕ) (a : Arrays) (c : call_in h m b ≡ 0) (e : n ≡ end.answer) (z : n ≡ 0) (p : slots_of (shop_from a) ≡ end.slots) where
    abbrev read : Shop
    read = shop_from a

    handed : parse_in h m b ≡ record { answer = 0; slots = slots_of read }
    handed = rw (by_call, c, ← e, z, p)

    read_as_lem : GoodShop read → ParsedAs (parse_in h m b) (record { refusal = 0; shop = read })
    unfolding answer_of
    read_as_lem g = record {
      is = ap (λ xs. record { refusal = 0; shop = record { slots = xs } }) (sym (ap (map slot_as) (with_all read (slots_long a)) ∙ shop_back read (slots_long a) g)) ∙ ap answer_of (sym handed);
      slots = λ o. sym (ap (λ (q : Parsed). q.slots) handed);
      good = g;
    }

    pub parse_read : Full a → GoodShop read → ParsedInto (parse_in h m b) n a
    parse_read f g = rw z (into (parse_in h m b) 0 a (read_as_lem g) (slots_arrays h (script_of m).blocks b a f (items_few h (call_passed h m b c).sheet) p))

-- ---- what the walk wants

-- the sheet has as many items as the lent slice, at most 512 where check 1 passes
pub items_counted : (ks : List ℕ) (s : Given.Sheet) → item_count (sheet_of ks s) ≡ length ks
unfolding sheet_of
items_counted ks s = length-map ks atc_entry

pub atcs_counted : (ks : List ℕ) (s : Given.Sheet) → (sheet_of ks s).atc_count ≡ s.atcs
unfolding sheet_of
atcs_counted ks s = refl
