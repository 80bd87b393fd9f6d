-- Slots changed in their arrays: one that is hidden, one that is filled, and the others as they were. Assumes nothing.
use Rattle.std.specs.Prelude.{◌≡◌, Bool, ℕ, zero, suc, ◌*◌, ◌≤◌, ◌<◌, ltb, ℤ, pos, negsuc, nat_abs, length, take, set}
use Rattle.std.proofs.Math.Path.{refl, sym, ap}
use Rattle.std.proofs.Common.{◌∙◌, true≢false, arith, get_or-set_other, le-ltb, le-leb}
use Rattle.std.proofs.Math.Bool.{true, false}
use Rattle.std.proofs.Math.Option.{Option, none, some}
use mathlib.Core.List.{List, ◌++◌}
use Rattle.std.specs.Int.Signed.{lt_z}
use Rattle.std.proofs.Math.ListN.{drop, get_or}
use Rattle.std.proofs.Math.Seq.{get_or-set_same}
use Rattle.std.proofs.lemmas.Bool.{lt-leb}
use Rattle.model.specs.Limits.{slot_count, entry_limit}
use Rattle.model.specs.Sheet.{Sheet, item_count}
use Rattle.model.specs.Requirement.{Requirement}
use Rattle.model.specs.Parse.{fill_item, new_count}
use Rattle.shop.specs.Shapes.{item_of, placed}
use Rattle.shop.specs.Sets.{held, reqs_in, reqs_of, grown}
use Rattle.shop.specs.SetLaws.{grown_set}
use Rattle.shop.specs.Good.{own_reqs, GoodSlot, own_held}
use Rattle.shop.specs.declared.Slot.{Slot}
use Rattle.shop_arrays.specs.Arrays.{no_such_item, Arrays, arrays_in, item_from, row_at, slot_at, shop_from}
use Rattle.shop_arrays.specs.Slots.{slot_put}
use Rattle.shop_arrays.specs.Rows.{row_own, row_other}
use Rattle.parse_scan.specs.Extend.{insert_codes, codes_longer}
use Rattle.parse_scan.specs.Rows.{PartHid}
use Rattle.parse_scan.specs.Slots.{Stands, Became, with_reqs, Hid, Hides, FilledBy, hides_none, hides_more, no_count, fills_with, hides_absent, hides_below}

-- ---- the contracts

-- slot i of the codes cs and lengths ks is hidden
pub record HiddenIn (cs ks : List ℕ) (i : ℕ) (more : List ℕ) (n : ℕ) (b : Bool) (cs' ks' : List ℕ) : Type 0 where
  pub became : (is ls : List ℤ) (rs : List Requirement) → GoodSlot (slot_at (arrays_in is ls cs ks) i) → Stands more n rs → Hides rs (slot_at (arrays_in is ls cs ks) i) b (slot_at (arrays_in is ls cs' ks') i)
  pub others : b ≡ true → (is ls : List ℤ) → shop_from (arrays_in is ls cs' ks') ≡ placed (shop_from (arrays_in is ls cs ks)) i (slot_at (arrays_in is ls cs' ks') i)

-- slot i of the items is and limits ls is filled
pub record FilledIn (known id : ℕ) (z : ℤ) (i : ℕ) (is ls is' ls' : List ℤ) : Type 0 where
  pub filled : (cs ks : List ℕ) → FilledBy known id z (slot_at (arrays_in is ls cs ks) i) (slot_at (arrays_in is' ls' cs ks) i)
  pub others : (cs ks : List ℕ) → shop_from (arrays_in is' ls' cs ks) ≡ placed (shop_from (arrays_in is ls cs ks)) i (slot_at (arrays_in is' ls' cs ks) i)

-- slot i by the item o and the count n that a block wrote
pub record SlotDone (a : Arrays) (known i : ℕ) (o n : Option ℤ) (more : List ℕ) (len : ℕ) (b : Bool) (a' : Arrays) : Type 0 where
  pub became : (h : Sheet) (rs : List Requirement) → item_count h ≡ known → Stands more len rs → Became h rs o n (slot_at a i) b (slot_at a' i)
  pub others : b ≡ true → shop_from a' ≡ placed (shop_from a) i (slot_at a' i)

-- ---- an item in its array

-- only -1 is no item
pub item_stays : (x : ℤ) (id : ℕ) (b : Bool) → (x ≡ negsuc 0 → ⊥) → item_of (item_from x) ≡ fill_item (item_of (item_from x)) id b
unfolding item_from
item_stays (pos n) id b q = refl
item_stays (negsuc zero) id b q = absurd (q refl)
item_stays (negsuc (suc n)) id b q = refl

pub no_item : item_of (item_from (negsuc 0)) ≡ none
unfolding item_from
no_item = refl

pub one_item : (id : ℕ) → id ≤ no_such_item → item_of (item_from (pos id)) ≡ some id
unfolding item_from
one_item id h = rw (le-ltb no_such_item id h)

-- ---- a slot hidden

pub good_len : (is ls : List ℤ) (cs ks : List ℕ) (i : ℕ) → GoodSlot (slot_at (arrays_in is ls cs ks) i) → get_or ks i 0 ≤ entry_limit
unfolding slot_at
good_len is ls cs ks i g = g.few

-- a good slot's set with the codes ds, as a row holds it
held_in_lem : (x : Slot) (ds : List ℕ) → GoodSlot x → grown (insert_codes (held (own_reqs x)) ds) (own_reqs x) ≡ reqs_of (insert_codes (held (own_reqs x)) ds)
held_in_lem x ds g =
    let l = insert_codes (held (own_reqs x)) ds in
    ap (grown l) (g.codes ∙ ap reqs_of (sym (own_held x g))) ∙ grown_set (held (own_reqs x)) l (codes_longer (held (own_reqs x)) ds)

same_reqs : {us vs : List ℕ} {p q : ℕ} → us ≡ vs → p ≡ q → reqs_in us p ≡ reqs_in vs q
same_reqs e f = rw (e, f)

module _ (cs ks : List ℕ) (i : ℕ) (low : i < slot_count) (more : List ℕ) (n : ℕ) where
  -- too many by themselves
  pub hidden_none : entry_limit < n → HiddenIn cs ks i more n false cs ks
  hidden_none h = record { became = λ is ls rs g w. hides_none (slot_at (arrays_in is ls cs ks) i) g rs more n w _ h; others = λ t. absurd (true≢false (sym t)) }

  module _ (l : n ≤ entry_limit) (cs' : List ℕ) (r : ℕ) (p : PartHid cs (entry_limit * i) (get_or ks i 0) (take n more) cs' r) where
    -- too many in the slot
    pub hidden_over : entry_limit < r → HiddenIn cs ks i more n false cs' ks
    unfolding slot_at
    hidden_over h = record {
      became = λ is ls rs g w. hides_more (slot_at (arrays_in is ls cs ks) i) g rs more n w l false _
          (record { ok = sym (lt-leb (length (insert_codes (take (get_or ks i 0) (row_at cs i)) (take n more))) entry_limit (p.hid.over h)); is = λ t. absurd (true≢false (sym t)) });
      others = λ t. absurd (true≢false (sym t));
    }

    module _ (long : length cs ≡ entry_limit * slot_count) (wide : length ks ≡ slot_count) (h : r ≤ entry_limit) where
      new : List ℕ
      new = insert_codes (take (get_or ks i 0) (row_at cs i)) (take n more)

      new_row : row_at cs' i ≡ new ++ drop (length new) (row_at cs i)
      unfolding new
      new_row = ap (λ l. row_at l i) p.is ∙ row_own cs p.row i low long p.hid.long ∙ p.hid.is h ∙ ap (λ k. new ++ drop k (row_at cs i)) (p.hid.count h)

      new_len : get_or (set ks i r) i 0 ≡ length new
      unfolding new
      new_len = get_or-set_same ks i r 0 (omega arith) ∙ p.hid.count h

      hid : (is ls : List ℤ) → GoodSlot (slot_at (arrays_in is ls cs ks) i) → Hid (slot_at (arrays_in is ls cs ks) i) (take n more) true (slot_at (arrays_in is ls cs' (set ks i r)) i)
      unfolding slot_at new
      hid is ls g =
          let x = slot_at (arrays_in is ls cs ks) i in
          record {
            ok = sym (le-leb (length new) entry_limit (omega (arith, p.hid.count h)));
            is = λ t. ap (with_reqs x) (same_reqs new_row new_len ∙ held_in_lem x (take n more) g);
          }

      pub hidden_in : HiddenIn cs ks i more n true cs' (set ks i r)
      unfolding slot_at
      hidden_in = record {
        became = λ is ls rs g w. hides_more (slot_at (arrays_in is ls cs ks) i) g rs more n w l true _ (hid is ls g);
        others = λ t is ls. slot_put (arrays_in is ls cs ks) (arrays_in is ls cs' (set ks i r)) i (slot_at (arrays_in is ls cs' (set ks i r)) i) low refl
            (λ j m d. ap (with_reqs (slot_at (arrays_in is ls cs ks) j))
            (same_reqs (ap (λ l. row_at l j) p.is ∙ row_other cs p.row i low long p.hid.long j m d) (get_or-set_other ks i j r 0 d)));
      }

-- ---- a slot filled

module _ (known id : ℕ) (z : ℤ) (i : ℕ) (is ls : List ℤ) (low : i < slot_count) (long : length is ≡ slot_count) (wide : length ls ≡ slot_count) where
  pub filled_in : (x l : ℤ) → item_of (item_from x) ≡ fill_item (item_of (item_from (get_or is i (pos 0)))) id (ltb id known) → l ≡ new_count z (get_or ls i (pos 0))
      → FilledIn known id z i is ls (set is i x) (set ls i l)
  unfolding slot_at
  filled_in x l p q = record {
    filled = λ cs ks. record {
      item = ap (λ (y : ℤ). item_of (item_from y)) (get_or-set_same is i x (pos 0) (omega arith)) ∙ p;
      limit = get_or-set_same ls i l (pos 0) (omega arith) ∙ q;
      reqs = refl;
    };
    others = λ cs ks. slot_put (arrays_in is ls cs ks) (arrays_in (set is i x) (set ls i l) cs ks) i (slot_at (arrays_in (set is i x) (set ls i l) cs ks) i) low refl
        (λ j m d. same cs ks j (get_or-set_other is i j x (pos 0) d) (get_or-set_other ls i j l (pos 0) d));
  }
    where
      same : (cs ks : List ℕ) (j : ℕ) → get_or (set is i x) j (pos 0) ≡ get_or is j (pos 0) → get_or (set ls i l) j (pos 0) ≡ get_or ls j (pos 0) → slot_at (arrays_in (set is i x) (set ls i l) cs ks) j ≡ slot_at (arrays_in is ls cs ks) j
      same cs ks j e f = rw (e, f)

-- ---- by item and count

module _ (is ls : List ℤ) (cs ks : List ℕ) (known i : ℕ) (low : i < slot_count) (g : GoodSlot (slot_at (arrays_in is ls cs ks) i)) (o n : Option ℤ) (more : List ℕ) (len : ℕ) where
  abbrev a : Arrays
  a = arrays_in is ls cs ks

  pub done_none : n ≡ none → SlotDone a known i o n more len true a
  done_none e = record {
    became = λ h rs c w. no_count h rs (slot_at a i) g o n e;
    others = λ t. slot_put a a i (slot_at a i) low refl (λ j m d. refl);
  }

  module _ (z : ℤ) (en : n ≡ some z) where
    pub done_absent : o ≡ none → (b : Bool) (cs' ks' : List ℕ) → HiddenIn cs ks i more len b cs' ks' → SlotDone a known i o n more len b (arrays_in is ls cs' ks')
    done_absent eo b cs' ks' v = record {
      became = λ h rs c w. hides_absent h rs (slot_at a i) g o n z b _ eo en (v.became is ls rs g w);
      others = λ t. v.others t is ls;
    }

    module _ (k : ℤ) (eo : o ≡ some k) where
      pub done_below : lt_z k (pos 0) ≡ true → (b : Bool) (cs' ks' : List ℕ) → HiddenIn cs ks i more len b cs' ks' → SlotDone a known i o n more len b (arrays_in is ls cs' ks')
      done_below t b cs' ks' v = record {
        became = λ h rs c w. hides_below h rs (slot_at a i) g o n k z b _ eo t en (v.became is ls rs g w);
        others = λ t. v.others t is ls;
      }

      pub done_filled : lt_z k (pos 0) ≡ false → (is' ls' : List ℤ) → FilledIn known (nat_abs k) z i is ls is' ls' → SlotDone a known i o n more len true (arrays_in is' ls' cs ks)
      done_filled t is' ls' v = record {
        became = λ h rs c w. fills_with h rs (slot_at a i) g o n known k z _ c eo t en (v.filled cs ks);
        others = λ q. v.others cs ks;
      }
