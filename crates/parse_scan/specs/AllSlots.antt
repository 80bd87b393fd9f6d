-- What a block does to all slots: the slots that it wrote to, the lowest first, and the others as they were. Assumes nothing.
use Rattle.std.specs.Prelude.{◌≡◌, refl, Bool, true, List, [], ◌∷◌, ℕ, zero, suc, ◌+◌, ◌≤◌, ◌<◌, ℤ, length, get_or, set, replicate}
use Rattle.std.proofs.Math.Path.{sym, ap}
use Rattle.std.proofs.Common.{◌∙◌, subst, true≢false, arith, length-set, get_or-set_same, get_or-set_other}
use Rattle.std.proofs.Math.Bool.{false, and-false}
use Rattle.std.proofs.Math.Option.{Option, none}
use Rattle.std.proofs.Math.Decide.{dec_le, ℕ_discrete}
use Rattle.std.proofs.Math.ListN.{length-map, get_or-map}
use Rattle.std.proofs.Math.Seq.{ext_get_or}
use Rattle.model.specs.Limits.{slot_count}
use Rattle.model.specs.Sheet.{Sheet, item_count, all}
use Rattle.model.specs.Requirement.{Requirement}
use Rattle.model.specs.Shop
use Rattle.model.specs.Parse.{update_slot, update_slots, few_entries, blank}
use Rattle.model.proofs.Laws.Walks.{updates_length}
use Rattle.model.proofs.Laws.Places.{all_from}
use Rattle.shop.specs.Shapes.{slot_of, slots_of, placed}
use Rattle.shop.specs.Good.{beyond, GoodSlot, GoodShop, own_few}
use Rattle.shop.specs.declared.Slot.{Slot}
use Rattle.shop.specs.declared.Shop.{Shop}
use Rattle.parse_scan.specs.Slots.{Stands, Became}
use Rattle.parse_scan.specs.Shown.{hides_one, shown_any}

-- the definition's slots after the block that wrote the items ms and the counts ns
abbrev pub slots_then : Sheet → List Requirement → List (Option ℤ) → List (Option ℤ) → Shop → List Shop.Slot
slots_then h rs ms ns s = update_slots h rs ms ns (slots_of s)

-- where r is false a slot would have over entry_limit requirements, and the slots out do not count
pub record UpdatedBy (h : Sheet) (rs : List Requirement) (shop : Shop) (ms ns : List (Option ℤ)) (r : Bool) (out : Shop) : Type 0 where
  pub ok : r ≡ all few_entries (slots_then h rs ms ns shop)
  pub is : r ≡ true → slots_of out ≡ slots_then h rs ms ns shop
  pub good : r ≡ true → GoodShop out

-- for every sheet of so many items, and all requirements that more and n stand for
pub record SlotsUpdated (shop : Shop) (items : ℕ) (ms ns : List (Option ℤ)) (more : List ℕ) (n : ℕ) (r : Bool) (out : Shop) : Type 0 where
  pub by : (h : Sheet) (rs : List Requirement) → item_count h ≡ items → Stands more n rs → UpdatedBy h rs shop ms ns r out

-- ---- lists

slots_at : (h : Sheet) (rs : List Requirement) (ms ns : List (Option ℤ)) (xs : List Shop.Slot) (j : ℕ) (d : Shop.Slot) → length ms ≡ length xs → length ns ≡ length xs → j < length xs
    → get_or (update_slots h rs ms ns xs) j d ≡ update_slot h rs (get_or ms j none) (get_or ns j none) (get_or xs j d)
slots_at h rs ms ns [] j d p q l = absurd (omega arith)
slots_at h rs [] ns (x ∷ xs) j d p q l = absurd (omega arith)
slots_at h rs (a ∷ ms) [] (x ∷ xs) j d p q l = absurd (omega arith)
slots_at h rs (a ∷ ms) (b ∷ ns) (x ∷ xs) zero d p q l = refl
slots_at h rs (a ∷ ms) (b ∷ ns) (x ∷ xs) (suc j) d p q l = slots_at h rs ms ns xs j d (omega arith) (omega arith) (omega arith)

all_false : {A : Type 0} (p : A → Bool) (l : List A) (j : ℕ) (d : A) → j < length l → p (get_or l j d) ≡ false → all p l ≡ false
all_false p [] j d h e = absurd (omega arith)
all_false p (x ∷ l) zero d h e = rw e
all_false p (x ∷ l) (suc j) d h e = rw (all_false p l j d (omega arith) e) (and-false (p x))

-- the slots of a good shop have few entries
good_few : (shop : Shop) → GoodShop shop → length shop.slots ≡ slot_count → all few_entries (slots_of shop) ≡ true
unfolding slots_of
good_few shop g p =
    all_from few_entries (slots_of shop) (slot_of beyond)
    (λ j l. ap few_entries (get_or-map slot_of shop.slots j beyond) ∙ own_few (get_or shop.slots j beyond) (g.each j (omega (arith, length-map shop.slots slot_of))))

-- ---- the loop

-- slot j, and what it was
pub record Done (h : Sheet) (rs : List Requirement) (o n : Option ℤ) (x y : Slot) : Type 0 where
  pub is : slot_of y ≡ update_slot h rs o n (slot_of x)
  pub few : few_entries (slot_of y) ≡ true
  pub good : GoodSlot y

-- the slots below at are done, for the requirements of P, the others as they were
pub record Halfway (shop : Shop) (items : ℕ) (ms ns : List (Option ℤ)) (P : List Requirement → Type 0) (out : Shop) (at : ℕ) : Type 0 where
  pub low : at ≤ slot_count
  pub long : length out.slots ≡ slot_count
  pub rest : (j : ℕ) → at ≤ j → get_or out.slots j beyond ≡ get_or shop.slots j beyond
  pub done : (h : Sheet) (rs : List Requirement) → item_count h ≡ items → P rs → (j : ℕ) → j < at
      → Done h rs (get_or ms j none) (get_or ns j none) (get_or shop.slots j beyond) (get_or out.slots j beyond)

module _ (shop : Shop) (items : ℕ) (ms ns : List (Option ℤ)) (P : List Requirement → Type 0) (g : GoodShop shop) (All-there : length shop.slots ≡ slot_count) where
  pub half_start : Halfway shop items ms ns P shop 0
  half_start = record { low = omega arith; long = All-there; rest = λ j h. refl; done = λ h rs e w j l. absurd (omega arith) }

  -- slots without a count stay
  pub half_to : (out : Shop) (at n : ℕ) → Halfway shop items ms ns P out at → at ≤ n → n ≤ slot_count → ((j : ℕ) → at ≤ j → j < n → none ≡ get_or ns j none) → Halfway shop items ms ns P out n
  half_to out at n v p q f = record {
    low = q;
    long = v.long;
    rest = λ j h. v.rest j (omega arith);
    done = λ h rs e w j k. by h rs e w j k (dec_le at j);
  }
    where
      by : (h : Sheet) (rs : List Requirement) → item_count h ≡ items → P rs → (j : ℕ) → j < n → Dec (at ≤ j)
          → Done h rs (get_or ms j none) (get_or ns j none) (get_or shop.slots j beyond) (get_or out.slots j beyond)
      by h rs e w j k (no d) = v.done h rs e w j (omega arith)
      by h rs e w j k (yes d) =
          let x = g.each j (omega arith) in
          let s = v.rest j d in
          record {
            is = ap slot_of s ∙ ap (λ m. update_slot h rs (get_or ms j none) m (slot_of (get_or shop.slots j beyond))) (f j d k);
            few = ap (λ y. few_entries (slot_of y)) s ∙ own_few (get_or shop.slots j beyond) x;
            good = subst GoodSlot (sym s) x;
          }

  -- slot i became y
  module _ (out : Shop) (i : ℕ) (v : Halfway shop items ms ns P out i) (low : i < slot_count) (b : Bool) (y : Slot)
      (o n : Option ℤ) (x : Slot) (eo : o ≡ get_or ms i none) (en : n ≡ get_or ns i none) (ex : x ≡ get_or out.slots i beyond)
      (became : (h : Sheet) (rs : List Requirement) → item_count h ≡ items → P rs → Became h rs o n x b y) where
    read : (h : Sheet) (rs : List Requirement) → item_count h ≡ items → P rs → Became h rs (get_or ms i none) (get_or ns i none) (get_or out.slots i beyond) b y
    read h rs e w = rw (eo, en, ex) at (became h rs e w)

    placed_next : b ≡ true → Halfway shop items ms ns P (placed out i y) (i + 1)
    placed_next o = record {
      low = omega arith;
      long = length-set out.slots i y ∙ v.long;
      rest = λ j h. get_or-set_other out.slots i j y beyond (λ e. omega arith) ∙ v.rest j (omega arith);
      done = λ h rs e w j k. by h rs e w j k (ℕ_discrete j i);
    }
      where
        by : (h : Sheet) (rs : List Requirement) → item_count h ≡ items → P rs → (j : ℕ) → j < i + 1 → Dec (j ≡ i)
            → Done h rs (get_or ms j none) (get_or ns j none) (get_or shop.slots j beyond) (get_or (set out.slots i y) j beyond)
        by h rs e w j k (no d) =
            subst (Done h rs (get_or ms j none) (get_or ns j none) (get_or shop.slots j beyond)) (sym (get_or-set_other out.slots i j y beyond d)) (v.done h rs e w j (omega arith))
        by h rs e w j k (yes d) =
            let a = read h rs e w in
            let s : get_or (set out.slots i y) i beyond ≡ y = get_or-set_same out.slots i y beyond (omega (arith, v.long)) in
            let u : slot_of y ≡ update_slot h rs (get_or ms i none) (get_or ns i none) (slot_of (get_or shop.slots i beyond)) =
            a.is o ∙ ap (λ z. update_slot h rs (get_or ms i none) (get_or ns i none) (slot_of z)) (v.rest i (omega arith)) in
            rw d
            record {
              is = ap slot_of s ∙ u;
              few = ap (λ z. few_entries (slot_of z)) s ∙ ap few_entries (a.is o) ∙ sym a.ok ∙ o;
              good = subst GoodSlot (sym s) (a.good o);
            }

    pub half_next : (to : Shop) → to ≡ placed out i y → b ≡ true → Halfway shop items ms ns P to (i + 1)
    half_next to e o = subst (λ (s : Shop). Halfway shop items ms ns P s (i + 1)) (sym e) (placed_next o)

    -- a slot with over entry_limit requirements refuses all
    pub half_refused : length ms ≡ slot_count → length ns ≡ slot_count → (to : Shop) → b ≡ false → (h : Sheet) (rs : List Requirement) → item_count h ≡ items → P rs → UpdatedBy h rs shop ms ns false to
    unfolding slots_of
    half_refused p q to f h rs e w =
        let a = read h rs e w in
        let k = length-map shop.slots slot_of in
        let z = slots_at h rs ms ns (slots_of shop) i (slot_of beyond) (p ∙ sym (k ∙ All-there)) (q ∙ sym (k ∙ All-there)) (omega (arith, k)) in
        let y : few_entries (get_or (slots_then h rs ms ns shop) i (slot_of beyond)) ≡ false =
        ap few_entries (z ∙ ap (update_slot h rs (get_or ms i none) (get_or ns i none)) (get_or-map slot_of shop.slots i beyond ∙ ap slot_of (sym (v.rest i (omega arith))))) ∙ sym a.ok ∙ f in
        record {
          ok = sym (all_false few_entries (slots_then h rs ms ns shop) i (slot_of beyond) (omega (arith, updates_length h rs ms ns (slots_of shop), k)) y);
          is = λ t. absurd (true≢false (sym t));
          good = λ t. absurd (true≢false (sym t));
        }

  -- at the end
  pub half_done : length ms ≡ slot_count → length ns ≡ slot_count → (out : Shop) (at : ℕ) → slot_count ≤ at → Halfway shop items ms ns P out at
      → (h : Sheet) (rs : List Requirement) → item_count h ≡ items → P rs → UpdatedBy h rs shop ms ns true out
  unfolding slots_of
  half_done q s out at l v h rs i w =
      let n = updates_length h rs ms ns (slots_of shop) in
      let m = length-map shop.slots slot_of in
      let m' = length-map out.slots slot_of in
      let d = v.done h rs i w in
      let long = v.long in
      let z : slots_of out ≡ slots_then h rs ms ns shop = ext_get_or (slot_of beyond) (slots_of out) (slots_then h rs ms ns shop) (m' ∙ v.long ∙ sym (n ∙ m ∙ All-there))
      (λ j k. get_or-map slot_of out.slots j beyond ∙ (d j (omega arith)).is
      ∙ sym (slots_at h rs ms ns (slots_of shop) j (slot_of beyond) (q ∙ sym (m ∙ All-there)) (s ∙ sym (m ∙ All-there)) (omega arith)
      ∙ ap (update_slot h rs (get_or ms j none) (get_or ns j none)) (get_or-map slot_of shop.slots j beyond))) in
      let f : GoodShop out = record { each = λ j k. (d j (omega arith)).good } in
      record { ok = sym (ap (all few_entries) (sym z) ∙ good_few out f v.long); is = λ y. z; good = λ y. f }

-- ---- where no slot is hidden, or none changes

-- no slot is hidden: the requirements do not matter
pub unhidden : (shop : Shop) (items : ℕ) (ms ns : List (Option ℤ)) (more : List ℕ) (r : Bool) (out : Shop) → SlotsUpdated shop items ms ns more 0 r out → hides_one ms ns ≡ false
    → (h : Sheet) (rs : List Requirement) → item_count h ≡ items → UpdatedBy h rs shop ms ns r out
unhidden shop items ms ns more r out u f h rs i =
    let v = u.by h [] i (record { narrow = tt; codes = λ l. refl; over = λ l. absurd (omega arith) }) in
    let e : slots_then h [] ms ns shop ≡ slots_then h rs ms ns shop = shown_any h [] rs ms ns (slots_of shop) f in
    record { ok = v.ok ∙ ap (all few_entries) e; is = λ t. v.is t ∙ e; good = v.good }

-- no count was written
pub none_counted : (shop : Shop) (ms ns : List (Option ℤ)) → GoodShop shop → length shop.slots ≡ slot_count → ns ≡ blank → (h : Sheet) (rs : List Requirement) → UpdatedBy h rs shop ms ns true shop
none_counted shop ms ns g p e h rs =
    let s : slots_of shop ≡ slots_then h rs ms ns shop = sym (ap (λ l. slots_then h rs ms l shop) e ∙ stays slot_count ms (slots_of shop)) in
    record { ok = sym (ap (all few_entries) (sym s) ∙ good_few shop g p); is = λ t. s; good = λ t. g }
  where
    stays : (k : ℕ) (l : List (Option ℤ)) (xs : List Shop.Slot) → update_slots h rs l (replicate k none) xs ≡ xs
    stays k [] xs = refl
    stays zero (o ∷ l) xs = refl
    stays (suc k) (o ∷ l) [] = refl
    stays (suc k) (o ∷ l) (x ∷ xs) = ap (λ t. x ∷ t) (stays k l xs)
