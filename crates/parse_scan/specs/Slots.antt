-- What a block does to one slot: it is hidden, the negated requirements joining its set, or filled. Assumes nothing.
use Rattle.std.proofs.Math.Path.{◌≡◌, sym, ap}
use Rattle.std.specs.Prelude.{refl, Bool, false, ℕ, ◌≤◌, ◌<◌, ltb, ℤ, pos, negsuc, nat_abs, take}
use Rattle.std.proofs.Common.{ap₂, ◌∙◌, arith}
use Rattle.std.proofs.Math.Bool.{true}
use Rattle.std.proofs.Math.Option.{Option, none, some}
use mathlib.Core.List.{List, [], map}
use Rattle.std.proofs.Math.Dec.{leb}
use Rattle.std.specs.Int.Signed.{lt_z}
use Rattle.std.proofs.Math.ListN.{length, length-map}
use borrow.Author.Tests.{lt-leb, leb-true, ltb-true, ltb-false, eq-eqb, ne_eqb}
use Rattle.model.specs.Limits.{entry_limit}
use Rattle.model.specs.Sheet.{Sheet, item_count}
use Rattle.model.specs.Requirement.{Requirement, extend}
use Rattle.model.specs.Shop
use Rattle.model.specs.Parse.{fill_item, new_count, update_slot, few_entries}
use Rattle.model.proofs.Laws.Normal.{extend_sorted}
use Rattle.shop_codes.specs.Codes.{code_of, requirement_of, AllNarrow}
use Rattle.shop.specs.Shapes.{entries, item_of, slot_of}
use Rattle.shop.specs.Sets.{Reqs, held, reqs_of}
use Rattle.shop.specs.Slots.{slot_narrow}
use Rattle.shop.specs.Good.{own_reqs, GoodSlot, stands_for, good_slot, own_held, own_few}
use Rattle.shop.specs.declared.Slot.{Slot}
use Rattle.parse_scan.specs.Extend.{insert_codes, extend_longer, extend_narrow, extend_codes}

-- n codes in more stand for the negations of rs as a set; an n past the array says that they are too many
pub record Stands (more : List ℕ) (n : ℕ) (rs : List Requirement) : Type 0 where
  pub narrow : AllNarrow rs
  pub codes : n ≤ entry_limit → take n more ≡ map code_of (extend [] rs)
  pub over : entry_limit < n → entry_limit < length (extend [] rs)

-- slot x became y; not ok where it would have over entry_limit requirements, and then y does not count
pub record Became (h : Sheet) (rs : List Requirement) (o n : Option ℤ) (x : Slot) (b : Bool) (y : Slot) : Type 0 where
  pub ok : b ≡ few_entries (update_slot h rs o n (slot_of x))
  pub is : b ≡ true → slot_of y ≡ update_slot h rs o n (slot_of x)
  pub good : b ≡ true → GoodSlot y

-- ---- hidden

-- the slot with another set
abbrev pub with_reqs : Slot → Reqs → Slot
with_reqs x s = record { item = x.item; limit = x.limit; requirements = s.codes; len = s.len }

-- the codes ds joined the slot's own
pub record Hid (x : Slot) (ds : List ℕ) (b : Bool) (y : Slot) : Type 0 where
  pub ok : b ≡ leb (length (insert_codes (held (own_reqs x)) ds)) entry_limit
  pub is : b ≡ true → y ≡ with_reqs x (reqs_of (insert_codes (held (own_reqs x)) ds))

-- the slot hidden, as the definition has it
abbrev pub hidden_slot : List Requirement → Slot → Shop.Slot
hidden_slot rs x = record { item = (slot_of x).item; limit = (slot_of x).limit; requirements = extend (slot_of x).requirements rs }

pub record Hides (rs : List Requirement) (x : Slot) (b : Bool) (y : Slot) : Type 0 where
  pub ok : b ≡ few_entries (hidden_slot rs x)
  pub is : b ≡ true → slot_of y ≡ hidden_slot rs x
  pub good : b ≡ true → GoodSlot y

module _ (x : Slot) (g : GoodSlot x) (rs : List Requirement) (more : List ℕ) (n : ℕ) (w : Stands more n rs) where
  -- too many of them by themselves
  pub hides_none : (y : Slot) → entry_limit < n → Hides rs x false y
  hides_none y h =
      let q : leb (length (extend (slot_of x).requirements rs)) entry_limit ≡ false =
      lt-leb (length (extend (slot_of x).requirements rs)) entry_limit (omega (arith, w.over h, extend_longer (slot_of x).requirements rs g.sorted)) in
      record { ok = sym q; is = λ t. let z : ◌≡◌ {A = ℕ} 0 1 = cc in absurd (omega arith); good = λ t. let z : ◌≡◌ {A = ℕ} 0 1 = cc in absurd (omega arith) }

  module _ (l : n ≤ entry_limit) where
    codes_in : insert_codes (held (own_reqs x)) (take n more) ≡ map code_of (extend (slot_of x).requirements rs)
    codes_in = ap₂ insert_codes (own_held x g) (w.codes l) ∙ extend_codes (slot_of x).requirements rs g.sorted (slot_narrow x) w.narrow

    new_narrow : AllNarrow (extend (slot_of x).requirements rs)
    new_narrow = extend_narrow (slot_of x).requirements rs (slot_narrow x) w.narrow

    pub hides_more : (b : Bool) (y : Slot) → Hid x (take n more) b y → Hides rs x b y
    unfolding slot_of
    hides_more b y v =
        let zs = extend (slot_of x).requirements rs in
        let m : length (insert_codes (held (own_reqs x)) (take n more)) ≡ length zs = ap length codes_in ∙ length-map zs code_of in
        let k : b ≡ leb (length zs) entry_limit = v.ok ∙ ap (λ j. leb j entry_limit) m in
        let same : b ≡ true → y ≡ with_reqs x (reqs_of (map code_of zs)) = λ t. v.is t ∙ ap (λ c. with_reqs x (reqs_of c)) codes_in in
        let holds : b ≡ true → own_reqs y ≡ reqs_of (map code_of zs) = λ t. ap own_reqs (same t) in
        record {
          ok = k;
          is = λ t. ap (λ (z : Slot). record { item = item_of z.item; limit = z.limit; requirements = (slot_of y).requirements }) (same t)
              ∙ ap (λ c. record { item = item_of x.item; limit = x.limit; requirements = c }) (stands_for y zs new_narrow (holds t));
          good = λ t. good_slot y zs new_narrow (holds t) (extend_sorted (slot_of x).requirements rs g.sorted) (leb-true (length zs) entry_limit (sym k ∙ t));
        }

-- ---- filled

-- the slot filled
pub record FilledBy (items id : ℕ) (z : ℤ) (x y : Slot) : Type 0 where
  pub item : item_of y.item ≡ fill_item (item_of x.item) id (ltb id items)
  pub limit : y.limit ≡ new_count z x.limit
  pub reqs : own_reqs y ≡ own_reqs x

-- ---- by item and count

module _ (h : Sheet) (rs : List Requirement) (x : Slot) (g : GoodSlot x) where
  pub no_count : (o n : Option ℤ) → n ≡ none → Became h rs o n x true x
  no_count o n e = record {
    ok = sym (own_few x g) ∙ ap (λ m. few_entries (update_slot h rs o m (slot_of x))) (sym e);
    is = λ t. ap (λ m. update_slot h rs o m (slot_of x)) (sym e);
    good = λ t. g;
  }

  pub hides_absent : (o n : Option ℤ) (z : ℤ) (b : Bool) (y : Slot) → o ≡ none → n ≡ some z → Hides rs x b y → Became h rs o n x b y
  hides_absent o n z b y e f v =
      let u : hidden_slot rs x ≡ update_slot h rs o n (slot_of x) = rw (e, f) in
      record { ok = v.ok ∙ ap few_entries u; is = λ t. v.is t ∙ u; good = v.good }

  pub hides_below : (o n : Option ℤ) (k z : ℤ) (b : Bool) (y : Slot) → o ≡ some k → lt_z k (pos 0) ≡ true → n ≡ some z → Hides rs x b y → Became h rs o n x b y
  hides_below o n (negsuc k) z b y e t f v =
      let u : hidden_slot rs x ≡ update_slot h rs o n (slot_of x) = rw (e, f) in
      record { ok = v.ok ∙ ap few_entries u; is = λ t. v.is t ∙ u; good = v.good }
  hides_below o n (pos k) z b y e t f v = let l = ltb-true k 0 t in absurd (omega arith)

  pub fills_with : (o n : Option ℤ) (items : ℕ) (k z : ℤ) (y : Slot) → item_count h ≡ items → o ≡ some k → lt_z k (pos 0) ≡ false → n ≡ some z → FilledBy items (nat_abs k) z x y → Became h rs o n x true y
  unfolding slot_of
  fills_with o n items (negsuc k) z y i e t f v = let c : ◌≡◌ {A = ℕ} 0 1 = cc in absurd (omega arith)
  fills_with o n items (pos k) z y i e t f v =
      let d : (slot_of y).requirements ≡ (slot_of x).requirements = ap (λ (s : Reqs). map requirement_of (entries s.len s.codes)) v.reqs in
      let u : slot_of y ≡ update_slot h rs o n (slot_of x) = rw (e, f, i) (same v.item v.limit d) in
      record {
        ok = sym (own_few x g) ∙ ap (λ (l : List Requirement). leb (length l) entry_limit) (sym d) ∙ ap few_entries u;
        is = λ t. u;
        good = λ t. good_slot y (slot_of x).requirements (slot_narrow x) (v.reqs ∙ g.codes) g.sorted (omega (arith, leb-true (length (slot_of x).requirements) entry_limit (own_few x g)));
      }
    where
      same : {a b : Option ℕ} {l m : ℤ} {us vs : List Requirement} → a ≡ b → l ≡ m → us ≡ vs → ◌≡◌ {A = Shop.Slot} (record { item = a; limit = l; requirements = us }) (record { item = b; limit = m; requirements = vs })
      same p q s = rw (p, q, s)

-- ---- counts

pub count_above : (z l : ℤ) → lt_z (pos 0) z ≡ true → z ≡ new_count z l
count_above (pos n) l t = let h = ltb-true 0 n t in rw (ne_eqb n 0 (λ e. omega arith))
count_above (negsuc n) l t = let y : ◌≡◌ {A = ℕ} 0 1 = cc in absurd (omega arith)

pub count_low : (z l : ℤ) → lt_z (pos 0) z ≡ false → l ≡ new_count z l
count_low (pos n) l t = let h = ltb-false 0 n t in rw (eq-eqb n 0 (omega arith))
count_low (negsuc n) l t = refl
