-- The lines of a text one by one, and what is behind them; the slots of the shop that was read. Assumes nothing.
use Rattle.std.specs.Prelude.{◌≡◌, refl, List, [], ◌∷◌, ◌++◌, map, ℕ, suc, ◌+◌, ◌-◌, ◌≤◌, ◌<◌, length, drop, get_or, replicate}
use Rattle.std.proofs.Common.{ap, sym, ◌∙◌, append-nil, arith, add-one, length-append, drop_of_length-le, drop-cons}
use Rattle.std.proofs.lemmas.List.{map-append, length-map}
use Rattle.std.proofs.Math.Seq.{append_snoc}
use Rattle.model.specs.Limits.{slot_count}
use Rattle.model.specs.Reading.{refused}
use Rattle.model.specs.Shop
use Rattle.shop.specs.Shapes.{no_slot, no_shop, placed}
use Rattle.shop.specs.declared.Slot.{Slot}
use Rattle.shop.specs.declared.Shop.{Shop}
use Rattle.text_model.specs.Text.{ReadText, slots, bad, before, line_then, read_slot, read_lines, read_text, more_text}
use Rattle.text_read.specs.Shops.{slot_for, shop_for, whole, broken, text_shop}
use Rattle.text_read.specs.Told.{Took, IsSlot}
use Rattle.text_read.specs.Lines.{row_next}

-- slots that were read before the others
abbrev joined : List Shop.Slot → ReadText → ReadText
joined xs (slots ys) = slots (xs ++ ys)
joined xs (bad l e) = bad l e

joined_none : (t : ReadText) → t ≡ joined [] t
joined_none (slots xs) = refl
joined_none (bad l e) = refl

joined_more : (xs : List Shop.Slot) (x : Shop.Slot) (t : ReadText) → joined xs (before x t) ≡ joined (xs ++ x ∷ []) t
joined_more xs x (slots ys) = ap slots (sym (append_snoc xs x ys))
joined_more xs x (bad l e) = refl

-- the lines of the first i slots are read, up to p
pub record Lines (s : List ℕ) (i p : ℕ) (shop : Shop) : Type 0 where
  pub seen : List Shop.Slot
  pub read : read_text s ≡ joined seen (read_lines (slot_count - i) i (drop p s))
  pub held : shop ≡ record { slots = map slot_for seen ++ replicate (slot_count - i) no_slot }
  pub long : length seen ≡ i

pub lines_start : (s : List ℕ) (shop : Shop) → shop ≡ no_shop → Lines s 0 0 shop
unfolding read_text
lines_start s shop e = record { seen = []; read = joined_none (read_lines slot_count 0 s); held = e; long = refl }

line_next : (n i : ℕ) (t : List ℕ) → read_lines (suc n) i t ≡ line_then i (read_slot i t) (λ r. read_lines n (suc i) r)
unfolding read_lines
line_next n i t = refl

none_left : (i : ℕ) → read_lines 0 i [] ≡ slots []
unfolding read_lines
none_left i = refl

some_left : (i c : ℕ) (t : List ℕ) → read_lines 0 i (c ∷ t) ≡ bad (suc i) more_text
unfolding read_lines
some_left i c t = refl

module _ (s : List ℕ) (i p : ℕ) (shop : Shop) (u : Lines s i p shop) where
  another : i < slot_count → read_lines (slot_count - i) i (drop p s) ≡ line_then i (read_slot i (drop p s)) (λ r. read_lines (slot_count - (i + 1)) (i + 1) r)
  another h =
      let z : slot_count - i ≡ suc (slot_count - (i + 1)) = omega arith in
      rw (z, add-one i) (line_next (slot_count - suc i) i (drop p s))

  pub lines_no : i < slot_count → (e : ℕ) → read_slot i (drop p s) ≡ refused e → broken (i + 1) e ≡ text_shop (read_text s)
  lines_no h e q = let g : read_text s ≡ bad (i + 1) e = u.read ∙ rw (another h, q, add-one i) in sym (ap text_shop g)

  pub lines_next : i < slot_count → (slot : Slot) (q : ℕ) → Took s (read_slot i (drop p s)) (IsSlot slot) q → (next : Shop) → next ≡ placed shop i slot → Lines s (i + 1) q next
  lines_next h slot q x next k =
      let z : slot_count - i ≡ suc (slot_count - (i + 1)) = omega arith in
      let old : shop ≡ record { slots = map slot_for u.seen ++ replicate (suc (slot_count - (i + 1))) no_slot } = rw z at u.held in
      record {
        seen = u.seen ++ x.value ∷ [];
        read = u.read ∙ rw (another h, x.read) (joined_more u.seen x.value (read_lines (slot_count - (i + 1)) (i + 1) (drop q s)));
        held = k ∙ ap (λ t. placed t i slot) old ∙ ap (λ l. record { slots = l }) (row_next no_slot (map slot_for u.seen) slot (slot_count - (i + 1)) i (length-map u.seen slot_for ∙ u.long) ∙ rw (map-append slot_for u.seen (x.value ∷ []), x.is));
        long = omega (arith, length-append u.seen (x.value ∷ []), u.long);
      }

  pub lines_over : slot_count ≤ i → i ≤ slot_count → p < length s → broken (slot_count + 1) more_text ≡ text_shop (read_text s)
  lines_over h l m =
      let e : i ≡ slot_count = omega arith in
      let g : read_text s ≡ bad (slot_count + 1) more_text = u.read ∙ rw (e, drop-cons s p 0 m, some_left slot_count (get_or s p 0) (drop (suc p) s)) in
      sym (ap text_shop g)

  pub lines_done : slot_count ≤ i → i ≤ slot_count → length s ≤ p → whole shop ≡ text_shop (read_text s)
  lines_done h l m =
      let e : i ≡ slot_count = omega arith in
      let g : read_text s ≡ slots u.seen = u.read ∙ rw (e, drop_of_length-le s m, none_left slot_count, append-nil u.seen) in
      let f : shop ≡ shop_for u.seen = u.held ∙ rw (e, append-nil (map slot_for u.seen)) in
      rw (g, f)
