-- Text written from a place on, piece by piece: the room that it takes, and what is still to come. Assumes nothing.
use Rattle.std.specs.Prelude.{◌≡◌, refl, List, [], ◌∷◌, ◌++◌, ℕ, ◌+◌, ◌≤◌, ◌<◌, length, drop, take, get_or}
use Rattle.std.proofs.Common.{ap, sym, ◌∙◌, append_assoc, arith, add-one, length-append, drop-cons}
use borrow.Rule.Slice.PartMut.{put_mid}
use Rattle.std.proofs.lemmas.List.{drop-drop}
use Rattle.std.proofs.lemmas.List.Edits.{sets, sets-eq}
use Rattle.image_numbers.specs.Stored.{Stored, stored_none, stored_on, stored_as}

-- the bytes of the array that takes the text
abbrev pub text_limit : ℕ
text_limit = 16384

-- from a place on there is room for the bytes b
pub record Space (at : ℕ) (b : List ℕ) : Type 0 where
  pub fits : at + length b ≤ text_limit

-- xs with the text b from its start on, and how long that is
pub record Wrote (xs b ys : List ℕ) (r : ℕ) : Type 0 where
  pub is : ys ≡ sets xs 0 b
  pub long : r ≡ length b

pub wrote : {xs b ys : List ℕ} {r : ℕ} → Stored xs 0 b ys r → Wrote xs b ys r
wrote {b = b} u = record { is = u.is; long = omega (arith, u.place) }

-- of the text b, written from a place on, only the rest c is still to come
pub record Part (xs : List ℕ) (at : ℕ) (b c ys : List ℕ) (p : ℕ) : Type 0 where
  pub done : List ℕ
  pub stored : Stored xs at done ys p
  pub whole : b ≡ done ++ c

-- nothing is written yet; the text may have another name
pub part_of : {xs : List ℕ} {at : ℕ} {b c : List ℕ} → b ≡ c → Part xs at b c xs at
part_of e = record { done = []; stored = stored_none; whole = e }

pub part_start : {xs : List ℕ} {at : ℕ} {b : List ℕ} → Part xs at b b xs at
part_start = part_of refl

-- one piece more
pub part_on : {xs ys zs : List ℕ} {at p r : ℕ} {b c d : List ℕ} → Part xs at b (c ++ d) ys p → Stored ys p c zs r → Part xs at b d zs r
part_on {c = c} {d = d} u v = record { done = u.done ++ c; stored = stored_on u.stored v; whole = u.whole ∙ sym (append_assoc u.done c d) }

-- the last piece
pub part_end : {xs ys zs : List ℕ} {at p r : ℕ} {b c : List ℕ} → Part xs at b c ys p → Stored ys p c zs r → Stored xs at b zs r
part_end u v = stored_as u.whole (stored_on u.stored v)

-- the next piece has room
pub part_space : {xs ys : List ℕ} {at p : ℕ} {b c : List ℕ} (d : List ℕ) → Space at b → Part xs at b (c ++ d) ys p → Space p c
part_space {b = b} {c = c} d h u =
    let f = h.fits in
    record { fits = omega (arith, u.stored.place, ap length u.whole, length-append u.done (c ++ d), length-append c d) }

-- .. a piece of one byte
pub part_byte : {xs ys zs : List ℕ} {at p r x : ℕ} {b d : List ℕ} → Part xs at b (x ∷ d) ys p → Stored ys p (x ∷ []) zs r → Part xs at b d zs r
part_byte {x = x} {d = d} u v = part_on {c = x ∷ []} {d = d} u v

-- .. a byte that is told by an equation
pub part_byte_is : {xs ys zs : List ℕ} {at p r x y : ℕ} {b d : List ℕ} → y ≡ x → Part xs at b (x ∷ d) ys p → Stored ys p (y ∷ []) zs r → Part xs at b d zs r
part_byte_is e u v = part_byte u (rw e at v)

pub byte_space : {xs ys : List ℕ} {at p x : ℕ} {b d : List ℕ} → Space at b → Part xs at b (x ∷ d) ys p → p < text_limit
byte_space {x = x} {d = d} h u = let f = (part_space {c = x ∷ []} d h u).fits in omega arith

-- the last piece has room
pub last_space : {xs ys : List ℕ} {at p : ℕ} {b c : List ℕ} → Space at b → Part xs at b c ys p → Space p c
last_space {c = c} h u = let f = h.fits in record { fits = omega (arith, u.stored.place, ap length u.whole, length-append u.done c) }

-- nothing is left
pub part_done : {xs ys : List ℕ} {at p : ℕ} {b c : List ℕ} → c ≡ [] → Part xs at b c ys p → Stored xs at b ys p
part_done e u = part_end u (stored_as e stored_none)

-- the same rest by another name
pub part_as : {xs ys : List ℕ} {at p : ℕ} {b c d : List ℕ} → c ≡ d → Part xs at b c ys p → Part xs at b d ys p
part_as e u = rw e at u

pub space_as : {at : ℕ} {b c : List ℕ} → b ≡ c → Space at b → Space at c
space_as e h = rw e at h

-- the next byte of a slice
pub bytes_next : (s : List ℕ) (i : ℕ) → i < length s → drop i s ≡ get_or s i 0 ∷ drop (i + 1) s
bytes_next s i h = rw (add-one, drop-cons s i 0)

-- bytes copied over a part as long as they are
pub stored_copy : (xs : List ℕ) (at : ℕ) (s ys : List ℕ) (k : ℕ) → ys ≡ s → k ≡ length s → at + length s ≤ length xs → Stored xs at s (put_mid at k xs ys) (at + length s)
stored_copy xs at s ys k e l h = record { is = rw (e, l, drop-drop (length s) at xs) (sym (append_assoc (take at xs) s (drop (at + length s) xs)) ∙ sym (sets-eq s xs at h)); place = refl }
