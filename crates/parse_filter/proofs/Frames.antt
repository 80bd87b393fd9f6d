-- The entries of a condition are entries of keys, and they and the marks stay where the tables grow. Assumes nothing.
use Rattle.std.specs.Prelude.{◌≡◌, refl, Bool, false, List, [], ◌∷◌, map, ℕ, zero, suc, ◌+◌, ◌-◌, ◌≤◌, ◌<◌, get_or, length, take}
use Rattle.std.proofs.Common.{sym, ◌∙◌, true≢false, get_or-take, get_or-drop, ext_get_or, ne_eqb}
use Rattle.std.proofs.Math.Path.{ap}
use Rattle.std.proofs.Math.Bool.{true}
use native.Mathlib.Omega.{arith}
use Rattle.std.proofs.Math.Seq.{slice, length-slice}
use Rattle.model.proofs.Laws.Bools.{or_cases}
use Rattle.parse_keys.specs.Entries.{Valid}
use Rattle.parse_filter.specs.Chains.{companion_of, signed_entry, has, joined_to, from_of, to_of, is_else, signed_part, part_of, entries_in, top_of, Chains}
use Rattle.parse_filter.proofs.ChainLaws.{down, entries_at, entries_none}
use Rattle.parse_filter.proofs.Members.{has_append, map_from, has_place}
use Rattle.parse_filter.specs.Marks.{MarkedAs}
use Rattle.parse_filter.specs.declared.Marked.{Marked}

slice_at : (l : List ℕ) (f t i : ℕ) → t ≤ length l → i < t - f → get_or (slice f t l) i 0 ≡ get_or l (f + i) 0
slice_at l f t i h k = get_or-drop f (take t l) i 0 ∙ get_or-take t l (f + i) 0 (omega arith)

-- the tables as they were, as far as the conditions up to top go, over m keys and so many words of the list
pub record Kept (cs cells list cs' cells' list' : List ℕ) (top m used : ℕ) : Type 0 where
  pub companions : (e : ℕ) → Valid m e → companion_of cs' e ≡ companion_of cs e
  pub joined : (c : ℕ) → 0 < c → c ≤ top → joined_to cells' c ≡ joined_to cells c
  pub froms : (c : ℕ) → 0 < c → c ≤ top → from_of cells' c ≡ from_of cells c
  pub tos : (c : ℕ) → 0 < c → c ≤ top → to_of cells' c ≡ to_of cells c
  pub words : (i : ℕ) → i < used → get_or list' i 0 ≡ get_or list i 0
  pub long : used ≤ length list'

module _ (cs cells list : List ℕ) (size top m used : ℕ) (ch : Chains cs cells list size top m used) where
  signed_valid : (n : Bool) (e : ℕ) → Valid m e → Valid m (signed_entry cs n e)
  signed_valid true e v = ch.back e v
  signed_valid false e v = v

  part_valid : (c e : ℕ) → 0 < c → c ≤ top → has e (part_of cs cells list c) ≡ true → Valid m e
  part_valid c e l k h =
      let w = map_from (signed_entry cs (is_else c)) e (slice (from_of cells c) (to_of cells c) list) h in
      let p = has_place w.at (slice (from_of cells c) (to_of cells c) list) w.held in
      let x = ch.cell c l k in
      let long : to_of cells c ≤ length list = omega (arith, x.high, ch.held) in
      let i : p.at < to_of cells c - from_of cells c = rw (length-slice (from_of cells c) (to_of cells c) list long) at p.low in
      let q : get_or list (from_of cells c + p.at) 0 ≡ w.at = sym (slice_at list (from_of cells c) (to_of cells c) p.at long i) ∙ p.is in
      rw w.is at (signed_valid (is_else c) w.at (rw q at (ch.entry (from_of cells c + p.at) (omega (arith, i, x.high)))))

  pub entries_valid : (c : ℕ) → c ≤ top → (e : ℕ) → has e (entries_in cs cells list c) ≡ true → Valid m e
  unfolding has
  entries_valid = down cells 0 top (λ c l k. (ch.cell c l k).lower)
      {P = λ c. (e : ℕ) → has e (entries_in cs cells list c) ≡ true → Valid m e}
      (λ c l e h. let z : c ≡ 0 = omega arith in absurd (true≢false (sym h ∙ rw (z, entries_none cs cells list))))
      (λ c l k ih e h.
      let x = ch.cell c l k in
      or_cases (has e (entries_in cs cells list (joined_to cells c))) (has e (part_of cs cells list c))
      (sym (has_append e (entries_in cs cells list (joined_to cells c)) (part_of cs cells list c)) ∙ ap (has e) (sym (entries_at cs cells list c l x.lower)) ∙ h)
      (ih e)
      (part_valid c e l k))

  module _ (cs' cells' list' : List ℕ) (kept : Kept cs cells list cs' cells' list' top m used) where
    map_agree : (f g : ℕ → ℕ) (l : List ℕ) → ((i : ℕ) → i < length l → f (get_or l i 0) ≡ g (get_or l i 0)) → map f l ≡ map g l
    map_agree f g [] h = refl
    map_agree f g (x ∷ l) h = rw (h 0 (omega arith), map_agree f g l (λ i k. h (suc i) (omega arith)))

    same_signed : (n : Bool) (e : ℕ) → Valid m e → signed_entry cs' n e ≡ signed_entry cs n e
    same_signed true e v = kept.companions e v
    same_signed false e v = refl

    same_slice : (f t : ℕ) → t ≤ used → slice f t list' ≡ slice f t list
    same_slice f t h =
        let a : t ≤ length list = omega (arith, ch.held) in
        let b : t ≤ length list' = omega (arith, kept.long) in
        let p = length-slice f t list' b in
        ext_get_or 0 (slice f t list') (slice f t list) (p ∙ sym (length-slice f t list a))
        (λ i k. let j : i < t - f = rw p at k in slice_at list' f t i b j ∙ kept.words (f + i) (omega arith) ∙ sym (slice_at list f t i a j))

    same_part : (n : Bool) (f t : ℕ) → t ≤ used → signed_part cs' list' n f t ≡ signed_part cs list n f t
    same_part n f t h =
        let a : t ≤ length list = omega (arith, ch.held) in
        ap (map (signed_entry cs' n)) (same_slice f t h)
        ∙ map_agree (signed_entry cs' n) (signed_entry cs n) (slice f t list)
        (λ i k. let j : i < t - f = rw (length-slice f t list a) at k in same_signed n (get_or (slice f t list) i 0) (rw (slice_at list f t i a j) (ch.entry (f + i) (omega arith))))

    pub entries_frame : (c : ℕ) → c ≤ top → entries_in cs' cells' list' c ≡ entries_in cs cells list c
    entries_frame = down cells 0 top (λ c l k. (ch.cell c l k).lower)
        {P = λ c. entries_in cs' cells' list' c ≡ entries_in cs cells list c}
        (λ c l. let z : c ≡ 0 = omega arith in rw (z, entries_none cs' cells' list', entries_none cs cells list))
        (λ c l k ih.
        let x = ch.cell c l k in
        let j = kept.joined c l k in
        entries_at cs' cells' list' c l (rw j x.lower)
        ∙ (rw (j, ih, kept.froms c l k, kept.tos c l k, same_part (is_else c) (from_of cells c) (to_of cells c) x.high))
        ∙ sym (entries_at cs cells list c l x.lower))

    same_top : (c : ℕ) → c ≤ top → top_of cells' c ≡ top_of cells c
    same_top zero l = refl
    same_top (suc c) l = rw (ne_eqb (suc c) 0 (λ e. omega arith)) (kept.tos (suc c) (omega arith) l)

    pub marked_frame : (seen : List Bool) (alive : List ℕ) (k : Marked) → k.first ≤ top → MarkedAs cs cells list seen alive k → MarkedAs cs' cells' list' seen alive k
    marked_frame seen alive k l s =
        let f = entries_frame k.first l in
        record {
          marks = λ e. s.marks e ∙ ap (has e) (sym f);
          some = λ e h. ap (has e) f ∙ s.some e h;
          all = λ e h g.
              let a : has e (entries_in cs cells list k.first) ≡ true = ap (has e) (sym f) ∙ h in
              s.all e a (ap (λ x. has x (entries_in cs cells list k.first)) (sym (kept.companions e (entries_valid k.first l e a))) ∙ ap (has (companion_of cs' e)) (sym f) ∙ g);
          few = rw (same_top k.first l) s.few;
        }
