-- The steps of reading a line: the slot's number, its item, its limit, its requirements one by one. Assumes nothing.
use Rattle.std.specs.Prelude.{◌≡◌, Bool, true, false, cond, List, [], ◌∷◌, ◌++◌, map, ℕ, zero, suc, ◌+◌, ◌-◌, ◌*◌, ◌/◌, ◌%◌, ◌≤◌, ◌<◌, ltb, eqb, ℤ, pos, negsuc, length, drop, set, replicate, Result, Ok, Err, Some, None}
use Rattle.std.proofs.Math.Path.{refl}
use Rattle.std.proofs.Common.{ap, sym, ◌∙◌, append-nil, arith, length-append, SFits}
use Rattle.std.proofs.Math.Option.{none, some}
use Rattle.std.proofs.lemmas.List.{map-append, length-map, set_at}
use Rattle.std.proofs.Math.Decide.{dec_le}
use borrow.Author.Tests.{lt-ltb, le-ltb, eq-eqb, ne_eqb}
use Rattle.std.proofs.Math.Seq.{append_snoc}
use Rattle.model.specs.Limits.{slot_count, entry_limit, wide, wide16, half16, half32}
use Rattle.model.specs.Reading.{Answer, got, refused, onward}
use Rattle.model.specs.Requirement.{Requirement, haveItem, missingItem, haveAtc, missingAtc, haveFlag, missingFlag, number}
use Rattle.std.specs.Int.{w16}
use Rattle.shop_codes.specs.Codes.{shift, unshift, code_of, of_kind, requirement_of}
use Rattle.shop_codes.specs.Laws.{shift_most, unshift_low, unshift_high, unshift_shift}
use Rattle.image_numbers.specs.Answers.{seen_more, seen_none}
use Rattle.std.specs.Prelude as prelude
use Rattle.model.specs.declared.ItemId.{ItemId}
use Rattle.text_model.specs.Text.{read_natural, read_signed, blank_behind, read_number, read_item, read_id, read_flag, read_requirement, read_requirements, read_slot, no_slot, no_item, no_limit, no_requirement, many_requirements, no_end}
use Rattle.text_read.specs.declared.Fault.{Fault}
use Rattle.text_read.specs.Faults.{fault_number}
use Rattle.text_read.specs.Shops.{row_for}
use Rattle.text_read.specs.Told.{Is, Other, ByteAt, Blank, NoBlank, BlankAt, kind_for, Took, ToldStart, Any, IsNumber, IsSigned, IsItem, IsRequirement, AreRequirements, IsSlot}

-- ---- a blank

other_blank : {A : Type 0} (e : ℕ) (x : A) (t : List ℕ) → Other (Is 32) t → blank_behind e (got x t) ≡ refused e
other_blank e x [] h = refl
other_blank e x (c ∷ t) h = rw h

module _ (s : List ℕ) (at : ℕ) (e : Fault) {A : Type 0} {a : Answer A} (x : A) (h : a ≡ got x (drop at s)) where
  pub blank_took : (P : A → Type 0) → P x → (p : ℕ) → Blank s at p → Took s (blank_behind (fault_number e) a) P p
  blank_took P i p g = record { value = x; is = i; read = rw (h, g.next) }

  pub blank_not : (f : Fault) → NoBlank s at e f → blank_behind (fault_number e) a ≡ refused (fault_number f)
  blank_not f g = rw (h, g.same) (other_blank (fault_number e) x (drop at s) g.other)

pub blank_start : (s : List ℕ) (at : ℕ) (e : Fault) (a : Answer ℕ) (x : ℕ) → a ≡ got x (drop at s) → (r : Result ℕ Fault) → BlankAt s at e r → ToldStart s (blank_behind (fault_number e) a) r
blank_start s at e a x h (Ok p) g = blank_took s at e x h Any tt p g
blank_start s at e a x h (Err f) g = blank_not s at e x h f g

-- ---- the number of a slot

module _ (s : List ℕ) (at i : ℕ) where
  pub start_no : (e : ℕ) → read_natural no_slot slot_count (drop at s) ≡ refused e → blank_behind no_slot (read_number i (drop at s)) ≡ refused e
  unfolding read_number
  start_no e h = rw h

  pub start_other : (v p : ℕ) → (v ≡ i → ⊥) → Took s (read_natural no_slot slot_count (drop at s)) (IsNumber slot_count v) p → blank_behind no_slot (read_number i (drop at s)) ≡ refused no_slot
  unfolding read_number
  start_other v p h x = rw (x.read, ne_eqb x.value i (λ q. h (sym x.is.same ∙ q)))

  pub start_is : (v p : ℕ) → v ≡ i → (x : Took s (read_natural no_slot slot_count (drop at s)) (IsNumber slot_count v) p) → read_number i (drop at s) ≡ got x.value (drop p s)
  unfolding read_number
  start_is v p h x = rw (x.read, eq-eqb x.value i (x.is.same ∙ h))

-- ---- an item

item_minus : (t : List ℕ) → read_item (45 ∷ t) ≡ got none t
unfolding read_item
item_minus t = refl

item_other : (t : List ℕ) → Other (Is 45) t → read_item t ≡ onward (read_natural no_item wide16 t) (λ n r. got (some n) r)
unfolding read_item read_natural
item_other [] h = refl
item_other (c ∷ t) h = rw h

module _ (s : List ℕ) (at : ℕ) where
  pub item_none : ByteAt s at 45 → read_item (drop at s) ≡ got none (drop (at + 1) s)
  item_none u = rw u.next (item_minus (drop (at + 1) s))

  module _ (u : Other (Is 45) (drop at s)) where
    pub item_no : (e : ℕ) → read_natural no_item wide16 (drop at s) ≡ refused e → blank_behind no_item (read_item (drop at s)) ≡ refused e
    item_no e q = let g = item_other (drop at s) u in rw (g, q)

    pub item_some : (v p : ℕ) (x : Took s (read_natural no_item wide16 (drop at s)) (IsNumber wide16 v) p) → read_item (drop at s) ≡ got (some x.value) (drop p s)
    item_some v p x = let g = item_other (drop at s) u in rw (g, x.read)

pub item_is : (v n : ℕ) → IsNumber wide16 v n → IsItem (Some (record { 0 = v })) (some n)
item_is v n i = rw i.same

-- ---- a requirement

-- by its kind
abbrev by_kind : prelude.Option ℕ → List ℕ → Answer Requirement
by_kind (Some k) t = cond (ltb k 4) (onward (read_natural no_requirement half32 t) (λ n r. got (of_kind k (pos n)) r)) (onward (read_signed no_requirement half32 t) (λ z r. got (of_kind k z) r))
by_kind None t = refused no_requirement

by_letter : (t : List ℕ) (a b c d e f : Bool)
    → cond a (read_id haveItem t) (cond b (read_id missingItem t) (cond c (read_id haveAtc t) (cond d (read_id missingAtc t) (cond e (read_flag haveFlag t) (cond f (read_flag missingFlag t) (refused no_requirement))))))
    ≡ by_kind (cond a (Some 0) (cond b (Some 1) (cond c (Some 2) (cond d (Some 3) (cond e (Some 4) (cond f (Some 5) None)))))) t
by_letter t true b c d e f = refl
by_letter t false true c d e f = refl
by_letter t false false true d e f = refl
by_letter t false false false true e f = refl
by_letter t false false false false true f = refl
by_letter t false false false false false true = refl
by_letter t false false false false false false = refl

kinds : (c : ℕ) (t : List ℕ) → read_requirement (c ∷ t) ≡ by_kind (kind_for c) t
unfolding read_requirement
kinds c t = by_letter t (eqb c 73) (eqb c 105) (eqb c 65) (eqb c 97) (eqb c 70) (eqb c 102)

no_letter : read_requirement [] ≡ refused no_requirement
unfolding read_requirement
no_letter = refl

at_most : (a b c d e f : Bool) (k : ℕ) → cond a (Some 0) (cond b (Some 1) (cond c (Some 2) (cond d (Some 3) (cond e (Some 4) (cond f (Some 5) None))))) ≡ Some k → k ≤ 5
at_most true b c d e f k h = let q : ◌≡◌ {A = ℕ} 0 k = cc in omega arith
at_most false true c d e f k h = let q : ◌≡◌ {A = ℕ} 1 k = cc in omega arith
at_most false false true d e f k h = let q : ◌≡◌ {A = ℕ} 2 k = cc in omega arith
at_most false false false true e f k h = let q : ◌≡◌ {A = ℕ} 3 k = cc in omega arith
at_most false false false false true f k h = let q : ◌≡◌ {A = ℕ} 4 k = cc in omega arith
at_most false false false false false true k h = let q : ◌≡◌ {A = ℕ} 5 k = cc in omega arith
at_most false false false false false false k h = cc

-- there are six
pub kind_low : (c k : ℕ) → kind_for c ≡ Some k → k ≤ 5
kind_low c k h = at_most (eqb c 73) (eqb c 105) (eqb c 65) (eqb c 97) (eqb c 70) (eqb c 102) k h

code_id : (k n : ℕ) → k ≤ 3 → code_of (of_kind k (pos n)) ≡ k * wide + (n + half32)
code_id zero n h = refl
code_id (suc zero) n h = refl
code_id (suc (suc zero)) n h = refl
code_id (suc (suc (suc zero))) n h = refl
code_id (suc (suc (suc (suc k)))) n h = absurd (omega arith)

code_flag : (k : ℕ) (z : ℤ) → 3 < k → k ≤ 5 → code_of (of_kind k z) ≡ k * wide + shift z
code_flag zero z h l = absurd (omega arith)
code_flag (suc zero) z h l = absurd (omega arith)
code_flag (suc (suc zero)) z h l = absurd (omega arith)
code_flag (suc (suc (suc zero))) z h l = absurd (omega arith)
code_flag (suc (suc (suc (suc zero)))) z h l = refl
code_flag (suc (suc (suc (suc (suc zero))))) z h l = refl
code_flag (suc (suc (suc (suc (suc (suc k)))))) z h l = absurd (omega arith)

pub kind_none : (c : ℕ) → (c ≡ 73 → ⊥) → (c ≡ 105 → ⊥) → (c ≡ 65 → ⊥) → (c ≡ 97 → ⊥) → (c ≡ 70 → ⊥) → (c ≡ 102 → ⊥) → kind_for c ≡ None
kind_none c h i j k l m = rw (ne_eqb c 73 h, ne_eqb c 105 i, ne_eqb c 65 j, ne_eqb c 97 k, ne_eqb c 70 l, ne_eqb c 102 m)

pub signed_wide : {v : ℕ} (z : ℤ) → IsSigned half32 v z → v < wide
signed_wide z i = omega (arith, i.same, shift_most z i.low)

pub requirement_end : (s : List ℕ) (at : ℕ) → drop at s ≡ [] → read_requirement (drop at s) ≡ refused no_requirement
requirement_end s at h = rw h no_letter

module _ (s : List ℕ) (at c : ℕ) (u : ByteAt s at c) where
  for_kind : read_requirement (drop at s) ≡ by_kind (kind_for c) (drop (at + 1) s)
  for_kind = rw u.next (kinds c (drop (at + 1) s))

  pub requirement_none : None ≡ kind_for c → read_requirement (drop at s) ≡ refused no_requirement
  requirement_none e = for_kind ∙ ap (λ o. by_kind o (drop (at + 1) s)) (sym e)

  module _ (k : ℕ) (same : Some k ≡ kind_for c) where
    this_kind : read_requirement (drop at s) ≡ by_kind (Some k) (drop (at + 1) s)
    this_kind = for_kind ∙ ap (λ o. by_kind o (drop (at + 1) s)) (sym same)

    module _ (low : k ≤ 3) where
      for_id : read_requirement (drop at s) ≡ onward (read_natural no_requirement half32 (drop (at + 1) s)) (λ n r. got (of_kind k (pos n)) r)
      for_id = this_kind ∙ rw (lt-ltb k 4 (omega arith))

      pub id_no : (e : ℕ) → read_natural no_requirement half32 (drop (at + 1) s) ≡ refused e → read_requirement (drop at s) ≡ refused e
      id_no e q = for_id ∙ rw q

      pub id_took : (v p : ℕ) → Took s (read_natural no_requirement half32 (drop (at + 1) s)) (IsNumber half32 v) p → Took s (read_requirement (drop at s)) (IsRequirement (k * wide + (v + half32))) p
      id_took v p x = record { value = of_kind k (pos x.value); is = record { same = omega (arith, code_id k x.value low, x.is.same) }; read = for_id ∙ rw x.read }

    module _ (high : 3 < k) where
      for_flag : read_requirement (drop at s) ≡ onward (read_signed no_requirement half32 (drop (at + 1) s)) (λ z r. got (of_kind k z) r)
      for_flag = this_kind ∙ rw (le-ltb k 4 (omega arith))

      pub flag_no : (e : ℕ) → read_signed no_requirement half32 (drop (at + 1) s) ≡ refused e → read_requirement (drop at s) ≡ refused e
      flag_no e q = for_flag ∙ rw q

      pub flag_took : (v p : ℕ) → Took s (read_signed no_requirement half32 (drop (at + 1) s)) (IsSigned half32 v) p → Took s (read_requirement (drop at s)) (IsRequirement (k * wide + v)) p
      flag_took v p x = record { value = of_kind k x.value; is = record { same = omega (arith, code_flag k x.value high (kind_low c k (sym same)), x.is.same) }; read = for_flag ∙ rw x.read }

-- ---- requirements

end_at : (k : ℕ) (t : List ℕ) → read_requirements k (10 ∷ t) ≡ got [] t
unfolding read_requirements
end_at zero t = refl
end_at (suc k) t = refl

one_over : (t : List ℕ) → read_requirements 0 (32 ∷ t) ≡ refused many_requirements
unfolding read_requirements
one_over t = refl

one_more_lem : (k : ℕ) (t : List ℕ) → read_requirements (suc k) (32 ∷ t) ≡ onward (read_requirement t) (λ r u. onward (read_requirements k u) (λ rs v. got (r ∷ rs) v))
unfolding read_requirements
one_more_lem k t = refl

no_end_lem : (k : ℕ) (t : List ℕ) → Other (Is 10) t → Other (Is 32) t → read_requirements k t ≡ refused no_end
unfolding read_requirements
no_end_lem zero [] h g = refl
no_end_lem zero (c ∷ t) h g = rw (h, g)
no_end_lem (suc k) [] h g = refl
no_end_lem (suc k) (c ∷ t) h g = rw (h, g)

-- one element more in a row that is filled up
pub row_next : {A : Type 0} (d : A) (xs : List A) (x : A) (m n : ℕ) → length xs ≡ n → set (xs ++ replicate (suc m) d) n x ≡ (xs ++ x ∷ []) ++ replicate m d
row_next d xs x m n e = set_at xs d (replicate m d) x n e ∙ sym (append_snoc xs x (replicate m d))

-- of the requirements from a place on, n are read up to p
pub record Listed (s : List ℕ) (at n p : ℕ) (row : List ℕ) : Type 0 where
  pub seen : List Requirement
  pub read : read_requirements entry_limit (drop at s) ≡ onward (read_requirements (entry_limit - n) (drop p s)) (λ ys r. got (seen ++ ys) r)
  pub codes : row_for seen ≡ row
  pub long : length seen ≡ n

pub listed_start : (s : List ℕ) (at : ℕ) → Listed s at 0 at (replicate entry_limit 0)
listed_start s at = record { seen = []; read = seen_none (read_requirements entry_limit (drop at s)); codes = refl; long = refl }

module _ (s : List ℕ) (at n p : ℕ) (row : List ℕ) (u : Listed s at n p row) where
  pub listed_over : ByteAt s p 32 → entry_limit ≤ n → read_requirements entry_limit (drop at s) ≡ refused many_requirements
  listed_over w l =
      let z : entry_limit - n ≡ 0 = omega arith in
      u.read ∙ rw (z, w.next, one_over (drop (p + 1) s))

  another : ByteAt s p 32 → n < entry_limit → read_requirements (entry_limit - n) (drop p s) ≡ onward (read_requirement (drop (p + 1) s)) (λ r t. onward (read_requirements (entry_limit - (n + 1)) t) (λ rs v. got (r ∷ rs) v))
  another w l =
      let z : entry_limit - n ≡ suc (entry_limit - (n + 1)) = omega arith in
      rw (z, w.next) (one_more_lem (entry_limit - (n + 1)) (drop (p + 1) s))

  pub listed_no : ByteAt s p 32 → n < entry_limit → (e : ℕ) → read_requirement (drop (p + 1) s) ≡ refused e → read_requirements entry_limit (drop at s) ≡ refused e
  listed_no w l e q = u.read ∙ rw (another w l, q)

  pub listed_next : ByteAt s p 32 → n < entry_limit → (v r : ℕ) → Took s (read_requirement (drop (p + 1) s)) (IsRequirement v) r → Listed s at (n + 1) r (set row n v)
  listed_next w l v r x =
      let more : length (u.seen ++ x.value ∷ []) ≡ n + 1 = omega (arith, length-append u.seen (x.value ∷ []), u.long) in
      let z : entry_limit - length u.seen ≡ suc (entry_limit - (n + 1)) = omega (arith, u.long) in
      let old : map code_of u.seen ++ replicate (suc (entry_limit - (n + 1))) 0 ≡ row = rw z at u.codes in
      record {
        seen = u.seen ++ x.value ∷ [];
        read = u.read ∙ rw (another w l, x.read) (seen_more (read_requirements (entry_limit - (n + 1)) (drop r s)) u.seen x.value);
        codes = rw (more, map-append code_of u.seen (x.value ∷ []), x.is.same, ← old) (sym (row_next 0 (map code_of u.seen) v (entry_limit - (n + 1)) n (length-map u.seen code_of ∙ u.long)));
        long = more;
      }

  pub listed_no_end : Other (Is 32) (drop p s) → Other (Is 10) (drop p s) → read_requirements entry_limit (drop at s) ≡ refused no_end
  listed_no_end h g = u.read ∙ rw (no_end_lem (entry_limit - n) (drop p s) g h)

  pub listed_done : ByteAt s p 10 → Took s (read_requirements entry_limit (drop at s)) (AreRequirements row n) (p + 1)
  listed_done w = record { value = u.seen; is = record { codes = u.codes; long = u.long }; read = u.read ∙ rw (w.next, end_at (entry_limit - n) (drop (p + 1) s), append-nil u.seen) }

-- ---- the line

pub limit_range : {v : ℕ} (z : ℤ) → IsSigned half16 v z → (half32 ≤ v + half16) × (v < half32 + half16)
limit_range (pos n) i = let e = i.same in let l = i.low in (omega arith, omega arith)
limit_range (negsuc n) i = let e = i.same in let l = i.low in (omega arith, omega arith)

-- a limit as the number of a flag's code
pub limit_number : (m : ℕ) → m < wide → number (requirement_of (4 * wide + m)) ≡ unshift m
unfolding requirement_of
limit_number m h =
    let k : (4 * wide + m) / wide ≡ 4 = omega arith in
    let n : (4 * wide + m) % wide ≡ m = omega arith in
    rw (k, n)

pub limit_fits : (m : ℕ) → half32 ≤ m + half16 → m < half32 + half16 → SFits w16 (unshift m)
limit_fits m h l = by (dec_le half32 m)
  where
    by : Dec (half32 ≤ m) → SFits w16 (unshift m)
    by (yes q) = rw (unshift_high m q) (record { sfits = omega arith })
    by (no q) = rw (unshift_low m (omega arith)) (record { sfits = omega arith })

limit_is : {v : ℕ} (z : ℤ) → IsSigned half16 v z → z ≡ unshift v
limit_is z i = let l = i.low in sym (unshift_shift z (omega arith)) ∙ ap unshift i.same

module _ (s : List ℕ) (at i : ℕ) where
  pub line_no : (e : ℕ) → blank_behind no_slot (read_number i (drop at s)) ≡ refused e → read_slot i (drop at s) ≡ refused e
  unfolding read_slot
  line_no e h = rw h

  module _ (p : ℕ) (n : Took s (blank_behind no_slot (read_number i (drop at s))) Any p) where
    pub line_no_item : (e : ℕ) → blank_behind no_item (read_item (drop p s)) ≡ refused e → read_slot i (drop at s) ≡ refused e
    unfolding read_slot
    line_no_item e h = rw (n.read, h)

    module _ (w : prelude.Option ItemId) (q : ℕ) (o : Took s (blank_behind no_item (read_item (drop p s))) (IsItem w) q) where
      pub line_no_limit : (e : ℕ) → read_signed no_limit half16 (drop q s) ≡ refused e → read_slot i (drop at s) ≡ refused e
      unfolding read_slot
      line_no_limit e h = rw (n.read, o.read, h)

      module _ (l r : ℕ) (z : Took s (read_signed no_limit half16 (drop q s)) (IsSigned half16 l) r) where
        pub line_no_requirements : (e : ℕ) → read_requirements entry_limit (drop r s) ≡ refused e → read_slot i (drop at s) ≡ refused e
        unfolding read_slot
        line_no_requirements e h = rw (n.read, o.read, z.read, h)

        pub line_took : (row : List ℕ) (k t : ℕ) → Took s (read_requirements entry_limit (drop r s)) (AreRequirements row k) t → (y : ℤ) → y ≡ unshift l
            → Took s (read_slot i (drop at s)) (IsSlot (record { item = w; limit = y; requirements = row; len = k })) t
        unfolding read_slot
        line_took row k t rs y f = record {
          value = record { item = o.value; limit = z.value; requirements = rs.value };
          is = rw (f, ← limit_is z.value z.is, o.is, rs.is.codes, rs.is.long);
          read = rw (n.read, o.read, z.read, rs.read);
        }
