-- What is printed is what runs, over the calls of the library: any list of lk_compile and lk_reclaim as they were made and answered, lk_check of the last shop accepted at a block, then there lk_parse, lk_preview of what it read, and lk_run. Assumes nothing.
use Rattle.std.specs.Prelude.{◌≡◌, refl, Bool, true, false, List, [], ◌∷◌, map, ◌≢◌, ℕ, suc, ◌+◌, ◌≤◌, ◌<◌, ℤ, pos, negsuc, get_or, length}
use Rattle.std.proofs.Common.{sym, ◌∙◌, arith}
use Rattle.std.proofs.Math.Path.{ap}
use Rattle.std.proofs.Math.Option.{some}
use Rattle.std.proofs.lemmas.List.{length-map}
use Rattle.std.proofs.Math.ListN.{get_or-map}
use Rattle.model.specs.Limits.{item_first, run_blocks, slot_count}
use Rattle.model.specs.Refusal.{bad_save, bad_shop, check}
use Rattle.model.specs.Save.{Save}
use Rattle.model.specs.Sheet.{Sheet, all, save_refusal, sheet_refusal}
use Rattle.model.specs.Shop.{Slot, empty_slot, shop_refusal, slot_ok}
use Rattle.model.specs.Flags.{shop_inside, slot_inside}
use Rattle.model.specs.Meaning.{meaning_of}
use Rattle.model.specs.Normal.{normal, normal_shop}
use Rattle.model.specs.Preview.{preview_call}
use Rattle.model.specs.RecordCalls.{Born, parse_in, run_in}
use Rattle.model.specs.Lists.{after_all, last_at, now_at}
use Rattle.model.proofs.Laws.Places.{any_default}
use Rattle.shop.specs.Shapes.{no_slot, slot_of, slots_of}
use Rattle.shop_arrays.specs.Arrays.{Arrays, shop_from, slot_at}
use Rattle.shop_arrays.specs.Slots.{slot_in_lem}
use Rattle.parse.specs.Answer.{ParsedInto}
use Rattle.preview.specs.Shown.{Answer, meanings_of, previewed_of}
use Rattle.preview.specs.Accepted.{accepted_preview, items_are, with_all}
use Rattle.preview.specs.Agree.{AgreesCall}
use Rattle.capi.specs.declared.Previewed.{Previewed}
use Rattle.capi.specs.declared.Ran.{Ran}
use Rattle.capi.specs.Answers.{previewed_as, ran_as}
use Rattle.library.specs.Delivered.{Delivered, Made, made, shop_of}
use Rattle.faithful_model.specs.Faithful.{is_faithful}
use Rattle.signed_model.proofs.Witness.{Tells}
use Rattle.signed_model.specs.Findings.{Verdict, faithful, pair, own, outside, check_call, finding, verdict}
use Rattle.signed_model.proofs.Told.{told_rule}
use Rattle.signed_model.proofs.Shops.{preview_same, shop_inside_lem, shop_ok}
use Rattle.signed_check.specs.Answer.{Checked, Finding, checked_of, finding_of, no_finding, verdict_of}
use Rattle.signed_check.specs.Shops.{shop_long}
use Rattle.signed.specs.Answered.{answered, both_passed, finding_at, is_faithful_lem, saved_by}

-- what holds at each place holds of all
all_at : (p : Slot → Bool) (xs : List Slot) (d : Slot) → ((i : ℕ) → i < length xs → p (get_or xs i d) ≡ true) → all p xs ≡ true
all_at p [] d f = refl
all_at p (x ∷ xs) d f = rw (f 0 (omega arith)) (all_at p xs d (λ i l. f (suc i) (omega arith)))

-- slot i of the shop that arrays stand for
slot_is : (a : Arrays) (i : ℕ) (d : Slot) → i < slot_count → get_or (shop_of a) i d ≡ slot_of (slot_at a i)
unfolding slots_of
slot_is a i d l = any_default (shop_of a) i d (slot_of no_slot) (omega (arith, shop_long a)) ∙ get_or-map slot_of (shop_from a).slots i no_slot ∙ ap slot_of (slot_in_lem a i no_slot l)

-- ---- what lk_check answers of the whole shop

module _ (h : Sheet) (a : Arrays) (c : Checked) (p : c ≡ checked_of (check_call h (shop_of a))) (acc : c.refusal ≡ 0) where
  abbrev told : ℕ → ℕ
  told i = (get_or c.slots i no_finding).verdict

  -- 3 nowhere: no slot with an item has a flag outside
  pub inside_all : ((i : ℕ) → i < slot_count → told i ≢ 3) → shop_inside (shop_of a) ≡ true
  inside_all f = all_at slot_inside (shop_of a) empty_slot (λ i l. let m : i < slot_count = omega (arith, shop_long a) in ap slot_inside (slot_is a i empty_slot m) ∙ by i m (slot_inside (slot_of (slot_at a i))) refl)
    where
      by : (i : ℕ) → i < slot_count → (b : Bool) → slot_inside (slot_of (slot_at a i)) ≡ b → b ≡ true
      by i m true e = refl
      by i m false e = absurd (f i m ((answered h a c p acc i m).so_outside e))

  told_is : (i : ℕ) → i < slot_count → (verdict_of (verdict h (slot_of (slot_at a i)))).verdict ≡ told i
  unfolding finding_of finding
  told_is i l = ap (λ (x : Finding). x.verdict) (sym (finding_at h a c p acc i l))

  -- 0 everywhere
  pub rule_all : ((i : ℕ) → i < slot_count → told i ≡ 0) → all (is_faithful h) (shop_of a) ≡ true
  rule_all f = all_at (is_faithful h) (shop_of a) empty_slot
      (λ i l. let m : i < slot_count = omega (arith, shop_long a) in ap (is_faithful h) (slot_is a i empty_slot m) ∙ (told_rule h (slot_of (slot_at a i)) (is_faithful_lem (verdict h (slot_of (slot_at a i))) (told_is i m ∙ f i m))).1)

  -- neither 0 nor 3: the save that tells
  tells_at : (i : ℕ) → i < slot_count → told i ≢ 0 → told i ≢ 3 → Tells h (slot_of (slot_at a i)) (saved_by h (get_or c.slots i no_finding))
  tells_at i l no_zero no-three = by (verdict h (slot_of (slot_at a i))) refl
    where
      by : (v : Verdict) → verdict h (slot_of (slot_at a i)) ≡ v → Tells h (slot_of (slot_at a i)) (saved_by h (get_or c.slots i no_finding))
      by faithful e = absurd (no_zero (sym (told_is i l) ∙ ap (λ v. (verdict_of v).verdict) e))
      by (pair j) e = (answered h a c p acc i l).pair_tells (sym (told_is i l) ∙ ap (λ v. (verdict_of v).verdict) e)
      by (own j) e = (answered h a c p acc i l).own_tells (sym (told_is i l) ∙ ap (λ v. (verdict_of v).verdict) e)
      by (outside j) e = absurd (no-three (sym (told_is i l) ∙ ap (λ v. (verdict_of v).verdict) e))

-- ---- over the calls: a is the last shop accepted at b, c what lk_check told of it (checked_as of capi_signed/specs/Answers), t what lk_parse read there, q the preview of that, and the run answered r and left v

module _ (h : Sheet) (k : Born) (xs : List Made) (d : Delivered h k xs) (b b' : ℕ) (a : Arrays) (now : now_at made k xs b ≡ some b') (last : last_at made k xs b ≡ some (shop_of a))
    (c : Checked) (p : c ≡ checked_of (check_call h (shop_of a))) (acc : c.refusal ≡ 0) (budget : ℕ) (enough : run_blocks ≤ budget) where
  -- every slot faithful: under any save that fits the run is answered 0 and leaves what the preview of the reading answers
  pub signed_runs : ((i : ℕ) → i < slot_count → (get_or c.slots i no_finding).verdict ≡ 0) → (s : Save) → save_refusal h s ≡ 0
      → (n : ℕ) (t : Arrays) → ParsedInto (parse_in h (after_all made k xs).memory b') n t
      → (r : Ran) (v : List ℤ) → ran_as r v ≡ run_in h (after_all made k xs).memory b' s budget
      → (q : Previewed) → previewed_as q ≡ previewed_of (preview_call h (shop_of t) s) → (r.refusal ≡ 0) × AgreesCall (previewed_as q) r.refusal v
  signed_runs f s fits n t pe r v re q qe =
      let ins = inside_all h a c p acc (λ i l e. let z = f i l in omega arith) in
      let read = (d.parses b b' (shop_of a) now last n t pe).1 in
      let same : preview_call h (shop_of t) s ≡ preview_call h (shop_of a) s = ap (λ zs. preview_call h zs s) read ∙ preview_same h (shop_of a) (shop_long a) (both_passed h a c p acc).1 ins (rule_all h a c p acc f) s in
      ((d.runs b b' (shop_of a) now last ins s fits budget r v re).answered enough, d.previews b b' (shop_of a) now last s fits budget enough r v q re (qe ∙ ap previewed_of same))

  -- no flag outside, and slot i not faithful: under the save told the run hides it, and the preview of the reading lists its item
  pub apart_runs : ((i : ℕ) → i < slot_count → (get_or c.slots i no_finding).verdict ≢ 3) → (i : ℕ) → i < slot_count → (get_or c.slots i no_finding).verdict ≢ 0
      → (n : ℕ) (t : Arrays) → ParsedInto (parse_in h (after_all made k xs).memory b') n t
      → (r : Ran) (v : List ℤ) → ran_as r v ≡ run_in h (after_all made k xs).memory b' (saved_by h (get_or c.slots i no_finding)) budget
      → (q : Previewed) → previewed_as q ≡ previewed_of (preview_call h (shop_of t) (saved_by h (get_or c.slots i no_finding)))
      → (w : ℕ) → (slot_of (slot_at a i)).item ≡ some w → (get_or v (item_first + i) (pos 0) ≡ negsuc 0) × (get_or q.items i (negsuc 0) ≡ pos w)
  apart_runs f i l z n t pe r v re q qe w e = (hides, lists)
    where
      s : Save
      s = saved_by h (get_or c.slots i no_finding)

      ys : List Slot
      ys = shop_of a

      tells : Tells h (slot_of (slot_at a i)) s
      tells = tells_at h a c p acc i l z (f i l)

      fits : save_refusal h s ≡ 0
      fits = ap (λ x. check x bad_save) tells.fits

      ins : shop_inside ys ≡ true
      ins = inside_all h a c p acc f

      hides : get_or v (item_first + i) (pos 0) ≡ negsuc 0
      hides =
          let ran = d.runs b b' ys now last ins s fits budget r v re in
          (ran.means (ran.answered enough)).items i (omega (arith, shop_long a)) ∙ ap (λ x. (meaning_of h s x).item) (slot_is a i empty_slot l) ∙ ap (λ m. m.item) tells.runs

      long : length (normal_shop h ys) ≡ slot_count
      long = length-map ys (normal h) ∙ shop_long a

      both : (sheet_refusal h ≡ 0) × (all (slot_ok h) ys ≡ true)
      both = both_passed h a c p acc

      passes : shop_refusal h (normal_shop h ys) ≡ 0
      passes = ap (λ zs. check (all (slot_ok h) zs) bad_shop) (with_all (normal_shop h ys) long) ∙ ap (λ x. check x bad_shop) (shop_ok h ys both.1)

      shown : preview_call h (shop_of t) s ≡ meanings_of h (normal_shop h ys) s
      shown = ap (λ zs. preview_call h zs s) (d.parses b b' ys now last n t pe).1 ∙ accepted_preview h (normal_shop h ys) s long both.0 passes fits (shop_inside_lem h ys ins)

      lists : get_or q.items i (negsuc 0) ≡ pos w
      lists =
          ap (λ (x : Answer). get_or x.items i (negsuc 0)) (qe ∙ ap previewed_of shown)
          ∙ ap (λ zs. get_or zs i (negsuc 0)) (items_are (meanings_of h (normal_shop h ys) s) (length-map (normal_shop h ys) (meaning_of h s) ∙ long))
          ∙ any_default (map (λ m. m.item) (map (meaning_of h s) (map (normal h) ys))) i (negsuc 0) (meaning_of h s (normal h empty_slot)).item (omega (arith, length-map (map (meaning_of h s) (map (normal h) ys)) (λ m. m.item), length-map (map (normal h) ys) (meaning_of h s), long))
          ∙ get_or-map (λ m. m.item) (map (meaning_of h s) (map (normal h) ys)) i (meaning_of h s (normal h empty_slot))
          ∙ ap (λ m. m.item) (get_or-map (meaning_of h s) (map (normal h) ys) i (normal h empty_slot) ∙ ap (meaning_of h s) (get_or-map (normal h) ys i empty_slot ∙ ap (normal h) (slot_is a i empty_slot l)))
          ∙ tells.reads w e
