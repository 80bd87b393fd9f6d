-- What lk_check answers, in the fields of the struct that C gets: the theorems of Answered and Signed over that struct. Assumes nothing.
use Rattle.std.specs.Prelude.{◌≡◌, map, ◌≢◌, ℕ, ◌+◌, ◌≤◌, ◌<◌, ℤ, pos, negsuc, get_or}
use Rattle.std.proofs.Common.{sym, ◌∙◌, arith}
use Rattle.std.proofs.Math.Path.{ap}
use Rattle.std.proofs.Math.Option.{some}
use mathlib.Core.List.{List}
use Rattle.std.proofs.Math.ListN.{get_or-map}
use Rattle.model.specs.Limits.{item_first, run_blocks, slot_count}
use Rattle.model.specs.Save.{Save}
use Rattle.model.specs.Sheet.{Sheet, save_refusal}
use Rattle.model.specs.Preview.{preview_call}
use Rattle.model.specs.RecordCalls.{Born, parse_in, run_in}
use Rattle.model.specs.Lists.{after_all, last_at, now_at}
use Rattle.shop.specs.Shapes.{slot_of}
use Rattle.shop_arrays.specs.Arrays.{Arrays, slot_at}
use Rattle.parse.specs.Answer.{ParsedInto}
use Rattle.preview.specs.Shown.{previewed_of}
use Rattle.preview.specs.Agree.{AgreesCall}
use Rattle.capi.specs.declared.Previewed.{Previewed}
use Rattle.capi.specs.declared.Ran.{Ran}
use Rattle.capi.specs.Answers.{previewed_as, ran_as}
use Rattle.library.specs.Delivered.{Delivered, Made, made, shop_of}
use Rattle.signed_model.specs.Findings.{check_call}
use Rattle.signed_check.specs.Answer as Told
use Rattle.signed_check.specs.Answer.{checked_of, no_finding}
use Rattle.capi_signed.specs.declared.Checked.{Checked}
use Rattle.capi_signed.specs.declared.Finding.{Finding}
use Rattle.capi_signed.specs.Answers.{checked_as, finding_as}
use Rattle.signed.specs.Answered.{Answered, answered, both_passed, saved_by}
use Rattle.signed_model.proofs.Shops.{preview_same}
use Rattle.signed_check.specs.Shops.{shop_long}
use Rattle.signed.specs.Signed.{inside_all, rule_all, apart_runs}

-- what stands at a place past the twenty slots
abbrev pub nothing : Finding
nothing = record {
  verdict = no_finding.verdict;
  entry = no_finding.entry;
  limit = no_finding.limit;
  doubled = no_finding.doubled;
  lost = no_finding.lost;
  listed = no_finding.listed;
  settings = no_finding.settings;
  codes = no_finding.codes;
}

-- what is told of slot i
abbrev pub told_at : Checked → ℕ → Finding
told_at c i = get_or c.slots i nothing

told_is : (c : Checked) (i : ℕ) → get_or (checked_as c).slots i no_finding ≡ finding_as (told_at c i)
told_is c i = get_or-map finding_as c.slots i nothing

-- slot i of the arrays, and what lk_check tells of it
pub check_answered : (h : Sheet) (a : Arrays) (c : Checked) → checked_as c ≡ checked_of (check_call h (shop_of a)) → c.refusal ≡ 0 → (i : ℕ) → i < slot_count → Answered h (slot_of (slot_at a i)) (finding_as (told_at c i))
check_answered h a c p acc i l = rw (told_is c i) at (answered h a (checked_as c) p acc i l)

-- ---- over the calls: a is the last shop accepted at b, c what lk_check answered of it, t what lk_parse read there, q the preview of that, and the run answered r and left v

module _ (h : Sheet) (k : Born) (xs : List Made) (d : Delivered h k xs) (b b' : ℕ) (a : Arrays) (now : now_at made k xs b ≡ some b') (last : last_at made k xs b ≡ some (shop_of a))
    (c : Checked) (p : checked_as c ≡ checked_of (check_call h (shop_of a))) (acc : c.refusal ≡ 0) (budget : ℕ) (enough : run_blocks ≤ budget) where
  -- every slot told as faithful: under any save that fits the run is answered 0 and leaves what the preview of the reading answers
  pub check_runs : ((i : ℕ) → i < slot_count → (told_at c i).verdict ≡ 0) → (s : Save) → save_refusal h s ≡ 0
      → (n : ℕ) (t : Arrays) → ParsedInto (parse_in h (after_all made k xs).memory b') n t
      → (r : Ran) (v : List ℤ) → ran_as r v ≡ run_in h (after_all made k xs).memory b' s budget
      → (q : Previewed) → previewed_as q ≡ previewed_of (preview_call h (shop_of t) s) → (r.refusal ≡ 0) × AgreesCall (previewed_as q) r.refusal v
  check_runs f s fits n t pe r v re q qe =
      let g : (i : ℕ) → i < slot_count → (get_or (checked_as c).slots i no_finding).verdict ≡ 0 = λ i l. ap (λ (x : Told.Finding). x.verdict) (told_is c i) ∙ f i l in
      let ins = inside_all h a (checked_as c) p acc (λ i l e. let z = g i l in omega arith) in
      let read = (d.parses b b' (shop_of a) now last n t pe).1 in
      let same : preview_call h (shop_of t) s ≡ preview_call h (shop_of a) s = ap (λ zs. preview_call h zs s) read ∙ preview_same h (shop_of a) (shop_long a) (both_passed h a (checked_as c) p acc).1 ins (rule_all h a (checked_as c) p acc g) s in
      ((d.runs b b' (shop_of a) now last ins s fits budget r v re).answered enough, d.previews b b' (shop_of a) now last s fits budget enough r v q re (qe ∙ ap previewed_of same))

  -- no flag outside told, and slot i not told as faithful: under the save told the run hides it, and the preview of the reading lists its item
  pub check_apart : ((i : ℕ) → i < slot_count → (told_at c i).verdict ≢ 3) → (i : ℕ) → i < slot_count → (told_at c i).verdict ≢ 0
      → (n : ℕ) (t : Arrays) → ParsedInto (parse_in h (after_all made k xs).memory b') n t
      → (r : Ran) (v : List ℤ) → ran_as r v ≡ run_in h (after_all made k xs).memory b' (saved_by h (finding_as (told_at c i))) budget
      → (q : Previewed) → previewed_as q ≡ previewed_of (preview_call h (shop_of t) (saved_by h (finding_as (told_at c i))))
      → (w : ℕ) → (slot_of (slot_at a i)).item ≡ some w → (get_or v (item_first + i) (pos 0) ≡ negsuc 0) × (get_or q.items i (negsuc 0) ≡ pos w)
  check_apart f i l z =
      rw (told_is c i) at (apart_runs h k xs d b b' a now last (checked_as c) p acc budget enough
      (λ j m e. f j m (sym (ap (λ (x : Told.Finding). x.verdict) (told_is c j)) ∙ e)) i l (λ e. z (sym (ap (λ (x : Told.Finding). x.verdict) (told_is c i)) ∙ e)))
