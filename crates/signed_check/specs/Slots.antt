-- What is found on the codes of a slot that passed 1 and 8 is what is told of it. Assumes nothing.
use Rattle.std.specs.Prelude.{◌≡◌, refl, Bool, cond, ◌&&◌, List, [], ◌∷◌, map, ℕ, ◌-◌, ◌≤◌, leb, length, take, replicate, Some, None}
use Rattle.std.proofs.Math.Path.{sym, ap}
use Rattle.std.proofs.Common.{◌∙◌, true≢false, arith}
use Rattle.std.proofs.Math.Bool.{true, false, not, not-not}
use Rattle.std.proofs.Math.Option.{Option, none, some}
use Rattle.std.proofs.Math.ListN.{length-map}
use Rattle.model.specs.Limits.{entry_limit}
use Rattle.model.specs.Sheet as Model
use Rattle.model.specs.Sheet.{atc_for, sheet_ok}
use Rattle.model.specs.Requirement.{Requirement, haveItem, missingItem, haveAtc, missingAtc, haveFlag, missingFlag, keep, member, negate_req, same_req, settled, sorted, is_have}
use Rattle.model.specs.Shop.{limit_of, slot_ok}
use Rattle.model.specs.Compile.{acquired_req}
use Rattle.model.specs.Flags.{req_inside}
use Rattle.model.specs.Normal.{acquired_of, lone, normal}
use Rattle.model.proofs.Laws.Normal.{sorted_length}
use Rattle.model.proofs.Laws.Runs.{same_req_true}
use Rattle.model.specs.declared.ItemId.{ItemId}
use Rattle.shop_codes.specs.Codes.{AllNarrow, Narrow, code_of, is_missing, requirement_of}
use Rattle.shop_codes.specs.Laws.{code_stands, same_code}
use Rattle.shop_codes.specs.Subjects.{negate_narrow}
use Rattle.shop.specs.Shapes.{entries, slot_of}
use Rattle.shop.specs.Sets.{Reqs, held, reqs_in, reqs_of, sorted_reqs}
use Rattle.shop.specs.SetLaws.{held_set}
use Rattle.shop.specs.Codes.{sorted_narrow}
use Rattle.shop.specs.Slots.{entries_length, slot_narrow}
use Rattle.shop.specs.declared.Slot.{Slot}
use Rattle.settings_model.specs.Settings as Counted
use Rattle.settings_model.specs.Settings.{hidden_count, listed_count, settings_call}
use Rattle.settings_model.proofs.Closed.{none_listed}
use Rattle.settings.specs.Codes.{codes_are, lacks_is, negated_code_lem, own_narrow}
use Rattle.settings.specs.Answer.{accepted_as, item_none, item_some}
use Rattle.settings.specs.declared.Settings.{Settings}
use Rattle.signed_model.specs.Findings as Told
use Rattle.signed_model.specs.Findings.{faithful, pair, own, outside, doubled, finding, first_place, limit_for, listed_as, settings_for, verdict, verdict_filled}
use Rattle.signed_model.proofs.Rule.{left_of, normal_left}
use Rattle.signed_check.specs.Codes.{concerns_code, left_code, pick, place_code, shown_code, verdict_code}
use Rattle.signed_check.specs.Answer.{Finding, finding_of, verdict_of}

-- ---- tests of codes and of requirements

place_map : (p : ℕ → Bool) (q : Requirement → Bool) → ((r : Requirement) → Narrow r → p (code_of r) ≡ q r) → (rs : List Requirement) → AllNarrow rs → first_place p (map code_of rs) ≡ first_place q rs
unfolding first_place
place_map p q e [] a = refl
place_map p q e (r ∷ rs) a = rw (e r a.0, place_map p q e rs a.1)

pick_map : (p : ℕ → Bool) (q : Requirement → Bool) → ((r : Requirement) → Narrow r → p (code_of r) ≡ q r) → (rs : List Requirement) → AllNarrow rs → pick p (map code_of rs) ≡ map code_of (keep q rs)
unfolding pick
pick_map p q e [] a = refl
pick_map p q e (r ∷ rs) a = rw (e r a.0, pick_map p q e rs a.1) (by (q r))
  where
    by : (b : Bool) → cond b (code_of r ∷ map code_of (keep q rs)) (map code_of (keep q rs)) ≡ map code_of (cond b (r ∷ keep q rs) (keep q rs))
    by true = refl
    by false = refl

keep_keep : (p q : Requirement → Bool) (rs : List Requirement) → keep p (keep q rs) ≡ keep (λ r. q r && p r) rs
keep_keep p q [] = refl
keep_keep p q (r ∷ rs) = by (q r) (keep_keep p q rs)
  where
    by : (b : Bool) → keep p (keep q rs) ≡ keep (λ x. q x && p x) rs → keep p (cond b (r ∷ keep q rs) (keep q rs)) ≡ cond (b && p r) (r ∷ keep (λ x. q x && p x) rs) (keep (λ x. q x && p x) rs)
    by true e = rw e
    by false e = e

have_is : (r : Requirement) → not (is_missing r) ≡ is_have r
have_is (haveItem i) = refl
have_is (missingItem i) = refl
have_is (haveAtc a) = refl
have_is (missingAtc a) = refl
have_is (haveFlag f) = refl
have_is (missingFlag f) = refl

own_missing : (h : Model.Sheet) (w : ℕ) → is_have (negate_req (acquired_of h w)) ≡ false
unfolding acquired_of
own_missing h w = by (atc_for h w)
  where
    by : (o : Option ℕ) → is_have (negate_req (acquired_req o w)) ≡ false
    by none = refl
    by (some a) = refl

-- a Have is not the Missing of the acquired subject
have_other : (h : Model.Sheet) (w : ℕ) (r : Requirement) → is_have r ≡ true → same_req r (negate_req (acquired_of h w)) ≡ false
have_other h w r e = by (same_req r (negate_req (acquired_of h w))) refl
  where
    by : (b : Bool) → same_req r (negate_req (acquired_of h w)) ≡ b → b ≡ false
    by true s = absurd (true≢false (sym e ∙ ap is_have (same_req_true r (negate_req (acquired_of h w)) s) ∙ own_missing h w))
    by false s = refl

at_one : (v m s t : Bool) → (v ≡ true → t ≡ false) → v && (not s && not m) ≡ (not m && (not s && not t)) && v
at_one true m s t f = rw (f refl) (by m s)
  where
    by : (m s : Bool) → not s && not m ≡ (not m && (not s && true)) && true
    by true true = refl
    by true false = refl
    by false true = refl
    by false false = refl
at_one false true s t f = refl
at_one false false true t f = refl
at_one false false false true f = refl
at_one false false false false f = refl

above_one : (v m : Bool) → v && not m ≡ not m && v
above_one true true = refl
above_one true false = refl
above_one false true = refl
above_one false false = refl

module _ (h : Model.Sheet) (w : ℕ) (low : Narrow (acquired_of h w)) where
  abbrev a : Requirement
  a = acquired_of h w

  module _ (rs : List Requirement) (n : AllNarrow rs) where
    place_outside : place_code 3 (code_of a) (map code_of rs) ≡ first_place (λ r. not (req_inside r)) rs
    unfolding place_code concerns_code
    place_outside = place_map _ (λ r. not (req_inside r)) (λ r k. ap (λ q. not (req_inside q)) (code_stands r k)) rs n

    place_pair : place_code 1 (code_of a) (map code_of rs) ≡ first_place (λ r. member (negate_req r) rs) rs
    unfolding place_code concerns_code
    place_pair = place_map _ (λ r. member (negate_req r) rs) (λ r k. rw (negated_code_lem r k, lacks_is (negate_req r) rs (negate_narrow r k) n) (not-not (member (negate_req r) rs))) rs n

    place_own : place_code 2 (code_of a) (map code_of rs) ≡ first_place (same_req a) rs
    unfolding place_code concerns_code
    place_own = place_map _ (same_req a) (λ r k. sym (same_code a r low k)) rs n

    pub verdict_code_lem : (one : Bool) → verdict_code one (code_of a) (map code_of rs) ≡ verdict_filled h w one rs
    unfolding verdict_code
    verdict_code_lem one = rw (place_outside, place_pair, place_own)

    left_have : (one : Bool) (r : Requirement) → Narrow r → left_code one (code_of a) (map code_of rs) (code_of r) ≡ is_have r && (not (one && same_req r a) && not (member (negate_req r) rs))
    unfolding left_code
    left_have one r k = rw (code_stands r k, have_is r, ← same_code r a k low, negated_code_lem r k, lacks_is (negate_req r) rs (negate_narrow r k) n)

    pub left_code_lem : (one : Bool) → pick (left_code one (code_of a) (map code_of rs)) (map code_of rs) ≡ map code_of (keep is_have (cond one (keep (lone a rs) rs) (settled rs)))
    unfolding lone settled
    left_code_lem true =
        pick_map _ (λ r. lone a rs r && is_have r) (λ r k. left_have true r k ∙ at_one (is_have r) (member (negate_req r) rs) (same_req r a) (same_req r (negate_req a)) (have_other h w r)) rs n
        ∙ ap (map code_of) (sym (keep_keep is_have (lone a rs) rs))
    left_code_lem false =
        pick_map _ (λ r. not (member (negate_req r) rs) && is_have r) (λ r k. left_have false r k ∙ above_one (is_have r) (member (negate_req r) rs)) rs n
        ∙ ap (map code_of) (sym (keep_keep is_have (λ r. not (member (negate_req r) rs)) rs))

-- ---- a slot as the code holds it

limit_is : (x : Slot) → (slot_of x).limit ≡ x.limit
unfolding slot_of
limit_is x = refl

given_is : (x : Slot) → length (slot_of x).requirements ≡ x.len
unfolding slot_of
given_is x = length-map (entries x.len x.requirements) requirement_of ∙ entries_length x.len x.requirements

-- the set of its requirements as codes with a length
module _ (x : Slot) (row : List ℕ) (n : ℕ) (s : reqs_in row n ≡ sorted_reqs x) where
  pub set_is : take n row ≡ map code_of (sorted (slot_of x).requirements)
  set_is = ap held s ∙ held_set (map code_of (sorted (slot_of x).requirements))

  pub set_long : n ≡ length (sorted (slot_of x).requirements)
  unfolding reqs_of
  set_long = ap (λ (r : Reqs). r.len) s ∙ length-map (sorted (slot_of x).requirements) code_of

pub sorted_few : (x : Slot) (n : ℕ) → n ≡ length (sorted (slot_of x).requirements) → n ≤ x.len
sorted_few x n e = omega (arith, sorted_length (slot_of x).requirements, given_is x)

shown_is_lem : (v : Told.Verdict) (qs : List Requirement) → shown_code (verdict_of v).verdict (map code_of (keep is_have qs)) ≡ map code_of (settings_for v qs)
shown_is_lem faithful qs = refl
shown_is_lem (pair i) qs = refl
shown_is_lem (own i) qs = refl
shown_is_lem (outside i) qs = refl

-- ---- without an item

pub none_told : (x : Slot) (n : ℕ) → x.item ≡ None → n ≡ length (sorted (slot_of x).requirements) → (h : Model.Sheet)
    → record { verdict = 0; entry = 0; limit = 0; doubled = x.len - n; lost = x.len; listed = 1; settings = 0; codes = replicate entry_limit 0 } ≡ finding_of (finding h (slot_of x))
unfolding finding_of finding verdict reqs_of
none_told x n e s h =
    rw ((none_listed h (slot_of x) (item_none x e)).0, item_none x e, given_is x, ← s)

-- ---- with item w

made : {v v' e e' l l' d d' z z' t t' m m' : ℕ} {cs cs' : List ℕ} → v ≡ v' → e ≡ e' → l ≡ l' → d ≡ d' → z ≡ z' → t ≡ t' → m ≡ m' → cs ≡ cs'
    → ◌≡◌ {A = Finding} (record { verdict = v; entry = e; limit = l; doubled = d; lost = z; listed = t; settings = m; codes = cs }) (record { verdict = v'; entry = e'; limit = l'; doubled = d'; lost = z'; listed = t'; settings = m'; codes = cs' })
made q r s t u v w x = rw (q, r, s, t, u, v, w, x)

counted_is : (h : Model.Sheet) → sheet_ok h ≡ true → (x : Slot) → slot_ok h (slot_of x) ≡ true
    → listed_as (settings_call h (slot_of x)).listed (settings_call h (slot_of x)).hidden ≡ listed_as (listed_count h (slot_of x)) (hidden_count h (slot_of x))
unfolding settings_call
counted_is h ok x good = rw (ok, good)

module _ (h : Model.Sheet) (ok : sheet_ok h ≡ true) (x : Slot) (good : slot_ok h (slot_of x) ≡ true) (w : ItemId) (e : x.item ≡ Some w) (one : Bool) (l : leb (limit_of h w.0 x.limit) 1 ≡ one)
    (mine : ℕ) (o : mine ≡ code_of (acquired_of h w.0)) where
  abbrev low : Narrow (acquired_of h w.0)
  low = own_narrow h ok x good w e

  verdict_slot : length x.requirements ≡ entry_limit → verdict_code one mine (take x.len x.requirements) ≡ verdict h (slot_of x)
  unfolding verdict
  verdict_slot long = rw (o, codes_are h ok x good long, item_some x w e, limit_is x, l) (verdict_code_lem h w.0 low (slot_of x).requirements (slot_narrow x) one)

  left_slot : (row : List ℕ) (n : ℕ) → reqs_in row n ≡ sorted_reqs x → pick (left_code one mine (take n row)) (take n row) ≡ map code_of (keep is_have (normal h (slot_of x)).requirements)
  unfolding left_of
  left_slot row n s =
      rw (o, set_is x row n s, normal_left h (slot_of x) w.0 (item_some x w e), limit_is x, l)
      (left_code_lem h w.0 low (sorted (slot_of x).requirements) (sorted_narrow (slot_of x).requirements (slot_narrow x)) one)

  -- v the verdict, n the length of the set, m codes found, r what was counted
  pub filled_told : (long : length x.requirements ≡ entry_limit) (row : List ℕ) (n : ℕ) → reqs_in row n ≡ sorted_reqs x
      → (v : Told.Verdict) → v ≡ verdict_code one mine (take x.len x.requirements)
      → (codes : List ℕ) (m : ℕ) → reqs_in codes m ≡ reqs_of (shown_code (verdict_of v).verdict (pick (left_code one mine (take n row)) (take n row)))
      → (r : Settings) → accepted_as r ≡ settings_call h (slot_of x) → (t : ℕ) → t ≡ listed_as r.listed r.hidden → (limit : ℕ) → limit ≡ limit_of h w.0 x.limit
      → record { verdict = (verdict_of v).verdict; entry = (verdict_of v).entry; limit = limit; doubled = x.len - n; lost = 0; listed = t; settings = m; codes = codes } ≡ finding_of (finding h (slot_of x))
  unfolding finding_of finding reqs_of
  filled_told long row n s v ve codes m ce r re t te limit le =
      made (ap (λ (k : Told.Verdict). (verdict_of k).verdict) told) (ap (λ (k : Told.Verdict). (verdict_of k).entry) told) (le ∙ limit_told) (rw (given_is x, ← set_long x row n s)) (rw (item_some x w e)) (te ∙ ap (λ (k : Counted.Settings). listed_as k.listed k.hidden) re ∙ counted)
      (ap (λ (q : Reqs). q.len) shown ∙ length-map (settings_for (verdict h (slot_of x)) (normal h (slot_of x)).requirements) code_of) (ap (λ (q : Reqs). q.codes) shown)
    where
      told : v ≡ verdict h (slot_of x)
      told = ve ∙ verdict_slot long

      limit_told : limit_of h w.0 x.limit ≡ limit_for h (slot_of x).item (slot_of x).limit
      limit_told = rw (item_some x w e, limit_is x)

      counted : listed_as (settings_call h (slot_of x)).listed (settings_call h (slot_of x)).hidden ≡ listed_as (listed_count h (slot_of x)) (hidden_count h (slot_of x))
      counted = counted_is h ok x good

      shown : reqs_in codes m ≡ reqs_of (map code_of (settings_for (verdict h (slot_of x)) (normal h (slot_of x)).requirements))
      shown =
          ce ∙ ap reqs_of (ap (shown_code (verdict_of v).verdict) (left_slot row n s)
          ∙ ap (λ (k : Told.Verdict). shown_code (verdict_of k).verdict (map code_of (keep is_have (normal h (slot_of x)).requirements))) told
          ∙ shown_is_lem (verdict h (slot_of x)) (normal h (slot_of x)).requirements)
