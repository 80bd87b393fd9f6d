-- The reader's promise as the exported call tells it. Assumes nothing.
use Rattle.std.specs.Prelude.{◌≡◌, refl, List, [], ◌∷◌, map, ◌++◌, ℕ, ◌-◌, ◌≤◌, ◌<◌, length, take, drop, replicate, zero, suc, Ok, Err}
use Rattle.std.proofs.Common.{ap, ap₂, sym, ◌∙◌, arith, le-leb, length-drop, take-append-drop, length-take-le}
use Rattle.std.proofs.lemmas.Bool.{lt-leb}
use Rattle.std.proofs.lemmas.List.{length-map}
use Rattle.model.specs.Limits.{most_items, input_limit}
use Rattle.model.specs.Reading.{Answer, got, refused}
use Rattle.model.specs.Sheet.{item_count}
use Rattle.model.specs.Printer.{atc_entry}
use Rattle.shop.specs.Shapes.{sheet_of}
use Rattle.slots_sheet.specs.declared.Heading.{Heading}
use Rattle.model.specs.Refusals.{refusal_number}
use Rattle.model.specs.declared.Refusal.{Refusal}
use Rattle.slots_sheet.specs.Outcome.{Head, read_head, head_of, held, nothing, into, outcome, read_into, Within}
use Rattle.model.specs.Files.{Wrote}
use Rattle.image_write.specs.Call.{wrote, length_of}
use Rattle.model.specs.Refusals.{refuses}
use Rattle.slots_heading.specs.Bytes.{entry_of, write_head, head_length}
use Rattle.slots_heading.proofs.RoundTrip.{entry_number}
use Rattle.capi_stage.specs.declared.Headed.{Headed}
use Rattle.capi_stage.specs.Answers.{stage_head, told, no_head, told_of, head_told}

-- the reader's answer by its numbers
abbrev pub headed_of : Heading → Headed
headed_of h = record {
  refusal = 0;
  items = h.items;
  atcs = h.sheet.atcs;
  timer5 = h.sheet.timer5.0;
  timer10 = h.sheet.timer10.0;
  timer15 = h.sheet.timer15.0;
  setup = h.setup;
  at = h.at;
}

-- a stage past the limit
pub told_long : (s ks : List ℕ) → input_limit < length s → told (no_head 3) (replicate most_items 0) ≡ head_told s ks
unfolding head_told stage_head
told_long s ks h = rw (lt-leb (length s) input_limit h)

-- the array's own numbers
same_entries : (ks : List ℕ) → map entry_of (map atc_entry ks) ≡ ks
same_entries [] = refl
same_entries (k ∷ ks) = rw (entry_number k, same_entries ks)

-- what was read, in the answer's own numbers
told_got : (s ks : List ℕ) (h : Heading) (ks' : List ℕ) → Within s h ks' → drop h.items ks' ≡ drop (item_count (head_of h ks').sheet) ks
    → told (headed_of h) ks' ≡ told_of s ks (got (head_of h ks') (drop h.at s))
unfolding sheet_of
told_got s ks h ks' w q =
    let n : length (map atc_entry (take h.items ks')) ≡ h.items = length-map (take h.items ks') atc_entry ∙ length-take-le h.items ks' w.lent in
    let a : length s - length (drop h.at s) ≡ h.at = omega (arith, w.place, length-drop h.at s) in
    let k : map entry_of (map atc_entry (take h.items ks')) ++ drop (length (map atc_entry (take h.items ks'))) ks ≡ ks'
    = ap (λ (l : List ℕ). l ++ drop (length (map atc_entry (take h.items ks'))) ks) (same_entries (take h.items ks'))
    ∙ ap (λ (l : List ℕ). take h.items ks' ++ l) (sym q)
    ∙ take-append-drop h.items ks' in
    rw (k, a, n)

told_held : (s ks : List ℕ) (h : Heading) (ks' : List ℕ) → Within s h ks' → (a : Answer Head) → held (head_of h ks') (drop h.at s) (drop h.items ks') ≡ into ks a → told (headed_of h) ks' ≡ told_of s ks a
told_held s ks h ks' w (got d r) p =
    let e : head_of h ks' ≡ d = cc in
    let f : drop h.at s ≡ r = cc in
    let g : drop h.items ks' ≡ drop (item_count d.sheet) ks = cc in
    told_got s ks h ks' w (g ∙ ap (λ (x : Head). drop (item_count x.sheet) ks) (sym e)) ∙ ap₂ (λ (x : Head) (t : List ℕ). told_of s ks (got x t)) e f
told_held s ks h ks' w (refused e) p = let c : ◌≡◌ {A = ℕ} 0 1 = cc in absurd (omega arith)

told_nothing : (s ks : List ℕ) (n : ℕ) (ks' : List ℕ) → (a : Answer Head) → nothing n ks' ≡ into ks a → told (no_head n) ks' ≡ told_of s ks a
told_nothing s ks n ks' (got d r) p = let c : ◌≡◌ {A = ℕ} 0 1 = cc in absurd (omega arith)
told_nothing s ks n ks' (refused e) p =
    let f : n ≡ e = cc in
    let g : ks' ≡ replicate most_items 0 = cc in
    ap₂ (λ (x : ℕ) (l : List ℕ). told (no_head x) l) f g

module _ (s ks : List ℕ) (ks' : List ℕ) (l : length s ≤ input_limit) where
  pub told_read : (h : Heading) → outcome s (Ok h) ks' ≡ read_into s ks → Within s h ks' → told (headed_of h) ks' ≡ head_told s ks
  unfolding head_told stage_head outcome read_into
  told_read h p w = rw (le-leb (length s) input_limit l) (told_held s ks h ks' w (read_head s) p)

  pub told_refused : (e : Refusal) → outcome s (Err e) ks' ≡ read_into s ks → told (no_head (refusal_number e)) ks' ≡ head_told s ks
  unfolding head_told stage_head outcome read_into
  told_refused e p = rw (le-leb (length s) input_limit l) (told_nothing s ks (refusal_number e) ks' (read_head s) p)

-- ---- what the writer answers, as C has it

-- refused, the length is 0
length_refused : (n : ℕ) (b : List ℕ) → (n ≡ 0 → ⊥) → 0 ≡ length_of n b
length_refused zero b e = absurd (e refl)
length_refused (suc n) b e = refl

pub written_refused : (d : Head) (xs ys : List ℕ) (e : Refusal) → wrote (refusal_number e) ys ≡ write_head d xs → 0 ≡ head_length d xs
unfolding head_length
written_refused d xs ys e p = length_refused _ _ (λ z. refuses e (ap (λ (w : Wrote). w.answer) p ∙ z))
