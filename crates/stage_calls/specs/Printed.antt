-- A stage's file read by lk_read_heading and lk_read and parsed by lk_parse answers what the program slots prints for it (01, Image and printer). Each call comes in by its own promise. Assumes nothing.
use Rattle.std.specs.Prelude.{◌≡◌, refl, Bool, true, false, cond, List, ℕ, zero, suc, leb, length, drop, Ok}
use Rattle.std.proofs.Common.{sym, ap, ◌∙◌, arith, leb-true, leb-false}
use Rattle.model.specs.Limits.{input_limit}
use Rattle.model.specs.Refusal.{over_limit}
use Rattle.model.specs.Reading.{Answer, got, refused}
use Rattle.model.specs.Script.{Block}
use Rattle.model.specs.Image.{read_image}
use Rattle.model.specs.Memory.{Memory}
use Rattle.model.specs.RecordCalls.{parse_in}
use Rattle.model.specs.Printer.{refused_text, answer_text, parsed_text, slots}
use Rattle.memory.specs.Sound.{Long}
use Rattle.shop.specs.Shapes.{slots_of}
use Rattle.shop_arrays.specs.Arrays.{Arrays, shop_from}
use Rattle.image_read.specs.Outcome.{outcome, read_into}
use Rattle.model.specs.Parse.{Parsed}
use Rattle.parse.specs.Answer.{ParsedInto, answer_of}
use Rattle.slots_sheet.specs.Outcome.{Head, read_head}
use Rattle.slots_print.specs.Input.{read_stands, slots_long, slots_head_no, slots_image_no, slots_parsed}
use Rattle.slots_print.specs.Text.{text_lines}
use Rattle.capi.specs.declared.Kept.{Kept}
use Rattle.capi.specs.Answers.{counts_in, outcome_by, read_as}
use Rattle.capi_stage.specs.declared.Headed.{Headed}
use Rattle.capi_stage.specs.Answers.{Told, told, told_of, stage_head, head_told}
use Rattle.capi_stage.specs.Calls.{HeadReadBy, head_in, Handed, handed}
use Rattle.library.specs.Files.{Lent, kept, empty, ReadBy}

-- ---- a heading that is refused

told_refused : (s ks : List ℕ) (r : Headed) (ks' : List ℕ) (a : Answer Head) → (r.refusal ≡ 0 → ⊥) → told r ks' ≡ told_of s ks a → a ≡ refused r.refusal
told_refused s ks r ks' (got d t) n p = absurd (n (ap (λ (x : Told). x.answer.refusal) p))
told_refused s ks r ks' (refused e) n p = ap refused (sym (ap (λ (x : Told). x.answer.refusal) p))

refused_is : (n : ℕ) → ◌≡◌ {A = Answer Head} (refused over_limit) (refused n) → over_limit ≡ n
refused_is n p = cc

pub head_refused : (s ks : List ℕ) (r : Headed) (ks' : List ℕ) → HeadReadBy s ks r ks' → (r.refusal ≡ 0 → ⊥) → slots s ≡ refused_text r.refusal
unfolding head_told stage_head
head_refused s ks r ks' p n = by (leb (length s) input_limit) refl (told_refused s ks r ks' (stage_head s) n p)
  where
    by : (t : Bool) → leb (length s) input_limit ≡ t → cond t (read_head s) (refused over_limit) ≡ refused r.refusal → slots s ≡ refused_text r.refusal
    by true e q = slots_head_no s (leb-true (length s) input_limit e) r.refusal q
    by false e q = slots_long s (leb-false (length s) input_limit e) ∙ ap refused_text (refused_is r.refusal q)

-- ---- an image that is refused

image_no : (n : ℕ) (m e : Memory) (x : Answer (List Block)) → (n ≡ 0 → ⊥) → outcome_by n m ≡ read_into e x → x ≡ refused n
unfolding read_into
image_no zero m e x d p = absurd (d refl)
image_no (suc n) m e (got bs t) d p = let z : ◌≡◌ {A = ℕ} 0 1 = cc in absurd (omega arith)
image_no (suc n) m e (refused k) d p = let q : suc n ≡ k = cc in ap refused (sym q)

-- ---- a parse that is refused

parse_no : (n : ℕ) (p : Parsed) → suc n ≡ p.answer → refused_text (suc n) ≡ parsed_text p
unfolding parsed_text
parse_no n p e = rw (← e)

-- ---- what is printed

-- long: the lengths of the four arrays, which the types of lk_read say
module _ (s ks : List ℕ) (r : Headed) (ks' : List ℕ) (head : HeadReadBy s ks r ks') (fine : r.refusal ≡ 0) (a : Lent) (long : Long (empty a)) (k : Kept) (b : Lent) (image : ReadBy (drop r.at s) a k b) where
  given : Handed s r ks'
  given = handed s ks r ks' head fine

  pub image_refused : (k.refusal ≡ 0 → ⊥) → slots s ≡ refused_text k.refusal
  unfolding read_as
  image_refused d =
      slots_image_no s given.short (head_in r ks') (drop r.at s) given.read k.refusal (image_no k.refusal (kept b k) (empty a) (read_image (drop r.at s)) d image.0)

  -- ---- both read

  module _ (read : k.refusal ≡ 0) where
    -- what the text is, by what was read
    parsed_by : outcome (Ok (counts_in k)) b.ws b.val b.cw b.bw ≡ read_into (empty a) (read_image (drop r.at s)) → slots s ≡ parsed_text (parse_in (head_in r ks').sheet (kept b k) r.setup)
    parsed_by as_read =
        let z = read_stands a.ws a.val a.cw a.bw long b.ws b.val b.cw b.bw (drop r.at s) (counts_in k) as_read in
        slots_parsed s given.short (head_in r ks') (drop r.at s) given.read z.blocks z.rest z.read
        ∙ sym (ap parsed_text (z.parses (head_in r ks').sheet r.setup))

    text_by : slots s ≡ parsed_text (parse_in (head_in r ks').sheet (kept b k) r.setup) → (n : ℕ) (x : Arrays) → ParsedInto (parse_in (head_in r ks').sheet (kept b k) r.setup) n x → slots s ≡ answer_text n (slots_of (shop_from x))
    unfolding answer_of
    text_by e zero x p = e ∙ sym (text_lines (shop_from x) (record { refusal = p.refusal; shop = p.stands }))
    text_by e (suc n) x p = e ∙ sym (parse_no n (parse_in (head_in r ks').sheet (kept b k) r.setup) p.refusal)

    as_read : outcome (Ok (counts_in k)) b.ws b.val b.cw b.bw ≡ read_into (empty a) (read_image (drop r.at s))
    unfolding read_as outcome
    as_read = rw read at image.0

    as_parsed : slots s ≡ parsed_text (parse_in (head_in r ks').sheet (kept b k) r.setup)
    unfolding read_as outcome
    as_parsed = parsed_by (rw read at image.0)

    -- n and x are what lk_parse answered and left in the arrays of a shop
    pub printed : (n : ℕ) (x : Arrays) → ParsedInto (parse_in (head_in r ks').sheet (kept b k) r.setup) n x → slots s ≡ answer_text n (slots_of (shop_from x))
    unfolding read_as outcome
    printed = text_by (parsed_by (rw read at image.0))
