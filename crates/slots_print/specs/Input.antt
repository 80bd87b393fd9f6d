-- The program's answer by what its input was read as: an image in empty arrays parses as its blocks do. Assumes nothing.
use Rattle.std.specs.Prelude.{◌≡◌, refl, List, [], ℕ, ◌≤◌, ◌<◌, length, drop, ℤ, Ok, Err}
use Rattle.std.proofs.Common.{sym, ap, ◌∙◌, subst, le-leb, arith}
use Rattle.std.proofs.lemmas.Bool.{lt-leb}
use Rattle.model.specs.Limits.{command_limit, node_limit, input_limit}
use Rattle.model.specs.Refusal.{over_limit}
use Rattle.model.specs.Reading.{got, refused, onward}
use Rattle.model.specs.Script.{Block}
use Rattle.model.specs.Sheet.{Sheet}
use Rattle.model.specs.Image.{read_image}
use Rattle.model.specs.Judge.{counted, script_refusal, shared_refusal}
use Rattle.model.specs.Memory.{Memory, memory_in, script_of, put_blocks}
use Rattle.model.specs.Record.{judged_record}
use Rattle.model.specs.RecordCalls.{parse_in}
use Rattle.model.specs.Parse.{parse_call, parse_checked}
use Rattle.model.proofs.Laws.Image.{image_fits}
use Rattle.model.proofs.Laws.Sound.{fits_held}
use Rattle.model.proofs.Laws.Judged.{held_accepted}
use Rattle.memory.specs.Sound.{Long}
use Rattle.memory.specs.ReadRecord.{Empty, read_judged, read_blocks_lem}
use Rattle.memory.specs.declared.Counts.{Counts}
use Rattle.image_read.specs.Outcome.{outcome, read_into}
use Rattle.image_read.specs.Caller.{was_accepted, was_refused}
use Rattle.model.specs.Refusals.{refusal_number}
use Rattle.model.specs.declared.Refusal.{Refusal}
use Rattle.model.specs.Printer.{refused_text, parsed_text, input_text, slots}
use Rattle.memory.specs.View.{memory_of}
use Rattle.slots_sheet.specs.declared.Heading.{Heading}
use Rattle.slots_sheet.specs.Outcome.{Head, head_of, read_head}
use Rattle.slots_sheet.specs.Whole.{with_blocks, read_input_lem}

-- the kept counts of what was read are those of its blocks
counted_passes : (s : List ℕ) (bs : List Block) (r : List ℕ) → read_image s ≡ got bs r → script_refusal (counted bs) ≡ 0
counted_passes s bs r p =
    let k = fits_held command_limit node_limit bs (image_fits s bs r p) in
    held_accepted (counted bs)
    (record { blocks = k.few; commands = k.commands; nodes = k.nodes })
    (record { few = k.few; sound = k.sound; commands = omega arith; nodes = omega arith })

-- a judged record with these blocks
same_parse : (m : Memory) (bs : List Block) → judged_record m ≡ got bs [] → (script_of m).blocks ≡ bs → script_refusal (counted bs) ≡ 0 → (h : Sheet) (b : ℕ) → parse_in h m b ≡ parse_call h (counted bs) b
unfolding parse_in parse_checked shared_refusal
same_parse m bs j q k h b = rw (j, q, k)

-- what an image that was read left in the arrays
pub record Stands (s : List ℕ) (m : Memory) : Type 0 where
  pub blocks : List Block
  pub rest : List ℕ
  pub read : read_image s ≡ got blocks rest
  pub judged : judged_record m ≡ got blocks []
  pub parses : (h : Sheet) (b : ℕ) → parse_in h m b ≡ parse_call h (counted blocks) b

put_stands : (m : Memory) → Empty m → Long m → (s : List ℕ) (bs : List Block) (r : List ℕ) → read_image s ≡ got bs r → Stands s (put_blocks m bs)
put_stands m e long s bs r p =
    let j = read_judged m e long s bs r p in
    record {
      blocks = bs;
      rest = r;
      read = p;
      judged = j;
      parses = same_parse (put_blocks m bs) bs j (read_blocks_lem m e long s bs r p) (counted_passes s bs r p);
    }

pub read_stands : (ws : List ℕ) (vs : List ℤ) (cw bw : List ℕ) → Long (memory_in ws vs cw bw 0 0 0) → (ws' : List ℕ) (vs' : List ℤ) (cw' bw' : List ℕ) (s : List ℕ) (k : Counts)
    → outcome (Ok k) ws' vs' cw' bw' ≡ read_into (memory_in ws vs cw bw 0 0 0) (read_image s) → Stands s (memory_of ws' vs' cw' bw' k)
read_stands ws vs cw bw long ws' vs' cw' bw' s k p =
    let a = was_accepted ws vs cw bw ws' vs' cw' bw' (read_image s) k p in
    subst (Stands s) (sym a.after) (put_stands (memory_in ws vs cw bw 0 0 0) (record { blocks = refl; commands = refl; nodes = refl }) long s a.blocks a.rest a.read)

-- ---- the answer of slots

module _ (s : List ℕ) where
  -- longer than the limit is 3 before all else
  pub slots_long : input_limit < length s → slots s ≡ refused_text over_limit
  unfolding slots
  slots_long h = rw (lt-leb (length s) input_limit h)

  module _ (short : length s ≤ input_limit) where
    slots_input : slots s ≡ input_text (onward (read_head s) with_blocks)
    unfolding slots
    slots_input = rw (le-leb (length s) input_limit short) (ap input_text (read_input_lem s))

    pub slots_head_no : (e : ℕ) → read_head s ≡ refused e → slots s ≡ refused_text e
    unfolding input_text
    slots_head_no e p = slots_input ∙ rw p

    module _ (h : Head) (r : List ℕ) (p : read_head s ≡ got h r) where
      pub slots_image_no : (e : ℕ) → read_image r ≡ refused e → slots s ≡ refused_text e
      unfolding input_text
      slots_image_no e q = slots_input ∙ rw (p, q)

      pub slots_parsed : (bs : List Block) (u : List ℕ) → read_image r ≡ got bs u → slots s ≡ parsed_text (parse_call h.sheet (counted bs) h.setup)
      unfolding input_text
      slots_parsed bs u q = slots_input ∙ rw (p, q)

-- ---- .. by what the reader answered

-- an input within the limit whose heading was read; the items' atcs stand in the array
pub record Headed (s : List ℕ) (h : Heading) (ks : List ℕ) : Type 0 where
  pub short : length s ≤ input_limit
  pub lent : h.items ≤ length ks
  pub read : read_head s ≡ got (head_of h ks) (drop h.at s)

module _ (s : List ℕ) (h : Heading) (ks : List ℕ) (d : Headed s h ks) where
  module _ (ws : List ℕ) (vs : List ℤ) (cw bw : List ℕ) (ws' : List ℕ) (vs' : List ℤ) (cw' bw' : List ℕ) where
    pub image_parsed : Long (memory_in ws vs cw bw 0 0 0) → (k : Counts) → outcome (Ok k) ws' vs' cw' bw' ≡ read_into (memory_in ws vs cw bw 0 0 0) (read_image (drop h.at s))
        → parsed_text (parse_in (head_of h ks).sheet (memory_of ws' vs' cw' bw' k) h.setup) ≡ slots s
    image_parsed long k p =
        let z = read_stands ws vs cw bw long ws' vs' cw' bw' (drop h.at s) k p in
        ap parsed_text (z.parses (head_of h ks).sheet h.setup) ∙ sym (slots_parsed s d.short (head_of h ks) (drop h.at s) d.read z.blocks z.rest z.read)

    pub image_no : (e : Refusal) → outcome (Err e) ws' vs' cw' bw' ≡ read_into (memory_in ws vs cw bw 0 0 0) (read_image (drop h.at s)) → refused_text (refusal_number e) ≡ slots s
    image_no e p = sym (slots_image_no s d.short (head_of h ks) (drop h.at s) d.read (refusal_number e) (was_refused ws vs cw bw ws' vs' cw' bw' (read_image (drop h.at s)) e p).0)
