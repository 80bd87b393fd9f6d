-- What a parse hands out can be printed, so the text that the program slots prints reads back as the slots that were parsed. Assumes nothing.
use Rattle.std.specs.Prelude.{◌≡◌, Bool, List, [], ◌∷◌, ltb, leb, eqb, length, replicate, set, ℤ, pos, negsuc}
use Rattle.std.proofs.Math.Path.{refl}
use Rattle.std.proofs.Common.{ap, sym, ◌∙◌, arith, ltb-true, lt-ltb, eq-eqb}
use Rattle.std.proofs.Math.Bool.{true, false, cond}
use Rattle.std.proofs.Math.Option.{Option, none, some}
use Prim.Native.Nat.{ℕ, zero, suc, ◌<◌}
use Rattle.std.specs.Int.{w16}
use Rattle.model.specs.Limits.{slot_count, depth_limit, wide16, half16, input_limit}
use Rattle.model.specs.Signed.{in_range, is_zero}
use Rattle.model.specs.Expr.{Expr, two, one, imm16, imm32, other, negate}
use Rattle.model.specs.declared.Op1.TheVariants.{Not, Flag, Variable, Item, Atc, Time}
use Rattle.model.specs.Requirement.{Requirement}
use Rattle.model.specs.Sheet.{Sheet, all, item_count, sheet_refusal}
use Rattle.model.specs.Shop.{Slot, empty_slot}
use Rattle.model.specs.Script.{Command, return, goto, set_variable, set_other, if_else, end_if, other_command, Block, placeholder, code, data_block, block_at, Script}
use Rattle.model.specs.Parse.{Place, temp, elsewhere, itemVar, countVar, Scan, State, evaluate_set, few_entries, fill_item, if_first, is_subtract, item_index, limit_in, new_count, new_limit, parse_requirements, place, put_at, Parsed, after_checks, handed_out, parse_block, parse_call, parse_checked, passed_over, parse, refuse, scan, scan_one, scanned, start, slots_after, update_slot, update_slots, value, visited, written}
use Rattle.model.specs.Refusal.{over_limit, parse_not_code, parse_too_many}
use Rattle.model.specs.Reading.{Answer, got, refused}
use Rattle.model.specs.Printer.{Input, read_input}
use Rattle.model.specs.Printer
use Rattle.model.specs.Judge.{counted, script_refusal, setup_refusal, shared_refusal}
use Rattle.model.proofs.Laws.Checked.{all_at}
use Rattle.model.proofs.Laws.Checks.{and_left, and_right, first_passed}
use Rattle.model.proofs.Laws.Judged.{accepted_held}
use Rattle.model.proofs.Laws.Walks.{updates_length}
use Rattle.model.proofs.Laws.Sound.{SoundBlock, SoundBlocks, SoundCommand, SoundCommands}
use Rattle.text_model.specs.Text.{slots, bad, item_printable, no_slot, printable, read_lines, read_natural, read_number, read_slot, read_text, req_printable, slot_printable}
use Rattle.text_model.proofs.Inverse.{bad≢slots, printed_reads, slots_same}
use Rattle.text_model.proofs.Fits.{both, condition_fits, condition_fits_lem, cut_fits, extend_fits, fits_imms, imms_fit, join_fits, negate_imms, number_fits}

-- ---- a block's commands

abbrev command_fits : Command → Bool
command_fits return = true
command_fits (goto b) = true
command_fits (set_variable t e) = imms_fit e
command_fits (set_other e) = true
command_fits (if_else e b) = imms_fit e
command_fits (end_if b) = true
command_fits other_command = true

record ScanFits (k : Scan) : Type 0 where
  items : all (number_fits w16) k.items ≡ true
  counts : all (number_fits w16) k.counts ≡ true
  limit : in_range w16 k.limit ≡ true
  on_next : condition_fits k.on_next ≡ true
  on_else : condition_fits k.on_else ≡ true

limit_in_fits : (a b : Option ℤ) (old : ℤ) → in_range w16 old ≡ true → in_range w16 (limit_in a b old) ≡ true
limit_in_fits (some z) (some k) old f = cut_fits z
limit_in_fits (some z) none old f = f
limit_in_fits none b old f = f

limit_fits : (e : Expr) (old : ℤ) → in_range w16 old ≡ true → in_range w16 (new_limit e old) ≡ true
limit_fits (two o a b) old f = by (is_subtract o)
  where
    by : (s : Bool) → in_range w16 (cond s (limit_in (value a) (item_index b) old) old) ≡ true
    by true = limit_in_fits (value a) (item_index b) old f
    by false = f
limit_fits (one o a) old f = f
limit_fits (imm16 z) old f = f
limit_fits (imm32 z) old f = f
limit_fits other old f = f

first_fits : (o : Option ℤ) (l : ℤ) → in_range w16 l ≡ true → number_fits w16 (if_first o l) ≡ true
first_fits none l f = refl
first_fits (some z) l f = by (is_zero z)
  where
    by : (b : Bool) → number_fits w16 (cond b (some l) none) ≡ true
    by true = f
    by false = refl

written_fits : (e : Expr) (l : ℤ) → imms_fit e ≡ true → in_range w16 l ≡ true → number_fits w16 (written e l) ≡ true
written_fits (imm16 z) l f g = f
written_fits (imm32 z) l f g = cut_fits z
written_fits (one Variable a) l f g = first_fits (value a) l g
written_fits (one Not a) l f g = refl
written_fits (one Flag a) l f g = refl
written_fits (one Item a) l f g = refl
written_fits (one Atc a) l f g = refl
written_fits (one Time a) l f g = refl
written_fits (two o a b) l f g = refl
written_fits other l f g = refl

set_fits : (xs : List (Option ℤ)) (i : ℕ) (z : ℤ) → all (number_fits w16) xs ≡ true → in_range w16 z ≡ true → all (number_fits w16) (set xs i (some z)) ≡ true
set_fits [] i z p q = refl
set_fits (x ∷ xs) zero z p q = both (in_range w16 z) (all (number_fits w16) xs) q (and_right (number_fits w16 x) (all (number_fits w16) xs) p)
set_fits (x ∷ xs) (suc i) z p q =
    both (number_fits w16 x) (all (number_fits w16) (set xs i (some z))) (and_left (number_fits w16 x) (all (number_fits w16) xs) p) (set_fits xs i z (and_right (number_fits w16 x) (all (number_fits w16) xs) p) q)

put_fits : (xs : List (Option ℤ)) (i : ℕ) (o : Option ℤ) → all (number_fits w16) xs ≡ true → number_fits w16 o ≡ true → all (number_fits w16) (put_at xs i o) ≡ true
put_fits xs i none p q = p
put_fits xs i (some z) p q = set_fits xs i z p q

evaluate_fits : (p : Place) (e : Expr) (k : Scan) → imms_fit e ≡ true → ScanFits k → ScanFits (evaluate_set p e k)
evaluate_fits temp e k f s = record { items = s.items; counts = s.counts; limit = limit_fits e k.limit s.limit; on_next = s.on_next; on_else = s.on_else }
evaluate_fits elsewhere e k f s = s
evaluate_fits (itemVar i) e k f s = record { items = put_fits k.items i (written e k.limit) s.items (written_fits e k.limit f s.limit); counts = s.counts; limit = s.limit; on_next = s.on_next; on_else = s.on_else }
evaluate_fits (countVar i) e k f s = record { items = s.items; counts = put_fits k.counts i (written e k.limit) s.counts (written_fits e k.limit f s.limit); limit = s.limit; on_next = s.on_next; on_else = s.on_else }

module _ (c : Option Expr) (g : condition_fits c ≡ true) where
  one_fits : (x : Command) (k : Scan) → command_fits x ≡ true → ScanFits k → ScanFits (scan_one c x k)
  one_fits return k f s = s
  one_fits (goto b) k f s = s
  one_fits (set_variable t e) k f s = evaluate_fits (place (value t)) e k f s
  one_fits (set_other e) k f s = s
  one_fits (if_else e b) k f s = record { items = s.items; counts = s.counts; limit = s.limit; on_next = join_fits c e g f; on_else = join_fits c (negate e) g (negate_imms e ∙ f) }
  one_fits (end_if b) k f s = s
  one_fits other_command k f s = s

  scan_fits : (cs : List Command) (k : Scan) → all command_fits cs ≡ true → ScanFits k → ScanFits (scan c cs k)
  scan_fits [] k f s = s
  scan_fits (x ∷ xs) k f s = scan_fits xs (scan_one c x k) (and_right (command_fits x) (all command_fits xs) f) (one_fits x k (and_left (command_fits x) (all command_fits xs) f) s)

-- ---- the slots

-- all that is asked of a slot that is printed but the number of its requirements
record SlotFits (x : Slot) : Type 0 where
  item : item_printable x.item ≡ true
  limit : in_range w16 x.limit ≡ true
  requirements : all req_printable x.requirements ≡ true

abbrev SlotsFit : List Slot → Type 0
SlotsFit [] = Unit {0}
SlotsFit (x ∷ xs) = SlotFits x × SlotsFit xs

fill_fits : (o : Option ℕ) (k : ℕ) (b : Bool) → item_printable o ≡ true → in_range w16 (pos k) ≡ true → item_printable (fill_item o k b) ≡ true
fill_fits (some w) k b f g = f
fill_fits none k true f g = let l = ltb-true k half16 g in lt-ltb k wide16 (omega arith)
fill_fits none k false f g = refl

count_fits : (z old : ℤ) → in_range w16 z ≡ true → in_range w16 old ≡ true → in_range w16 (new_count z old) ≡ true
count_fits (negsuc n) old f g = g
count_fits (pos n) old f g = by (eqb n 0)
  where
    by : (b : Bool) → in_range w16 (cond b old (pos n)) ≡ true
    by true = g
    by false = f

module _ (h : Sheet) (rs : List Requirement) (r : all req_printable rs ≡ true) where
  update_fits : (o c : Option ℤ) (x : Slot) → number_fits w16 o ≡ true → number_fits w16 c ≡ true → SlotFits x → SlotFits (update_slot h rs o c x)
  update_fits o none x f g s = s
  update_fits none (some z) x f g s = record { item = s.item; limit = s.limit; requirements = extend_fits x.requirements rs s.requirements r }
  update_fits (some (negsuc k)) (some z) x f g s = record { item = s.item; limit = s.limit; requirements = extend_fits x.requirements rs s.requirements r }
  update_fits (some (pos k)) (some z) x f g s = record { item = fill_fits x.item k (ltb k (item_count h)) s.item f; limit = count_fits z x.limit g s.limit; requirements = s.requirements }

  updates_fit : (ms ns : List (Option ℤ)) (xs : List Slot) → all (number_fits w16) ms ≡ true → all (number_fits w16) ns ≡ true → SlotsFit xs → SlotsFit (update_slots h rs ms ns xs)
  updates_fit [] ns xs f g s = s
  updates_fit (a ∷ ms) [] xs f g s = s
  updates_fit (a ∷ ms) (b ∷ ns) [] f g s = s
  updates_fit (a ∷ ms) (b ∷ ns) (x ∷ xs) f g s = (
    update_fits a b x (and_left (number_fits w16 a) (all (number_fits w16) ms) f) (and_left (number_fits w16 b) (all (number_fits w16) ns) g) s.0,
    updates_fit ms ns xs (and_right (number_fits w16 a) (all (number_fits w16) ms) f) (and_right (number_fits w16 b) (all (number_fits w16) ns) g) s.1,
  )

-- ---- the walk

record StateFits (st : State) : Type 0 where
  slots : SlotsFit st.slots
  long : length st.slots ≡ slot_count
  current : in_range w16 st.current ≡ true
  few : st.answer ≡ 0 → all few_entries st.slots ≡ true

refuse_fits : (n : ℕ) (st : State) → 0 < n → StateFits st → StateFits (refuse n st)
refuse_fits n st l s = record { slots = s.slots; long = s.long; current = s.current; few = λ e. absurd (omega arith) }

blank_fits : (n : ℕ) → all (number_fits w16) (replicate n none) ≡ true
blank_fits zero = refl
blank_fits (suc n) = blank_fits n

module _ (h : Sheet) (c : Option Expr) (g : condition_fits c ≡ true) (cs : List Command) (f : all command_fits cs ≡ true) where
  scanned_fits : (st : State) → StateFits st → ScanFits (scanned c cs st)
  scanned_fits st s = scan_fits c g cs _ f (record { items = blank_fits slot_count; counts = blank_fits slot_count; limit = s.current; on_next = refl; on_else = refl })

  visited_fits : (b : ℕ) (st : State) → StateFits st → StateFits (visited h b c cs st)
  unfolding visited
  visited_fits b st s =
      let k = scanned_fits st s in
      record {
        slots = updates_fit h (parse_requirements h c) (condition_fits_lem h c g) (scanned c cs st).items (scanned c cs st).counts st.slots k.items k.counts s.slots;
        long = updates_length h (parse_requirements h c) (scanned c cs st).items (scanned c cs st).counts st.slots ∙ s.long;
        current = k.limit;
        few = few (all few_entries (slots_after h c cs st));
      }
    where
      few : (t : Bool) → cond t 0 parse_too_many ≡ 0 → t ≡ true
      few true e = refl
      few false e = absurd (omega arith)

abbrev code_fits : Block → Bool
code_fits placeholder = true
code_fits (code cs nx el) = all command_fits cs
code_fits data_block = true

module _ (h : Sheet) (bs : List Block) (w : all code_fits bs ≡ true) where
  block_fits : (f b : ℕ) (c : Option Expr) (st : State) → condition_fits c ≡ true → StateFits st → StateFits (parse_block h bs f b c st)
  unfolding parse_block
  block_fits zero b c st g s = s
  block_fits (suc f) b c st g s = by (λ k d t. block_fits f k d t) (passed_over st b) refl (block_at bs b) refl (all_at code_fits bs placeholder refl w b)
    where
      by : ((k : ℕ) (d : Option Expr) (t : State) → condition_fits d ≡ true → StateFits t → StateFits (parse_block h bs f k d t)) → (p : Bool) → passed_over st b ≡ p
          → (x : Block) → block_at bs b ≡ x → code_fits (block_at bs b) ≡ true → StateFits (parse_block h bs (suc f) b c st)
      by ih true z x q v = rw (z, parse_block) s
      by ih false z placeholder q v = rw (z, q, parse_block) (refuse_fits parse_not_code st (omega arith) s)
      by ih false z data_block q v = rw (z, q, parse_block) (refuse_fits parse_not_code st (omega arith) s)
      by ih false z (code cs none el) q v = rw (z, q, parse_block) (visited_fits h c g cs (rw q at v) b st s)
      by ih false z (code cs (some k) none) q v =
          let v' : all command_fits cs ≡ true = rw q at v in
          rw (z, q, parse_block) (ih k (scanned c cs st).on_next (visited h b c cs st) (scanned_fits h c g cs v' st s).on_next (visited_fits h c g cs v' b st s))
      by ih false z (code cs (some k) (some j)) q v =
          let v' : all command_fits cs ≡ true = rw q at v in
          let k' = scanned_fits h c g cs v' st s in
          rw (z, q, parse_block)
          (ih j (scanned c cs st).on_else (parse_block h bs f k (scanned c cs st).on_next (visited h b c cs st)) k'.on_else
          (ih k (scanned c cs st).on_next (visited h b c cs st) k'.on_next (visited_fits h c g cs v' b st s)))

  parse_fits : (b : ℕ) → StateFits (parse h bs b)
  unfolding parse
  parse_fits b = block_fits (suc (length bs)) b none (start bs) refl (record { slots = empties slot_count; long = refl; current = refl; few = λ e. refl })
    where
      empties : (n : ℕ) → SlotsFit (replicate n empty_slot)
      empties zero = tt
      empties (suc n) = (record { item = refl; limit = refl; requirements = refl }, empties n)

-- ---- a judged script fits

command_sound : (k : ℕ) (c : Command) → SoundCommand k c → command_fits c ≡ true
unfolding SoundCommand
command_sound k return f = refl
command_sound k (goto b) f = refl
command_sound k (set_variable t e) f = fits_imms depth_limit e f.1
command_sound k (set_other e) f = refl
command_sound k (if_else e b) f = fits_imms depth_limit e f.0
command_sound k (end_if b) f = refl
command_sound k other_command f = refl

commands_sound : (k : ℕ) (cs : List Command) → SoundCommands k cs → all command_fits cs ≡ true
unfolding SoundCommands
commands_sound k [] f = refl
commands_sound k (c ∷ cs) f = both (command_fits c) (all command_fits cs) (command_sound k c f.0) (commands_sound k cs f.1)

block_sound : (k : ℕ) (b : Block) → SoundBlock k b → code_fits b ≡ true
unfolding SoundBlock
block_sound k placeholder f = refl
block_sound k (code cs nx el) f = commands_sound k cs f.0
block_sound k data_block f = refl

blocks_sound : (k : ℕ) (bs : List Block) → SoundBlocks k bs → all code_fits bs ≡ true
unfolding SoundBlocks
blocks_sound k [] f = refl
blocks_sound k (b ∷ bs) f = both (code_fits b) (all code_fits bs) (block_sound k b f.0) (blocks_sound k bs f.1)

-- ---- what is handed out can be printed

all_printable : (xs : List Slot) → SlotsFit xs → all few_entries xs ≡ true → all slot_printable xs ≡ true
all_printable [] s f = refl
all_printable (x ∷ xs) s f =
    rw (s.0.item, s.0.limit, and_left (few_entries x) (all few_entries xs) f, s.0.requirements) (all_printable xs s.1 (and_right (few_entries x) (all few_entries xs) f))

state_printable : (st : State) (xs : List Slot) → StateFits st → st.answer ≡ 0 → st.slots ≡ xs → printable xs ≡ true
state_printable st xs s a e = rw (← e) (both (eqb (length st.slots) slot_count) (all slot_printable st.slots) (eq-eqb (length st.slots) slot_count s.long) (all_printable st.slots s.slots (s.few a)))

-- accepted, with these slots
abbrev pub AsParsed : Parsed → List Slot → Type 0
AsParsed p xs = p ≡ record { answer = 0; slots = xs }

pub parse_printable : (h : Sheet) (sc : Script) (b : ℕ) (xs : List Slot) → AsParsed (parse_call h sc b) xs → printable xs ≡ true
unfolding parse_checked shared_refusal
parse_printable h sc b xs q = checked (shared_refusal h (script_refusal sc) sc b) refl q
  where
    out : (st : State) → StateFits st → (n : ℕ) → st.answer ≡ n → AsParsed (handed_out n st.slots) xs → printable xs ≡ true
    out st s zero a p = state_printable st xs s a (ap (λ (x : Parsed). x.slots) p)
    out st s (suc n) a p = let z : suc n ≡ 0 = ap (λ (x : Parsed). x.answer) p in absurd (omega arith)

    checked : (n : ℕ) → shared_refusal h (script_refusal sc) sc b ≡ n → AsParsed (after_checks n (parse h sc.blocks b)) xs → printable xs ≡ true
    checked zero e p =
        let j = (first_passed (script_refusal sc) (setup_refusal sc b ∷ []) (first_passed (sheet_refusal h) (script_refusal sc ∷ setup_refusal sc b ∷ []) e).1).0 in
        let w = blocks_sound (length sc.blocks) sc.blocks (accepted_held sc j).1.sound in
        out (parse h sc.blocks b) (parse_fits h sc.blocks w b) (parse h sc.blocks b).answer refl p
    checked (suc n) e p = let z : suc n ≡ 0 = ap (λ (x : Parsed). x.answer) p in absurd (omega arith)

-- ---- the program slots

-- on the input s it refuses nothing, and xs are the slots that it parses
pub record Prints (s : List ℕ) (xs : List Slot) : Type 0 where
  pub input : Input
  pub rest : List ℕ
  pub short : leb (length s) input_limit ≡ true
  pub was : read_input s ≡ got input rest
  pub parsed : AsParsed (parse_call input.sheet (counted input.blocks) input.setup) xs

-- its text then reads back as those slots
pub text_reads : (s : List ℕ) (xs : List Slot) → Prints s xs → read_text (Printer.slots s) ≡ slots xs
unfolding Printer.slots Printer.input_text Printer.parsed_text
text_reads s xs k = rw (k.short, k.was, k.parsed) (printed_reads xs (parse_printable k.input.sheet (counted k.input.blocks) k.input.setup xs k.parsed))

-- a refusal's line is no shop's text
refused_bad : (n : ℕ) → read_text (Printer.refused_text n) ≡ bad 1 no_slot
unfolding read_text read_lines read_slot read_number read_natural Printer.refused_text
refused_bad n = refl

refused_none : (n : ℕ) (xs : List Slot) → read_text (Printer.refused_text n) ≡ slots xs → ⊥
refused_none n xs q = bad≢slots (sym (refused_bad n) ∙ q)

-- and where its text reads as slots, it refused nothing and parsed these
pub reads_text : (s : List ℕ) (xs : List Slot) → read_text (Printer.slots s) ≡ slots xs → Prints s xs
unfolding Printer.slots Printer.input_text Printer.parsed_text
reads_text s xs q = short (leb (length s) input_limit) refl q
  where
    parsed : (i : Input) (r : List ℕ) → leb (length s) input_limit ≡ true → read_input s ≡ got i r → (n : ℕ) (ys : List Slot)
        → parse_call i.sheet (counted i.blocks) i.setup ≡ record { answer = n; slots = ys } → read_text (Printer.answer_text n ys) ≡ slots xs → Prints s xs
    parsed i r l e zero ys p g =
        let same : ys ≡ xs = slots_same (sym (printed_reads ys (parse_printable i.sheet (counted i.blocks) i.setup ys p)) ∙ g) in
        record { input = i; rest = r; short = l; was = e; parsed = rw (← same) p }
    parsed i r l e (suc n) ys p g = absurd (refused_none (suc n) xs g)

    read : leb (length s) input_limit ≡ true → (a : Answer Input) → read_input s ≡ a → read_text (Printer.input_text a) ≡ slots xs → Prints s xs
    read l (got i r) e g = parsed i r l e (parse_call i.sheet (counted i.blocks) i.setup).answer (parse_call i.sheet (counted i.blocks) i.setup).slots refl g
    read l (refused n) e g = absurd (refused_none n xs g)

    short : (b : Bool) → leb (length s) input_limit ≡ b → read_text (cond b (Printer.input_text (read_input s)) (Printer.refused_text over_limit)) ≡ slots xs → Prints s xs
    short true l g = read l (read_input s) refl g
    short false l g = absurd (refused_none over_limit xs g)
