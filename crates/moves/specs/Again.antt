-- A shop read back and compiled again appends the same blocks each time from the second compile on, links shifted (02, A.14), over lk_compile, lk_reclaim and lk_parse by their promises. Assumes nothing.
use Rattle.std.specs.Prelude.{◌≡◌, List, ◌++◌, ℕ, zero, suc, ◌+◌, ◌≤◌, ◌<◌, length, set}
use Rattle.std.proofs.Math.Path.{refl, sym, ap, ap₂}
use Rattle.std.proofs.Common.{◌∙◌, arith, length-set, drop_at}
use Rattle.std.proofs.Math.ListN.{drop}
use Rattle.std.proofs.Math.Option.{some}
use Rattle.std.proofs.lemmas.List.{set-append_left}
use Rattle.model.specs.Sheet.{Sheet}
use Rattle.model.specs.Script.{Block, Script}
use Rattle.model.specs.Judge.{script_refusal}
use Rattle.model.specs.Lists.{Along, after_all, last_at, now_at}
use Rattle.model.specs.Memory.{script_of}
use Rattle.model.specs.Compile.{Call, appended, compile_checks, compile_refusal, fresh_blocks, shop_blocks}
use Rattle.model.specs.Normal.{normal_shop}
use Rattle.model.specs.RecordCalls.{Born, compile_refusal_in, compiled_in, parse_in}
use Rattle.model.specs.Record.{judged_record}
use Rattle.model.proofs.Laws.Refused.{accepts}
use Rattle.memory.specs.RecordLaws.{proper_record}
use Rattle.memory.specs.Transfer.{accepted_script, blocks_counted, compile_transfer}
use Rattle.preview.specs.Accepted.{with_all}
use Rattle.shop_arrays.specs.Arrays.{Arrays, shop_from}
use Rattle.compile.specs.Answer.{call_of, CompiledAs}
use Rattle.parse.specs.Answer.{ParsedInto}
use Rattle.reclaim_record.proofs.Stands.{LongBorn}
use Rattle.reclaim_record.proofs.Compiles.{passed_in}
use Rattle.capi.specs.Answers.{loader_by}
use Rattle.library.specs.Delivered.{left_by, made, shop_of}
use Rattle.library.proofs.Delivered.{delivered, shop_long}
use Rattle.moves_model.specs.Again.{shifted}
use Rattle.moves_model.proofs.Shifted.{shop_shifted}
use Rattle.moves_model.proofs.Settles.{shop_again}
use Rattle.moves.specs.Rounds.{Compiled, ReadBack, Round, Rounds, appended_by, calls_of}

-- ---- what an accepted compile appended

-- the blocks of a script with a setup block redirected, past those that it had
past_set : (bs xs : List Block) (b : ℕ) (y : Block) (n : ℕ) → b < length bs → n ≡ length bs → drop n (set (bs ++ xs) b y) ≡ xs
past_set bs xs b y n l e =
    ap (drop n) (set-append_left bs xs b y l) ∙ drop_at (set bs b y) xs n (length-set bs b y ∙ sym e)

module _ (h : Sheet) (k : Born) (c : Call) (long : LongBorn k) (ok : compile_refusal_in h k c ≡ 0) where
  fresh_past : drop k.memory.count (script_of (compiled_in h k c).memory).blocks ≡ fresh_blocks h (script_of k.memory) c
  unfolding compiled_in appended compile_refusal_in
  fresh_past =
      let m = k.memory in
      let sc = script_of m in
      let p = passed_in h k c ok in
      let a = accepts (judged_record m) (proper_record m) p.judged in
      let s : script_refusal sc ≡ 0 = accepted_script m a.value a.rest a.was in
      let plain : compile_refusal h sc c ≡ 0 = ap₂ (λ (i j : ℕ). compile_checks h i j sc c) (s ∙ sym p.judged) (sym p.born) ∙ ok in
      let t = compile_transfer h m c a.value a.rest a.was long.memory plain _ refl in
      rw ok (ap (λ (s : Script). drop m.count s.blocks) t.2 ∙ past_set sc.blocks (fresh_blocks h sc c) c.setup _ m.count p.inside (sym (blocks_counted m)))

-- ---- the rounds

module _ (h : Sheet) where
  -- what a round's compile appended: the blocks of its shop, from the first free number on
  appended_are : (x : Round) → Compiled h x → appended_by x ≡ shop_blocks h x.start.memory.count (shop_of x.shop)
  unfolding appended_by Along
  appended_are x c =
      let p : CompiledAs h x.start (call_of (loader_by x.loader) x.setup (shop_from x.shop)) x.call.answer.refusal (left_by x.call) = rw c.asked at c.promised.0 in
      let k = x.start in
      let ok = sym p.answer ∙ c.accepted in
      ap (λ (t : Born). drop k.memory.count (script_of t.memory).blocks) p.is
      ∙ fresh_past h k (call_of (loader_by x.loader) x.setup (shop_from x.shop)) c.long ok
      ∙ ap₂ (shop_blocks h) (blocks_counted k.memory) (with_all (shop_of x.shop) (shop_long x.shop))

  -- what is read back is the normal form
  normal_read : (x : Round) (t : Arrays) → Compiled h x → (b : ℕ) → now_at made x.start (calls_of x) x.setup ≡ some b → last_at made x.start (calls_of x) x.setup ≡ some (shop_of x.shop)
      → (n : ℕ) → ParsedInto (parse_in h (after_all made x.start (calls_of x)).memory b) n t → shop_of t ≡ normal_shop h (shop_of x.shop)
  normal_read x t c b now last n parsed = ((delivered h x.start (calls_of x) c.long c.promised).parses x.setup b (shop_of x.shop) now last n t parsed).1

  read_normal : (x : Round) (t : Arrays) → Compiled h x → ReadBack h x t → shop_of t ≡ normal_shop h (shop_of x.shop)
  read_normal x t c r = normal_read x t c r.block r.now r.last r.answer r.parsed

  -- where each shop is the normal form of the one before
  settled_by : (shops : ℕ → Arrays) (last : ℕ) → ((k : ℕ) → k < last → shop_of (shops (suc k)) ≡ normal_shop h (shop_of (shops k))) → (k : ℕ) → k < last → shop_of (shops (suc k)) ≡ normal_shop h (shop_of (shops 0))
  settled_by shops last each zero l = each 0 l
  settled_by shops last each (suc k) l = each (suc k) l ∙ ap (normal_shop h) (settled_by shops last each k (omega arith)) ∙ shop_again h (shop_of (shops 0))

  module _ (round : ℕ → Round) (last : ℕ) (rs : Rounds h round last) where
    -- the shop of every compile from the second on
    settled_shop : (k : ℕ) → k < last → shop_of (round (suc k)).shop ≡ normal_shop h (shop_of (round 0).shop)
    settled_shop =
        settled_by (λ i. (round i).shop) last
        (λ i l. let r = rs.next i l in normal_read (round i) (round (suc i)).shop (rs.compiled i (omega arith)) r.block r.now r.last r.answer r.parsed)

    -- round 0 is the shop's own compile. Of any two later ones, the one on the script with d blocks more appends the same blocks, links shifted by d
    pub appended_again : (j k d : ℕ) → 1 ≤ j → j ≤ last → 1 ≤ k → k ≤ last → (round k).start.memory.count ≡ (round j).start.memory.count + d
        → appended_by (round k) ≡ shifted d (appended_by (round j))
    appended_again zero k d p p' q q' e = absurd (omega arith)
    appended_again (suc j) zero d p p' q q' e = absurd (omega arith)
    appended_again (suc j) (suc k) d p p' q q' e =
        let n = (round (suc j)).start.memory.count in
        let settled =
        settled_by (λ i. (round i).shop) last
        (λ i l. let r = rs.next i l in normal_read (round i) (round (suc i)).shop (rs.compiled i (omega arith)) r.block r.now r.last r.answer r.parsed) in
        appended_are (round (suc k)) (rs.compiled (suc k) q')
        ∙ ap₂ (shop_blocks h) e (settled k q' ∙ sym (settled j p'))
        ∙ shop_shifted h n d (shop_of (round (suc j)).shop)
        ∙ ap (shifted d) (sym (appended_are (round (suc j)) (rs.compiled (suc j) p')))
