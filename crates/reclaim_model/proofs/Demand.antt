-- Demand 3 for lists that mix compiles and reclaims, in the terms of the calls with all their checks (02, A.4). Assumes nothing.
use Rattle.std.specs.Prelude.{◌≡◌, true, ◌≢◌, List, [], ◌∷◌, ℕ, ◌<◌, ℤ}
use Rattle.std.proofs.Common.{sym, ◌∙◌, arith}
use Rattle.std.proofs.Math.Path.{ap, fun_ext, subst}
use Rattle.std.proofs.Math.Option.{none, some}
use Rattle.std.proofs.Math.ListN.{length}
use borrow.Author.Tests.{lt-ltb}
use Rattle.model.specs.Refusal.{accepted, born_later, first_of}
use Rattle.model.specs.Save.{Save}
use Rattle.model.specs.Sheet.{Sheet, save_refusal}
use Rattle.model.specs.Shop.{Slot}
use Rattle.model.specs.Flags.{flag_answer, shop_inside, until_outside}
use Rattle.model.specs.Script.{Block, block_at, is_code}
use Rattle.model.specs.Judge.{call_refusal, shared_refusal}
use Rattle.model.specs.Compile.{Call, redirect}
use Rattle.model.specs.Run.{run, run_call, run_checked_by}
use Rattle.model.specs.Parse.{parse, parse_call, parse_checked}
use Rattle.model.specs.Normal.{normal, normal_shop}
use Rattle.model.specs.Lists.{after_all, last_at, now_at}
use Rattle.model.proofs.Demand.{RunsAs, runs_as, runs_inside}
use Rattle.model.proofs.Laws.Checked.{save_fits, save_long, sheet_fits}
use Rattle.model.proofs.Laws.ReadsAll.{ReadSo, linked_normal}
use Rattle.model.proofs.Laws.RunsAll.{Served, linked_run}
use Rattle.model.proofs.Laws.SlotRuns.{Fits}
use Rattle.reclaim_model.specs.Rename.{rename_block}
use Rattle.reclaim_model.specs.Changes.{BornScript, birth_at, compile_refusal_born, compiled_born, Change, changes}
use Rattle.reclaim_model.proofs.Laws.Born.{Borne, later_refused}
use Rattle.reclaim_model.proofs.Laws.RenamedRun.{run_renamed}
use Rattle.reclaim_model.proofs.Laws.RenamedParse.{parse_renamed}
use Rattle.reclaim_model.proofs.Laws.Carried.{Carried, Kept}
use Rattle.reclaim_model.proofs.Laws.Mixed.{carried_all_lem, birth_all}
use Rattle.reclaim_model.proofs.Laws.Others.{AsWas, as_was}
use Rattle.reclaim_model.proofs.Laws.Later.{later_of}

-- b is a block of the start, b' its number after the list
pub record Demand3Mixed (h : Sheet) (k : BornScript) (xs : List Change) : Type 0 where
  -- the run from any surviving block where a compile was accepted, under any save that fits the sheet, the flags of the shop's slots with an item lying in the save (A.10)
  pub runs : (b b' : ℕ) (ys : List Slot) → now_at (changes h) k xs b ≡ some b' → last_at (changes h) k xs b ≡ some ys → shop_inside ys ≡ true → (s : Save) → save_refusal h s ≡ 0
      → RunsAs h s accepted ys (λ budget. run_call h (after_all (changes h) k xs).script b' s budget)
  -- of any shop: 23 exactly where one of them lies outside, and then what the slots before the first such slot mean
  pub ends : (b b' : ℕ) (ys : List Slot) → now_at (changes h) k xs b ≡ some b' → last_at (changes h) k xs b ≡ some ys → (s : Save) → save_refusal h s ≡ 0
      → RunsAs h s (flag_answer ys) (until_outside ys) (λ budget. run_call h (after_all (changes h) k xs).script b' s budget)
  -- the parser reads there exactly that shop in normal form
  pub parses : (b b' : ℕ) (ys : List Slot) → now_at (changes h) k xs b ≡ some b' → last_at (changes h) k xs b ≡ some ys
      → parse_call h (after_all (changes h) k xs).script b' ≡ record { answer = 0; slots = normal_shop h ys }
  -- every other surviving block of the start is as it was but for its number and the links, which go where the blocks are now that they named
  pub others : (b b' : ℕ) → b < length k.script.blocks → now_at (changes h) k xs b ≡ some b' → last_at (changes h) k xs b ≡ none
      → AsWas (now_at (changes h) k xs) (block_at k.script.blocks b) (block_at (after_all (changes h) k xs).script.blocks b')
  -- every surviving block of the start, an emptied setup block too, keeps its mark
  pub births : (b b' : ℕ) → b < length k.script.blocks → now_at (changes h) k xs b ≡ some b' → birth_at (after_all (changes h) k xs) b' ≡ birth_at k b
  -- a block that was none of the start bears a mark other than 0, and a compile that names it is answered 17
  pub later : (c : Call) → c.setup < length (after_all (changes h) k xs).script.blocks → ((b : ℕ) → b < length k.script.blocks → now_at (changes h) k xs b ≢ some c.setup)
      → (birth_at (after_all (changes h) k xs) c.setup ≢ 0) × (compile_refusal_born h (after_all (changes h) k xs) c ≡ born_later)
  -- at whatever block bears one, the answer is that of 1 to 7, else 17, and nothing changes
  pub marked : (c : Call) → birth_at (after_all (changes h) k xs) c.setup ≢ 0
      → (compile_refusal_born h (after_all (changes h) k xs) c ≡ first_of (call_refusal h (after_all (changes h) k xs).script c.setup ∷ born_later ∷ []))
      × (compiled_born h (after_all (changes h) k xs) c ≡ after_all (changes h) k xs)

-- ---- a carried shop runs and reads as when it was compiled

module _ (h : Sheet) (k : BornScript) (b : ℕ) (ys : List Slot) (a : Carried h k b ys) where
  abbrev bs : List Block
  bs = k.script.blocks

  -- so that a preview of the shop agrees with its run
  pub carried_run : (s : Save) → Fits s → (v : List ℤ) → 0 < length v → Served h s ys v (λ budget. run k.script.blocks s budget b v)
  carried_run s f v p =
      let r = linked_run h a.first a.old.blocks a.setup ys a.shop.link s f v p a.shop.twenty in
      subst (Served h s ys v) (fun_ext (λ budget. sym (run_renamed (Kept a.keep) a.f s a.old.blocks bs a.renamed budget a.setup v a.here) ∙ ap (λ j. run bs s budget j v) a.now)) r

  carried_parse : ReadSo (normal h) ys (parse h k.script.blocks b)
  carried_parse =
      let r = linked_normal h a.first a.old.blocks a.setup ys a.shop.low a.shop.link a.shop.twenty (sheet_fits h a.shop.sheet) a.shop.ok in
      let e = parse_renamed h (Kept a.keep) a.f a.old.blocks bs a.renamed a.numbered a.setup a.here in
      subst (λ (j : ℕ). ReadSo (normal h) ys (parse h bs j)) a.now (record { answer = e.1 ∙ r.answer; slots = e.0 ∙ r.slots })

  carried_code : is_code (block_at k.script.blocks b) ≡ true
  unfolding rename_block redirect
  carried_code = ap is_code (ap (block_at bs) (sym a.now) ∙ a.renamed.same a.setup a.here ∙ ap (rename_block a.f) a.shop.link.link.eq)

  carried_passes : call_refusal h k.script b ≡ 0
  unfolding shared_refusal
  carried_passes =
      let l : b < length bs = subst (λ (j : ℕ). j < length bs) a.now (a.numbered.inside' a.setup a.here) in
      rw (a.shop.sheet, a.judged, lt-ltb b (length bs) l, carried_code)

  run_call_lem : (s : Save) → save_refusal h s ≡ 0 → (budget : ℕ) → run_call h k.script b s budget ≡ run k.script.blocks s budget b s.variables
  unfolding run_checked_by
  run_call_lem s f budget = rw (carried_passes, f)

  run_at : (s : Save) → save_refusal h s ≡ 0 → RunsAs h s (flag_answer ys) (until_outside ys) (λ budget. run_call h k.script b s budget)
  run_at s f =
      let long = save_long h s f in
      let v = carried_run s (save_fits h s f) s.variables (omega arith) in
      subst (RunsAs h s (flag_answer ys) (until_outside ys)) (fun_ext (λ budget. sym (run_call_lem s f budget))) (runs_as h s ys _ v a.shop.twenty long)

  parse_at : parse_call h k.script b ≡ record { answer = 0; slots = normal_shop h ys }
  unfolding parse_checked
  parse_at = let p = carried_parse in rw (carried_passes, p.answer, p.slots)

-- ---- any list of compiles and reclaims at any numbers, on any script, its marks and count taken as they stand

pub demand_3_mixed : (h : Sheet) (k : BornScript) (xs : List Change) → Borne k → Demand3Mixed h k xs
demand_3_mixed h k xs e = record {
  runs = λ b b' ys n l p s f. runs_inside h s ys _ p (run_at h end b' ys (carried_all_lem h k xs e b b' ys n l) s f);
  ends = λ b b' ys n l s f. run_at h end b' ys (carried_all_lem h k xs e b b' ys n l) s f;
  parses = λ b b' ys n l. parse_at h end b' ys (carried_all_lem h k xs e b b' ys n l);
  others = λ b b' l n q. as_was h xs k b b' l n q;
  births = λ b b' l n. (birth_all h k xs e b b' l n).1;
  later = λ c l d. let p = later_of h k xs e c.setup l d in (p.born, (later_refused h end c p.born).0 ∙ ap (λ (n : ℕ). first_of (n ∷ born_later ∷ [])) p.passes);
  marked = λ c d. later_refused h end c d;
}
  where
    end : BornScript
    end = after_all (changes h) k xs
