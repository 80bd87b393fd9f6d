-- Demand 3: one theorem about any list of compiles, in the terms of the calls with all their checks. Assumes nothing.
use Rattle.std.specs.Prelude.{◌≡◌, Bool, true, false, ◌≢◌, List, ℕ, ◌<◌, ◌≤◌, length}
use Rattle.std.proofs.Common.{sym, ap, ◌∙◌, subst, arith}
use Rattle.std.proofs.Math.Path.{fun_ext}
use Rattle.std.proofs.Math.Option.{none, some}
use Rattle.std.proofs.Math.Decide.{dec_le}
use Rattle.model.specs.Limits.{run_blocks, slot_count, variable_count}
use Rattle.model.specs.Refusal.{accepted, budget_spent, check, no_flag}
use Rattle.model.specs.Save.{Save}
use Rattle.model.specs.Expr.{Joins, bitwise, logical}
use Rattle.model.specs.Sheet.{Sheet, save_refusal}
use Rattle.model.specs.Shop.{Slot}
use Rattle.model.specs.Flags.{flag_answer, shop_inside, until_outside}
use Rattle.model.specs.Script.{Script, block_at}
use Rattle.model.specs.Compile.{Call}
use Rattle.model.specs.Run.{Ran, run_by, run_call, run_call_by, run_checked_by}
use Rattle.model.specs.Meaning.{Means}
use Rattle.model.specs.Parse.{parse_call, parse_checked}
use Rattle.model.specs.Normal.{normal_shop}
use Rattle.model.specs.Lists.{NoneAppended, after_all, compiles, last_at}
use Rattle.model.specs.Printer.{slots}
use Rattle.model.proofs.Laws.Calls.{ShopAt, accepted_all, call_passes, kept_blocks_lem}
use Rattle.model.proofs.Laws.Checked.{save_fits, save_long, sheet_fits}
use Rattle.model.proofs.Laws.Means.{writes_means}
use Rattle.model.proofs.Laws.ReadsAll.{linked_normal}
use Rattle.model.proofs.Laws.RunsAll.{Served, linked_run, means_as_before, until_all, until_short}
use Rattle.model.proofs.Laws.Writes.{writes}

-- the answers of runs with any budget, each from the save s: n for whoever has budget enough, and then the slots xs are written
pub record RunsAs (h : Sheet) (s : Save) (n : ℕ) (xs : List Slot) (answers : ℕ → Ran) : Type 0 where
  -- with a budget of 82 blocks or more
  pub answered : (budget : ℕ) → run_blocks ≤ budget → (answers budget).answer ≡ n
  -- with any other it is that or 15
  pub else_spent : (budget : ℕ) → (answers budget).answer ≢ n → (answers budget).answer ≡ budget_spent
  -- a run so answered has entered at most 82 blocks
  pub few : (budget : ℕ) → (answers budget).answer ≡ n → (answers budget).entered ≤ run_blocks
  -- its variables hold exactly what the slots mean under the save, every other variable is as in the save
  pub means : (budget : ℕ) → (answers budget).answer ≡ n → Means h s xs s.variables (answers budget).variables
  -- whatever the budget, a run so answered ends the same
  pub same : (budget : ℕ) → (answers budget).answer ≡ n → answers budget ≡ answers run_blocks

pub record Demand3 (h : Sheet) (sc : Script) (cs : List Call) : Type 0 where
  -- A.10: where the flags of the shop's slots with an item lie in 0 to 2,047, the run from any block where it was accepted last reaches Return and leaves what the shop means, under any save that fits the sheet
  pub runs : (b : ℕ) (xs : List Slot) → last_at (compiles h) sc cs b ≡ some xs → shop_inside xs ≡ true → (s : Save) → save_refusal h s ≡ 0
      → RunsAs h s accepted xs (λ budget. run_call h (after_all (compiles h) sc cs) b s budget)
  -- of any shop: the run is answered 23 exactly where a slot with an item has a flag outside, and leaves what the slots before the first such slot mean
  pub ends : (b : ℕ) (xs : List Slot) → last_at (compiles h) sc cs b ≡ some xs → (s : Save) → save_refusal h s ≡ 0
      → RunsAs h s (flag_answer xs) (until_outside xs) (λ budget. run_call h (after_all (compiles h) sc cs) b s budget)
  -- A.5: each of these runs, with any budget, answers as it did when BitAnd and BitOr gave 1 or 0
  pub as_before : (b : ℕ) (xs : List Slot) → last_at (compiles h) sc cs b ≡ some xs → (s : Save) → save_refusal h s ≡ 0 → (budget : ℕ)
      → run_call_by logical h (after_all (compiles h) sc cs) b s budget ≡ run_call h (after_all (compiles h) sc cs) b s budget
  -- the parser reads there exactly that shop in normal form
  pub parses : (b : ℕ) (xs : List Slot) → last_at (compiles h) sc cs b ≡ some xs → parse_call h (after_all (compiles h) sc cs) b ≡ record { answer = 0; slots = normal_shop h xs }
  -- every block of the start where none was accepted is as it was
  pub others : (b : ℕ) → b < length sc.blocks → last_at (compiles h) sc cs b ≡ none → block_at (after_all (compiles h) sc cs).blocks b ≡ block_at sc.blocks b

-- ---- from what is served

-- 23 or 0 is not 15
not_spent : (b : Bool) → check b no_flag ≢ budget_spent
not_spent true e = omega arith
not_spent false e = omega arith

module _ (h : Sheet) (s : Save) (xs : List Slot) (answers : ℕ → Ran) (v : Served h s xs s.variables answers) (twenty_slots : length xs ≡ slot_count) (long : length s.variables ≡ variable_count) where
  abbrev whole : Ran
  whole = record { answer = flag_answer xs; variables = writes h s 0 (until_outside xs) s.variables; entered = v.blocks }

  ends : (budget : ℕ) → (answers budget).answer ≡ flag_answer xs → answers budget ≡ whole
  ends budget a = by (dec_le v.blocks budget)
    where
      by : Dec (v.blocks ≤ budget) → answers budget ≡ whole
      by (yes q) = v.served budget q
      by (no q) = absurd (not_spent (shop_inside xs) (sym a ∙ v.starved budget (omega arith)))

  spent : (budget : ℕ) → (answers budget).answer ≢ flag_answer xs → (answers budget).answer ≡ budget_spent
  spent budget a = by (dec_le v.blocks budget)
    where
      by : Dec (v.blocks ≤ budget) → (answers budget).answer ≡ budget_spent
      by (yes q) = absurd (a (ap (λ r. r.answer) (v.served budget q)))
      by (no q) = v.starved budget (omega arith)

  pub runs_as : RunsAs h s (flag_answer xs) (until_outside xs) answers
  runs_as = record {
    answered = λ budget q. ap (λ r. r.answer) (v.served budget (omega (arith, v.few)));
    else_spent = spent;
    few = λ budget a. rw (ends budget a) v.few;
    means = λ budget a. rw (ends budget a) (writes_means h s (until_outside xs) s.variables (omega (arith, until_short xs)) long);
    same = λ budget a. ends budget a ∙ sym (v.served run_blocks v.few);
  }

-- a shop whose flags lie in the save
pub runs_inside : (h : Sheet) (s : Save) (xs : List Slot) (answers : ℕ → Ran) → shop_inside xs ≡ true → RunsAs h s (flag_answer xs) (until_outside xs) answers → RunsAs h s accepted xs answers
runs_inside h s xs answers p r =
    subst (λ (n : ℕ). RunsAs h s n xs answers) (ap (λ (b : Bool). check b no_flag) p) (subst (λ (ys : List Slot). RunsAs h s (flag_answer xs) ys answers) (until_all xs p) r)

module _ (h : Sheet) (n : ℕ) (sc : Script) (b : ℕ) (xs : List Slot) (a : ShopAt h n sc b xs) where
  -- with the checks passed the call is the run
  run_call_lem : (j : Joins) (s : Save) → save_refusal h s ≡ 0 → (budget : ℕ) → run_call_by j h sc b s budget ≡ run_by j sc.blocks s budget b s.variables
  unfolding run_checked_by
  run_call_lem j s f budget = rw (call_passes h n sc b xs a, f)

  run_at : (s : Save) → save_refusal h s ≡ 0 → RunsAs h s (flag_answer xs) (until_outside xs) (λ budget. run_call h sc b s budget)
  run_at s f =
      let long = save_long h s f in
      let v = linked_run h n sc.blocks b xs a.link s (save_fits h s f) s.variables (omega arith) a.twenty in
      subst (RunsAs h s (flag_answer xs) (until_outside xs)) (fun_ext (λ budget. sym (run_call_lem bitwise s f budget))) (runs_as h s xs _ v a.twenty long)

  before_at : (s : Save) → save_refusal h s ≡ 0 → (budget : ℕ) → run_call_by logical h sc b s budget ≡ run_call h sc b s budget
  before_at s f budget =
      let long = save_long h s f in
      run_call_lem logical s f budget ∙ means_as_before h n sc.blocks b xs a.link s (save_fits h s f) s.variables (omega arith) budget ∙ sym (run_call_lem bitwise s f budget)

  parse_at : parse_call h sc b ≡ record { answer = 0; slots = normal_shop h xs }
  unfolding parse_checked
  parse_at =
      let p = linked_normal h n sc.blocks b xs a.low a.link a.twenty (sheet_fits h a.sheet) a.ok in
      rw (call_passes h n sc b xs a, p.answer, p.slots)

pub demand_3 : (h : Sheet) (sc : Script) (cs : List Call) → NoneAppended (compiles h) (length sc.blocks) sc cs → Demand3 h sc cs
demand_3 h sc cs clean = record {
  runs = λ b xs e p s f. runs_inside h s xs _ p (run_at h (length sc.blocks) (after_all (compiles h) sc cs) b xs (accepted_all h sc cs clean b xs e) s f);
  ends = λ b xs e s f. run_at h (length sc.blocks) (after_all (compiles h) sc cs) b xs (accepted_all h sc cs clean b xs e) s f;
  as_before = λ b xs e s f budget. before_at h (length sc.blocks) (after_all (compiles h) sc cs) b xs (accepted_all h sc cs clean b xs e) s f budget;
  parses = λ b xs e. parse_at h (length sc.blocks) (after_all (compiles h) sc cs) b xs (accepted_all h sc cs clean b xs e);
  others = λ b l e. kept_blocks_lem h sc cs clean b l e;
}
