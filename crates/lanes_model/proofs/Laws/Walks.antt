-- A walk that no check refuses, by lanes: on trees and on a script record it answers what the walk of the lanes leaves and reads. Assumes nothing.
use Rattle.std.specs.Prelude.{◌≡◌, refl, Bool, true, ◌&&◌, List, [], ◌∷◌, map, ℕ, zero, suc, ◌<◌, ◌≤◌, leb, length}
use Rattle.std.proofs.Common.{sym, ap, ◌∙◌, arith, leb-true}
use Rattle.model.specs.Limits.{block_limit, lane_budget, most_saves}
use Rattle.model.specs.Refusal.{check, bad_save, bad_walk}
use Rattle.model.specs.Save.{Save}
use Rattle.model.specs.Sheet.{Sheet, all, item_count, save_ok}
use Rattle.model.specs.Script.{Block, Script}
use Rattle.model.specs.Judge.{call_refusal, script_refusal}
use Rattle.model.specs.Memory.{Memory, script_of}
use Rattle.model.specs.Record.{judged_record}
use Rattle.model.specs.RecordCalls.{call_in, record_refusal, run_in}
use Rattle.model.specs.Run.{Ran, run, run_call, run_checked_by}
use Rattle.model.proofs.Laws.Checks.{and_left, and_right, first_passed, passed, setup_inside, shared_passed}
use Rattle.model.proofs.Laws.Judged.{accepted_held}
use Rattle.model.proofs.Laws.Refused.{accepts}
use Rattle.memory.specs.RecordLaws.{proper_record}
use Rattle.memory.specs.Transfer.{accepted_script}
use Rattle.lanes_model.specs.Falls.{Falls, Link, falls}
use Rattle.lanes_model.specs.Walk.{Walked, blocks_entered, walk_call, walk_checks, walk_ok, walk_refusal}
use Rattle.lanes_model.specs.Flat.{lengths_ok, saves_in, saves_from, saves_ok, walk_in, walk_refusal_in}
use Rattle.lanes_model.specs.Lanes.{ran_of, walk_all}
use Rattle.lanes_model.proofs.Laws.Falls.{falls_paths}
use Rattle.lanes_model.proofs.Laws.Steps.{link_inside}
use Rattle.lanes_model.proofs.Laws.Runs.{walk_runs}
use Rattle.lanes_model.proofs.Laws.Reads.{read_entered}

-- ---- the checks

pub record Passed (n : ℕ) (fit : Bool) (bs : List Block) (b k : ℕ) : Type 0 where
  pub call : n ≡ 0
  pub fits : fit ≡ true
  pub some_saves : 1 ≤ k
  pub few_saves : k ≤ most_saves
  pub falling : Falls bs b

pub walk_passed : (n : ℕ) (fit : Bool) (bs : List Block) (b k : ℕ) → walk_checks n fit bs b k ≡ 0 → Passed n fit bs b k
unfolding walk_checks
walk_passed n fit bs b k e =
    let c = first_passed n (check fit bad_save ∷ check (walk_ok bs b k) bad_walk ∷ []) e in
    let s = first_passed (check fit bad_save) (check (walk_ok bs b k) bad_walk ∷ []) c.1 in
    let w = passed (walk_ok bs b k) 21 (first_passed (check (walk_ok bs b k) bad_walk) [] s.1).0 in
    let m = and_left (leb 1 k && leb k most_saves) (falls bs b) w in
    record {
      call = c.0;
      fits = passed fit 11 s.0;
      some_saves = leb-true 1 k (and_left (leb 1 k) (leb k most_saves) m);
      few_saves = leb-true k most_saves (and_right (leb 1 k) (leb k most_saves) m);
      falling = falls_paths bs b (and_right (leb 1 k && leb k most_saves) (falls bs b) w);
    }

-- ---- over a judged script

-- what the walk of the lanes leaves, and how many blocks it read
abbrev pub by_lanes : List Block → ℕ → List Save → Walked
by_lanes bs b ss = record { answer = 0; runs = map (λ l. ran_of l.state) (walk_all bs b ss).lanes; read = (walk_all bs b ss).read }

module _ (sc : Script) (b : ℕ) (judged : script_refusal sc ≡ 0) (here : b < length sc.blocks) (f : Falls sc.blocks b) where
  abbrev bs : List Block
  bs = sc.blocks

  pub few : length sc.blocks ≤ block_limit
  few = (accepted_held sc judged).0.blocks

  pub inside : (k : ℕ) → Link sc.blocks b k → k < length sc.blocks
  inside k l = link_inside bs (accepted_held sc judged).1.sound b k l

  pub lanes_run : (ss : List Save) → map (λ l. ran_of l.state) (walk_all sc.blocks b ss).lanes ≡ map (λ s. run sc.blocks s lane_budget b s.variables) ss
  lanes_run ss = walk_runs bs b f inside here 4095 few ss

  pub lanes_read : (ss : List Save) → 1 ≤ length ss → (walk_all sc.blocks b ss).read ≡ blocks_entered sc.blocks b ss
  lanes_read [] l = absurd (omega arith)
  lanes_read (s ∷ ss) l = read_entered bs b f inside here 4095 few s ss

  -- where every save's own run is the run of the blocks, as where its checks pass
  pub walk_lanes : (own : Save → Ran) (fit : Save → Bool) → ((s : Save) → fit s ≡ true → own s ≡ run sc.blocks s lane_budget b s.variables) → (ss : List Save) → all fit ss ≡ true → 1 ≤ length ss
      → record { answer = 0; runs = map own ss; read = blocks_entered sc.blocks b ss } ≡ by_lanes sc.blocks b ss
  walk_lanes own fit e ss a l = λ i. record { answer = 0; runs = (same ss a ∙ sym (lanes_run ss)) i; read = sym (lanes_read ss l) i }
    where
      same : (ss : List Save) → all fit ss ≡ true → map own ss ≡ map (λ s. run bs s lane_budget b s.variables) ss
      same [] a = refl
      same (s ∷ ss) a = rw (e s (and_left (fit s) (all fit ss) a), same ss (and_right (fit s) (all fit ss) a))

-- ---- the call on trees

pub walk_call_lem : (h : Sheet) (sc : Script) (b : ℕ) (ss : List Save) → walk_refusal h sc b ss ≡ 0 → walk_call h sc b ss ≡ by_lanes sc.blocks b ss
unfolding walk_call run_checked_by
walk_call_lem h sc b ss e =
    let p = walk_passed _ _ sc.blocks b (length ss) e in
    let c = shared_passed h (script_refusal sc) sc b p.call in
    rw e (walk_lanes sc b c.1 (setup_inside sc b c.2) p.falling (λ s. run_call h sc b s lane_budget) (save_ok h) (λ s q. own s q p.call) ss p.fits p.some_saves)
  where
    own : (s : Save) → save_ok h s ≡ true → call_refusal h sc b ≡ 0 → run_call h sc b s lane_budget ≡ run sc.blocks s lane_budget b s.variables
    own s q c = rw (c, q)

-- ---- the call on a record

pub saves_many : (n m : ℕ) (f : Save) (j k : ℕ) → length (saves_from n m f j k) ≡ k
saves_many n m f j zero = refl
saves_many n m f j (suc k) = ap suc (saves_many n m f (suc j) k)

pub record PassedIn (h : Sheet) (m : Memory) (b k : ℕ) (f : Save) : Type 0 where
  pub call : call_in h m b ≡ 0
  pub lengths : lengths_ok h k f ≡ true
  pub saves : all (save_ok h) (saves_in h k f) ≡ true
  pub some_saves : 1 ≤ k
  pub few_saves : k ≤ most_saves
  pub falling : Falls (script_of m).blocks b
  pub judged : script_refusal (script_of m) ≡ 0
  pub here : b < length (script_of m).blocks

pub walk_passed_in : (h : Sheet) (m : Memory) (b k : ℕ) (f : Save) → walk_refusal_in h m b k f ≡ 0 → PassedIn h m b k f
unfolding saves_ok call_in
walk_passed_in h m b k f e =
    let p = walk_passed _ _ (script_of m).blocks b k e in
    let c = shared_passed h (record_refusal m) (script_of m) b p.call in
    let a = accepts (judged_record m) (proper_record m) c.1 in
    record {
      call = p.call;
      lengths = and_left (lengths_ok h k f) (all (save_ok h) (saves_in h k f)) p.fits;
      saves = and_right (lengths_ok h k f) (all (save_ok h) (saves_in h k f)) p.fits;
      some_saves = p.some_saves;
      few_saves = p.few_saves;
      falling = p.falling;
      judged = accepted_script m a.value a.rest a.was;
      here = setup_inside (script_of m) b c.2;
    }

pub walk_in_lem : (h : Sheet) (m : Memory) (b k : ℕ) (f : Save) → walk_refusal_in h m b k f ≡ 0 → walk_in h m b k f ≡ by_lanes (script_of m).blocks b (saves_in h k f)
unfolding walk_in run_in run_checked_by call_in
walk_in_lem h m b k f e =
    let p = walk_passed_in h m b k f e in
    let n = saves_many (item_count h) h.atc_count f 0 k in
    let l = p.some_saves in
    rw e (walk_lanes (script_of m) b p.judged p.here p.falling (λ s. run_in h m b s lane_budget) (save_ok h) (λ s q. own s q p.call) (saves_in h k f) p.saves (omega arith))
  where
    own : (s : Save) → save_ok h s ≡ true → call_in h m b ≡ 0 → run_in h m b s lane_budget ≡ run (script_of m).blocks s lane_budget b s.variables
    own s q c = rw (c, q)
