-- After an accepted reclaim, run and parse from a survivor under its new number answer as before, checks and all. Assumes nothing.
use Rattle.std.specs.Prelude.{◌≡◌, refl, true, List, ℕ, zero, suc, length}
use Rattle.std.proofs.Math.Path.{ap}
use Rattle.std.proofs.Common.{◌∙◌}
use Rattle.std.proofs.Math.Bool.{false}
use Rattle.std.proofs.Math.ListN.{get_or}
use borrow.Author.Tests.{lt-ltb}
use Rattle.model.specs.Save.{Save}
use Rattle.model.specs.Sheet.{Sheet}
use Rattle.model.specs.Script.{Block, placeholder, code, data_block, block_at, is_code}
use Rattle.model.specs.Judge.{call_refusal, shared_refusal}
use Rattle.model.specs.Run.{run_call, run_checked_by}
use Rattle.model.specs.Parse.{State, after_checks, parse, parse_call, parse_checked}
use Rattle.reclaim_model.specs.Rename.{rename_block}
use Rattle.reclaim_model.specs.Reclaim.{rank}
use Rattle.reclaim_model.specs.Changes.{BornScript, lives, kept_only, reclaim_refusal, reclaimed}
use Rattle.reclaim_model.proofs.Laws.RenamedRun.{run_renamed}
use Rattle.reclaim_model.proofs.Laws.RenamedParse.{parse_renamed}
use Rattle.reclaim_model.proofs.Laws.Reclaimed.{reclaim_passed, reclaim_done, reclaim_renamed, reclaim_numbered, reclaim_judged}

code_renamed : (f : ℕ → ℕ) (x : Block) → is_code (rename_block f x) ≡ is_code x
unfolding rename_block
code_renamed f placeholder = refl
code_renamed f (code cs nx el) = refl
code_renamed f data_block = refl

-- a parse hands out the refusal and the slots, not the walk
checks_alike : (n : ℕ) (st st' : State) → st'.slots ≡ st.slots → st'.answer ≡ st.answer → after_checks n st' ≡ after_checks n st
checks_alike zero st st' p q = rw (p, q)
checks_alike (suc n) st st' p q = refl

module _ (h : Sheet) (m : BornScript) (rs : List ℕ) (e : reclaim_refusal m rs ≡ 0) (b : ℕ) (live : get_or (lives m rs) b false ≡ true) where
  pub checks_survive : call_refusal h (kept_only (lives m rs) m).script (rank (lives m rs) b) ≡ call_refusal h m.script b
  unfolding shared_refusal
  checks_survive =
      let j = (reclaim_passed m rs e).judged in
      let u = reclaim_numbered m rs j in
      let ms = lives m rs in
      let c : is_code (block_at (kept_only ms m).script.blocks (rank ms b)) ≡ is_code (block_at m.script.blocks b)
      = ap is_code ((reclaim_renamed m rs j).same b live) ∙ code_renamed (rank ms) (block_at m.script.blocks b) in
      rw (j, reclaim_judged m rs j, lt-ltb b (length m.script.blocks) (u.inside b live), lt-ltb (rank ms b) (length (kept_only ms m).script.blocks) (u.inside' b live), c)

  pub run_survives : (s : Save) (budget : ℕ) → run_call h (reclaimed m rs).script (rank (lives m rs) b) s budget ≡ run_call h m.script b s budget
  unfolding run_checked_by
  run_survives s budget =
      let j = (reclaim_passed m rs e).judged in
      rw (
        reclaim_done m rs e,
        checks_survive,
        run_renamed (λ k. get_or (lives m rs) k false ≡ true) (rank (lives m rs)) s m.script.blocks (kept_only (lives m rs) m).script.blocks (reclaim_renamed m rs j) budget b s.variables live,
      )

  pub parse_survives : parse_call h (reclaimed m rs).script (rank (lives m rs) b) ≡ parse_call h m.script b
  unfolding parse_checked
  parse_survives =
      let j = (reclaim_passed m rs e).judged in
      let a = parse_renamed h (λ k. get_or (lives m rs) k false ≡ true) (rank (lives m rs)) m.script.blocks (kept_only (lives m rs) m).script.blocks (reclaim_renamed m rs j) (reclaim_numbered m rs j) b live in
      rw (reclaim_done m rs e, checks_survive) (checks_alike (call_refusal h m.script b) (parse h m.script.blocks b) (parse h (kept_only (lives m rs) m).script.blocks (rank (lives m rs) b)) a.0 a.1)
