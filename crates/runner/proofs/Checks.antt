-- What the checks of a call give: the arrays of an accepted record are ready, and the checks answer in their order. Assumes nothing.
use mathlib.Core.Path.{◌≡◌, refl, sym, ap, ◌∙◌}
use mathlib.Core.Bool.{true, false}
use mathlib.Core.List.{List, [], ◌∷◌}
use Prim.Native.Nat.{ℕ, zero, suc, ◌+◌, ◌*◌, ◌≤◌, ◌<◌}
use native.Mathlib.Omega.{arith}
use lib.ListN.{get_or, length}
use Rattle.model.specs.Limits.{command_limit, node_limit, variable_count}
use Rattle.model.specs.Refusal.{first_of, check}
use Rattle.model.specs.Save.{Save}
use Rattle.model.specs.Sheet.{Sheet, save_ok, save_refusal}
use Rattle.model.specs.Run.{Ran, run, unless_refused}
use Rattle.model.specs.Script.{Block}
use Rattle.model.specs.Reading.{got}
use Rattle.model.specs.Memory.{Coded, Memory, command_word, block_word, script_of}
use Rattle.model.specs.Record.{judged_record}
use Rattle.model.specs.RecordCalls.{call_in, run_in}
use Rattle.model.proofs.Laws.Checked.{save_long}
use Rattle.memory.specs.Sound.{Root, SoundTarget, SoundBy, SoundCommand, SoundKind}
use Rattle.memory.specs.RecordLaws.{judged_sound}
use Rattle.memory.specs.Transfer.{judged_kept}
use Rattle.checks.specs.Passed.{call_passed}
use Rattle.expr.specs.Value.{reads}
use Rattle.runner.specs.Steps.{Readable, Ready}
use Rattle.runner.specs.RunIn.{run_by_call}
use Rattle.runner.proofs.Rest.{run_rest}

-- ---- an accepted record

module _ (co : Coded) (few : co.count ≤ command_limit) (low : co.nodes.count ≤ node_limit) (c : ℕ) where
  root_low : (i : ℕ) → Root co.nodes i → i < node_limit
  root_low i r = let h = r.low in omega arith

  set_sound : (k : ℕ) → k ≡ 2 → SoundBy co c k → SoundTarget co c (command_word co c 3) × Root co.nodes (command_word co c 2)
  unfolding SoundBy
  set_sound k e = rw e (λ z. z)

  if_sound : (k : ℕ) → k ≡ 3 → SoundBy co c k → Root co.nodes (command_word co c 1)
  unfolding SoundBy
  if_sound k e = rw e (λ z. z)

  target_sound : (t : ℕ) → t ≡ 0 → SoundTarget co c t → Root co.nodes (command_word co c 1)
  unfolding SoundTarget
  target_sound t e = rw e (λ z. z)

  readable : SoundCommand co c → Readable co.words c
  readable s =
      let z : 4 * c + 0 ≡ 4 * c = omega arith in
      let code : (k : ℕ) → get_or co.words (4 * c) 0 ≡ k → command_word co c 0 ≡ k = λ k e. ap (λ j. get_or co.words j 0) z ∙ e in
      let l = s.low in
      record {
        low = omega arith;
        target = λ e t. root_low (command_word co c 1) (target_sound (command_word co c 3) t (set_sound (command_word co c 0) (code 2 e) s.by).0);
        value = λ e. root_low (command_word co c 2) (set_sound (command_word co c 0) (code 2 e) s.by).1;
        condition = λ e. root_low (command_word co c 1) (if_sound (command_word co c 0) (code 3 e) s.by);
      }

code_sound : (m : Memory) (b k : ℕ) → k ≡ 1 → SoundKind m b k → (c : ℕ) → block_word m b 1 ≤ c → c < block_word m b 1 + block_word m b 2 → SoundCommand m.coded c
unfolding SoundKind
code_sound m b k e = rw e (λ z. z)

module _ (m : Memory) where
  pub ready : (bs : List Block) (r : List ℕ) → judged_record m ≡ got bs r → Ready m.coded.words m.words m.count
  ready bs r p =
      let k = judged_kept m bs r p in
      let s = (judged_sound m bs r p).sound in
      record {
        few = k.0;
        commands = λ j h e c f t.
            let z : 5 * j + 0 ≡ 5 * j = omega arith in
            readable m.coded k.1 k.2 c (code_sound m j (block_word m j 0) (ap (λ i. get_or m.words i 0) z ∙ e) (s.block j h) c f t);
      }

  pub call_ready : (h : Sheet) (b : ℕ) → call_in h m b ≡ 0 → Ready m.coded.words m.words m.count
  call_ready h b e = let p = call_passed h m b e in ready p.blocks p.rest p.judged

-- ---- the call

pub save_room : (h : Sheet) (s : Save) → save_ok h s ≡ true → length s.variables ≡ variable_count
save_room h s f = save_long h s (ap (λ t. check t 12) f)

module _ (h : Sheet) (m : Memory) (b : ℕ) (s : Save) (k : ℕ) where
  pub run_refused : (n : ℕ) → n ≡ call_in h m b → (n ≡ 0 → ⊥) → ◌≡◌ {A = Ran} (record { answer = n; variables = s.variables; entered = 0 }) (run_in h m b s k)
  run_refused n e d = go n d ∙ sym (run_by_call h m b s k ∙ ap (λ j. unless_refused (first_of (j ∷ save_refusal h s ∷ [])) s.variables (run (script_of m).blocks s k b s.variables)) (sym e))
    where
      go : (n : ℕ) → (n ≡ 0 → ⊥) → ◌≡◌ {A = Ran} (record { answer = n; variables = s.variables; entered = 0 }) (unless_refused (first_of (n ∷ save_refusal h s ∷ [])) s.variables (run (script_of m).blocks s k b s.variables))
      go zero d = absurd (d refl)
      go (suc n) d = refl

  module _ (n : ℕ) (e : n ≡ call_in h m b) (z : n ≡ 0) where
    by_save : run_in h m b s k ≡ unless_refused (first_of (save_refusal h s ∷ [])) s.variables (run (script_of m).blocks s k b s.variables)
    by_save = run_by_call h m b s k ∙ ap (λ j. unless_refused (first_of (j ∷ save_refusal h s ∷ [])) s.variables (run (script_of m).blocks s k b s.variables)) (sym e ∙ z)

    pub run_bad_save : save_ok h s ≡ false → ◌≡◌ {A = Ran} (record { answer = 12; variables = s.variables; entered = 0 }) (run_in h m b s k)
    run_bad_save f = sym (by_save ∙ ap (λ t. unless_refused (first_of (check t 12 ∷ [])) s.variables (run (script_of m).blocks s k b s.variables)) f)

    pub run_checked_lem : (r : Ran) → save_ok h s ≡ true → r ≡ run (script_of m).blocks (reads s.items s.atcs s.flags s.times) k b s.variables → r ≡ run_in h m b s k
    run_checked_lem r f p =
        p ∙ sym (run_rest s (script_of m).blocks k b s.variables)
        ∙ sym (by_save ∙ ap (λ t. unless_refused (first_of (check t 12 ∷ [])) s.variables (run (script_of m).blocks s k b s.variables)) f)
