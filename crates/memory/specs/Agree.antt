-- The judgement of a record and that of its script, where the kept counts are others than what the blocks hold. Assumes nothing.
use Rattle.std.specs.Prelude.{◌≡◌, Bool, true, false, cond, List, ℕ, ◌≤◌, T}
use Rattle.std.proofs.Math.Path.{refl}
use Rattle.std.proofs.Common.{sym, ◌∙◌, subst, arith}
use Rattle.std.proofs.Math.Bool.{and-false}
use Rattle.model.specs.Refusal.{over_limit}
use Rattle.model.specs.Reading.{got, refused}
use Rattle.model.specs.Script.{Block, sum_of, block_commands, block_nodes}
use Rattle.model.specs.Image.{image, read_within}
use Rattle.model.specs.Judge.{counts_ok, judged}
use Rattle.model.specs.Memory.{Memory, script_of}
use Rattle.model.specs.Record.{held_kept, kept_ok, judged_record}
use Rattle.model.proofs.Laws.Judged.{accepted_held, counts_low}
use Rattle.model.proofs.Laws.Over.{over_script}
use Rattle.memory.specs.Sound.{Sound}
use Rattle.memory.specs.RecordLaws.{judged_sound}
use Rattle.memory.specs.Kept.{recounted, more_kept, kept_sound, script_same}
use Rattle.memory.specs.Transfer.{sound_judged, accepted_script}

-- a record that holds something past its kept counts
pub past_judged : (m : Memory) → held_kept m ≡ false → judged_record m ≡ refused over_limit
unfolding judged_record kept_ok
past_judged m e = rw (e, and-false)

module _ (m : Memory) (bs : List Block) (r : List ℕ) (p : judged_record m ≡ got bs r) (n c : ℕ) where
  sound : Sound m
  sound = (judged_sound m bs r p).sound

  -- its script, where the blocks hold more than the kept counts
  under_judged : (sum_of block_commands bs ≤ c → sum_of block_nodes bs ≤ n → ⊥) → judged (script_of (recounted m n c)) ≡ refused over_limit
  unfolding judged script_of
  under_judged h = by (counts_ok (script_of (recounted m n c))) refl
    where
      same : (script_of (recounted m n c)).blocks ≡ bs
      same = script_same m n c ∙ (judged_sound m bs r p).blocks_are

      by : (b : Bool) → counts_ok (script_of (recounted m n c)) ≡ b → cond b (read_within c n (image (script_of (recounted m n c)).blocks)) (refused over_limit) ≡ refused over_limit
      by false e = refl
      by true e =
          let k = accepted_held (script_of m) (accepted_script m bs r p) in
          let low = (counts_low (script_of (recounted m n c)) e).commands in
          let kc = k.1.commands in
          let lim = k.0.commands in
          let b = (judged_sound m bs r p).blocks_are in
          rw same (over_script c n bs (omega arith) (rw b at k.1.few) (rw b at k.1.sound) (omega (arith, rw b at kc)) h)

  -- a kept count under what the blocks hold is 3 by both, whether nodes are shared or not
  pub under_refused : (sum_of block_commands bs ≤ c → sum_of block_nodes bs ≤ n → ⊥)
      → (judged_record (recounted m n c) ≡ refused over_limit) × (judged (script_of (recounted m n c)) ≡ refused over_limit)
  under_refused h = (by (held_kept (recounted m n c)) refl, under_judged h)
    where
      by : (b : Bool) → held_kept (recounted m n c) ≡ b → judged_record (recounted m n c) ≡ refused over_limit
      by true e = sound_judged (recounted m n c) (kept_sound m n c sound e) ∙ under_judged h
      by false e = past_judged (recounted m n c) e

  -- where the counts were what the blocks hold, as in a record without shared nodes that was just read or built, both agree whatever counts are kept instead
  pub counts_agree : m.coded.count ≡ sum_of block_commands bs → m.coded.nodes.count ≡ sum_of block_nodes bs → judged_record (recounted m n c) ≡ judged (script_of (recounted m n c))
  counts_agree ec en = by (held_kept (recounted m n c)) refl
    where
      by : (b : Bool) → held_kept (recounted m n c) ≡ b → judged_record (recounted m n c) ≡ judged (script_of (recounted m n c))
      by true e = sound_judged (recounted m n c) (kept_sound m n c sound e)
      by false e =
          past_judged (recounted m n c) e
          ∙ sym (under_judged (λ x y. subst (λ (b : Bool). T (cond b false true)) (sym e ∙ more_kept m n c (omega arith) (omega arith) sound) tt))
