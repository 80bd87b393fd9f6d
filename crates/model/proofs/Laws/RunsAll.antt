-- The run half of demand 3: the run from a block that links to a shop. Assumes nothing.
use Rattle.std.specs.Prelude.{◌≡◌, Bool, true, false, cond, List, [], ◌∷◌, ℕ, suc, ◌-◌, ◌*◌, ◌<◌, ◌≤◌, length, ℤ}
use Rattle.std.proofs.Math.Path.{refl}
use Rattle.std.proofs.Common.{arith}
use Rattle.model.specs.Limits.{run_blocks, slot_count}
use Rattle.model.specs.Refusal.{budget_spent}
use Rattle.model.specs.Save.{Save}
use Rattle.model.specs.Sheet.{Sheet}
use Rattle.model.specs.Shop.{Slot}
use Rattle.model.specs.Flags.{flag_answer, shop_inside, slot_inside, until_outside}
use Rattle.model.specs.Script.{Block}
use Rattle.model.specs.Compile.{redirect}
use Rattle.model.specs.Expr.{bitwise, logical}
use Rattle.model.specs.Run.{Ran, done, run, run_by}
use Rattle.model.proofs.Laws.Checks.{and_left, and_right}
use Rattle.model.proofs.Laws.Eval.{bitwise_bits, logical_bits}
use Rattle.model.proofs.Laws.Compiled.{Linked}
use Rattle.model.proofs.Laws.Runs.{Way, run_alike, run_ends, run_short, slots_run}
use Rattle.model.proofs.Laws.SlotRuns.{Fits, Steps, at, onward_by}
use Rattle.model.proofs.Laws.Writes.{writes}

-- what runs with any budget give: so many blocks are entered, and that is enough and needed; answered 23 where a slot with an item has a flag outside the save, else 0
pub record Served (h : Sheet) (s : Save) (xs : List Slot) (v : List ℤ) (runs : ℕ → Ran) : Type 0 where
  pub blocks : ℕ
  pub few : blocks ≤ run_blocks
  pub served : (budget : ℕ) → blocks ≤ budget → runs budget ≡ record { answer = flag_answer xs; variables = writes h s 0 (until_outside xs) v; entered = blocks }
  pub starved : (budget : ℕ) → budget < blocks → (runs budget).answer ≡ budget_spent

-- where no flag is outside the save, the slots before the first such are all
pub until_all : (xs : List Slot) → shop_inside xs ≡ true → until_outside xs ≡ xs
until_all [] p = refl
until_all (x ∷ xs) p = rw (and_left (slot_inside x) _ p, until_all xs (and_right (slot_inside x) _ p))

pub until_short : (xs : List Slot) → length (until_outside xs) ≤ length xs
until_short [] = omega arith
until_short (x ∷ xs) = by (slot_inside x) (until_short xs)
  where
    by : (b : Bool) → length (until_outside xs) ≤ length xs → length (cond b (x ∷ until_outside xs) []) ≤ length (x ∷ xs)
    by true ih = omega arith
    by false ih = omega arith

module _ (h : Sheet) (m : ℕ) (bs : List Block) (b : ℕ) (xs : List Slot) (k : Linked h m bs b xs) (s : Save) (f : Fits s) (v : List ℤ) (p : 0 < length v) where
  back : (w : List ℤ) → Steps bs s k.home w (done w)
  back w = at k.returns (record { eq = λ j l. refl })

  -- the way from the setup block to where the run ends
  way : Way bs s (suc (4 * length xs)) b v (flag_answer xs) (writes h s 0 (until_outside xs) v)
  unfolding redirect
  way =
      let w = slots_run bs h s f k.home back 0 v xs p k.rest in
      record { last = w.last; reach = onward_by (at k.link (record { eq = λ j l. refl })) w.reach; ends = w.ends }

  pub linked_run : length xs ≡ slot_count → Served h s xs v (λ budget. run bs s budget b v)
  linked_run len =
      record {
        blocks = suc way.reach.steps;
        few = omega (arith, way.reach.few);
        served = λ budget q. run_ends bs s bitwise bitwise_bits (flag_answer xs) way.reach.goes way.ends budget q;
        starved = λ budget q. run_short bs s bitwise bitwise_bits way.reach.goes budget (omega arith);
      }

  -- A.5: a compiled shop means what it meant, with any budget
  pub means_as_before : (budget : ℕ) → run_by logical bs s budget b v ≡ run bs s budget b v
  means_as_before budget = run_alike bs s logical bitwise logical_bits bitwise_bits (flag_answer xs) way.reach.goes way.ends budget
