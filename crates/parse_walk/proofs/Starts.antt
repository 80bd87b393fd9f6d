-- Before the first block: the walk of the setup block alone, nothing marked, is the parse from it. Assumes nothing.
use mathlib.Core.Path.{◌≡◌, refl, ap, ap₂, ◌∙◌}
use mathlib.Core.Bool.{Bool, false, false≢true}
use mathlib.Core.Option.{none}
use mathlib.Core.List.{List, [], ◌∷◌, map}
use Prim.Native.Nat.{ℕ, zero, suc, ◌+◌, ◌*◌, ◌≤◌, ◌<◌}
use native.Mathlib.Omega.{arith}
use lib.IntN.{pos}
use lib.ListN.{length, get_or, set, take, replicate, length-set, length-replicate, get_or-replicate}
use lib.Seq.{get_or-set_same, get_or-set_other}
use Rattle.model.specs.Limits.{slot_count, block_limit, node_limit}
use Rattle.model.specs.Script.{block_nodes}
use Rattle.model.specs.Sheet.{Sheet}
use Rattle.model.specs.Shop
use Rattle.model.specs.Shop.{empty_slot}
use Rattle.model.specs.Memory.{Memory, script_of}
use Rattle.model.specs.Parse.{State, start, parse}
use Rattle.memory.specs.Transfer.{blocks_counted}
use Rattle.shop.specs.Shapes.{slot_of, slots_of, no_shop, entries}
use Rattle.shop.specs.declared.Shop as Code
use Rattle.shop.specs.Good.{good_start}
use Rattle.reach.specs.Dfs.{entry}
use Rattle.model.proofs.Laws.Marks.{unmarked, unmarked_replicate}
use Rattle.model.proofs.Laws.Places.{all_one}
use Rattle.reach.specs.Weights.{weight_of, weight_all}
use Rattle.reach.specs.Stacks.{stack_of, AllLow}
use Rattle.expr.specs.Requirement.{Has}
use Rattle.parse_keys.specs.Growth.{tables_start}
use Rattle.parse_keys.specs.declared.Known.{Known}
use Rattle.parse_filter.specs.Chains.{has}
use Rattle.parse_filter.proofs.ChainLaws.{entries_none}
use Rattle.parse_visit.specs.LastIf.{nodes_few}
use Rattle.parse_visit.specs.declared.Walk.{Walk}
use Rattle.parse_visit.specs.State.{Accepted, state_of, Stored, stored_in, Holding}
use Rattle.parse_walk.specs.Steps.{walks, stack_one}
use Rattle.parse_walk.specs.Walks.{under, walks_in, nodes_left, Ready, Turning, Large, start_walk, none_yet, Walked, WalkedIf, Ends}

-- ---- nothing is marked

take_replicate : (n k : ℕ) → n ≤ k → take n (replicate k false) ≡ replicate n false
take_replicate zero k h = refl
take_replicate (suc n) zero h = absurd (omega arith)
take_replicate (suc n) (suc k) h = ap (λ l. false ∷ l) (take_replicate n k (omega arith))

no_slots : slots_of no_shop ≡ replicate slot_count empty_slot
unfolding slots_of slot_of entries
no_slots = refl

state_of_lem : (n k : ℕ) → n ≤ k → state_of n (replicate k false) no_shop start_walk ≡ record { slots = replicate slot_count empty_slot; marks = replicate n false; current = pos 0; answer = 0 }
state_of_lem n k h = same no_slots (take_replicate n k h)
  where
    same : {xs ys : List Shop.Slot} {us vs : List Bool} → xs ≡ ys → us ≡ vs
        → ◌≡◌ {A = State} (record { slots = xs; marks = us; current = pos 0; answer = 0 }) (record { slots = ys; marks = vs; current = pos 0; answer = 0 })
    same p q = rw (p, q)

-- ---- the stack holds the setup block under no condition

module _ (m : Memory) (k : ℕ) (few : m.count ≤ k) (stack : List ℕ) (none-joined : get_or stack 1 0 ≡ 0) (s : Code.Shop) (none_put : s ≡ no_shop) (w : Walk) (new : w ≡ start_walk) where
  ready_start : Accepted m → 2 ≤ length stack → Ready m (replicate k false) stack s w 1
  unfolding stack_of
  ready_start a l = rw (none_put, new) ready
    where
      left : unmarked (take m.count (replicate k false)) ≡ m.count
      left = ap unmarked (take_replicate m.count k few) ∙ unmarked_replicate m.count

      weight : nodes_left m (replicate k false) ≤ node_limit
      weight =
          let e : take m.count (replicate k false) ≡ replicate (length (script_of m).blocks) false = take_replicate m.count k few ∙ rw (blocks_counted m) in
          omega (arith, ap (λ l. weight_of block_nodes l (script_of m).blocks) e ∙ weight_all block_nodes (script_of m).blocks, nodes_few m a.blocks a.rest a.is)

      low : AllLow 0 (stack_of stack 1)
      low = (omega arith, tt)

      ready : Ready m (replicate k false) stack no_shop start_walk 1
      ready = record {
        accepted = a;
        long = ap length (take_replicate m.count k few) ∙ length-replicate m.count false;
        tall = omega arith;
        room = omega (arith, left);
        free = omega (arith, left);
        spent = omega (arith, weight);
        fine = refl;
        good = good_start;
        low = low;
      }

  walks_start : (h : Sheet) (b : ℕ) → get_or stack 0 0 ≡ b → walks_in h m (replicate k false) none_yet stack 1 s w ≡ parse h (script_of m).blocks b
  unfolding stack_of
  walks_start h b e =
      ap₂ (walks h (script_of m).blocks) one (ap₂ (state_of m.count (replicate k false)) none_put new ∙ state_of_lem m.count k few ∙ begins)
      ∙ stack_one h (script_of m).blocks b
    where
      one : map (under none_yet) (stack_of stack 1) ≡ entry b none ∷ []
      one = rw e

      begins : record { slots = replicate slot_count empty_slot; marks = replicate m.count false; current = pos 0; answer = 0 } ≡ start (script_of m).blocks
      begins = rw (blocks_counted m)

  pub turning_start : (known : Known) (b : ℕ) (t : Stored) (marks : List Bool) → marks ≡ replicate k false → Accepted m → 2 ≤ length stack → get_or stack 0 0 ≡ b → Holding known t start_walk none_yet → Turning known m b t marks stack s w 1
  turning_start known b t marks f a l e h = record {
    conditions = none_yet;
    holding = rw new h;
    ready = rw f (ready_start a l);
    parses = λ g i. rw f (walks_start g b e);
  }

-- ---- the tables, all zeros

-- n keys, l entries; s marks, v words alive
abbrev pub zeros : (n a c l s v r : ℕ) → Stored
zeros n a c l s v r = stored_in (replicate n 0) (replicate a 0) (replicate c 0) (replicate l 0) (replicate s false) (replicate v 0) (replicate r 0)

pub start_holds : (known : Known) (n a c l s v r : ℕ) → 0 < n → n ≤ 32767 → 2 * n ≤ a → 2 * n ≤ c → 2 * n ≤ s → l ≤ v → l ≤ 65535
    → Holding known (zeros n a c l s v r) start_walk none_yet
unfolding has
start_holds known n a c l s v r p q ka kc ks kv kl = record {
  tables = tables_start n a c p q ka kc;
  chains = record {
    cell = λ d o u. absurd (omega arith);
    held = omega arith;
    entry = λ i u. absurd (omega arith);
    back = λ e o. absurd (omega (arith, o.low, o.high));
    others = simp length-replicate (omega arith);
    marks = simp length-replicate (omega arith);
  };
  marked = record {
    marks = λ e. all_one false s e ∙ rw (entries_none (replicate c 0) (replicate r 0) (replicate l 0));
    some = λ e o. let z : ◌≡◌ {A = ℕ} 0 1 = cc in absurd (omega arith);
    all = λ e o u. absurd (false≢true (rw (entries_none (replicate c 0) (replicate r 0) (replicate l 0)) at o));
    few = omega arith;
  };
  below = omega arith;
  few = omega arith;
  sized = record { marks = simp length-replicate (omega arith); room = simp length-replicate (omega arith); small = simp length-replicate (omega arith) };
  nothing = refl;
  reads = λ h k d u. let z : d ≡ 0 = omega arith in rw (z, entries_none (replicate c 0) (replicate r 0) (replicate l 0)) tt;
}

-- the stack, all zeros but for the setup block
abbrev pub first_stack : (n b : ℕ) → List ℕ
first_stack n b = set (replicate n 0) 0 b

module _ (n b : ℕ) (l : 2 ≤ n) where
  pub first_block : get_or (first_stack n b) 0 0 ≡ b
  first_block = get_or-set_same (replicate n 0) 0 b 0 (simp length-replicate (omega arith))

  pub first_under : get_or (first_stack n b) 1 0 ≡ 0
  first_under = get_or-set_other (replicate n 0) 0 1 b 0 (λ e. omega arith) ∙ get_or-replicate n 1 0 0 (omega arith)

pub large_start : (m : Memory) → m.count ≤ block_limit → (n a c l s v r d b : ℕ) → 3 * block_limit ≤ r → node_limit + block_limit ≤ 3 * l → l < n → 2 * block_limit + 2 ≤ d
    → Large m (zeros n a c l s v r) (first_stack d b)
large_start m few n a c l s v r d b kr kl kn kd = record {
  rows = simp length-replicate (omega arith);
  words = simp length-replicate (omega arith);
  keys = simp length-replicate (omega arith);
  tall = simp (length-set, length-replicate) (omega arith);
}

-- ---- where the walk ends

module _ {known : Known} {m : Memory} {b : ℕ} {t : Stored} {stack : List ℕ} {s : Code.Shop} {a : ℕ} (e : Ends known m b t stack s a) (setup : ℕ) (is : b ≡ setup) where
  pub walked_from : WalkedIf known m setup s a
  walked_from d h k = rw is at (e.walked d h k)

  pub walked_large : Large m t stack → (h : Sheet) → Has h known.items known.atcs → Walked h m setup s a
  walked_large l h k = walked_from (e.room l) h k
