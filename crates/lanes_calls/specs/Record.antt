-- After any list of compiles and reclaims on a script record, a walk at a block with a last accepted shop: 1 to 64 saves that fit are refused by no check, and at most 142 blocks are read. Assumes nothing.
use Rattle.std.specs.Prelude.{◌≡◌, length}
use Rattle.std.proofs.Math.Path.{refl, ap, subst}
use Rattle.std.proofs.Common.{sym, ◌∙◌, arith}
use Rattle.std.proofs.Math.Bool.{true}
use Rattle.std.proofs.Math.Option.{none, some}
use mathlib.Core.List.{List}
use Prim.Native.Nat.{ℕ, zero, suc, ◌≤◌}
use borrow.Author.Tests.{le-leb}
use Rattle.model.specs.Limits.{most_saves, walk_blocks}
use Rattle.model.specs.Save.{Save}
use Rattle.model.specs.Sheet.{Sheet, all, item_count, save_ok}
use Rattle.model.specs.Shop.{Slot}
use Rattle.model.specs.Script.{Block}
use Rattle.model.specs.Judge.{call_refusal}
use Rattle.model.specs.Reading.{Answer, got, refused}
use Rattle.model.specs.Memory.{Memory, script_of}
use Rattle.model.specs.Record.{judged_record}
use Rattle.model.specs.RecordCalls.{Born}
use Rattle.model.specs.Lists.{after_all, last_at, now_at}
use Rattle.model.proofs.Laws.Checks.{and_right}
use Rattle.model.proofs.Laws.Lists.{Followed, none≢some}
use Rattle.model.proofs.Laws.Refused.{Proper}
use Rattle.memory.specs.RecordLaws.{proper_record}
use Rattle.reclaim_model.specs.Changes.{BornScript, Change, changes}
use Rattle.reclaim_record.specs.Calls.{changes_in}
use Rattle.reclaim_record.proofs.Stands.{LongBorn, Stands, borne, born_script, call_same, followed, judged_stands}
use Rattle.lanes_model.specs.Falls.{falls}
use Rattle.lanes_model.specs.Walk.{Walked, walk_call, walk_checks}
use Rattle.lanes_model.specs.Flat.{lengths_ok, saves_in, saves_ok, walk_in, walk_refusal_in}
use Rattle.lanes_model.proofs.Laws.Falls.{paths_falls}
use Rattle.lanes_model.proofs.Laws.Lists.{walk_few, walk_serves}
use Rattle.lanes_model.proofs.Laws.Walks.{by_lanes, saves_many, walk_call_lem, walk_in_lem, walk_passed, walk_passed_in}
use Rattle.reclaim_record.proofs.Demand.{unmoved}

-- what a walk of k saves at block b of the record m comes to
pub record Served (h : Sheet) (m : Memory) (b : ℕ) : Type 0 where
  -- 1 to 64 saves that fit the sheet are refused by no check, 22 among them
  pub not_refused : (k : ℕ) (f : Save) → saves_ok h k f ≡ true → 1 ≤ k → k ≤ most_saves → walk_refusal_in h m b k f ≡ 0
  -- however many saves and whatever they hold
  pub few : (k : ℕ) (f : Save) → (walk_in h m b k f).read ≤ walk_blocks

-- ---- from a judged record

module _ (h : Sheet) (k : Born) (m : BornScript) (st : Stands k m) (xs : List Change) (b b' : ℕ) (ys : List Slot)
    (now : now_at (changes_in h) k xs b ≡ some b') (last : last_at (changes_in h) k xs b ≡ some ys) where
  abbrev left : Born
  left = after_all (changes_in h) k xs

  abbrev trees : BornScript
  trees = after_all (changes h) m xs

  both : Followed (changes_in h) (changes h) Stands k m xs xs
  both = followed h k m st xs

  now_is : now_at (changes h) m xs b ≡ some b'
  now_is = sym (both.now b) ∙ now

  last_is : last_at (changes h) m xs b ≡ some ys
  last_is = sym (both.last none b) ∙ last

  same_blocks : (script_of (after_all (changes_in h) k xs).memory).blocks ≡ (after_all (changes h) m xs).script.blocks
  same_blocks = ap (λ sc. sc.blocks) both.after.is

  module _ (n : ℕ) (f : Save) where
    abbrev ss : List Save
    ss = saves_in h n f

    many : length (saves_in h n f) ≡ n
    many = saves_many (item_count h) h.atc_count f 0 n

    judged_serves : saves_ok h n f ≡ true → 1 ≤ n → n ≤ most_saves → walk_refusal_in h (after_all (changes_in h) k xs).memory b' n f ≡ 0
    unfolding saves_ok walk_checks
    judged_serves a l u =
        let s = walk_serves h m xs (borne k m st) b b' ys now_is last_is ss (and_right (lengths_ok h n f) (all (save_ok h) ss) a) (omega (arith, many)) (omega (arith, many)) in
        let p = walk_passed (call_refusal h trees.script b') (all (save_ok h) ss) trees.script.blocks b' (length ss) s in
        let c = call_same left trees both.after h b' ∙ p.call in
        let g : falls (script_of left.memory).blocks b' ≡ true = ap (λ (bs : List Block). falls bs b') same_blocks ∙ paths_falls trees.script.blocks b' p.falling in
        rw (c, a, le-leb 1 n l, le-leb n most_saves u, g)

    -- a walk that no check refuses is that of the trees
    same_walk : walk_refusal_in h (after_all (changes_in h) k xs).memory b' n f ≡ 0 → walk_in h (after_all (changes_in h) k xs).memory b' n f ≡ walk_call h (after_all (changes h) m xs).script b' (saves_in h n f)
    same_walk e =
        let p = walk_passed_in h left.memory b' n f e in
        let s = walk_serves h m xs (borne k m st) b b' ys now_is last_is ss p.saves (omega (arith, many, p.some_saves)) (omega (arith, many, p.few_saves)) in
        walk_in_lem h left.memory b' n f e ∙ ap (λ (bs : List Block). by_lanes bs b' ss) same_blocks ∙ sym (walk_call_lem h trees.script b' ss s)

    judged_few : (walk_in h (after_all (changes_in h) k xs).memory b' n f).read ≤ walk_blocks
    unfolding walk_in
    judged_few = by (walk_refusal_in h left.memory b' n f) refl
      where
        by : (r : ℕ) → walk_refusal_in h left.memory b' n f ≡ r → (walk_in h left.memory b' n f).read ≤ walk_blocks
        by zero e = subst (λ (w : Walked). w.read ≤ walk_blocks) (sym (same_walk e)) (walk_few h m xs (borne k m st) b b' ys now_is last_is ss)
        by (suc r) e = rw e (omega arith)

  judged_served : Served h (after_all (changes_in h) k xs).memory b'
  judged_served = record { not_refused = judged_serves; few = judged_few }

-- ---- every record whose arrays have the lengths of the lent ones, whatever they hold; b is a block of the start, b' its number after the list

pub walk_served : (h : Sheet) (k : Born) → LongBorn k → (xs : List Change) (b b' : ℕ) (ys : List Slot) → now_at (changes_in h) k xs b ≡ some b' → last_at (changes_in h) k xs b ≡ some ys
    → Served h (after_all (changes_in h) k xs).memory b'
walk_served h k long xs b b' ys now last = by (judged_record k.memory) refl (proper_record k.memory)
  where
    by : (a : Answer (List Block)) → judged_record k.memory ≡ a → Proper a → Served h (after_all (changes_in h) k xs).memory b'
    by (got bs r) e p = judged_served h k (born_script k) (judged_stands k long bs r e) xs b b' ys now last
    by (refused zero) e p = absurd (omega arith)
    by (refused (suc n)) e p = absurd (none≢some (sym ((unmoved h k n e xs).last b) ∙ last))
