-- A judged record with its marks does what its script with its marks does: calls, compiles, reclaims and lists of them (02, A.2 and A.4). Assumes nothing.
use Rattle.std.specs.Prelude.{◌≡◌, Bool, cond, ℕ, zero, suc, ◌+◌, ◌≤◌, ◌<◌, get_or, take, drop}
use Rattle.std.proofs.Math.Path.{refl, sym, ap}
use Rattle.std.proofs.Common.{ap₂, ◌∙◌, subst, arith, zero-add, length-append, take_at, length-take-le, get_or-take, eqb-true}
use Rattle.std.proofs.Math.Bool.{true, false}
use mathlib.Core.List.{List, [], ◌∷◌, ◌++◌, map-id}
use Rattle.std.proofs.Math.Dec.{eqb}
use Rattle.std.proofs.Math.ListN.{length, replicate, length-replicate}
use Rattle.std.proofs.lemmas.List.Edits.{sets, sets-eq}
use Rattle.std.proofs.Math.Seq.{length-sets}
use Rattle.model.specs.Limits.{block_limit}
use Rattle.model.specs.Refusal.{born_later, check, first_of}
use Rattle.model.specs.Save.{Save}
use Rattle.model.specs.Sheet.{Sheet}
use Rattle.model.specs.Shop.{shop_refusal}
use Rattle.model.specs.Script.{Block, Script, block_at, block_commands, block_nodes, sum_of}
use Rattle.model.specs.Reading.{got, refusal_of}
use Rattle.model.specs.Judge.{call_refusal, counted, script_refusal, shared_refusal}
use Rattle.model.specs.Memory.{Memory, script_of, block_in, blocks_in, put_blocks}
use Rattle.model.specs.Record.{judged_record}
use Rattle.model.specs.RecordCalls.{Born, appended_in, births_after, born_at, call_in, compile_refusal_in, compiled_in, one_compile, parse_in, record_refusal, run_in}
use Rattle.model.specs.Compile.{Call, appended, compile_checks, compile_refusal, disc_limits, fresh_blocks, room_refusal}
use Rattle.model.specs.Run.{run_call}
use Rattle.model.specs.Parse.{parse_call}
use Rattle.model.proofs.Laws.Checks.{setup_inside, shared_passed}
use Rattle.model.proofs.Laws.Compiled.{length_linked}
use Rattle.model.proofs.Laws.Judged.{accepted_held, room_low}
use Rattle.model.proofs.Laws.Lists.{Follows, Followed, along_any, follows_all}
use Rattle.memory.specs.Sound.{Sound, Long, Room}
use Rattle.memory.specs.PutBlocks.{put_sound}
use Rattle.memory.specs.RecordLaws.{block_at_lem, judged_sound}
use Rattle.memory.specs.Transfer.{accepted_record, accepted_script, blocks_counted, compile_transfer}
use Rattle.reclaim_model.specs.Reclaim.{kept_blocks, survivors}
use Rattle.reclaim_model.specs.Changes.{BornScript, birth_at, compile_refusal_born, appended_born, compiled_born, reclaim_refusal, lives, kept_only, reclaimed, Change, compile, reclaim, change_refusal, changed, number_after, changes}
use Rattle.reclaim_model.proofs.Laws.Born.{Borne, accepted_plain, passed_born}
use Rattle.reclaim_model.proofs.Laws.Reached.{reached_long}
use Rattle.reclaim_model.proofs.Laws.Survivors.{length_left, rank_most}
use Rattle.reclaim_model.proofs.Laws.Reclaimed.{length_kept, reclaim_judged}
use Rattle.reclaim_record.specs.Calls.{reclaim_refusal_in, lives_in, emptied, kept_only_in, reclaimed_in, change_refusal_in, changed_in, number_after_in, changes_in}

pub record Stands (k : Born) (m : BornScript) : Type 0 where
  pub judged : judged_record k.memory ≡ got m.script.blocks []
  pub is : script_of k.memory ≡ m.script
  pub long : Long k.memory
  pub births_long : length k.births ≡ block_limit
  -- marks past the blocks mean nothing
  pub births_are : take (length m.script.blocks) k.births ≡ m.births
  pub compiles_are : k.compiles ≡ m.compiles

-- the lengths of the lent arrays
pub record LongBorn (k : Born) : Type 0 where
  pub memory : Long k.memory
  pub births : length k.births ≡ block_limit

-- what a record holds, as trees
abbrev pub born_script : Born → BornScript
born_script k = record { script = script_of k.memory; births = take (length (script_of k.memory).blocks) k.births; compiles = k.compiles }

pub judged_stands : (k : Born) → LongBorn k → (bs : List Block) (r : List ℕ) → judged_record k.memory ≡ got bs r → Stands k (born_script k)
judged_stands k l bs r e =
    let j = judged_sound k.memory bs r e in
    record { judged = e ∙ ap₂ got (sym j.blocks_are) j.all; is = refl; long = l.memory; births_long = l.births; births_are = refl; compiles_are = refl }

-- ---- blocks put into a record with nothing in it

pub record Fresh (t : Memory) (ys : List Block) : Type 0 where
  pub judged : judged_record t ≡ got ys []
  pub is : script_of t ≡ counted ys
  pub long : Long t

-- whatever the arrays hold, what is put is the whole script, and its counts are what it holds
pub fresh_put : (m : Memory) (ys : List Block) → Long m → script_refusal (counted ys) ≡ 0 → Fresh (put_blocks (emptied m) ys) ys
unfolding script_of blocks_in
fresh_put m ys l ok =
    let c = (accepted_held (counted ys) ok).0 in
    let sound : Sound (emptied m) = record { block = λ b q. absurd (omega arith) } in
    let long : Long (emptied m) = record { coded = record { nodes = record { words = l.coded.nodes.words; values = l.coded.nodes.values }; words = l.coded.words }; words = l.words } in
    let room : Room (emptied m) ys = record { blocks = omega (arith, c.blocks); commands = omega (arith, c.commands); nodes = omega (arith, c.nodes) } in
    let p = put_sound (emptied m) ys sound long room in
    let is : script_of (put_blocks (emptied m) ys) ≡ counted ys = parts (put_blocks (emptied m) ys) ys p.blocks_are (p.commands_counted ∙ zero-add (sum_of block_commands ys)) (p.nodes_counted ∙ zero-add (sum_of block_nodes ys)) in
    record {
      judged = accepted_record (put_blocks (emptied m) ys) p.sound (ap script_refusal is ∙ ok) ∙ ap (λ (s : Script). got s.blocks []) is;
      is = is;
      long = p.long;
    }
  where
    parts : (t : Memory) (ys : List Block) → (script_of t).blocks ≡ ys → t.coded.count ≡ sum_of block_commands ys → t.coded.nodes.count ≡ sum_of block_nodes ys → script_of t ≡ counted ys
    parts t ys a b c = λ i. record { blocks = a i; commands = b i; nodes = c i }

-- ---- checks and marks

-- what an accepted compile leaves
abbrev grown_in : Sheet → Born → Call → Born
grown_in h k c = record {
  memory = appended_in h k.memory c;
  births = births_after k (length (fresh_blocks h (script_of k.memory) c));
  compiles = one_compile k.compiles;
}

-- where what is shared refuses, the mark is not asked
birth_asked : (h : Sheet) (j n n' : ℕ) (sc : Script) (c : Call) → (c.setup < length sc.blocks → n ≡ n') → compile_checks h j n sc c ≡ compile_checks h j n' sc c
unfolding compile_checks
birth_asked h j n n' sc c e = by (shared_refusal h j sc c.setup) (λ z. e (setup_inside sc c.setup (shared_passed h j sc c.setup z).2))
  where
    rest : List ℕ
    rest = shop_refusal h c.shop ∷ room_refusal c.loader sc (fresh_blocks h sc c) ∷ []

    by : (a : ℕ) → (a ≡ 0 → n ≡ n') → first_of (a ∷ check (eqb n 0) born_later ∷ rest) ≡ first_of (a ∷ check (eqb n' 0) born_later ∷ rest)
    by zero e = ap (λ (i : ℕ). first_of (check (eqb i 0) born_later ∷ rest)) (e refl)
    by (suc a) e = refl

-- a segment that was stored
take_sets : (l vs : List ℕ) (i n : ℕ) → i + length vs ≤ length l → i + length vs ≡ n → take n (sets l i vs) ≡ take i l ++ vs
take_sets l vs i n h e =
    ap (take n) (sets-eq vs l i h) ∙ take_at (take i l ++ vs) (drop (i + length vs) l) n (length-append (take i l) vs ∙ omega (arith, length-take-le i l (omega arith)))

module _ (k : Born) (m : BornScript) (st : Stands k m) where
  pub accepted : script_refusal m.script ≡ 0
  accepted = ap script_refusal (sym st.is) ∙ accepted_script k.memory m.script.blocks [] st.judged

  pub passes : record_refusal k.memory ≡ script_refusal m.script
  passes = ap refusal_of st.judged ∙ sym accepted

  pub count_same : k.memory.count ≡ length m.script.blocks
  count_same = sym (blocks_counted k.memory) ∙ ap (λ (s : Script). length s.blocks) st.is

  few : length m.script.blocks ≤ block_limit
  few = (accepted_held m.script accepted).0.blocks

  pub borne : Borne m
  borne = ap length (sym st.births_are) ∙ length-take-le (length m.script.blocks) k.births (omega (arith, few, st.births_long))

  pub birth_same : (b : ℕ) → b < length m.script.blocks → born_at k b ≡ birth_at m b
  birth_same b l = sym (get_or-take (length m.script.blocks) k.births b 0 l) ∙ ap (λ (ns : List ℕ). get_or ns b 0) st.births_are

  pub block_same : (b : ℕ) → b < k.memory.count → block_in k.memory b ≡ block_at m.script.blocks b
  block_same b l = sym (block_at_lem k.memory b l) ∙ ap (λ (s : Script). block_at s.blocks b) st.is

  module _ (h : Sheet) where
    pub call_same : (b : ℕ) → call_in h k.memory b ≡ call_refusal h m.script b
    unfolding call_in
    call_same b = rw (passes, st.is)

    pub run_same : (b : ℕ) (s : Save) (budget : ℕ) → run_in h k.memory b s budget ≡ run_call h m.script b s budget
    unfolding run_in
    run_same b s budget = rw (passes, st.is)

    pub parse_same : (b : ℕ) → parse_in h k.memory b ≡ parse_call h m.script b
    unfolding parse_in
    parse_same b = rw (passes, st.is)

    -- ---- compiles

    pub refusal_same : (c : Call) → compile_refusal_in h k c ≡ compile_refusal_born h m c
    unfolding compile_refusal_in compile_refusal_born
    refusal_same c = rw (passes, st.is) (birth_asked h (script_refusal m.script) (born_at k c.setup) (birth_at m c.setup) m.script c (birth_same c.setup))

    appended_stands : (c : Call) → compile_refusal_born h m c ≡ 0 → Stands (grown_in h k c) (appended_born h m c)
    unfolding appended_born
    appended_stands c z =
        let ok : compile_refusal h (script_of k.memory) c ≡ 0 = rw st.is (accepted_plain h m c z) in
        let t = compile_transfer h k.memory c m.script.blocks [] st.judged st.long ok _ refl in
        let room = room_low disc_limits m.script (fresh_blocks h m.script c) (passed_born h m c z).room in
        let o = one_compile m.compiles in
        let n = length (fresh_blocks h m.script c) in
        record {
          judged = t.3 ∙ ap (λ (s : Script). got (appended h s c).blocks []) st.is;
          is = t.2 ∙ ap (λ (s : Script). appended h s c) st.is;
          long = t.1;
          births_long = length-sets k.births k.memory.count (replicate (length (fresh_blocks h (script_of k.memory) c)) (one_compile k.compiles)) ∙ st.births_long;
          births_are = rw (st.is, st.compiles_are, count_same)
              (take_sets k.births (replicate n o) (length m.script.blocks) (length (appended h m.script c).blocks)
              (omega (arith, length-replicate n o, room.blocks, st.births_long)) (omega (arith, length-replicate n o, length_linked h m.script c))
              ∙ ap (λ (ns : List ℕ). ns ++ replicate n o) st.births_are);
          compiles_are = ap one_compile st.compiles_are;
        }

    compiled_stands : (c : Call) → Stands (compiled_in h k c) (compiled_born h m c)
    unfolding compiled_in compiled_born
    compiled_stands c = rw (refusal_same c) (by (eqb (compile_refusal_born h m c) 0) refl)
      where
        by : (b : Bool) → eqb (compile_refusal_born h m c) 0 ≡ b → Stands (cond b (grown_in h k c) k) (cond b (appended_born h m c) m)
        by true e = appended_stands c (eqb-true _ _ e)
        by false e = st

  -- ---- reclaims

  reclaim_refusal_lem : (rs : List ℕ) → reclaim_refusal_in k rs ≡ reclaim_refusal m rs
  unfolding reclaim_refusal_in reclaim_refusal
  reclaim_refusal_lem rs = rw (passes, count_same)

  lives_same : (rs : List ℕ) → lives_in k rs ≡ lives m rs
  lives_same rs = rw st.is

  kept_stands : (rs : List ℕ) → Stands (kept_only_in (lives m rs) k) (kept_only (lives m rs) m)
  unfolding kept_only_in kept_only
  kept_stands rs =
      let ms = lives m rs in
      let ys = kept_blocks ms m.script.blocks in
      let p = fresh_put k.memory ys st.long (unfold kept_only in reclaim_judged m rs accepted) in
      let len : length ys ≡ _ = unfold kept_only in length_kept m rs accepted in
      let all-long = reached_long m.script.blocks rs in
      let left = length_left ms m.births (all-long ∙ sym borne) in
      let many = rank_most ms (length ms) in
      rw (st.is, count_same, st.births_are)
      (record {
        judged = p.judged;
        is = p.is;
        long = p.long;
        births_long = length-sets k.births 0 (survivors ms m.births) ∙ st.births_long;
        births_are = take_sets k.births (survivors ms m.births) 0 (length ys) (omega (arith, few, st.births_long)) (omega arith);
        compiles_are = st.compiles_are;
      })

  reclaimed_stands : (rs : List ℕ) → Stands (reclaimed_in k rs) (reclaimed m rs)
  unfolding reclaimed_in reclaimed
  reclaimed_stands rs = rw (reclaim_refusal_lem rs, lives_same rs) (by (eqb (reclaim_refusal m rs) 0))
    where
      by : (b : Bool) → Stands (cond b (kept_only_in (lives m rs) k) k) (cond b (kept_only (lives m rs) m) m)
      by true = kept_stands rs
      by false = st

-- ---- lists

module _ (h : Sheet) where
  change_refusal_lem : (k : Born) (m : BornScript) (x : Change) → Stands k m → change_refusal_in h k x ≡ change_refusal h m x
  unfolding change_refusal_in change_refusal
  change_refusal_lem k m (compile c) st = refusal_same k m st h c
  change_refusal_lem k m (reclaim rs) st = reclaim_refusal_lem k m st rs

  changed_stands : (k : Born) (m : BornScript) (x : Change) → Stands k m → Stands (changed_in h k x) (changed h m x)
  unfolding changed_in changed
  changed_stands k m (compile c) st = compiled_stands k m st h c
  changed_stands k m (reclaim rs) st = reclaimed_stands k m st rs

  number_same : (k : Born) (m : BornScript) (x : Change) (b : ℕ) → Stands k m → number_after_in k x b ≡ number_after m x b
  unfolding number_after_in number_after
  number_same k m (compile c) b st = refl
  number_same k m (reclaim rs) b st = rw (reclaim_refusal_lem k m st rs, lives_same k m st rs)

  pub follows : Follows (changes_in h) (changes h) (λ x. x) (λ k x. Unit {0}) Stands
  follows = record {
    refusal = λ k m x st p. change_refusal_lem k m x st;
    next = λ k m x st p. changed_stands k m x st;
    now = λ k m x b st p. number_same k m x b st;
    names = λ x b. refl;
    given = λ x. refl;
    count = λ k m st. count_same k m st;
  }

  -- a list on the record ends as the list on its script
  pub followed : (k : Born) (m : BornScript) → Stands k m → (xs : List Change) → Followed (changes_in h) (changes h) Stands k m xs xs
  followed k m st xs =
      subst (Followed (changes_in h) (changes h) Stands k m xs) (map-id xs)
      (follows_all (changes_in h) (changes h) (λ x. x) (λ k x. Unit {0}) Stands follows k m st xs (along_any (changes_in h) k xs))
