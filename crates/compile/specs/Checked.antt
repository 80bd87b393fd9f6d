-- What the checks of a compile find, in their order, and what an accepted compile leaves. Assumes nothing.
use Rattle.std.specs.Prelude.{◌≡◌, true, false, eqb, length, replicate}
use Rattle.std.proofs.Math.Path.{refl, sym, ap}
use Rattle.std.proofs.Common.{◌∙◌, arith, eq-eqb, ne_eqb}
use mathlib.Core.List.{List, [], ◌∷◌}
use Prim.Native.Nat.{ℕ, zero, suc, ◌-◌, ◌<◌}
use Rattle.std.proofs.lemmas.List.Edits.{sets}
use Rattle.model.specs.declared.Loader.{Loader}
use Rattle.model.specs.Limits.{slot_count}
use Rattle.model.specs.Refusal.{first_of, check, born_later, bad_shop}
use Rattle.model.specs.Sheet as Model
use Rattle.model.specs.Sheet.{all}
use Rattle.model.specs.Shop.{Slot, slot_ok}
use Rattle.model.specs.Script.{Script, Block}
use Rattle.model.specs.Memory.{Memory, script_of, redirect_in, block_words}
use Rattle.model.specs.Compile.{compile_checks, slots_blocks, shop_blocks, fresh_blocks, disc_limits, has_room, room_refusal, last_of}
use Rattle.model.specs.RecordCalls.{Born, born_at, one_compile, call_in, compile_refusal_in, appended_in, births_after, compiled_in}
use Rattle.model.proofs.Laws.Checks.{first_passed, passed, room_passed}
use Rattle.model.proofs.Laws.Judged.{room_low}
use Rattle.model.proofs.Laws.Compiled.{last_of_is}
use Rattle.memory.specs.Sound.{Room}
use Rattle.memory.specs.Transfer.{blocks_counted}
use Rattle.shop.specs.Shapes.{slots_of}
use Rattle.shop.specs.Sets.{AllExact}
use Rattle.shop.specs.Slots.{shop_exact, with_all}
use Rattle.shop.specs.declared.Shop.{Shop}
use Rattle.compile_emit.specs.Put.{PutBlocks}
use Rattle.checks.specs.Passed.{call_passed}
use Rattle.compile.specs.Answer.{call_of, CompiledAs}

-- the script keeps the record's counts
pub commands_kept_lem : (m : Memory) → (script_of m).commands ≡ m.coded.count
unfolding script_of
commands_kept_lem m = refl

pub nodes_kept : (m : Memory) → (script_of m).nodes ≡ m.coded.nodes.count
unfolding script_of
nodes_kept m = refl

module _ (h : Model.Sheet) (k : Born) (o : Loader) (b : ℕ) (s : Shop) (twenty : length s.slots ≡ slot_count) where
  abbrev m : Memory
  m = k.memory

  abbrev fresh : List Block
  fresh = shop_blocks h m.count (slots_of s)

  -- 17, 8, 9 and 19, of slots that are appended from a block on
  abbrev behind : List Slot → ℕ → List ℕ
  behind l n = check (eqb (born_at k b) 0) born_later ∷ check (all (slot_ok h) l) 8 ∷ room_refusal o (script_of m) (shop_blocks h n l) ∷ []

  abbrev own : List ℕ
  own = behind (slots_of s) m.count

  -- the checks with those that calls share in front
  in_order : compile_refusal_in h k (call_of o b s) ≡ first_of (call_in h m b ∷ own)
  unfolding compile_refusal_in compile_checks call_in
  in_order =
      ap (λ (l : List Slot). first_of (call_in h m b ∷ behind l (length (script_of m).blocks))) (with_all s twenty)
      ∙ ap (λ (n : ℕ). first_of (call_in h m b ∷ behind (slots_of s) n)) (blocks_counted m)

  -- refused, all is as it was
  pub compiled_refused : (n : ℕ) → n ≡ compile_refusal_in h k (call_of o b s) → (n ≡ 0 → ⊥) → CompiledAs h k (call_of o b s) n k
  unfolding compiled_in
  compiled_refused n e d = record { answer = e; is = rw (ne_eqb (compile_refusal_in h k (call_of o b s)) 0 (λ z. d (e ∙ z))) }

  pub refused_call : (n : ℕ) → n ≡ call_in h m b → (n ≡ 0 → ⊥) → CompiledAs h k (call_of o b s) n k
  refused_call n e d = compiled_refused n (go n d ∙ sym (in_order ∙ ap (λ j. first_of (j ∷ own)) (sym e))) d
    where
      go : (n : ℕ) → (n ≡ 0 → ⊥) → n ≡ first_of (n ∷ own)
      go zero d = absurd (d refl)
      go (suc n) d = refl

  pub refused_born : call_in h m b ≡ 0 → (born_at k b ≡ 0 → ⊥) → CompiledAs h k (call_of o b s) born_later k
  refused_born e d = compiled_refused born_later (sym (in_order ∙ rw (e, ne_eqb (born_at k b) 0 d))) (λ z. omega arith)

  pub refused_shop : call_in h m b ≡ 0 → born_at k b ≡ 0 → all (slot_ok h) (slots_of s) ≡ false → CompiledAs h k (call_of o b s) bad_shop k
  refused_shop e g f = compiled_refused bad_shop (sym (in_order ∙ rw (e, eq-eqb (born_at k b) 0 g, f))) (λ z. omega arith)

  -- n is what 9 and 19 answer of any script with the record's counts
  abbrev pub RoomSays : ℕ → Type 0
  RoomSays n = (sc : Script) → length sc.blocks ≡ m.count → sc.commands ≡ m.coded.count → sc.nodes ≡ m.coded.nodes.count → n ≡ room_refusal o sc fresh

  -- where all before it pass, 9 and 19 answer
  pub room_decides : call_in h m b ≡ 0 → born_at k b ≡ 0 → all (slot_ok h) (slots_of s) ≡ true → (n : ℕ) → n ≡ room_refusal o (script_of m) fresh → n ≡ compile_refusal_in h k (call_of o b s)
  room_decides e g f n r = r ∙ sym (in_order ∙ rw (e, eq-eqb (born_at k b) 0 g, f) (last (room_refusal o (script_of m) fresh)))
    where
      last : (n : ℕ) → first_of (n ∷ []) ≡ n
      last zero = refl
      last (suc n) = refl

  pub room_said : (n : ℕ) → RoomSays n → n ≡ room_refusal o (script_of m) fresh
  room_said n r = r (script_of m) (blocks_counted m) (commands_kept_lem m) (nodes_kept m)

  pub refused_room : call_in h m b ≡ 0 → born_at k b ≡ 0 → all (slot_ok h) (slots_of s) ≡ true → (n : ℕ) → RoomSays n → (n ≡ 0 → ⊥) → CompiledAs h k (call_of o b s) n k
  refused_room e g f n r d = compiled_refused n (room_decides e g f n (room_said n r)) d

  pub exact_slots : call_in h m b ≡ 0 → all (slot_ok h) (slots_of s) ≡ true → AllExact s
  exact_slots e f = shop_exact h (call_passed h m b e).sheet s f

  -- what an accepted compile knows
  pub record Granted : Type 0 where
    pub inside : b < m.count
    pub exact : AllExact s
    pub room : Room m fresh

  room_by : has_room disc_limits (script_of m) fresh ≡ true → Room m fresh
  unfolding script_of
  room_by r =
      let z = room_low disc_limits (script_of m) fresh r in
      record { blocks = omega (arith, z.blocks, blocks_counted m); commands = z.commands; nodes = z.nodes }

  pub granted : compile_refusal_in h k (call_of o b s) ≡ 0 → Granted
  granted e =
      let space : ℕ = room_refusal o (script_of m) fresh in
      let p = first_passed (call_in h m b) own (sym in_order ∙ e) in
      let born = first_passed (check (eqb (born_at k b) 0) born_later) (check (all (slot_ok h) (slots_of s)) 8 ∷ space ∷ []) p.1 in
      let q = first_passed (check (all (slot_ok h) (slots_of s)) 8) (space ∷ []) born.1 in
      record {
        inside = (call_passed h m b p.0).inside;
        exact = exact_slots p.0 (passed (all (slot_ok h) (slots_of s)) 7 q.0);
        room = room_by (room_passed o (script_of m) fresh (first_passed space [] q.1).0).0;
      }

  -- from what each check found
  pub granted_room : call_in h m b ≡ 0 → born_at k b ≡ 0 → all (slot_ok h) (slots_of s) ≡ true → RoomSays 0 → Granted
  granted_room e g f r = granted (sym (room_decides e g f 0 (room_said 0 r)))

  -- t has the blocks, and the setup block is linked to the last of them
  linked : (t : Memory) → PutBlocks m fresh t → record { coded = t.coded; words = block_words t.words b 1 0 0 t.count 0; count = t.count } ≡ appended_in h m (call_of o b s)
  unfolding redirect_in shop_blocks
  linked t p =
      let root : ℕ = last_of m.count (slots_blocks h m.count 0 (slots_of s)) in
      let l : t.count ≡ suc root = omega (arith, p.counted, last_of_is m.count (slots_blocks h m.count 0 (slots_of s))) in
      rw (with_all s twenty, blocks_counted m, ← p.is, ← l) refl

  -- the marks from the count of before to that of now
  marked : (t : Memory) → PutBlocks m fresh t
      → sets k.births m.count (replicate (t.count - m.count) (one_compile k.compiles)) ≡ births_after k (length (fresh_blocks h (script_of m) (call_of o b s)))
  marked t p =
      let l : t.count - m.count ≡ length fresh = omega (arith, p.counted) in
      let f : length fresh ≡ length (fresh_blocks h (script_of m) (call_of o b s)) = rw (with_all s twenty, blocks_counted m) refl in
      ap (λ (n : ℕ). births_after k n) (l ∙ f)

  -- accepted, the setup block and the marks are so
  pub compiled_accepted : (n : ℕ) → n ≡ compile_refusal_in h k (call_of o b s) → n ≡ 0 → (t : Memory) → PutBlocks m fresh t
      → CompiledAs h k (call_of o b s) 0
      (record {
        memory = record { coded = t.coded; words = block_words t.words b 1 0 0 t.count 0; count = t.count };
        births = sets k.births m.count (replicate (t.count - m.count) (one_compile k.compiles));
        compiles = one_compile k.compiles;
      })
  unfolding compiled_in
  compiled_accepted n e z t p = record {
    answer = sym z ∙ e;
    is = rw (eq-eqb (compile_refusal_in h k (call_of o b s)) 0 (sym e ∙ z)) (λ i. record { memory = linked t p i; births = marked t p i; compiles = one_compile k.compiles });
  }

  pub accepted_room : call_in h m b ≡ 0 → born_at k b ≡ 0 → all (slot_ok h) (slots_of s) ≡ true → RoomSays 0 → (t : Memory) → PutBlocks m fresh t
      → CompiledAs h k (call_of o b s) 0
      (record {
        memory = record { coded = t.coded; words = block_words t.words b 1 0 0 t.count 0; count = t.count };
        births = sets k.births m.count (replicate (t.count - m.count) (one_compile k.compiles));
        compiles = one_compile k.compiles;
      })
  accepted_room e g f r = compiled_accepted 0 (room_decides e g f 0 (room_said 0 r)) refl
