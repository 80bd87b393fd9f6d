-- Checks that were passed. Assumes nothing.
use Rattle.std.specs.Prelude.{◌≡◌, refl, Bool, true, false, not, ◌&&◌, ◌||◌, List, [], ◌∷◌, ℕ, zero, suc, ◌<◌, length, ltb, eqb}
use Rattle.std.proofs.Common.{sym, ◌∙◌, arith, ltb-true, eqb-true}
use Rattle.std.proofs.lemmas.Bool.{not-true, not-false}
use Rattle.model.specs.declared.Loader.{Loader}
use Rattle.model.specs.Refusal.{check, first_of, no_room, not_block, not_code, born_later, demo_full}
use Rattle.model.specs.Sheet.{Sheet, all, sheet_refusal}
use Rattle.model.specs.Shop.{shop_refusal, slot_ok, with_slots}
use Rattle.model.specs.Script.{Block, Script, block_at, is_code}
use Rattle.model.specs.Judge.{setup_refusal, shared_refusal}
use Rattle.model.specs.Compile.{Call, compile_checks, disc_limits, limits_of, fresh_blocks, has_room, room_refusal}

-- where a list of checks refuses nothing, its first does not, nor do the others
pub first_passed : (n : ℕ) (ns : List ℕ) → first_of (n ∷ ns) ≡ 0 → (n ≡ 0) × (first_of ns ≡ 0)
first_passed zero ns e = (refl, e)
first_passed (suc n) ns e = absurd (omega arith)

pub passed : (b : Bool) (n : ℕ) → check b (suc n) ≡ 0 → b ≡ true
passed true n e = refl
passed false n e = absurd (omega arith)

pub or_none : (a b : Bool) → a || b ≡ false → a ≡ false
or_none true b e = e
or_none false b e = refl

pub and_left : (a b : Bool) → a && b ≡ true → a ≡ true
and_left true b e = refl
and_left false b e = e

pub and_right : (a b : Bool) → a && b ≡ true → b ≡ true
and_right true b e = e
and_right false b e = cc

-- the parts of a conjunction of four and of five
pub and4 : (a b c d : Bool) → a && b && c && d ≡ true → (a ≡ true) × (b ≡ true) × (c ≡ true) × (d ≡ true)
and4 a b c d e =
    let abc = and_left (a && b && c) d e in
    let ab = and_left (a && b) c abc in
    (and_left a b ab, and_right a b ab, and_right (a && b) c abc, and_right (a && b && c) d e)

pub and5 : (a b c d f : Bool) → a && b && c && d && f ≡ true → (a ≡ true) × (b ≡ true) × (c ≡ true) × (d ≡ true) × (f ≡ true)
and5 a b c d f e =
    let r = and4 a b c d (and_left (a && b && c && d) f e) in
    (r.0, r.1, r.2, r.3, and_right (a && b && c && d) f e)

-- what a call answered, r, is b by its promise; a test of r tells b. The proofs that use these say what b is: filled in by the prover it is a large term
pub answered : {A : Type 0} {r v : A} (b : A) → r ≡ b → r ≡ v → b ≡ v
answered b e t = sym e ∙ t

pub is_true : {r : Bool} (b : Bool) → r ≡ b → not r ≡ false → b ≡ true
is_true {r} b e t = answered b e (not-false r t)

pub is_false : {r : Bool} (b : Bool) → r ≡ b → not r ≡ true → b ≡ false
is_false {r} b e t = answered b e (not-true r t)

pub first_alone : (n : ℕ) → n ≡ first_of (n ∷ [])
first_alone zero = refl
first_alone (suc n) = refl

first2 : (a b : ℕ) → first_of (a ∷ b ∷ []) ≡ 0 → (a ≡ 0) × (b ≡ 0)
first2 a b e =
    let p = first_passed a (b ∷ []) e in
    (p.0, (first_passed b [] p.1).0)

first3 : (a b c : ℕ) → first_of (a ∷ b ∷ c ∷ []) ≡ 0 → (a ≡ 0) × (b ≡ 0) × (c ≡ 0)
first3 a b c e =
    let p = first_passed a (b ∷ c ∷ []) e in
    let q = first2 b c p.1 in
    (p.0, q.0, q.1)

first4 : (a b c d : ℕ) → first_of (a ∷ b ∷ c ∷ d ∷ []) ≡ 0 → (a ≡ 0) × (b ≡ 0) × (c ≡ 0) × (d ≡ 0)
first4 a b c d e =
    let p = first_passed a (b ∷ c ∷ d ∷ []) e in
    let q = first3 b c d p.1 in
    (p.0, q.0, q.1, q.2)

-- a script that passed 6 and 7 has that block
pub setup_inside : (sc : Script) (b : ℕ) → setup_refusal sc b ≡ 0 → b < length sc.blocks
setup_inside sc b e = ltb-true _ _ (passed _ 5 (first2 (check (ltb b (length sc.blocks)) not_block) (check (is_code (block_at sc.blocks b)) not_code) e).0)

-- which is code
pub setup_code : (sc : Script) (b : ℕ) → setup_refusal sc b ≡ 0 → is_code (block_at sc.blocks b) ≡ true
setup_code sc b e = passed _ 6 (first2 (check (ltb b (length sc.blocks)) not_block) (check (is_code (block_at sc.blocks b)) not_code) e).1

-- the checks of a call: 1, 2 to 5, 6 and 7
pub shared_passed : (h : Sheet) (j : ℕ) (sc : Script) (b : ℕ) → shared_refusal h j sc b ≡ 0 → (sheet_refusal h ≡ 0) × (j ≡ 0) × (setup_refusal sc b ≡ 0)
unfolding shared_refusal
shared_passed h j sc b e = first3 (sheet_refusal h) j (setup_refusal sc b) e

-- 9 and 19: there is room by the disc's limits and by the loader's
pub room_passed : (o : Loader) (sc : Script) (xs : List Block) → room_refusal o sc xs ≡ 0 → (has_room disc_limits sc xs ≡ true) × (has_room (limits_of o) sc xs ≡ true)
unfolding room_refusal
room_passed o sc xs e =
    let p = first2 (check (has_room disc_limits sc xs) no_room) (check (has_room (limits_of o) sc xs) demo_full) e in
    (passed _ 8 p.0, passed _ 18 p.1)

-- of a compile: those, 17, 8, 9 and 19
pub record CompilePassed (h : Sheet) (j n : ℕ) (sc : Script) (c : Call) : Type 0 where
  pub sheet : sheet_refusal h ≡ 0
  pub judged : j ≡ 0
  pub inside : c.setup < length sc.blocks
  pub born : n ≡ 0
  pub slots : all (slot_ok h) (with_slots c.shop) ≡ true
  pub room : has_room disc_limits sc (fresh_blocks h sc c) ≡ true
  pub loads : has_room (limits_of c.loader) sc (fresh_blocks h sc c) ≡ true

pub compile_passed : (h : Sheet) (j n : ℕ) (sc : Script) (c : Call) → compile_checks h j n sc c ≡ 0 → CompilePassed h j n sc c
unfolding compile_checks
compile_passed h j n sc c e =
    let p = first4 (shared_refusal h j sc c.setup) (check (eqb n 0) born_later) (shop_refusal h c.shop) (room_refusal c.loader sc (fresh_blocks h sc c)) e in
    let q = shared_passed h j sc c.setup p.0 in
    let r = room_passed c.loader sc (fresh_blocks h sc c) p.3 in
    record { sheet = q.0; judged = q.1; inside = setup_inside sc c.setup q.2; born = eqb-true _ _ (passed _ 16 p.1); slots = passed _ 7 p.2; room = r.0; loads = r.1 }
