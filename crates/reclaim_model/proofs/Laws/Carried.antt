-- The blocks of a compiled shop, wherever later compiles and reclaims have put them. Assumes nothing.
use Rattle.std.specs.Prelude.{◌≡◌, refl, Bool, true, false, ◌&&◌, ◌||◌, ◌≢◌, ◌⊎◌, List, ◌++◌, ℕ, ◌≤◌, ◌<◌, eqb, leb, get_or, length}
use Rattle.std.proofs.Common.{sym, ap, ◌∙◌, subst, inl, inr, arith, get_or-set_other, eqb-true, leb-true, eq-eqb, le-leb}
use Rattle.std.proofs.Math.Bool.{or-true}
use Rattle.std.proofs.Math.Decide.{dec_le, ℕ_discrete}
use Rattle.std.proofs.Math.ListN.{get_or-append}
use Rattle.model.specs.Limits.{slot_count}
use Rattle.model.specs.Sheet.{Sheet, sheet_ok, all}
use Rattle.model.specs.Shop.{Slot, slot_ok, with_slots}
use Rattle.model.specs.Script.{Block, Script, placeholder, block_at}
use Rattle.model.specs.Judge.{script_refusal}
use Rattle.model.specs.Compile.{Call, appended, fresh_blocks, redirect, root_of, slots_blocks}
use Rattle.model.proofs.Laws.Checks as Checks
use Rattle.model.proofs.Laws.Checks.{and_left, and_right}
use Rattle.model.proofs.Laws.Calls.{ShopAt}
use Rattle.model.proofs.Laws.Compiled.{Linked, fresh_linked, last_of_is}
use Rattle.model.proofs.Laws.Judged.{kept_judged}
use Rattle.model.proofs.Laws.FitBlocks.{from_slots, length_padded}
use Rattle.model.proofs.Laws.Checked.{SheetLow, sheet_low}
use Rattle.reclaim_model.specs.Changes.{BornScript, birth_at, compile_refusal_born, appended_born, lives, kept_only}
use Rattle.reclaim_model.specs.Rename.{targets, links_of, Every, rename_block}
use Rattle.reclaim_model.specs.Reclaim.{rank}
use Rattle.reclaim_model.proofs.Laws.Born.{Borne, passed_born, accepted_plain, ordinal, grown, birth_kept, birth_new, birth_left}
use Rattle.reclaim_model.proofs.Laws.RenamedRun.{Renamed}
use Rattle.reclaim_model.proofs.Laws.RenamedParse.{Numbered}
use Rattle.reclaim_model.proofs.Laws.Reclaimed.{every_both, reclaim_renamed, reclaim_numbered, reclaim_judged}
use Rattle.reclaim_model.proofs.Laws.Renames.{links_map, every_map, rename_twice, rename_same}
use Rattle.reclaim_model.proofs.Laws.Lower.{above_slots, after_links}

abbrev pub Kept : (ℕ → Bool) → ℕ → Type 0
Kept keep j = keep j ≡ true

-- block b is the setup block of xs: its compile left it and the blocks of xs in `old`, and those that `keep` names are still there under the numbers of f
pub record Carried (h : Sheet) (k : BornScript) (b : ℕ) (xs : List Slot) : Type 0 where
  pub first : ℕ
  pub old : Script
  pub setup : ℕ
  pub shop : ShopAt h first old setup xs
  pub keep : ℕ → Bool
  pub f : ℕ → ℕ
  pub here : keep setup ≡ true
  pub now : f setup ≡ b
  pub renamed : Renamed (Kept keep) f old.blocks k.script.blocks
  pub numbered : Numbered (Kept keep) f (length old.blocks) (length k.script.blocks)
  -- none of them but the setup block can be named by a compile
  pub born : (j : ℕ) → keep j ≡ true → j ≢ setup → birth_at k (f j) ≢ 0
  pub judged : script_refusal k.script ≡ 0

-- ---- a compile at another block

pub appended_other : (h : Sheet) (k : BornScript) (c : Call) (j : ℕ) → j < length k.script.blocks → j ≢ c.setup → block_at (appended_born h k c).script.blocks j ≡ block_at k.script.blocks j
unfolding appended_born appended
appended_other h k c j l ne =
    let bs = k.script.blocks in
    get_or-set_other (bs ++ fresh_blocks h k.script c) c.setup j _ placeholder ne ∙ get_or-append bs (fresh_blocks h k.script c) placeholder j l

pub appended_judged : (h : Sheet) (k : BornScript) (c : Call) → compile_refusal_born h k c ≡ 0 → script_refusal (appended_born h k c).script ≡ 0
unfolding appended_born
appended_judged h k c z = kept_judged h k.script c (accepted_plain h k c z)

module _ (h : Sheet) (k : BornScript) (b : ℕ) (xs : List Slot) (borne : Borne k) (a : Carried h k b xs) where
  module _ (c : Call) (z : compile_refusal_born h k c ≡ 0) (ne : c.setup ≢ b) where
    not_named : (j : ℕ) → a.keep j ≡ true → a.f j ≢ c.setup
    not_named j p q = by (ℕ_discrete j a.setup)
      where
        by : Dec (j ≡ a.setup) → ⊥
        by (yes d) = ne (sym q ∙ ap a.f d ∙ a.now)
        by (no d) = a.born j p d (ap (birth_at k) q ∙ (passed_born h k c z).born)

    pub carried_compile : Carried h (appended_born h k c) b xs
    carried_compile = record {
      first = a.first;
      old = a.old;
      setup = a.setup;
      shop = a.shop;
      keep = a.keep;
      f = a.f;
      here = a.here;
      now = a.now;
      renamed = record { links = a.renamed.links; same = λ j p. appended_other h k c (a.f j) (a.numbered.inside' j p) (not_named j p) ∙ a.renamed.same j p };
      numbered = record {
        inside = a.numbered.inside;
        inside' = λ j p. omega (arith, a.numbered.inside' j p, grown h k c);
        apart = a.numbered.apart;
      };
      born = λ j p d q. a.born j p d (sym (birth_kept h k c borne (a.f j) (a.numbered.inside' j p)) ∙ q);
      judged = appended_judged h k c z;
    }

  -- ---- a reclaim that the block survives

  module _ (rs : List ℕ) (e : get_or (lives k rs) b false ≡ true) where
    abbrev Lives : ℕ → Type 0
    Lives j = get_or (lives k rs) j false ≡ true

    abbrev both : ℕ → Bool
    both j = a.keep j && get_or (lives k rs) (a.f j) false

    of_both : (j : ℕ) → both j ≡ true → (a.keep j ≡ true) × Lives (a.f j)
    of_both j p = (and_left _ _ p, and_right (a.keep j) _ p)

    to_both : (j : ℕ) → a.keep j ≡ true → Lives (a.f j) → both j ≡ true
    to_both j p q = rw (p, q)

    pub carried_reclaim : Carried h (kept_only (lives k rs) k) (rank (lives k rs) b) xs
    carried_reclaim =
        let r = reclaim_renamed k rs a.judged in
        let u = reclaim_numbered k rs a.judged in
        record {
          first = a.first;
          old = a.old;
          setup = a.setup;
          shop = a.shop;
          keep = both;
          f = λ j. rank (lives k rs) (a.f j);
          here = to_both a.setup a.here (ap (λ j. get_or (lives k rs) j false) a.now ∙ e);
          now = ap (rank (lives k rs)) a.now;
          renamed = record {
            links = λ j p.
                every_both (Kept a.keep) (λ i. Lives (a.f i)) (Kept both) to_both (links_of (block_at a.old.blocks j)) (a.renamed.links j (of_both j p).0)
                (every_map a.f Lives (links_of (block_at a.old.blocks j))
                (subst (λ (is : List ℕ). Every Lives is) (ap links_of (a.renamed.same j (of_both j p).0) ∙ links_map a.f (block_at a.old.blocks j)) (r.links (a.f j) (of_both j p).1)));
            same = λ j p.
                r.same (a.f j) (of_both j p).1 ∙ ap (rename_block (rank (lives k rs))) (a.renamed.same j (of_both j p).0)
                ∙ rename_twice (rank (lives k rs)) a.f (block_at a.old.blocks j);
          };
          numbered = record {
            inside = λ j p. a.numbered.inside j (of_both j p).0;
            inside' = λ j p. u.inside' (a.f j) (of_both j p).1;
            apart = λ i j p q w. a.numbered.apart i j (of_both i p).0 (of_both j q).0 (u.apart (a.f i) (a.f j) (of_both i p).1 (of_both j q).1 w);
          };
          born = λ j p d q. a.born j (of_both j p).0 d (sym (birth_left k rs borne (a.f j) (of_both j p).1) ∙ q);
          judged = reclaim_judged k rs a.judged;
        }

-- ---- right after the compile

-- the setup block, and the blocks of the compile
abbrev In : ℕ → ℕ → ℕ → ℕ → Type 0
In b lo hi j = (j ≡ b) ⊎ ((lo ≤ j) × (j ≤ hi))

abbrev is_in : ℕ → ℕ → ℕ → ℕ → Bool
is_in b lo hi j = eqb j b || (leb lo j && leb j hi)

module _ (b lo hi j : ℕ) where
  in_true : In b lo hi j → is_in b lo hi j ≡ true
  in_true (inl e) = rw (eq-eqb j b e)
  in_true (inr p) = rw (le-leb lo j p.0, le-leb j hi p.1) (or-true (eqb j b))

  true_in : is_in b lo hi j ≡ true → In b lo hi j
  true_in = by (eqb j b) refl
    where
      by : (t : Bool) → eqb j b ≡ t → t || (leb lo j && leb j hi) ≡ true → In b lo hi j
      by true q e = inl (eqb-true j b q)
      by false q e = inr (leb-true lo j (and_left _ _ e), leb-true j hi (and_right (leb lo j) _ e))

module _ (h : Sheet) (n : ℕ) (bs : List Block) (b : ℕ) (xs : List Slot) (k : Linked h n bs b xs) (f : SheetLow h) (ok : all (slot_ok h) xs ≡ true) (twenty : length xs ≡ slot_count) where
  abbrev root : ℕ
  root = root_of h k.home 0 xs

  abbrev Of : ℕ → Type 0
  Of j = In b k.home root j

  setup_links : Every Of (links_of (block_at bs b))
  unfolding redirect links_of targets
  setup_links = rw k.link.eq (inr (omega (arith, last_of_is k.home (slots_blocks h k.home 0 xs)), omega arith), tt)

  return_links : Every Of (links_of (block_at bs k.home))
  unfolding links_of targets
  return_links = rw k.returns.eq tt

  shop_links : (j : ℕ) → k.home < j → j ≤ root → Every Of (links_of (block_at bs j))
  shop_links j l u =
      let a = after_links bs k.home k.home (slots_blocks h k.home 0 xs) k.rest (from_slots h f k.home 0 xs (omega arith) ok) (above_slots h k.home 0 xs) j l u in
      every_both (λ i. (k.home ≤ i) × (i < j)) (λ i. (k.home ≤ i) × (i < j)) Of (λ i p q. inr (p.0, (let w = p.1 in omega arith))) (links_of (block_at bs j)) a a

  in_links : (j : ℕ) → Of j → Every Of (links_of (block_at bs j))
  in_links j (inl e) = rw e setup_links
  in_links j (inr p) = by (dec_le j k.home)
    where
      by : Dec (j ≤ k.home) → Every Of (links_of (block_at bs j))
      by (yes d) = let l = p.0 in let w : j ≡ k.home = omega arith in rw w return_links
      by (no d) = shop_links j (omega arith) p.1

  abbrev fresh : ℕ → Bool
  fresh = is_in b k.home root

  fresh_links : (j : ℕ) → fresh j ≡ true → Every (Kept fresh) (links_of (block_at bs j))
  fresh_links j e =
      let a = in_links j (true_in b k.home root j e) in
      every_both Of Of (Kept fresh) (λ i p q. in_true b k.home root i p) (links_of (block_at bs j)) a a

  fresh_inside : b < length bs → (j : ℕ) → fresh j ≡ true → j < length bs
  fresh_inside l j e = by (true_in b k.home root j e)
    where
      by : In b k.home root j → j < length bs
      by (inl e) = rw e l
      by (inr p) = let u = p.1 in omega (arith, k.inside)

appended_linked : (h : Sheet) (k : BornScript) (c : Call) → compile_refusal_born h k c ≡ 0
    → Linked h (length k.script.blocks) (appended_born h k c).script.blocks c.setup (with_slots c.shop)
unfolding appended_born
appended_linked h k c z = fresh_linked h k.script c (length k.script.blocks) (omega arith) (passed_born h k c z).inside

pub carried_fresh : (h : Sheet) (k : BornScript) (c : Call) → Borne k → compile_refusal_born h k c ≡ 0 → Carried h (appended_born h k c) c.setup (with_slots c.shop)
carried_fresh h k c borne z =
    let n = length k.script.blocks in
    let xs = with_slots c.shop in
    let bs = (appended_born h k c).script.blocks in
    let t = passed_born h k c z in
    let f = sheet_low h (Checks.passed (sheet_ok h) 0 t.sheet) in
    let a = appended_linked h k c z in
    let len = length_padded slot_count c.shop in
    let inside = fresh_inside h n bs c.setup xs a f t.slots len (omega (arith, t.inside, grown h k c)) in
    record {
      first = n;
      old = (appended_born h k c).script;
      setup = c.setup;
      shop = record { low = t.inside; link = a; twenty = len; ok = t.slots; sheet = t.sheet; judged = appended_judged h k c z };
      keep = is_in c.setup a.home (root_of h a.home 0 xs);
      f = λ j. j;
      here = in_true c.setup a.home (root_of h a.home 0 xs) c.setup (inl refl);
      now = refl;
      renamed = record { links = fresh_links h n bs c.setup xs a f t.slots len; same = λ j p. sym (rename_same (block_at bs j)) };
      numbered = record { inside = inside; inside' = inside; apart = λ i j p q w. w };
      born = λ j p d q. ordinal k.compiles (sym (birth_new h k c borne j (above a j (true_in c.setup a.home (root_of h a.home 0 xs) j p) d) (inside j p)) ∙ q);
      judged = appended_judged h k c z;
    }
  where
    above : (a : Linked h (length k.script.blocks) (appended_born h k c).script.blocks c.setup (with_slots c.shop)) (j : ℕ)
        → In c.setup a.home (root_of h a.home 0 (with_slots c.shop)) j → j ≢ c.setup → length k.script.blocks ≤ j
    above a j (inl e) d = absurd (d e)
    above a j (inr p) d = let l = p.0 in omega (arith, a.low)
