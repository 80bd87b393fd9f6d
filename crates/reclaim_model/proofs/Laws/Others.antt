-- Lists of compiles and reclaims: a block of the start where none was accepted is as it was but for its number and the links that follow. Assumes nothing.
use Rattle.std.specs.Prelude.{◌≡◌, Bool, true, false, cond, ◌≢◌, eqb, get_or, length}
use Rattle.std.proofs.Math.Path.{refl}
use Rattle.std.proofs.Common.{sym, ap, ◌∙◌, subst, arith}
use Rattle.std.proofs.Math.Option.{Option, none, some}
use mathlib.Core.List.{List, [], ◌∷◌}
use Prim.Native.Nat.{ℕ, ◌<◌}
use Rattle.std.proofs.lemmas.Bool.{eqb-false}
use Rattle.model.specs.Sheet.{Sheet}
use Rattle.model.specs.Shop.{Slot, with_slots}
use Rattle.model.specs.Script.{Block, block_at}
use Rattle.model.specs.Compile.{Call}
use Rattle.model.specs.Lists.{accepted_at, after_all, following, last_at, last_from, latest, now_at}
use Rattle.model.proofs.Laws.Lists.{along_any, kept_all, none≢some}
use Rattle.reclaim_model.specs.Rename.{links_of, Every, rename_block}
use Rattle.reclaim_model.specs.Reclaim.{new_number, rank}
use Rattle.reclaim_model.specs.Changes.{BornScript, appended_born, reclaim_refusal, lives, kept_only, Change, changed, given_to, number_after, changes}
use Rattle.reclaim_model.proofs.Laws.Born.{grown}
use Rattle.reclaim_model.proofs.Laws.Reclaimed.{every_both, reclaim_passed, reclaim_renamed, reclaim_numbered}
use Rattle.reclaim_model.proofs.Laws.Renames.{links_map, every_map, every_all, rename_twice, rename_same}
use Rattle.reclaim_model.proofs.Laws.Carried.{appended_other}
use Rattle.reclaim_model.proofs.Laws.Mixed.{by_answer, survives}

-- block x has become x': as it was but for the links, each of which goes where `number` says that the block is now which it named
pub record AsWas (number : ℕ → Option ℕ) (x x' : Block) : Type 0 where
  pub follow : ℕ → ℕ
  pub same : x' ≡ rename_block follow x
  pub links : Every (λ j. number j ≡ some (follow j)) (links_of x)

-- no block got another number
still : (x x' : Block) → x' ≡ x → AsWas (λ j. some j) x x'
still x x' e = record { follow = λ j. j; same = e ∙ sym (rename_same x); links = every_all (λ j. some j ≡ some j) (λ j. refl) (links_of x) }

-- one after the other
onward : (number number' : ℕ → Option ℕ) (x y z : Block) → AsWas number x y → AsWas number' y z → AsWas (λ j. following (number j) number') x z
onward number number' x y z p r =
    let on : Every (λ j. number' (p.follow j) ≡ some (r.follow (p.follow j))) (links_of x)
    = every_map p.follow (λ j. number' j ≡ some (r.follow j)) (links_of x)
    (subst (λ (js : List ℕ). Every (λ j. number' j ≡ some (r.follow j)) js) (ap links_of p.same ∙ links_map p.follow x) r.links) in
    record {
      follow = λ j. r.follow (p.follow j);
      same = r.same ∙ ap (rename_block r.follow) p.same ∙ rename_twice r.follow p.follow x;
      links = every_both (λ j. number j ≡ some (p.follow j)) (λ j. number' (p.follow j) ≡ some (r.follow (p.follow j)))
          (λ j. following (number j) number' ≡ some (r.follow (p.follow j))) (λ j n q. ap (λ o. following o number') n ∙ q) (links_of x) p.links on;
    }

-- ---- one call

-- what was block b of k is block j of m
abbrev Became : BornScript → BornScript → (ℕ → Option ℕ) → ℕ → ℕ → Type 0
Became k m number b j = (j < length m.script.blocks) × AsWas number (block_at k.script.blocks b) (block_at m.script.blocks j)

module _ (h : Sheet) (k : BornScript) (b j : ℕ) (l : b < length k.script.blocks) where
  became_same : (m : BornScript) → b ≡ j → b < length m.script.blocks → block_at m.script.blocks b ≡ block_at k.script.blocks b → Became k m (λ i. some i) b j
  became_same m w i e = rw (← w) (i, still (block_at k.script.blocks b) (block_at m.script.blocks b) e)

  became_left : (rs : List ℕ) → reclaim_refusal k rs ≡ 0 → new_number (lives k rs) b ≡ some j → Became k (kept_only (lives k rs) k) (new_number (lives k rs)) b j
  became_left rs z n =
      let s = survives (lives k rs) b j n in
      let judged = (reclaim_passed k rs z).judged in
      let r = reclaim_renamed k rs judged in
      rw (← s.1) (
        (reclaim_numbered k rs judged).inside' b s.0,
        record {
          follow = rank (lives k rs);
          same = r.same b s.0;
          links = every_both (λ i. get_or (lives k rs) i false ≡ true) (λ i. get_or (lives k rs) i false ≡ true) (λ i. new_number (lives k rs) i ≡ some (rank (lives k rs) i))
              (λ i p q. rw p) (links_of (block_at k.script.blocks b)) (r.links b s.0) (r.links b s.0);
        },
      )

  -- where a compile leaves that no shop was accepted, it names another block
  other_named : (c : Call) → cond (eqb c.setup b) (some (with_slots c.shop)) none ≡ none → b ≢ c.setup
  other_named c e q = by (eqb c.setup b) refl e
    where
      by : (t : Bool) → eqb c.setup b ≡ t → cond t (some (with_slots c.shop)) none ≡ none → ⊥
      by true w e = none≢some (sym e)
      by false w e = eqb-false c.setup b w (sym q)

  became_once : (x : Change) → number_after k x b ≡ some j → latest (changes h) k x b none ≡ none → Became k (changed h k x) (number_after k x) b j
  became_once x =
      by_answer h k (λ m number last. number b ≡ some j → last b none ≡ none → Became k m number b j)
      (λ n e. let w : b ≡ j = cc in became_same k w l refl)
      (λ c z n e. let w : b ≡ j = cc in became_same (appended_born h k c) w (omega (arith, grown h k c)) (appended_other h k c b l (other_named c e)))
      (λ rs z n e. became_left rs z n) x

-- ---- a list

module _ (h : Sheet) where
  -- where a shop was accepted, one is the last
  still_some : (xs : List Change) (k : BornScript) (b b' : ℕ) (ys : List Slot) → now_at (changes h) k xs b ≡ some b' → last_from (changes h) (some ys) k xs b ≢ none
  still_some xs k b b' ys n =
      kept_all (changes h) (λ m x. Unit {0}) (λ m i o. o ≢ none) (λ m x i j o u q d. by x o d (accepted_at (changes h) m x i)) k xs (along_any (changes h) k xs) b b' (some ys) n
      (λ e. none≢some (sym e))
    where
      by : (x : Change) (o : Option (List Slot)) → o ≢ none → (t : Bool) → cond t (some (given_to x)) o ≢ none
      by x o d true e = none≢some (sym e)
      by x o d false e = d e

  pub as_was : (xs : List Change) (k : BornScript) (b b' : ℕ) → b < length k.script.blocks → now_at (changes h) k xs b ≡ some b' → last_at (changes h) k xs b ≡ none
      → AsWas (now_at (changes h) k xs) (block_at k.script.blocks b) (block_at (after_all (changes h) k xs).script.blocks b')
  unfolding now_at last_from after_all
  as_was [] k b b' l n e = let w : b ≡ b' = cc in rw (← w) (still (block_at k.script.blocks b) (block_at k.script.blocks b) refl)
  as_was (x ∷ xs) k b b' l n e = by (λ j. as_was xs (changed h k x) j b') (number_after k x b) refl n (latest (changes h) k x b none) refl e
    where
      there : ℕ → Option ℕ
      there = now_at (changes h) (changed h k x) xs

      by : ((j : ℕ) → j < length (changed h k x).script.blocks → now_at (changes h) (changed h k x) xs j ≡ some b' → last_at (changes h) (changed h k x) xs j ≡ none
          → AsWas there (block_at (changed h k x).script.blocks j) (block_at (after_all (changes h) (changed h k x) xs).script.blocks b'))
          → (o : Option ℕ) → number_after k x b ≡ o → following o (λ j. now_at (changes h) (changed h k x) xs j) ≡ some b'
          → (a : Option (List Slot)) → latest (changes h) k x b none ≡ a → following o (λ j. last_from (changes h) a (changed h k x) xs j) ≡ none
          → AsWas (λ j. following (number_after k x j) there) (block_at k.script.blocks b) (block_at (after_all (changes h) (changed h k x) xs).script.blocks b')
      by ih none q n a w e = absurd (none≢some n)
      by ih (some j) q n (some ys) w e = absurd (still_some xs (changed h k x) j b' ys n e)
      by ih (some j) q n none w e =
          let p = became_once h k b j l x q w in
          onward (number_after k x) there (block_at k.script.blocks b) (block_at (changed h k x).script.blocks j) (block_at (after_all (changes h) (changed h k x) xs).script.blocks b') p.1 (ih j p.0 n e)
