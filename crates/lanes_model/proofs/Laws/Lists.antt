-- After any list of compiles and reclaims, a walk at a block with a last accepted shop: 1 to 64 saves that fit are never refused, and at most 142 blocks are read. Assumes nothing.
use Rattle.std.specs.Prelude.{◌≡◌, true, false, ◌≢◌, ◌⊎◌, ℕ, zero, suc, ◌+◌, ◌-◌, ◌<◌, ◌≤◌, get_or, length}
use Rattle.std.proofs.Math.Path.{refl, ap}
use Rattle.std.proofs.Common.{sym, ◌∙◌, subst, inl, inr, arith}
use Rattle.std.proofs.Math.Option.{some}
use mathlib.Core.List.{List, [], ◌∷◌, map, Memᴰ}
use Rattle.std.proofs.Math.Decide.{ℕ_discrete}
use Rattle.std.proofs.lemmas.List.{length-map}
use borrow.Author.Tests.{le-leb, lt-ltb}
use Rattle.model.specs.Limits.{lane_budget, most_saves, slot_count, walk_blocks}
use Rattle.model.specs.Save.{Save}
use Rattle.model.specs.Sheet.{Sheet, all, save_ok, sheet_ok}
use Rattle.model.specs.Shop.{Slot, with_slots}
use Rattle.model.specs.Script.{Block, block_at, is_code}
use Rattle.model.specs.Run.{run_call}
use Rattle.model.specs.Judge.{call_refusal, shared_refusal}
use Rattle.model.specs.Compile.{Call, redirect, root_of, slots_blocks}
use Rattle.model.specs.Lists.{after_all, last_at, now_at}
use Rattle.model.proofs.Laws.Checks as Checks
use Rattle.model.proofs.Laws.Compiled.{fresh_linked, last_of_is}
use Rattle.model.proofs.Laws.FitBlocks.{length_padded}
use Rattle.model.proofs.Laws.Checked.{sheet_low}
use Rattle.reclaim_model.specs.Rename.{links_of, rename_block}
use Rattle.reclaim_model.specs.Reclaim.{rank}
use Rattle.reclaim_model.specs.Changes.{BornScript, birth_at, compile_refusal_born, appended_born, lives, kept_only, Change, changes}
use Rattle.reclaim_model.proofs.Laws.Born.{Borne, passed_born}
use Rattle.reclaim_model.proofs.Laws.Carried.{Carried, Kept, appended_other, carried_compile, carried_fresh, carried_reclaim}
use Rattle.reclaim_model.proofs.Laws.Mixed.{stands_all}
use Rattle.reclaim_model.proofs.Laws.Reached.{root, onward, every_of}
use Rattle.reclaim_model.proofs.Laws.Reclaimed.{reclaim_renamed}
use Rattle.reclaim_model.proofs.Laws.RenamedRun.{Renamed}
use Rattle.reclaim_model.proofs.Laws.Renames.{rename_same}
use Rattle.reclaim_model.proofs.Laws.Survivors.{rank_grows}
use Rattle.reclaim_model.proofs.Laws.Twice.{in_map}
use Rattle.lanes_model.specs.Falls.{Link, LedTo, Falls}
use Rattle.lanes_model.specs.Walk.{blocks_entered, unless_refused, walk_call, walk_checks, walk_refusal}
use Rattle.lanes_model.proofs.Laws.Falls.{paths_falls}
use Rattle.lanes_model.proofs.Laws.Steps.{not_again}
use Rattle.lanes_model.proofs.Laws.Led.{LedFrom, led_back, falls_renamed}
use Rattle.lanes_model.proofs.Laws.Compiled.{led_home, linked_falls, slots_few}
use Rattle.lanes_model.proofs.Laws.Counts.{count_list}
use Rattle.lanes_model.proofs.Laws.Reads.{past, past_leads, read_past}
use Rattle.lanes_model.proofs.Laws.Walks.{few, inside, lanes_read, walk_passed}

-- ---- numbers in a row

abbrev numbers_from : ℕ → ℕ → List ℕ
numbers_from lo zero = []
numbers_from lo (suc n) = lo ∷ numbers_from (suc lo) n

length_numbers : (lo n : ℕ) → length (numbers_from lo n) ≡ n
length_numbers lo zero = refl
length_numbers lo (suc n) = ap suc (length_numbers (suc lo) n)

in_numbers : (lo n c : ℕ) → lo ≤ c → c < lo + n → Memᴰ c (numbers_from lo n)
in_numbers lo zero c p q = absurd (omega arith)
in_numbers lo (suc n) c p q = by (ℕ_discrete c lo) (λ l. in_numbers (suc lo) n c l (omega arith))
  where
    by : Dec (c ≡ lo) → (suc lo ≤ c → Memᴰ c (numbers_from (suc lo) n)) → Memᴰ c (numbers_from lo (suc n))
    by (yes e) ih = mathlib.Core.List.Memᴰ.head e
    by (no d) ih = mathlib.Core.List.Memᴰ.tail (ih (omega arith))

-- ---- one call: the links of a carried shop go on falling

module _ (h : Sheet) (k : BornScript) where
  abbrev bs : List Block
  bs = k.script.blocks

  -- right after its compile
  fresh_falls : (c : Call) → compile_refusal_born h k c ≡ 0 → Falls (appended_born h k c).script.blocks c.setup
  unfolding appended_born
  fresh_falls c z =
      let t = passed_born h k c z in
      linked_falls h (length bs) (appended_born h k c).script.blocks c.setup (with_slots c.shop) (fresh_linked h k.script c (length bs) (omega arith) t.inside) (sheet_low h (Checks.passed (sheet_ok h) 0 t.sheet)) t.slots
      (length_padded slot_count c.shop)

  module _ (b : ℕ) (ys : List Slot) (a : Carried h k b ys) (g : Falls k.script.blocks b) where
    -- a block that is led to bears a mark, so that no compile names it
    led_born : (c : ℕ) → LedTo k.script.blocks b c → birth_at k c ≢ 0
    led_born c p = by (ℕ_discrete o.from a.setup)
      where
        o : LedFrom (Kept a.keep) a.f a.old.blocks bs a.renamed a.setup a.here c
        o = led_back (Kept a.keep) a.f a.old.blocks bs a.renamed a.setup a.here c (subst (λ (j : ℕ). LedTo bs j c) (sym a.now) p)

        by : Dec (o.from ≡ a.setup) → birth_at k c ≢ 0
        by (yes e) q = not_again g (subst (LedTo bs b) (sym o.now ∙ ap a.f e ∙ a.now) p)
        by (no d) q = a.born o.from o.kept d (ap (birth_at k) o.now ∙ q)

    -- b, or a block that it leads to
    abbrev Mine : ℕ → Type 0
    Mine j = (j ≡ b) ⊎ LedTo k.script.blocks b j

    inside_mine : b < length k.script.blocks → (j : ℕ) → Mine j → j < length k.script.blocks
    inside_mine l j (inl e) = rw e l
    inside_mine l j (inr p) = let o = led_back (Kept a.keep) a.f a.old.blocks bs a.renamed a.setup a.here j (subst (λ (i : ℕ). LedTo bs i j) (sym a.now) p) in
        subst (λ (i : ℕ). i < length bs) o.now (a.numbered.inside' o.from o.kept)

    here_inside : b < length k.script.blocks
    here_inside = subst (λ (i : ℕ). i < length bs) a.now (a.numbered.inside' a.setup a.here)

    -- a compile at another block
    module _ (c : Call) (z : compile_refusal_born h k c ≡ 0) (ne : c.setup ≢ b) where
      not_mine : (j : ℕ) → Mine j → j ≢ c.setup
      not_mine j (inl e) q = ne (sym q ∙ e)
      not_mine j (inr p) q = led_born j p (ap (birth_at k) q ∙ (passed_born h k c z).born)

      mine_links : (j : ℕ) → Mine j → (i : ℕ) → Link k.script.blocks j i → Mine i
      mine_links j (inl e) i m = inr (root (subst (λ (x : ℕ). Link bs x i) e m))
      mine_links j (inr p) i m = inr (onward p m)

      unmoved : Renamed Mine (λ j. j) k.script.blocks (appended_born h k c).script.blocks
      unmoved = record {
        links = λ j p. every_of Mine (links_of (block_at bs j)) (mine_links j p);
        same = λ j p. appended_other h k c j (inside_mine here_inside j p) (not_mine j p) ∙ sym (rename_same (block_at bs j));
      }

      compile_falls : Falls (appended_born h k c).script.blocks b
      compile_falls = falls_renamed Mine (λ j. j) bs (appended_born h k c).script.blocks unmoved b (inl refl) (λ i j p q l. l) g

    -- a reclaim that the block survives: survivors keep their order
    reclaim_falls : (rs : List ℕ) → get_or (lives k rs) b false ≡ true → Falls (kept_only (lives k rs) k).script.blocks (rank (lives k rs) b)
    reclaim_falls rs e =
        falls_renamed (λ j. get_or (lives k rs) j false ≡ true) (rank (lives k rs)) bs (kept_only (lives k rs) k).script.blocks (reclaim_renamed k rs a.judged) b e
        (λ i j p q l. rank_grows (lives k rs) i j l p) g

-- ---- a list

module _ (h : Sheet) where
  module _ (k : BornScript) (xs : List Change) (e : Borne k) (b b' : ℕ) (ys : List Slot) (now : now_at (changes h) k xs b ≡ some b') (last : last_at (changes h) k xs b ≡ some ys) where
    abbrev end : BornScript
    end = after_all (changes h) k xs

    standing : Carried h (after_all (changes h) k xs) b' ys × Falls (after_all (changes h) k xs).script.blocks b'
    standing =
        stands_all h (λ m i zs. Carried h m i zs × Falls m.script.blocks i) (λ m c d z. (carried_fresh h m c d z, fresh_falls h m c z))
        (λ m i zs d p c z ne. (carried_compile h m i zs d p.0 c z ne, compile_falls h m i zs p.0 p.1 c z ne))
        (λ m i zs d p rs s. (carried_reclaim h m i zs d p.0 rs s, reclaim_falls h m i zs p.0 p.1 rs s)) k xs e b b' ys now last

    carried : Carried h (after_all (changes h) k xs) b' ys
    carried = standing.0

    code_there : is_code (block_at (after_all (changes h) k xs).script.blocks b') ≡ true
    unfolding rename_block redirect
    code_there = ap is_code (ap (block_at end.script.blocks) (sym carried.now) ∙ carried.renamed.same carried.setup carried.here ∙ ap (rename_block carried.f) carried.shop.link.link.eq)

    call_passes : call_refusal h (after_all (changes h) k xs).script b' ≡ 0
    unfolding shared_refusal
    call_passes = rw (carried.shop.sheet, carried.judged, lt-ltb b' (length end.script.blocks) (here_inside h end b' ys carried standing.1), code_there)

    -- 1 to 64 saves that fit the sheet are refused by no check, 22 among them
    pub walk_serves : (ss : List Save) → all (save_ok h) ss ≡ true → 1 ≤ length ss → length ss ≤ most_saves → walk_refusal h (after_all (changes h) k xs).script b' ss ≡ 0
    unfolding walk_checks
    walk_serves ss a l m = rw (call_passes, a, le-leb 1 (length ss) l, le-leb (length ss) most_saves m, paths_falls end.script.blocks b' standing.1)

    -- ---- how many blocks are read

    abbrev home : ℕ
    home = carried.shop.link.home

    abbrev top : ℕ
    top = root_of h carried.shop.link.home 0 ys

    -- the blocks of the shop's compile, under the numbers that they have now
    abbrev mine : List ℕ
    mine = map carried.f (numbers_from home (suc top - home))

    led_mine : (c : ℕ) → LedTo (after_all (changes h) k xs).script.blocks b' c → Memᴰ c mine
    led_mine c p =
        let a = carried in
        let t = a.shop in
        let o = led_back (Kept a.keep) a.f a.old.blocks end.script.blocks a.renamed a.setup a.here c (subst (λ (j : ℕ). LedTo end.script.blocks j c) (sym a.now) p) in
        let l = led_home h a.first a.old.blocks a.setup ys t.link (sheet_low h (Checks.passed (sheet_ok h) 0 t.sheet)) t.ok t.twenty o.from o.led in
        subst (λ (j : ℕ). Memᴰ j mine) o.now (in_map a.f o.from (numbers_from home (suc top - home)) (in_numbers home (suc top - home) o.from l.low (let u = l.high in omega (arith, l.low))))

    few_mine : length mine ≤ 141
    few_mine = omega (arith, length-map (numbers_from home (suc top - home)) carried.f, length_numbers home (suc top - home), last_of_is home (slots_blocks h home 0 ys), slots_few h home 0 ys, carried.shop.twenty)

    -- "at most 142 blocks are read"; refused, none are
    pub walk_few : (ss : List Save) → (walk_call h (after_all (changes h) k xs).script b' ss).read ≤ walk_blocks
    unfolding walk_call
    walk_few ss = by (walk_refusal h end.script b' ss) refl
      where
        served : walk_refusal h end.script b' ss ≡ 0 → blocks_entered end.script.blocks b' ss ≤ walk_blocks
        served e =
            let g = standing.1 in
            let l = here_inside h end b' ys carried g in
            let p = walk_passed _ _ end.script.blocks b' (length ss) e in
            let n = lanes_read end.script b' carried.judged l g ss p.some_saves in
            let r = read_past end.script.blocks b' g (inside end.script b' carried.judged l g) l 4095 (few end.script b' carried.judged l g) ss in
            let m = count_list (length end.script.blocks) (past end.script.blocks b' g (inside end.script b' carried.judged l g) l 4095 (few end.script b' carried.judged l g) ss) mine (λ c q. led_mine c (past_leads end.script.blocks b' g (inside end.script b' carried.judged l g) l 4095 (few end.script b' carried.judged l g) ss c q)) in
            omega (arith, n, r, m, few_mine)

        by : (n : ℕ) → walk_refusal h end.script b' ss ≡ n → (unless_refused n (map (λ s. run_call h end.script b' s lane_budget) ss) (blocks_entered end.script.blocks b' ss)).read ≤ walk_blocks
        by zero e = served e
        by (suc n) e = omega arith
