-- Blocks renumbered, with every link followed: the parser reads the same. Assumes nothing.
use Rattle.std.specs.Prelude.{◌≡◌, refl, Bool, List, [], ◌∷◌, map, ℕ, zero, suc, ◌<◌, length, get_or, set}
use Rattle.std.proofs.Common.{sym, ap, ◌∙◌, arith, get_or-set_same, get_or-set_other}
use Rattle.std.proofs.Math.Bool.{true, false}
use Rattle.std.proofs.Math.Option.{Option, none, some}
use Rattle.std.proofs.Math.Decide.{ℕ_discrete}
use Rattle.std.proofs.Math.ListN.{length-set}
use Rattle.std.proofs.lemmas.List.{length-replicate}
use Rattle.model.specs.Refusal.{parse_not_code}
use Rattle.model.specs.Expr.{Expr}
use Rattle.model.specs.Sheet.{Sheet}
use Rattle.model.specs.Script.{Command, return, goto, set_variable, set_other, if_else, end_if, other_command, Block, placeholder, code, data_block, block_at}
use Rattle.model.specs.Parse.{State, Scan, refuse, scan, scan_one, scanned, visited, passed_over, parse_block, parse, start}
use Rattle.reclaim_model.specs.Rename.{with_link, targets, links_of, Every, rename_link, rename_command, rename_block, IsLink}
use Rattle.model.proofs.Laws.Marks.{unmarked, unmarked_replicate}
use Rattle.model.proofs.Laws.Places.{all_one}
use Rattle.reclaim_model.proofs.Laws.RenamedRun.{Renamed, has_link, drop_link}
use Rattle.reclaim_model.proofs.Laws.Walked.{on_links, on_block, parse_skip, parse_step, went, visit_falls}

-- a scan reads no link
one_renamed : (f : ℕ → ℕ) (c : Option Expr) (x : Command) (k : Scan) → scan_one c (rename_command f x) k ≡ scan_one c x k
one_renamed f c return k = refl
one_renamed f c (goto j) k = refl
one_renamed f c (set_variable t e) k = refl
one_renamed f c (set_other e) k = refl
one_renamed f c (if_else e j) k = refl
one_renamed f c (end_if j) k = refl
one_renamed f c other_command k = refl

pub scan_renamed : (f : ℕ → ℕ) (c : Option Expr) (cs : List Command) (k : Scan) → scan c (map (rename_command f) cs) k ≡ scan c cs k
scan_renamed f c [] k = refl
scan_renamed f c (x ∷ cs) k = scan_renamed f c cs (scan_one c (rename_command f x) k) ∙ ap (scan c cs) (one_renamed f c x k)

-- each block that K names is a block, also under its new number, and no two have one number
pub record Numbered (K : ℕ → Type 0) (f : ℕ → ℕ) (n n' : ℕ) : Type 0 where
  pub inside : (k : ℕ) → K k → k < n
  pub inside' : (k : ℕ) → K k → f k < n'
  pub apart : (j k : ℕ) → K j → K k → f j ≡ f k → j ≡ k

module _ (K : ℕ → Type 0) (f : ℕ → ℕ) (n n' : ℕ) where
  -- the same so far, a block being marked where it was under its number before
  pub record Alike (st st' : State) : Type 0 where
    pub slots : st'.slots ≡ st.slots
    pub current : st'.current ≡ st.current
    pub answer : st'.answer ≡ st.answer
    pub marks : (k : ℕ) → K k → get_or st'.marks (f k) false ≡ get_or st.marks k false
    pub long : length st.marks ≡ n
    pub long' : length st'.marks ≡ n'

module _ (h : Sheet) (K : ℕ → Type 0) (f : ℕ → ℕ) (bs bs' : List Block) (r : Renamed K f bs bs') (u : Numbered K f (length bs) (length bs')) where
  abbrev Same : State → State → Type 0
  Same st st' = Alike K f (length bs) (length bs') st st'

  passed_alike : (b : ℕ) (st st' : State) → K b → Same st st' → passed_over st' (f b) ≡ passed_over st b
  passed_alike b st st' k a = rw (a.marks b k, a.answer)

  refused_alike : (m : ℕ) (st st' : State) → Same st st' → Same (refuse m st) (refuse m st')
  refused_alike m st st' a = record { slots = a.slots; current = a.current; answer = refl; marks = a.marks; long = a.long; long' = a.long' }

  marks_alike : (b k : ℕ) (ms ms' : List Bool) → K b → K k → length ms ≡ length bs → length ms' ≡ length bs' → get_or ms' (f k) false ≡ get_or ms k false
      → get_or (set ms' (f b) true) (f k) false ≡ get_or (set ms b true) k false
  marks_alike b k ms ms' p q l l' e = by (ℕ_discrete k b)
    where
      by : Dec (k ≡ b) → get_or (set ms' (f b) true) (f k) false ≡ get_or (set ms b true) k false
      by (yes d) = let i = u.inside b p in let i' = u.inside' b p in rw d (get_or-set_same ms' (f b) true false (omega arith) ∙ sym (get_or-set_same ms b true false (omega arith)))
      by (no d) = get_or-set_other ms' (f b) (f k) true false (λ w. d (u.apart k b q p w)) ∙ e ∙ sym (get_or-set_other ms b k true false d)

  scanned_alike : (c : Option Expr) (cs : List Command) (st st' : State) → Same st st' → scanned c (map (rename_command f) cs) st' ≡ scanned c cs st
  scanned_alike c cs st st' a = rw a.current (scan_renamed f c cs _)

  visited_alike : (b : ℕ) (c : Option Expr) (cs : List Command) (st st' : State) → K b → Same st st' → Same (visited h b c cs st) (visited h (f b) c (map (rename_command f) cs) st')
  unfolding visited
  visited_alike b c cs st st' k a = record {
    slots = rw (scanned_alike c cs st st' a, a.slots);
    current = rw (scanned_alike c cs st st' a);
    answer = rw (scanned_alike c cs st st' a, a.slots);
    marks = λ j q. marks_alike b j st.marks st'.marks k q a.long a.long' (a.marks j q);
    long = length-set st.marks b true ∙ a.long;
    long' = length-set st'.marks (f b) true ∙ a.long';
  }

  -- each from its own depth, both above what is left to mark
  abbrev Reads : ℕ → ℕ → Type 0
  Reads n m = (b : ℕ) (c : Option Expr) (st st' : State) → K b → Same st st' → unmarked st.marks < n → unmarked st'.marks < m → Same (parse_block h bs n b c st) (parse_block h bs' m (f b) c st')

  links_alike : (n m : ℕ) → Reads n m → (nx el : Option ℕ) → IsLink K nx → IsLink K el → (c d : Option Expr) (st st' : State) → Same st st' → unmarked st.marks < n → unmarked st'.marks < m
      → Same (on_links (parse_block h bs n) nx el c d st) (on_links (parse_block h bs' m) (rename_link f nx) (rename_link f el) c d st')
  links_alike n m ih none el p q c d st st' a l l' = a
  links_alike n m ih (some k) none p q c d st st' a l l' = ih k c st st' p a l l'
  links_alike n m ih (some k) (some j) p q c d st st' a l l' =
      let w = (went h bs n k c st a.long).fewer in
      let w' = (went h bs' m (f k) c st' a.long').fewer in
      ih j d (parse_block h bs n k c st) (parse_block h bs' m (f k) c st') q (ih k c st st' p a l l') (omega arith) (omega arith)

  block_alike : (n m : ℕ) → Reads n m → (b : ℕ) (c : Option Expr) (st st' : State) → K b → Same st st' → passed_over st b ≡ false → unmarked st.marks < suc n → unmarked st'.marks < suc m
      → (x : Block) → Every K (links_of x) → Same (on_block (parse_block h bs n) h b c st x) (on_block (parse_block h bs' m) h (f b) c st' (rename_block f x))
  unfolding links_of rename_block
  block_alike n m ih b c st st' k a z l l' placeholder e = refused_alike parse_not_code st st' a
  block_alike n m ih b c st st' k a z l l' data_block e = refused_alike parse_not_code st st' a
  block_alike n m ih b c st st' k a z l l' (code cs nx el) e =
      let v = visited_alike b c cs st st' k a in
      let i = u.inside b k in
      let i' = u.inside' b k in
      let al = a.long in
      let al' = a.long' in
      let z' : passed_over st' (f b) ≡ false = passed_alike b st st' k a ∙ z in
      rw (scanned_alike c cs st st' a)
      (links_alike n m ih nx el (has_link K nx (with_link el (targets cs)) e) (has_link K el (targets cs) (drop_link K nx (with_link el (targets cs)) e)) _ _ _ _ v
      (omega (arith, visit_falls h bs b c cs st (omega arith) z)) (omega (arith, visit_falls h bs' (f b) c (map (rename_command f) cs) st' (omega arith) z')))

  pub walk_renamed : (n m : ℕ) → Reads n m
  walk_renamed zero m b c st st' k a l l' = absurd (omega arith)
  walk_renamed (suc n) zero b c st st' k a l l' = absurd (omega arith)
  walk_renamed (suc n) (suc m) b c st st' k a l l' = by (walk_renamed n m) (passed_over st b) refl
    where
      by : Reads n m → (p : Bool) → passed_over st b ≡ p → Same (parse_block h bs (suc n) b c st) (parse_block h bs' (suc m) (f b) c st')
      by ih true z = rw (parse_skip h bs n b c st z, parse_skip h bs' m (f b) c st' (passed_alike b st st' k a ∙ z)) a
      by ih false z =
          rw (parse_step h bs n b c st z, parse_step h bs' m (f b) c st' (passed_alike b st st' k a ∙ z), r.same b k)
          (block_alike n m ih b c st st' k a z l l' (block_at bs b) (r.links b k))

  start_alike : Same (start bs) (start bs')
  start_alike = record {
    slots = refl;
    current = refl;
    answer = refl;
    marks = λ k q. all_one false (length bs') (f k) ∙ sym (all_one false (length bs) k);
    long = length-replicate (length bs) false;
    long' = length-replicate (length bs') false;
  }

  -- the same slots and the same refusal
  pub parse_renamed : (b : ℕ) → K b → ((parse h bs' (f b)).slots ≡ (parse h bs b).slots) × ((parse h bs' (f b)).answer ≡ (parse h bs b).answer)
  unfolding parse
  parse_renamed b k =
      let a = walk_renamed (suc (length bs)) (suc (length bs')) b none (start bs) (start bs') k start_alike
      (omega (arith, unmarked_replicate (length bs))) (omega (arith, unmarked_replicate (length bs'))) in
      (a.slots, a.answer)
