-- parse_block as a walk of blocks with marks, and that its depth bound is enough (01, Parser). Assumes nothing.
use Rattle.std.specs.Prelude.{◌≡◌, Bool, false, not, ◌||◌, List, [], ◌∷◌, eqb, length, get_or, set}
use Rattle.std.proofs.Math.Path.{refl, sym}
use Rattle.std.proofs.Common.{ap, ◌∙◌, ne_eqb}
use Rattle.std.proofs.Math.Bool.{true}
use Rattle.std.proofs.Math.Option.{Option, none, some}
use Prim.Native.Nat.{ℕ, zero, suc, ◌+◌, ◌-◌, ◌<◌}
use native.Mathlib.Omega.{arith}
use Rattle.std.proofs.Math.ListN.{length-set}
use Rattle.model.specs.Refusal.{parse_not_code}
use Rattle.model.specs.Expr.{Expr}
use Rattle.model.specs.Sheet.{Sheet}
use Rattle.model.specs.Script.{Block, placeholder, code, data_block, block_at}
use Rattle.model.specs.Parse.{State, refuse, scanned, visited, passed_over, parse_block, start, parse}
use Rattle.reach.specs.Dfs.{Entry, entry, Ways, nowhere, to, to_both, ways_by, Stepped, walk_a, walks_a, pushed, Goes, enough_more, walks_skip, walks_visit, walks_off}
use Rattle.model.proofs.Laws.Marks.{unmarked, unmarked_set, unmarked_most}
use Rattle.model.proofs.Laws.Checks.{or_none}
use Rattle.model.proofs.Laws.AllCode.{code_there}

-- one block: 10 where it is not code
unfoldable pub step_by : Sheet → ℕ → Option Expr → State → Block → Stepped (Option Expr) State
step_by h b c st placeholder = record { state = refuse parse_not_code st; ways = nowhere }
step_by h b c st data_block = record { state = refuse parse_not_code st; ways = nowhere }
step_by h b c st (code cs nx el) = record { state = visited h b c cs st; ways = ways_by nx el (scanned c cs st).on_next (scanned c cs st).on_else }

unfoldable pub step : Sheet → List Block → Entry (Option Expr) → State → Stepped (Option Expr) State
step h bs e st = step_by h e.block e.under st (block_at bs e.block)

-- "each block once", and none after a refusal
abbrev pub skip : ℕ → State → Bool
skip b st = passed_over st b

abbrev pub walk : Sheet → List Block → ℕ → Entry (Option Expr) → State → State
walk h bs f e st = walk_a (Option Expr) State skip (step h bs) f e st

-- a stack of entries, the top first, each to the depth that parse allows
abbrev pub walks : Sheet → List Block → List (Entry (Option Expr)) → State → State
walks h bs es st = walks_a (Option Expr) State skip (step h bs) (suc (length bs)) es st

pub parse_walks : (h : Sheet) (bs : List Block) (f b : ℕ) (c : Option Expr) (st : State) → parse_block h bs f b c st ≡ walk h bs f (entry b c) st
unfolding parse_block walk_a step step_by
parse_walks h bs zero b c st = refl
parse_walks h bs (suc f) b c st = by (λ k d t. parse_walks h bs f k d t) (passed_over st b) refl (block_at bs b) refl
  where
    by : ((k : ℕ) (d : Option Expr) (t : State) → parse_block h bs f k d t ≡ walk h bs f (entry k d) t) → (p : Bool) → passed_over st b ≡ p
        → (x : Block) → block_at bs b ≡ x → parse_block h bs (suc f) b c st ≡ walk h bs (suc f) (entry b c) st
    by ih true z x q = rw (z, parse_block)
    by ih false z placeholder q = rw (z, q, parse_block)
    by ih false z data_block q = rw (z, q, parse_block)
    by ih false z (code cs none el) q = rw (z, q, parse_block)
    by ih false z (code cs (some k) none) q = rw (z, q, parse_block) (ih k (scanned c cs st).on_next (visited h b c cs st))
    by ih false z (code cs (some k) (some j)) q =
        rw (z, q, parse_block)
        (ap (λ t. parse_block h bs f j (scanned c cs st).on_else t) (ih k (scanned c cs st).on_next (visited h b c cs st)) ∙ ih j (scanned c cs st).on_else _)

-- ---- the measure: how many blocks are not marked. A step that goes on was at a block of the script, and marks it

abbrev pub Good : List Block → State → Type 0
Good bs st = length st.marks ≡ length bs

abbrev pub left : State → ℕ
left st = unmarked st.marks

goes : {C : Type 0} (w : Ways C) (a b : ℕ) → a < b → Goes w a b
goes nowhere a b h = omega arith
goes (to k) a b h = h
goes (to_both k j) a b h = h

module _ (h : Sheet) (bs : List Block) where
  pub keeps : (e : Entry (Option Expr)) (st : State) → Good bs st → Good bs (step h bs e st).state
  unfolding step step_by visited
  keeps e st o = by (block_at bs e.block)
    where
      by : (x : Block) → Good bs (step_by h e.block e.under st x).state
      by placeholder = o
      by data_block = o
      by (code cs nx el) = length-set st.marks e.block true ∙ o

  pub falls : (e : Entry (Option Expr)) (st : State) → Good bs st → skip e.block st ≡ false → Goes (step h bs e st).ways (left (step h bs e st).state) (left st)
  unfolding step step_by visited
  falls e st o z = by (block_at bs e.block) refl
    where
      by : (x : Block) → block_at bs e.block ≡ x → Goes (step_by h e.block e.under st x).ways (left (step_by h e.block e.under st x).state) (left st)
      by placeholder q = omega arith
      by data_block q = omega arith
      by (code cs nx el) q =
          let l = code_there bs e.block cs nx el q in
          let u : suc (unmarked (set st.marks e.block true)) ≡ unmarked st.marks = unmarked_set st.marks e.block (omega arith) (or_none _ _ z) in
          goes (ways_by nx el (scanned e.under cs st).on_next (scanned e.under cs st).on_else) (unmarked (set st.marks e.block true)) (unmarked st.marks) (omega arith)

  -- each depth above the number of blocks gives the same
  pub depth_enough : (f b : ℕ) (c : Option Expr) (st : State) → Good bs st → length bs < f → parse_block h bs f b c st ≡ parse_block h bs (suc (length bs)) b c st
  depth_enough f b c st o l =
      let m = unmarked_most st.marks in
      let e : f ≡ (f - suc (length bs)) + suc (length bs) = omega arith in
      parse_walks h bs f b c st
      ∙ ap (λ n. walk h bs n (entry b c) st) e
      ∙ enough_more (Option Expr) State skip (step h bs) left (Good bs) keeps falls (f - suc (length bs)) (suc (length bs)) (entry b c) st o (omega arith)
      ∙ sym (parse_walks h bs (suc (length bs)) b c st)

  -- ---- a stack: an entry that is marked, one that is visited, and the rest once there is a refusal

  pub stack_skip : (e : Entry (Option Expr)) (es : List (Entry (Option Expr))) (st : State) → skip e.block st ≡ true → walks h bs (e ∷ es) st ≡ walks h bs es st
  stack_skip e es st z = walks_skip (Option Expr) State skip (step h bs) left (Good bs) keeps falls (length bs) e es st z

  pub stack_visit : (e : Entry (Option Expr)) (es : List (Entry (Option Expr))) (st : State) → Good bs st → skip e.block st ≡ false
      → walks h bs (e ∷ es) st ≡ walks h bs (pushed (step h bs e st).ways es) (step h bs e st).state
  stack_visit e es st o z =
      let m = unmarked_most st.marks in
      walks_visit (Option Expr) State skip (step h bs) left (Good bs) keeps falls (length bs) e es st o z (omega arith)

  pub stack_off : (es : List (Entry (Option Expr))) (st : State) → (st.answer ≡ 0 → ⊥) → walks h bs es st ≡ st
  stack_off es st n = walks_off (Option Expr) State skip (step h bs) left (Good bs) keeps falls (length bs) es st (λ b. by (get_or st.marks b false) (eqb st.answer 0) (ne_eqb st.answer 0 n))
    where
      by : (m z : Bool) → z ≡ false → m || not z ≡ true
      by true z e = refl
      by false z e = rw e

  pub stack_one : (b : ℕ) → walks h bs (entry b none ∷ []) (start bs) ≡ parse h bs b
  unfolding walks_a parse
  stack_one b = sym (parse_walks h bs (suc (length bs)) b none (start bs))
