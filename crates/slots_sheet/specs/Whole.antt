-- The steps that read the sheet and the setup number, and what the promise says to a caller. Assumes nothing.
use Rattle.std.specs.Result.{is_err}
use Rattle.std.specs.Prelude.{◌≡◌, refl, true, false, IfOk, List, map, ℕ, ◌≤◌, ◌<◌, leb, length, take, drop, replicate, Result, Ok, Err}
use Rattle.std.proofs.Math.Path.{ap, sym}
use Rattle.std.proofs.Common.{◌∙◌, arith, length-take-le}
use Rattle.std.proofs.Math.Option.{Option}
use Rattle.std.proofs.lemmas.List.{length-map}
use Rattle.model.specs.Limits.{fewest_items, most_items, most_atcs, wide}
use Rattle.model.specs.Reading.{Answer, got, refused, onward, number}
use Rattle.model.proofs.Laws.Reading.{number_low}
use Rattle.model.specs.Sheet
use Rattle.model.specs.Printer.{must, atc_entry, read_atcs, read_timers, read_sheet, read_input, Input}
use Rattle.model.specs.Image.{read_image}
use Rattle.shop.specs.Shapes.{sheet_of}
use Rattle.model.specs.Refusals.{refusal_number}
use Rattle.model.specs.declared.Refusal.{Refusal}
use Rattle.slots_sheet.specs.Outcome.{Head, head_of, read_head, held, nothing, into, outcome, read_into, Within}
use Rattle.slots_sheet.specs.Told.{within, judged, Passed, SetupRead, AtcsRead, ToldAtcs, ItemsRead, ToldItems, timed, TimersRead, ToldTimers, HeadRead, ToldHead}
use Rattle.slots_sheet.specs.Steps.{within_most, passed_on, judged_on, from_zero}
use Rattle.slots_sheet.specs.declared.Items.{Items}
use Rattle.slots_sheet.specs.declared.Timers.{Timers}
use Rattle.slots_sheet.specs.declared.Heading.{Heading}

-- ---- the setup number

pub setup_low : (s : List ℕ) (at v p : ℕ) → SetupRead s at v p → v < wide
setup_low s at v p u = number_low wide (drop at s) v (drop p s) u.read

-- ---- items and atcs

-- what follows the two counts: the atcs of n items, and the timers
abbrev on_items : ℕ → ℕ → List ℕ → Answer Sheet.Sheet
on_items n m t = onward (read_atcs n m t) (λ xs u. read_timers xs m u)

module _ (s : List ℕ) where
  pub items_no : (e : ℕ) → judged (within fewest_items most_items) (drop 0 s) ≡ refused e → read_sheet s ≡ refused e
  unfolding read_sheet
  items_no e h = judged_on (within fewest_items most_items) (within fewest_items most_items) (λ k. refl) (λ n r. onward (number wide r) (λ m t. must (leb m most_atcs) (on_items n m t))) (drop 0 s) e h

  module _ (n p : ℕ) (x : Passed s 0 (within fewest_items most_items) n p) where
    at_items : read_sheet s ≡ onward (number wide (drop p s)) (λ m t. must (leb m most_atcs) (on_items n m t))
    unfolding read_sheet
    at_items = passed_on (within fewest_items most_items) (within fewest_items most_items) (λ k. refl) (λ n r. onward (number wide r) (λ m t. must (leb m most_atcs) (on_items n m t))) x

    pub atcs_count_no : (e : ℕ) → judged (within 0 most_atcs) (drop p s) ≡ refused e → read_sheet s ≡ refused e
    atcs_count_no e h = at_items ∙ judged_on (within 0 most_atcs) (λ k. leb k most_atcs) (from_zero most_atcs) (on_items n) (drop p s) e h

    module _ (m q : ℕ) (y : Passed s p (within 0 most_atcs) m q) where
      at_atcs : read_sheet s ≡ on_items n m (drop q s)
      at_atcs = at_items ∙ passed_on (within 0 most_atcs) (λ k. leb k most_atcs) (from_zero most_atcs) (on_items n) y

      pub atcs_refused : (e : ℕ) → read_atcs n m (drop q s) ≡ refused e → read_sheet s ≡ refused e
      atcs_refused e t = at_atcs ∙ rw t

      pub items_got : (ks : List ℕ) (p' : ℕ) (ks' : List ℕ) → AtcsRead s q n m ks p' ks' → ItemsRead s ks (record { items = n; atcs = m; at = p' }) ks'
      items_got ks p' ks' u = record { read = at_atcs ∙ rw u.read; rest = u.rest; place = u.place; size = u.size; few = within_most fewest_items most_items n x.good }

-- ---- the whole

-- as many items as are lent
many : (n : ℕ) (ks : List ℕ) → n ≤ length ks → length (map atc_entry (take n ks)) ≡ n
many n ks h = length-map (take n ks) atc_entry ∙ length-take-le n ks h

module _ (s ks : List ℕ) where
  pub head_no : (e : ℕ) → read_sheet s ≡ refused e → read_head s ≡ refused e
  unfolding read_head
  head_no e h = rw h

  module _ (i : Items) (ks' : List ℕ) (u : ItemsRead s ks i ks') where
    pub timers_no : (e : ℕ) → ((xs : List (Option ℕ)) (m : ℕ) → length xs ≡ i.items → read_timers xs m (drop i.at s) ≡ refused e) → read_head s ≡ refused e
    timers_no e h = head_no e (u.read ∙ h _ i.atcs (many i.items ks' u.size))

    module _ (t : Timers) (v : TimersRead s i.at i.items t) where
      sheet_is : read_sheet s ≡ got (timed (map atc_entry (take i.items ks')) i.atcs t) (drop t.at s)
      sheet_is = u.read ∙ v.read _ i.atcs (many i.items ks' u.size)

      pub setup_no : (e : ℕ) → number wide (drop t.at s) ≡ refused e → read_head s ≡ refused e
      unfolding read_head
      setup_no e h = rw (sheet_is, h)

      pub head_got : (b p : ℕ) → SetupRead s t.at b p
          → HeadRead s ks (record { items = i.items; sheet = record { atcs = i.atcs; timer5 = record { 0 = t.timer5 }; timer10 = record { 0 = t.timer10 }; timer15 = record { 0 = t.timer15 } }; setup = b; at = p }) ks'
      unfolding read_head sheet_of
      head_got b p w = record { read = rw (sheet_is, w.read); rest = u.rest; place = w.place; size = u.size; few = u.few }

-- ---- what an answer says, by its case

module _ (s ks : List ℕ) (n m q : ℕ) (ks' : List ℕ) {r : Result ℕ Refusal} (t : ToldAtcs s q n m ks r ks') where
  pub atcs_got : {p : ℕ} → r ≡ Ok p → AtcsRead s q n m ks p ks'
  atcs_got w = rw w at t

  pub atcs_not : {e : Refusal} → r ≡ Err e → read_atcs n m (drop q s) ≡ refused (refusal_number e)
  atcs_not w = rw w at t

module _ (s ks ks' : List ℕ) {r : Result Items Refusal} (t : ToldItems s ks r ks') where
  pub items_are : {i : Items} → r ≡ Ok i → ItemsRead s ks i ks'
  items_are w = rw w at t

  pub items_not : {e : Refusal} → r ≡ Err e → read_sheet s ≡ refused (refusal_number e)
  items_not w = rw w at t

module _ (s : List ℕ) (at n : ℕ) {r : Result Timers Refusal} (t : ToldTimers s at n r) where
  pub timers_are : {i : Timers} → r ≡ Ok i → TimersRead s at n i
  timers_are w = rw w at t

  pub timers_not : {e : Refusal} → r ≡ Err e → (xs : List (Option ℕ)) (m : ℕ) → length xs ≡ n → read_timers xs m (drop at s) ≡ refused (refusal_number e)
  timers_not w = rw w at t

-- ---- the promise

module _ (s ks : List ℕ) where
  pub outcome_held : (r : Heading) (ks' : List ℕ) → HeadRead s ks r ks' → outcome s (Ok r) ks' ≡ read_into s ks
  unfolding outcome read_into sheet_of
  outcome_held r ks' u = rw (u.read, many r.items ks' u.size, u.rest)

  pub held_within : (r : Heading) (ks' : List ℕ) → HeadRead s ks r ks' → Within s r ks'
  held_within r ks' u = record { place = u.place; few = u.few; lent = u.size }

  pub outcome_nothing : (e : Refusal) → read_head s ≡ refused (refusal_number e) → outcome s (Err e) (replicate most_items 0) ≡ read_into s ks
  unfolding outcome read_into
  outcome_nothing e h = rw h

  pub outcome_kept : (r : Result Heading Refusal) (ks' : List ℕ) → ToldHead s ks r ks' → is_err r ≡ false → outcome s r ks' ≡ read_into s ks
  outcome_kept (Ok h) ks' t e = outcome_held h ks' t
  outcome_kept (Err x) ks' t e = cc

  pub outcome_cleared : (r : Result Heading Refusal) (ks' : List ℕ) → ToldHead s ks r ks' → is_err r ≡ true → outcome s r (replicate most_items 0) ≡ read_into s ks
  outcome_cleared (Ok h) ks' t e = cc
  outcome_cleared (Err x) ks' t e = outcome_nothing x t

  pub kept_within : (r : Result Heading Refusal) (ks' : List ℕ) → ToldHead s ks r ks' → IfOk r (λ h. Within s h ks')
  kept_within (Ok h) ks' t = held_within h ks' t
  kept_within (Err x) ks' t = tt

-- .. and what it says to a caller

held_only : (ks : List ℕ) (a : Answer Head) (h : Head) (t past : List ℕ) → held h t past ≡ into ks a → a ≡ got h t
held_only ks (got x u) h t past p = cc
held_only ks (refused e) h t past p = let z : ◌≡◌ {A = ℕ} 0 1 = cc in absurd (omega arith)

nothing_only : (ks : List ℕ) (a : Answer Head) (e : ℕ) (l : List ℕ) → nothing e l ≡ into ks a → a ≡ refused e
nothing_only ks (got x u) e l p = let z : ◌≡◌ {A = ℕ} 0 1 = cc in absurd (omega arith)
nothing_only ks (refused n) e l p = let q : e ≡ n = cc in ap refused (sym q)

module _ (s ks ks' : List ℕ) where
  pub was_read : (r : Heading) → outcome s (Ok r) ks' ≡ read_into s ks → read_head s ≡ got (head_of r ks') (drop r.at s)
  unfolding outcome read_into
  was_read r p = held_only ks (read_head s) (head_of r ks') (drop r.at s) (drop r.items ks') p

  pub was_refused : (e : Refusal) → outcome s (Err e) ks' ≡ read_into s ks → read_head s ≡ refused (refusal_number e)
  unfolding outcome read_into
  was_refused e p = nothing_only ks (read_head s) (refusal_number e) ks' p

-- ---- the whole input: what stands before the image, then the image

abbrev pub with_blocks : Head → List ℕ → Answer Input
with_blocks h r = onward (read_image r) (λ bs u. got (record { sheet = h.sheet; setup = h.setup; blocks = bs }) u)

after_setup : (h : Sheet.Sheet) (a : Answer ℕ)
    → onward a (λ b t. with_blocks (record { sheet = h; setup = b }) t) ≡ onward (onward a (λ b t. got (record { sheet = h; setup = b }) t)) with_blocks
after_setup h (got b t) = refl
after_setup h (refused e) = refl

after_sheet : (a : Answer Sheet.Sheet)
    → onward a (λ h r. onward (number wide r) (λ b t. with_blocks (record { sheet = h; setup = b }) t)) ≡ onward (onward a (λ h r. onward (number wide r) (λ b t. got (record { sheet = h; setup = b }) t))) with_blocks
after_sheet (got h r) = after_setup h (number wide r)
after_sheet (refused e) = refl

pub read_input_lem : (s : List ℕ) → read_input s ≡ onward (read_head s) with_blocks
unfolding read_input read_head
read_input_lem s = after_sheet (read_sheet s)
