-- What the answers of the reader say: what was read and the place after it, or a refusal. Of a refusal nothing is said of the array. Assumes nothing: these are definitions.
use Rattle.std.specs.Prelude.{◌≡◌, Bool, true, not, ◌&&◌, List, map, ℕ, ◌≤◌, ltb, leb, eqb, length, take, drop, Result, Ok, Err}
use Rattle.std.proofs.Math.Option.{Option}
use Rattle.model.specs.Limits.{most_items, wide}
use Rattle.model.specs.Refusals.{refusal_number}
use Rattle.model.specs.declared.Refusal.{Refusal}
use Rattle.model.specs.Reading.{Answer, got, refused, onward, number}
use Rattle.model.specs.Sheet
use Rattle.model.specs.Printer.{must, atc_entry, read_atcs, read_timers, read_sheet}
use Rattle.slots_sheet.specs.Outcome.{head_of, read_head}
use Rattle.slots_sheet.specs.declared.Timers.{Timers}
use Rattle.slots_sheet.specs.declared.Items.{Items}
use Rattle.slots_sheet.specs.declared.Heading.{Heading}

-- ---- numbers, each judged as read

abbrev pub within : ℕ → ℕ → ℕ → Bool
within a b k = leb a k && leb k b

abbrev pub timer : ℕ → ℕ → ℕ → ℕ → Bool
timer n a b k = ltb k n && (not (eqb k a) && not (eqb k b))

-- a number that a test has to pass
abbrev pub judged : (ℕ → Bool) → List ℕ → Answer ℕ
judged ok s = onward (number wide s) (λ k r. must (ok k) (got k r))

pub record Passed (s : List ℕ) (at : ℕ) (ok : ℕ → Bool) (v p : ℕ) : Type 0 where
  pub read : number wide (drop at s) ≡ got v (drop p s)
  pub good : ok v ≡ true
  pub place : p ≤ length s

abbrev pub ToldEntry : List ℕ → ℕ → (ℕ → Bool) → Result (ℕ × ℕ) Refusal → Type 0
ToldEntry s at ok (Ok x) = Passed s at ok x.0 x.1
ToldEntry s at ok (Err e) = judged ok (drop at s) ≡ refused (refusal_number e)

pub record SetupRead (s : List ℕ) (at v p : ℕ) : Type 0 where
  pub read : number wide (drop at s) ≡ got v (drop p s)
  pub place : p ≤ length s

abbrev pub ToldSetup : List ℕ → ℕ → Result (ℕ × ℕ) Refusal → Type 0
ToldSetup s at (Ok x) = SetupRead s at x.0 x.1
ToldSetup s at (Err e) = number wide (drop at s) ≡ refused (refusal_number e)

-- ---- the sheet

-- the atcs of n items, in the first places of an array
pub record AtcsRead (s : List ℕ) (at n m : ℕ) (ks : List ℕ) (p : ℕ) (ks' : List ℕ) : Type 0 where
  pub read : read_atcs n m (drop at s) ≡ got (map atc_entry (take n ks')) (drop p s)
  pub rest : drop n ks' ≡ drop n ks
  pub place : p ≤ length s
  pub size : n ≤ length ks'

abbrev pub ToldAtcs : List ℕ → ℕ → ℕ → ℕ → List ℕ → Result ℕ Refusal → List ℕ → Type 0
ToldAtcs s at n m ks (Ok p) ks' = AtcsRead s at n m ks p ks'
ToldAtcs s at n m ks (Err e) ks' = read_atcs n m (drop at s) ≡ refused (refusal_number e)

-- only the timers of the sheet are left to read
pub record ItemsRead (s ks : List ℕ) (r : Items) (ks' : List ℕ) : Type 0 where
  pub read : read_sheet s ≡ read_timers (map atc_entry (take r.items ks')) r.atcs (drop r.at s)
  pub rest : drop r.items ks' ≡ drop r.items ks
  pub place : r.at ≤ length s
  pub size : r.items ≤ length ks'
  pub few : r.items ≤ most_items

abbrev pub ToldItems : List ℕ → List ℕ → Result Items Refusal → List ℕ → Type 0
ToldItems s ks (Ok r) ks' = ItemsRead s ks r ks'
ToldItems s ks (Err e) ks' = read_sheet s ≡ refused (refusal_number e)

abbrev pub timed : List (Option ℕ) → ℕ → Timers → Sheet.Sheet
timed xs m r = record { atc_of = xs; atc_count = m; timer5 = r.timer5; timer10 = r.timer10; timer15 = r.timer15 }

-- whatever the atcs of the n items are
pub record TimersRead (s : List ℕ) (at n : ℕ) (r : Timers) : Type 0 where
  pub read : (xs : List (Option ℕ)) (m : ℕ) → length xs ≡ n → read_timers xs m (drop at s) ≡ got (timed xs m r) (drop r.at s)
  pub place : r.at ≤ length s

abbrev pub ToldTimers : List ℕ → ℕ → ℕ → Result Timers Refusal → Type 0
ToldTimers s at n (Ok r) = TimersRead s at n r
ToldTimers s at n (Err e) = (xs : List (Option ℕ)) (m : ℕ) → length xs ≡ n → read_timers xs m (drop at s) ≡ refused (refusal_number e)

-- ---- the whole

pub record HeadRead (s ks : List ℕ) (r : Heading) (ks' : List ℕ) : Type 0 where
  pub read : read_head s ≡ got (head_of r ks') (drop r.at s)
  pub rest : drop r.items ks' ≡ drop r.items ks
  pub place : r.at ≤ length s
  pub size : r.items ≤ length ks'
  pub few : r.items ≤ most_items

abbrev pub ToldHead : List ℕ → List ℕ → Result Heading Refusal → List ℕ → Type 0
ToldHead s ks (Ok r) ks' = HeadRead s ks r ks'
ToldHead s ks (Err e) ks' = read_head s ≡ refused (refusal_number e)
