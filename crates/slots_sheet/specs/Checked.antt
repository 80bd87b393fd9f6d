-- A sheet that was read passes check 1: each of its numbers was judged as read (01, Refusals 1). Assumes nothing.
use Rattle.std.specs.Prelude.{◌≡◌, refl, Bool, true, false, not, ◌&&◌, List, ℕ, zero, suc, ltb, leb, eqb, length}
use Rattle.std.proofs.Common.{ap}
use Rattle.std.proofs.Math.Option.{Option}
use Rattle.model.specs.Limits.{fewest_items, most_items, most_atcs, wide}
use Rattle.model.specs.Reading.{Answer, got, number}
use Rattle.model.proofs.Laws.Reading.{refused≢got, split, got_value}
use Rattle.model.specs.Sheet
use Rattle.model.specs.Sheet.{atc_known, all, timers_ok, sheet_ok}
use Rattle.model.specs.Printer.{must, atc_entry, read_atcs, read_timers, read_sheet}

-- what a test let through
pub let_through : {A : Type 0} (b : Bool) (a : Answer A) {x : A} {r : List ℕ} → must b a ≡ got x r → (b ≡ true) × (a ≡ got x r)
let_through true a e = (refl, e)
let_through false a e = absurd (refused≢got e)

entry_known : (m k : ℕ) → leb k m ≡ true → atc_known m (atc_entry k) ≡ true
entry_known m zero h = refl
entry_known m (suc a) h = h

atcs_known : (n m : ℕ) (s : List ℕ) {xs : List (Option ℕ)} {r : List ℕ} → read_atcs n m s ≡ got xs r → (length xs ≡ n) × (all (atc_known m) xs ≡ true)
unfolding read_atcs
atcs_known zero m s e = let q = got_value e in rw (← q) (refl, refl)
atcs_known (suc n) m s e =
    let u = split (number wide s) _ e in
    let t = let_through (leb u.value m) _ u.then in
    let v = split (read_atcs n m u.rest) _ t.1 in
    let w = atcs_known n m u.rest v.first in
    let q = got_value v.then in
    rw (← q) (ap suc {x = length v.value} w.0, rw (entry_known m u.value t.0, w.1))

timed_ok : (xs : List (Option ℕ)) (m a b c : ℕ) → ltb a (length xs) ≡ true → ltb b (length xs) && not (eqb b a) ≡ true → ltb c (length xs) && (not (eqb c a) && not (eqb c b)) ≡ true
    → timers_ok (record { atc_of = xs; atc_count = m; timer5 = a; timer10 = b; timer15 = c }) ≡ true
timed_ok xs m a b c p q r = rw (p, q, r)

timers_known : (xs : List (Option ℕ)) (m : ℕ) (s : List ℕ) {h : Sheet.Sheet} {r : List ℕ} → read_timers xs m s ≡ got h r → (h.atc_of ≡ xs) × (h.atc_count ≡ m) × (timers_ok h ≡ true)
unfolding read_timers
timers_known xs m s e =
    let u = split (number wide s) _ e in
    let a = let_through (ltb u.value (length xs)) _ u.then in
    let v = split (number wide u.rest) _ a.1 in
    let b = let_through (ltb v.value (length xs) && not (eqb v.value u.value)) _ v.then in
    let w = split (number wide v.rest) _ b.1 in
    let c = let_through (ltb w.value (length xs) && (not (eqb w.value u.value) && not (eqb w.value v.value))) (got (record { atc_of = xs; atc_count = m; timer5 = u.value; timer10 = v.value; timer15 = w.value }) w.rest) w.then in
    let q = got_value c.1 in
    rw (← q) (refl, refl, timed_ok xs m u.value v.value w.value a.0 b.0 c.0)

parts_ok_lem : (h : Sheet.Sheet) (n m : ℕ) (xs : List (Option ℕ)) → h.atc_of ≡ xs → h.atc_count ≡ m → length xs ≡ n
    → leb fewest_items n && leb n most_items ≡ true → leb m most_atcs ≡ true → all (atc_known m) xs ≡ true → timers_ok h ≡ true → sheet_ok h ≡ true
unfolding sheet_ok
parts_ok_lem h n m xs p q l a b c d =
    let f : leb fewest_items (length h.atc_of) && leb (length h.atc_of) most_items ≡ true = rw (p, l) a in
    let g : leb h.atc_count most_atcs ≡ true = rw q b in
    let k : all (atc_known h.atc_count) h.atc_of ≡ true = rw (p, q) c in
    rw (f, g, k, d)

pub read_sheet_ok : (s : List ℕ) {h : Sheet.Sheet} {r : List ℕ} → read_sheet s ≡ got h r → sheet_ok h ≡ true
unfolding read_sheet
read_sheet_ok s {h} e =
    let u = split (number wide s) _ e in
    let a = let_through (leb fewest_items u.value && leb u.value most_items) _ u.then in
    let v = split (number wide u.rest) _ a.1 in
    let b = let_through (leb v.value most_atcs) _ v.then in
    let w = split (read_atcs u.value v.value v.rest) _ b.1 in
    let k = atcs_known u.value v.value v.rest w.first in
    let t = timers_known w.value v.value w.rest w.then in
    parts_ok_lem h u.value v.value w.value t.0 t.1 k.0 a.0 b.0 k.1 t.2
