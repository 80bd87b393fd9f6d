-- Entries of the other sign. Assumes nothing.
use Rattle.std.specs.Prelude.{◌≡◌, refl, Bool, true, false, not, List, ℕ, ◌+◌, ◌-◌, ◌/◌, ◌%◌, eqb, get_or}
use Rattle.std.proofs.Common.{sym, ap, arith, eq-eqb, ne_eqb, eqb-true}
use Rattle.std.proofs.Math.Option.{Option, none, some}
use Rattle.std.proofs.lemmas.Bool.{eqb-false}
use Rattle.model.specs.Requirement.{Requirement, negate_req}
use Rattle.model.specs.Parse.{map_req, signed}
use Rattle.model.proofs.Laws.Normal.{neg_neg}
use Rattle.shop_codes.specs.Codes.{requirement_of}
use Rattle.parse_keys.specs.Entries.{turned, entry_req, Valid}

pub turn_even : (k : ℕ) → k % 2 ≡ 0 → turned true k ≡ k + 1
unfolding turned
turn_even k e = rw (eq-eqb (k % 2) 0 e)

pub turn_odd : (k : ℕ) → k % 2 ≡ 1 → turned true k ≡ k - 1
unfolding turned
turn_odd k e = rw (ne_eqb (k % 2) 0 (λ z. omega arith))

pub turn_plain : (k : ℕ) → turned false k ≡ k
unfolding turned
turn_plain k = refl

pub by_parity : {Q : Type 0} (k : ℕ) → (k % 2 ≡ 0 → Q) → (k % 2 ≡ 1 → Q) → Q
by_parity {Q} k f g = by (eqb (k % 2) 0) refl
  where
    by : (t : Bool) → eqb (k % 2) 0 ≡ t → Q
    by true e = f (eqb-true (k % 2) 0 e)
    by false e = g (let n = eqb-false (k % 2) 0 e in omega arith)

pub req_even : (ks : List ℕ) (k : ℕ) → k % 2 ≡ 0 → entry_req ks k ≡ requirement_of (get_or ks (k / 2) 0)
unfolding entry_req
req_even ks k e = rw (ne_eqb (k % 2) 1 (λ z. omega arith))

pub req_odd : (ks : List ℕ) (k : ℕ) → k % 2 ≡ 1 → entry_req ks k ≡ negate_req (requirement_of (get_or ks (k / 2) 0))
unfolding entry_req
req_odd ks k e = rw (eq-eqb (k % 2) 1 e)

pub turn_req : (ks : List ℕ) (k : ℕ) → entry_req ks (turned true k) ≡ negate_req (entry_req ks k)
turn_req ks k = by_parity k
    (λ e. let h : (k + 1) / 2 ≡ k / 2 = omega arith in rw (turn_even k e, req_odd ks (k + 1) (omega arith), req_even ks k e, h))
    (λ e. let h : (k - 1) / 2 ≡ k / 2 = omega arith in rw (turn_odd k e, req_even ks (k - 1) (omega arith), req_odd ks k e, h) (sym (neg_neg (requirement_of (get_or ks (k / 2) 0)))))

pub turn_valid : (m k : ℕ) (n : Bool) → Valid m k → Valid m (turned n k)
turn_valid m k false v = rw (turn_plain k) v
turn_valid m k true v = by_parity k
    (λ e. rw (turn_even k e) (record { low = omega (arith, v.low); high = omega (arith, v.high) }))
    (λ e. rw (turn_odd k e) (record { low = omega (arith, v.low); high = omega (arith, v.high) }))

pub signs_meet : (n : Bool) (o : Option Requirement) → map_req (signed n) (map_req negate_req o) ≡ map_req (signed (not n)) o
signs_meet n none = refl
signs_meet true (some r) = ap some (neg_neg r)
signs_meet false (some r) = refl
