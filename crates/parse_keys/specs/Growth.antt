-- What stays as keys are added, and the tables with which a walk begins. Assumes nothing.
use Rattle.std.specs.Prelude.{◌≡◌, refl, List, ℕ, ◌*◌, ◌/◌, ◌≤◌, ◌<◌, replicate}
use Rattle.std.proofs.Common.{◌∙◌, arith}
use Rattle.std.proofs.lemmas.List.{length-replicate}
use Rattle.model.specs.Requirement.{Requirement}
use Rattle.model.proofs.Laws.Places.{all_one}
use Rattle.parse_keys.specs.Entries.{entry_req, Valid, Stand}
use Rattle.parse_keys.specs.Tables.{Tables, Grown}

pub grown_same : (ks : List ℕ) (m : ℕ) → Grown ks m ks m
grown_same ks m = record { up = omega arith; long = refl; same = λ j l. refl }

pub grown_on : (ks : List ℕ) (m : ℕ) (ks1 : List ℕ) (n : ℕ) (ks2 : List ℕ) (p : ℕ) → Grown ks m ks1 n → Grown ks1 n ks2 p → Grown ks m ks2 p
grown_on ks m ks1 n ks2 p x y = record {
  up = omega (arith, x.up, y.up);
  long = y.long ∙ x.long;
  same = λ j l. y.same j (omega (arith, x.up)) ∙ x.same j l;
}

pub grown_req : (ks : List ℕ) (m : ℕ) (ks' : List ℕ) (n k : ℕ) → Grown ks m ks' n → Valid m k → entry_req ks' k ≡ entry_req ks k
unfolding entry_req
grown_req ks m ks' n k g v = rw (g.same (k / 2) (omega (arith, v.high)))

pub grown_stand : (ks : List ℕ) (m : ℕ) (ks' : List ℕ) (n k : ℕ) (r : Requirement) → Grown ks m ks' n → Stand ks m k r → Stand ks' n k r
grown_stand ks m ks' n k r g s = record {
  valid = record { low = s.valid.low; high = omega (arith, s.valid.high, g.up) };
  is = grown_req ks m ks' n k g s.valid ∙ s.is;
}

-- ---- no keys yet

pub tables_start : (n a c : ℕ) → 0 < n → n ≤ 32767 → 2 * n ≤ a → 2 * n ≤ c → Tables (replicate n 0) (replicate a 0) (replicate c 0) 0
tables_start n a c o s p q =
    let ln = length-replicate {A = ℕ} n 0 in
    let la = length-replicate {A = ℕ} a 0 in
    let lc = length-replicate {A = ℕ} c 0 in
    record {
      table = record {
        keys = record { long = omega arith; subject = λ i p q. absurd (omega arith); once = λ i j p q. absurd (omega arith) };
        up = λ p o. absurd (omega (arith, all_one {A = ℕ} 0 a p));
        low = λ p. omega (arith, all_one {A = ℕ} 0 a p);
        reached = λ i p q. absurd (omega arith);
      };
      companions = λ k v. absurd (omega (arith, v.low, v.high));
      room = omega arith;
      small = omega arith;
      kids = omega arith;
      others = omega arith;
    }
