-- Four words and the companions of four entries are such as the filter asks for. Assumes nothing.
use Rattle.std.specs.Prelude.{ℕ, zero, suc, ◌≤◌, ◌<◌, List, [], ◌∷◌, get_or}
use Rattle.std.proofs.Common.{arith}
use Rattle.parse_filter.specs.Filter.{Met}
use Rattle.filter_cases.specs.declared.Entries.{Entries}
use Rattle.filter_cases.specs.declared.Others.{Others}

-- entries 0 to 3, companions 0 to 4
pub record Fits (x : Entries) (t : Others) : Type 0 where
  pub a : x.a < 4
  pub b : x.b < 4
  pub c : x.c < 4
  pub d : x.d < 4
  pub n : x.n ≤ 4
  pub p : t.p < 5
  pub q : t.q < 5
  pub r : t.r < 5
  pub s : t.s < 5

abbrev four : ℕ → ℕ → ℕ → ℕ → List ℕ
four a b c d = a ∷ b ∷ c ∷ d ∷ []

below : (m a b c d : ℕ) → 0 < m → a < m → b < m → c < m → d < m → (i : ℕ) → get_or (four a b c d) i 0 < m
below m a b c d z f g h k zero = f
below m a b c d z f g h k (suc zero) = g
below m a b c d z f g h k (suc (suc zero)) = h
below m a b c d z f g h k (suc (suc (suc zero))) = k
below m a b c d z f g h k (suc (suc (suc (suc i)))) = z

pub fits_met : (x : Entries) (t : Others) → Fits x t → Met (four t.p t.q t.r t.s) (four x.a x.b x.c x.d) 5 x.n
fits_met x t f = record {
  held = f.n;
  entry = λ i h. below 4 x.a x.b x.c x.d (omega arith) f.a f.b f.c f.d i;
  other = λ i h. below 5 t.p t.q t.r t.s (omega arith) f.p f.q f.r f.s (get_or (four x.a x.b x.c x.d) i 0);
}
