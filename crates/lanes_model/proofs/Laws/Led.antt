-- Blocks renumbered with every link followed: what is led to was led to before, and links that fell fall on where numbers keep their order. Assumes nothing.
use Rattle.std.specs.Prelude.{◌≡◌, refl, ◌⊎◌, ℕ, ◌<◌}
use Rattle.std.proofs.Common.{sym, ap, ◌∙◌, subst, inl, inr}
use mathlib.Core.List.Memᴰ
use mathlib.Core.List.{List, [], ◌∷◌, map, Memᴰ}
use Rattle.model.specs.Script.{Block, block_at}
use Rattle.reclaim_model.specs.Rename.{links_of}
use Rattle.reclaim_model.proofs.Laws.Reached.{root, onward, every_at}
use Rattle.reclaim_model.proofs.Laws.RenamedRun.{Renamed}
use Rattle.reclaim_model.proofs.Laws.Renames.{links_map}
use Rattle.lanes_model.specs.Falls.{Link, LedTo, Falls}

record Mapped (f : ℕ → ℕ) (ks : List ℕ) (j : ℕ) : Type 0 where
  from : ℕ
  is : Memᴰ from ks
  now : f from ≡ j

from_map : (f : ℕ → ℕ) (ks : List ℕ) (j : ℕ) → Memᴰ j (map f ks) → Mapped f ks j
from_map f [] j m = absurd (Memᴰ.not-nil m)
from_map f (k ∷ ks) j m = by (Memᴰ.cases_cons m) (from_map f ks j)
  where
    by : (j ≡ f k) ⊎ Memᴰ j (map f ks) → (Memᴰ j (map f ks) → Mapped f ks j) → Mapped f (k ∷ ks) j
    by (inl e) ih = record { from = k; is = Memᴰ.head refl; now = sym e }
    by (inr p) ih = let r = ih p in record { from = r.from; is = Memᴰ.tail r.is; now = r.now }

module _ (K : ℕ → Type 0) (f : ℕ → ℕ) (bs bs' : List Block) (r : Renamed K f bs bs') where
  -- a link of a renamed block is the new number of a link
  record LinkFrom (c j : ℕ) : Type 0 where
    from : ℕ
    is : Link bs c from
    kept : K from
    now : f from ≡ j

  link_back : (c : ℕ) → K c → (j : ℕ) → Link bs' (f c) j → LinkFrom c j
  link_back c p j m =
      let o = from_map f (links_of (block_at bs c)) j (subst (Memᴰ j) (ap links_of (r.same c p) ∙ links_map f (block_at bs c)) m) in
      record { from = o.from; is = o.is; kept = every_at K (links_of (block_at bs c)) o.from (r.links c p) o.is; now = o.now }

  module _ (b : ℕ) (here : K b) where
    pub record LedFrom (c : ℕ) : Type 0 where
      pub from : ℕ
      pub led : LedTo bs b from
      pub kept : K from
      pub now : f from ≡ c

    pub led_back : (c : ℕ) → LedTo bs' (f b) c → LedFrom c
    led_back c (root m) = let l = link_back b here c m in record { from = l.from; led = root l.is; kept = l.kept; now = l.now }
    led_back c (onward {b = d} p m) =
        let o = led_back d p in
        let l = link_back o.from o.kept c (subst (λ (i : ℕ). Link bs' i c) (sym o.now) m) in
        record { from = l.from; led = onward o.led l.is; kept = l.kept; now = l.now }

    pub falls_renamed : ((i j : ℕ) → K i → K j → i < j → f i < f j) → Falls bs b → Falls bs' (f b)
    falls_renamed order g = record { lower = λ {c} {k} p m. low c k p m }
      where
        low : (c k : ℕ) → LedTo bs' (f b) c → Link bs' c k → k < c
        low c k p m =
            let o = led_back c p in
            let l = link_back o.from o.kept k (subst (λ (i : ℕ). Link bs' i k) (sym o.now) m) in
            subst (λ (i : ℕ). i < c) l.now (subst (λ (i : ℕ). f l.from < i) o.now (order l.from o.from l.kept o.kept (g.lower o.led l.is)))
