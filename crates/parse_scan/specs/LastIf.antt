-- The last If of a block's commands, by their words (01, Parser: the last If in a block counts). Assumes nothing.
use Rattle.std.specs.Prelude.{◌≡◌, cond, List, ℕ, zero, suc, ◌+◌, ◌*◌, ◌-◌, ◌≤◌, eqb, get_or}
use Rattle.std.proofs.Common.{add-one, arith, eq-eqb, ne_eqb}

-- after command c, the last If before it being j: 0 for none, or 1 + its root
abbrev pub last_at : List ℕ → ℕ → ℕ → ℕ
last_at cw c j = cond (eqb (get_or cw (4 * c) 0) 3) (suc (get_or cw (4 * c + 1) 0)) j

-- among h commands from command f on
unfoldable pub last_if : List ℕ → ℕ → ℕ → ℕ
last_if cw zero f = 0
last_if cw (suc h) f = last_at cw (f + h) (last_if cw h f)

module _ (cw : List ℕ) (c j : ℕ) where
  pub last_met : get_or cw (4 * c) 0 ≡ 3 → get_or cw (4 * c + 1) 0 + 1 ≡ last_at cw c j
  last_met e = rw (eq-eqb (get_or cw (4 * c) 0) 3 e) (add-one (get_or cw (4 * c + 1) 0))

  pub last_kept : (get_or cw (4 * c) 0 ≡ 3 → ⊥) → j ≡ last_at cw c j
  last_kept e = rw (ne_eqb (get_or cw (4 * c) 0) 3 e)

-- ---- the commands that are left

pub last_start : (cw : List ℕ) (first j : ℕ) → j ≡ 0 → j ≡ last_if cw (first - first) first
unfolding last_if
last_start cw first j e = let q : first - first ≡ 0 = omega arith in rw (q, e)

pub last_step : (cw : List ℕ) (first c j i : ℕ) → first ≤ c → j ≡ last_if cw (c - first) first → i ≡ last_at cw c j → i ≡ last_if cw (c + 1 - first) first
unfolding last_if
last_step cw first c j i l e d =
    let q : c + 1 - first ≡ suc (c - first) = omega arith in
    let r : first + (c - first) ≡ c = omega arith in
    rw (q, ← e, r) d

pub last_done : (cw : List ℕ) (held first c j : ℕ) → c ≡ first + held → j ≡ last_if cw (c - first) first → j ≡ last_if cw held first
last_done cw held first c j z e = let q : c - first ≡ held = omega arith in rw q at e
