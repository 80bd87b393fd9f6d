-- Settings of small slots, by the plain count and by the closed form. Assumes nothing.
use Rattle.std.specs.Prelude.{◌≡◌, refl, [], ◌∷◌, ℕ, pos}
use Rattle.std.proofs.Math.Option.{none, some}
use Rattle.model.specs.Sheet.{Sheet}
use Rattle.model.specs.Requirement.{haveItem, missingItem, haveFlag, missingFlag, member}
use Rattle.model.specs.Shop.{Slot, limit_of}
use Rattle.model.specs.Normal.{acquired_of, filled_slot}
use Rattle.faithful_model.specs.Faithful.{no_pair}
use Rattle.settings_model.specs.Settings.{answer_in, combos, count, distinct, hidden_count, listed_by, listed_count, listed_with, meets, member_s, same_subject, subjects, without}
use Rattle.settings_model.specs.Closed.{hidden_closed}

-- items 0 to 7, item 1 with atc 0, item 6 with atc 1, timers 0, 1, 2
abbrev small : Sheet
small = record { atc_of = none ∷ some 0 ∷ none ∷ none ∷ none ∷ none ∷ some 1 ∷ none ∷ []; atc_count = 2; timer5 = 0; timer10 = 1; timer15 = 2 }

-- so many listed and so many hidden, by both
pub record Counts (x : Slot) (l d : ℕ) : Type 0 where
  pub listed : listed_count small x ≡ l
  pub hidden : hidden_count small x ≡ d
  pub closed : hidden_closed small x ≡ d

pub record Cases : Type 0 where
  -- no item
  pub empty : Counts (record { item = none; limit = pos 3; requirements = haveFlag (pos 2) ∷ [] }) 0 1
  -- no requirement: above limit 1 always listed; at limit 1 one subject, listed either way
  pub always : Counts (filled_slot 7 3 []) 1 0
  pub always_one : Counts (filled_slot 7 1 []) 2 0
  -- a flag outside the save is a yes or no like any other
  pub outside : Counts (filled_slot 3 2 (haveFlag (pos 5000) ∷ [])) 1 1
  -- contradicting requirements are one subject and never hold
  pub never : Counts (filled_slot 3 2 (haveFlag (pos 1) ∷ missingFlag (pos 1) ∷ [])) 0 2
  pub never_one : Counts (filled_slot 3 1 (haveFlag (pos 1) ∷ missingFlag (pos 1) ∷ [])) 2 2
  -- the acquired item as a requirement is no subject of its own
  pub own : Counts (filled_slot 3 1 (haveItem 3 ∷ [])) 1 1
  pub own_missing : Counts (filled_slot 3 1 (missingItem 3 ∷ haveFlag (pos 4) ∷ [])) 3 1
  -- a timer: the acquired subject, the rate and a flag
  pub timer : Counts (filled_slot 0 9 (haveFlag (pos 4) ∷ [])) 7 1
  -- a timer with an atc: its atc and the rate, its own item only where required
  pub timer_atc : Counts (filled_slot 1 1 (haveItem 1 ∷ [])) 7 1
  pub timer_plain : Counts (filled_slot 1 1 []) 4 0

pub cases : Cases
unfolding answer_in combos count distinct hidden_closed hidden_count listed_by listed_count listed_with meets member_s no_pair same_subject subjects without acquired_of limit_of member
cases = record {
  empty = record { listed = refl; hidden = refl; closed = refl };
  always = record { listed = refl; hidden = refl; closed = refl };
  always_one = record { listed = refl; hidden = refl; closed = refl };
  outside = record { listed = refl; hidden = refl; closed = refl };
  never = record { listed = refl; hidden = refl; closed = refl };
  never_one = record { listed = refl; hidden = refl; closed = refl };
  own = record { listed = refl; hidden = refl; closed = refl };
  own_missing = record { listed = refl; hidden = refl; closed = refl };
  timer = record { listed = refl; hidden = refl; closed = refl };
  timer_atc = record { listed = refl; hidden = refl; closed = refl };
  timer_plain = record { listed = refl; hidden = refl; closed = refl };
}
