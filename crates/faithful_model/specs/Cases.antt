-- Small slots by computation: which are faithful by the rule. Assumes nothing.
use Rattle.std.specs.Prelude.{◌≡◌, refl, true, false, [], ◌∷◌, pos, negsuc}
use Rattle.std.proofs.Math.Option.{none, some}
use Rattle.model.specs.Sheet.{Sheet}
use Rattle.model.specs.Requirement.{haveItem, missingItem, haveAtc, haveFlag, missingFlag, member}
use Rattle.model.specs.Shop.{limit_of}
use Rattle.model.specs.Normal.{acquired_of, filled_slot}
use Rattle.faithful_model.specs.Faithful.{is_faithful, no_pair}

-- items 0 to 7, item 6 with atc 1, timers 0, 1, 2
abbrev small : Sheet
small = record { atc_of = none ∷ none ∷ none ∷ none ∷ none ∷ none ∷ some 1 ∷ none ∷ []; atc_count = 2; timer5 = 0; timer10 = 1; timer15 = 2 }

pub record Cases : Type 0 where
  -- a contradicting pair
  pub pair : is_faithful small (filled_slot 7 3 (haveFlag (pos 2) ∷ missingFlag (pos 2) ∷ [])) ≡ false
  -- at limit 1 the Have of the acquired item, and of the acquired atc; above limit 1 it stays
  pub own : is_faithful small (filled_slot 7 1 (haveItem 7 ∷ [])) ≡ false
  pub own_atc : is_faithful small (filled_slot 6 5 (haveAtc 1 ∷ [])) ≡ false
  pub stock : is_faithful small (filled_slot 7 3 (haveItem 7 ∷ [])) ≡ true
  -- the Missing of the acquired subject changes nothing; HaveItem of an item with an atc stays
  pub missing : is_faithful small (filled_slot 7 1 (missingItem 7 ∷ [])) ≡ true
  pub atc_item : is_faithful small (filled_slot 6 1 (haveItem 6 ∷ [])) ≡ true
  -- an entry twice, a limit that is coerced, requirements of a slot without an item
  pub twice : is_faithful small (filled_slot 7 99 (haveFlag (pos 2) ∷ haveFlag (pos 2) ∷ [])) ≡ true
  pub empty : is_faithful small (record { item = none; limit = negsuc 4; requirements = haveFlag (pos 2) ∷ missingFlag (pos 2) ∷ [] }) ≡ true

pub cases : Cases
unfolding is_faithful no_pair acquired_of limit_of member
cases = record { pair = refl; own = refl; own_atc = refl; stock = refl; missing = refl; atc_item = refl; twice = refl; empty = refl }
