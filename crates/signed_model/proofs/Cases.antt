-- Small slots by computation: what is told of them. Assumes nothing.
use Rattle.std.specs.Prelude.{◌≡◌, refl, true, false, [], ◌∷◌, pos, negsuc}
use Rattle.std.proofs.Math.Option.{none, some}
use Rattle.model.specs.Sheet.{Sheet}
use Rattle.model.specs.Requirement.{haveItem, missingItem, haveAtc, haveFlag, missingFlag, insert, member, settled, sorted}
use Rattle.model.specs.Shop.{Slot, limit_of}
use Rattle.model.specs.Normal.{acquired_of, filled_slot, lone, normal}
use Rattle.faithful_model.specs.Faithful.{is_faithful, no_pair}
use Rattle.signed_model.proofs.Exact.{is_same}
use Rattle.signed_model.specs.Findings.{faithful, pair, own, outside, doubled, first_place, limit_for, lost_for, settings_for, verdict}

-- items 0 to 7, item 6 with atc 1, timers 0, 1, 2
abbrev small : Sheet
small = record { atc_of = none ∷ none ∷ none ∷ none ∷ none ∷ none ∷ some 1 ∷ none ∷ []; atc_count = 2; timer5 = 0; timer10 = 1; timer15 = 2 }

-- item 7 of limit 3 with flag 9 and a contradicting pair; the smallest slot with a flag outside that is faithful all the same
abbrev paired : Slot
paired = filled_slot 7 3 (haveFlag (pos 9) ∷ haveFlag (pos 2) ∷ missingFlag (pos 2) ∷ [])

abbrev lost : Slot
lost = record { item = none; limit = negsuc 4; requirements = haveFlag (pos 2) ∷ haveFlag (pos 2) ∷ [] }

abbrev far : Slot
far = filled_slot 7 3 (haveFlag (pos 2048) ∷ haveFlag (pos 1) ∷ missingFlag (pos 1) ∷ [])

pub record Cases : Type 0 where
  pub paired_told : verdict small paired ≡ pair 1
  pub paired_shown : settings_for (verdict small paired) (normal small paired).requirements ≡ haveFlag (pos 9) ∷ []
  -- at limit 1 the Have of the acquired item, and of the acquired atc; above limit 1 it stays
  pub own_told : verdict small (filled_slot 7 1 (haveItem 7 ∷ [])) ≡ own 0
  pub own_atc : verdict small (filled_slot 6 5 (haveFlag (pos 3) ∷ haveAtc 1 ∷ [])) ≡ own 1
  pub stock : verdict small (filled_slot 7 3 (haveItem 7 ∷ [])) ≡ faithful
  -- the Missing of the acquired subject changes nothing; HaveItem of an item with an atc stays
  pub missing : verdict small (filled_slot 7 1 (missingItem 7 ∷ [])) ≡ faithful
  pub atc_item : verdict small (filled_slot 6 1 (haveItem 6 ∷ [])) ≡ faithful
  -- a slot without an item: its requirements are lost, one of them given twice
  pub lost_told : verdict small lost ≡ faithful
  pub lost_all : lost_for lost.item lost.requirements ≡ 2
  pub lost_twice : doubled lost.requirements ≡ 1
  pub limits : limit_for small (some 7) (pos 99) ≡ 10
  -- the flag outside is told, whatever else is wrong
  pub outside_told : verdict small far ≡ outside 0
  pub outside_rule : is_faithful small far ≡ false
  pub outside_same : is_same small far ≡ true

pub cases : Cases
unfolding verdict first_place is_faithful is_same no_pair acquired_of limit_of lone member normal settled sorted insert
cases = record {
  paired_told = refl;
  paired_shown = refl;
  own_told = refl;
  own_atc = refl;
  stock = refl;
  missing = refl;
  atc_item = refl;
  lost_told = refl;
  lost_all = refl;
  lost_twice = refl;
  limits = refl;
  outside_told = refl;
  outside_rule = refl;
  outside_same = refl;
}
