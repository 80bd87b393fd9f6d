-- A slot by its parts. Assumes nothing: this is a definition.
use Rattle.std.specs.Prelude.{List, ℕ}
use Rattle.shop.specs.declared.Slot.{Slot}
use Rattle.preview.specs.declared.Head.{Head}

abbrev pub parts_of : Head → List ℕ → Slot
parts_of h cs = record { item = h.item; limit = h.limit; requirements = cs; len = h.len }
