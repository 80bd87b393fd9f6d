-- What the values of the code stand for: the bytes of the rights, and an edit. Assumes nothing: these are definitions.
use Rattle.std.specs.Prelude.{Bool, List, ℕ, ◌+◌, ◌*◌, ◌/◌, ◌%◌, eqb, get_or}
use Rattle.model.specs.Limits.{slot_count}
use Rattle.rights_model.specs.Rights as Rights
use Rattle.rights_model.specs.Rights.{Content, Edit, Table, field_in, itemField, limitField, requirementsField}
use Rattle.shop.specs.Shapes.{slot_of}
use Rattle.shop.specs.declared.Slot.{Slot}
use Rattle.rights.specs.declared.Field.{Field}
use Rattle.rights.specs.declared.Field.TheVariants.{Item, Limit, Requirements}

-- ---- rights: a byte for each user and slot

abbrev pub bit_of : ℕ → ℕ → Bool
bit_of b w = eqb (b / w % 2) 1

abbrev pub rights_of : ℕ → Rights.Rights
rights_of b = record { see = bit_of b 1; item = bit_of b 2; limit = bit_of b 4; requirements = bit_of b 8 }

abbrev pub table_of : List ℕ → Table
table_of bs u i = rights_of (get_or bs (u * slot_count + i) 0)

abbrev pub weight_of : Rights.Field → ℕ
weight_of itemField = 2
weight_of limitField = 4
weight_of requirementsField = 8

-- ---- an edit

abbrev pub field_is : Field → Rights.Field
field_is Item = itemField
field_is Limit = limitField
field_is Requirements = requirementsField

-- that field of a slot
abbrev pub content_of : Field → Slot → Content
content_of f x = field_in (field_is f) (slot_of x)

abbrev pub edit_of : ℕ → ℕ → Field → Slot → Edit
edit_of u i f x = record { user = u; slot = i; content = content_of f x }
