-- The four arrays of a shop's twenty slots from slices of any number of them (01, Slot). Assumes nothing: these are definitions.
use Rattle.std.specs.Prelude.{List, [], ◌∷◌, map, ℕ, zero, suc, ◌*◌, pos, negsuc, length, take}
use Rattle.model.specs.Limits.{entry_limit, slot_count}
use Rattle.model.specs.Shop as Model
use Rattle.shop.specs.Shapes.{slot_of}
use Rattle.shop_arrays.specs.Arrays.{Arrays, arrays_in, slots_from}

-- n elements: further ones are dropped, missing ones are z
unfoldable pub filled : {A : Type 0} → A → ℕ → List A → List A
filled z zero xs = []
filled z (suc n) [] = z ∷ filled z n []
filled z (suc n) (x ∷ xs) = x ∷ filled z n xs

-- as many slots are given as there are items; what another slice lacks of them is 0, and so is all but the item of a missing slot
unfoldable pub twenty : Arrays → Arrays
twenty a =
    let k = length a.items in
    arrays_in (filled (negsuc 0) slot_count a.items) (filled (pos 0) slot_count (take k a.limits))
    (filled 0 (entry_limit * slot_count) (take (entry_limit * k) a.codes)) (filled 0 slot_count (take k a.lens))

-- the slots that such slices stand for
unfoldable pub slots_in : Arrays → List Model.Slot
slots_in a = map slot_of (slots_from a 0 (length a.items))
