-- How large a key's code is. Assumes nothing.
use Rattle.std.specs.Prelude.{List, ℕ, ◌+◌, ◌*◌, ◌≤◌, ◌<◌, get_or}
use Rattle.std.proofs.Common.{arith}
use Rattle.model.specs.Limits.{wide}
use Rattle.model.specs.Requirement.{Requirement, haveItem, missingItem, haveAtc, missingAtc, haveFlag, missingFlag, kind, number}
use Rattle.shop_codes.specs.Codes.{code_of, requirement_of, Narrow}
use Rattle.shop_codes.specs.Laws.{shift_most, code_narrow}
use Rattle.parse_keys.specs.Entries.{Keys}

kind_most : (r : Requirement) → kind r ≤ 5
kind_most (haveItem i) = omega arith
kind_most (missingItem i) = omega arith
kind_most (haveAtc a) = omega arith
kind_most (missingAtc a) = omega arith
kind_most (haveFlag f) = omega arith
kind_most (missingFlag f) = omega arith

code_small : (r : Requirement) → Narrow r → code_of r < 6 * wide
code_small r n = omega (arith, kind_most r, shift_most (number r) n.fits)

pub key_small : (ks : List ℕ) (m : ℕ) → Keys ks m → (i : ℕ) → 0 < i → i ≤ m → get_or ks i 0 + wide < 18446744073709551616
key_small ks m k i o l =
    let c = code_small (requirement_of (get_or ks i 0)) (code_narrow (get_or ks i 0)) in
    omega (arith, (k.subject i o l).code)
