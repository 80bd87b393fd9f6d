-- Signed numbers: cutting to a width and bits in two's complement, ranges, tests, and the larger of 0 and a number. Assumes nothing: these are definitions.
use Rattle.std.specs.Prelude.{Bool, true, false, ℕ, suc, ◌-◌, ◌%◌, ◌^◌, ltb, eqb, ℤ, pos, negsuc}
use Rattle.std.specs.Int.Bits.{bit_and, bit_or}
use Rattle.std.specs.Int.Signed.{mag}
use Rattle.std.specs.Int.{Width, w16, w32}
use mir.Val.{to_z, bits, hbits}

-- the lowest bits of z, as many as the width has
abbrev pub low_bits : Width → ℤ → ℕ
low_bits w (pos n) = n % 2 ^ bits w
low_bits w (negsuc n) = 2 ^ bits w - suc (n % 2 ^ bits w)

-- those bits, read as a signed number of that width
unfoldable pub wrap : Width → ℤ → ℤ
wrap w z = to_z w (low_bits w z)

-- Runner: Add and Subtract wrap at 32 bits
abbrev pub wrap32 : ℤ → ℤ
wrap32 z = wrap w32 z

-- Parser: Imm32 values written, and limits, are cut to 16 bits
abbrev pub cut16 : ℤ → ℤ
cut16 z = wrap w16 z

-- an operation on bits, taken on the lowest bits of two numbers
unfoldable pub bits_of : (ℕ → ℕ → ℕ) → Width → ℤ → ℤ → ℤ
bits_of op w a b = to_z w (op (low_bits w a) (low_bits w b))

-- A.5: BitAnd and BitOr are bitwise over 32 bits
abbrev pub and32 : ℤ → ℤ → ℤ
and32 a b = bits_of bit_and w32 a b

abbrev pub or32 : ℤ → ℤ → ℤ
or32 a b = bits_of bit_or w32 a b

-- a signed number of that width
abbrev pub in_range : Width → ℤ → Bool
in_range w z = ltb (mag z) (2 ^ hbits w)

abbrev pub eq_z : ℤ → ℤ → Bool
eq_z (pos a) (pos b) = eqb a b
eq_z (pos a) (negsuc b) = false
eq_z (negsuc a) (pos b) = false
eq_z (negsuc a) (negsuc b) = eqb a b

abbrev pub is_zero : ℤ → Bool
is_zero z = eq_z z (pos 0)

-- comparisons and Not give 1 or 0
abbrev pub b2z : Bool → ℤ
b2z true = pos 1
b2z false = pos 0

-- the larger of 0 and z
abbrev pub clamp : ℤ → ℤ
clamp (pos n) = pos n
clamp (negsuc n) = pos 0
