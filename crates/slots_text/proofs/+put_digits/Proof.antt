-- `text::put_digits` meets its contract: the number of digits that may still come falls. Assumes nothing.
use native.Mathlib.Omega.{arith}
use Rattle.slots_text.specs.Numbers.{digits_none, digit_space, high_space, low_space, one_digit, all_digits}
use borrow.Author.Rules.{rules}
use Prim.Native.Nat.{ℕ, ◌<◌}
use borrow.Fn.Kinds.{In}
use borrow.Fn.PlainCycle.{Measures, is, falls, and}
use Rattle.slots_text.proofs.put_digits.Reads as put-digits
use Rattle.slots_text.proofs.put_digits.Kinds as put-digits-kinds
use Rattle.slots_text.proofs.+put_digits.Lts-put_digits as put-digits-lts
use Rattle.slots_text.proofs.digit.Reads as digit-reads
use Rattle.slots_text.proofs.put_byte.Reads as put-byte-reads
use Rattle.slots_text.proofs.+put_digits.{statement}
use Rattle.slots_text.proofs.+put_digits.Tie.{close}

abbrev μ-put-digits : Measures 1 put-digits-kinds.ps ℕ
μ-put-digits κs a = a.1.1.1.0

abbrev put-digits-at : ℕ → In 1 put-digits-kinds.ps
put-digits-at t =
    and 1 put-digits-kinds.ps (is 1 put-digits-kinds.ps μ-put-digits t) put-digits.Pre

abbrev put-digits-below : ℕ → In 1 put-digits-kinds.ps
put-digits-below t =
    and 1 put-digits-kinds.ps (falls 1 put-digits-kinds.ps ◌<◌ μ-put-digits t) put-digits.Pre

-- what the calls ask and give, at the measure t
abbrev put-digits-claims : ℕ → put-digits-lts.Claims
put-digits-claims t = (digit-reads.Asked, digit-reads.Learnt, put-byte-reads.Asked, put-byte-reads.Learnt, put-digits-below t, put-digits.Post)

put-digits-returns : (t : ℕ) → put-digits-lts.Need-returns-then-f-eq0 (put-digits-claims t) (put-digits-at t) put-digits.Post
put-digits-returns t c = digits_none c.args.n c.if-f-eq0.true

put-digits-put-byte-requires : (t : ℕ) → put-digits-lts.Need-put_byte-requires (put-digits-claims t) (put-digits-at t) put-digits.Post
put-digits-put-byte-requires t c κs = digit_space c.args.f c.args.n c.if-f-eq0.false c.requires.1 c.if-n-lt10.true

put-digits-returns-2 : (t : ℕ) → put-digits-lts.Need-returns-then-n-lt10 (put-digits-claims t) (put-digits-at t) put-digits.Post
put-digits-returns-2 t c = one_digit c.args.f c.args.n c.if-f-eq0.false c.if-n-lt10.true c.digit.ensures c.put_byte.ensures

put-digits-put-digits-requires : (t : ℕ) → put-digits-lts.Need-put_digits-p-requires (put-digits-claims t) (put-digits-at t) put-digits.Post
put-digits-put-digits-requires t c κs = (omega (arith, c.if-f-eq0.false, c.requires.0), high_space c.args.f c.args.n c.if-f-eq0.false c.requires.1 c.if-n-lt10.false)

put-digits-put-byte-requires-2 : (t : ℕ) → put-digits-lts.Need-put_byte-requires-2 (put-digits-claims t) (put-digits-at t) put-digits.Post
put-digits-put-byte-requires-2 t c κs = low_space c.args.f c.args.n c.if-f-eq0.false c.requires.1 c.if-n-lt10.false c.put_digits-p.ensures

put-digits-returns-3 : (t : ℕ) → put-digits-lts.Need-returns (put-digits-claims t) (put-digits-at t) put-digits.Post
put-digits-returns-3 t c = all_digits c.args.f c.args.n c.if-f-eq0.false c.if-n-lt10.false c.digit-2.ensures c.put_digits-p.ensures c.put_byte-2.ensures

pub +put_digits_spec : {M : Type 1} → statement M
+put_digits_spec = close μ-put-digits λ t. put-digits-lts.spec
    (put-digits-claims t)
    (put-digits-at t)
    put-digits.Post
    (put-digits-returns t)
    (λ c κs. search rules)
    (put-digits-put-byte-requires t)
    (put-digits-returns-2 t)
    (λ c. search rules)
    (put-digits-put-digits-requires t)
    (λ c κs. search rules)
    (put-digits-put-byte-requires-2 t)
    (put-digits-returns-3 t)
