-- The text of a parse by its answer, and that it has room in the array. Assumes nothing.
use Rattle.std.specs.Prelude.{◌≡◌, refl, List, ℕ, zero, suc, ◌≤◌, length, Ok, Err}
use Rattle.std.proofs.Common.{sym, ◌∙◌, arith}
use Rattle.std.proofs.Math.Path.{ap}
use Rattle.model.specs.Limits.{slot_count}
use Rattle.model.specs.Parse.{Parsed}
use Rattle.model.specs.Printer.{refused_text, slot_lines, parsed_text}
use Rattle.shop.specs.Shapes.{slots_of}
use Rattle.shop.specs.declared.Shop.{Shop}
use Rattle.shop.specs.Good.{GoodShop}
use Rattle.slots_text.specs.Written.{text_limit, Wrote}
use Rattle.slots_text.specs.Lines.{FewEach, refused_space, lines_space}
use Rattle.model.specs.Refusals.{refusal_number}
use Rattle.model.specs.declared.Refusal.{Refusal}
use Rattle.parse.specs.Answer.{HandedOut}
use Rattle.model.specs.Refusals.{refuses}

-- the text b stands at the start of the array, whose bytes take all of it
pub record Printed (xs b ys : List ℕ) (r : ℕ) : Type 0 where
  pub wrote : Wrote xs b ys r
  pub fits : r ≤ text_limit

pub printed_as : {xs b c ys : List ℕ} {r : ℕ} → b ≡ c → Printed xs b ys r → Printed xs c ys r
printed_as e u = rw e at u

pub printed_refused : {xs ys : List ℕ} {r : ℕ} (n : ℕ) → Wrote xs (refused_text n) ys r → Printed xs (refused_text n) ys r
printed_refused n u = record { wrote = u; fits = omega (arith, u.long, (refused_space n).fits) }

pub few_each : (s : Shop) → GoodShop s → FewEach s
few_each s g = record { each = λ j l. (g.each j l).few }

pub printed_lines : {xs ys : List ℕ} {r : ℕ} (s : Shop) → length s.slots ≡ slot_count → GoodShop s → Wrote xs (slot_lines 0 (slots_of s)) ys r → Printed xs (slot_lines 0 (slots_of s)) ys r
printed_lines s e g u = record { wrote = u; fits = omega (arith, u.long, (lines_space s e (few_each s g)).fits) }

-- ---- the text of an answer

refusal_text : (n : ℕ) (p : Parsed) → n ≡ p.answer → (n ≡ 0 → ⊥) → refused_text n ≡ parsed_text p
unfolding parsed_text
refusal_text zero p e d = absurd (d refl)
refusal_text (suc n) p e d = rw (← e)

lines_text : (p : Parsed) → 0 ≡ p.answer → slot_lines 0 p.slots ≡ parsed_text p
unfolding parsed_text
lines_text p e = rw (← e)

module _ {p : Parsed} where
  pub text_refused : (e : Refusal) → HandedOut p (Err e) → refused_text (refusal_number e) ≡ parsed_text p
  text_refused e a = refusal_text (refusal_number e) p a.refusal (refuses e)

  pub text_lines : (s : Shop) → HandedOut p (Ok s) → slot_lines 0 (slots_of s) ≡ parsed_text p
  text_lines s a = ap (slot_lines 0) (a.shop.slots refl) ∙ lines_text p a.refusal
