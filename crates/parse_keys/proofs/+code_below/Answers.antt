use Rattle.std.proofs.Common.{◌≡◌, Bool, true, false, refl, arith, inl, inr}
use Rattle.std.proofs.Common as Code
use Rattle.std.proofs.Common.{Some, None}
use Rattle.parse_keys.specs.Reads.{turn_of}
use Rattle.parse_keys.proofs.Codes.{means_out, means_imm16, means_imm32, means_other, means_one, means_nothing, means_turned, means_same}
use Rattle.parse_keys.proofs.+code_below.Goals as goal

tells_nothing : (o : Code.Option Bool) → ((t : Bool) → o ≡ Some t → ⊥) → turn_of o ≡ 2
tells_nothing None h = refl
tells_nothing (Some t) h = absurd (h t refl)

pub returns-then-b-i : goal.returns-then-b-i
returns-then-b-i t c = means_out c.args.ws.now c.args.val.now c.args.known c.args.b c.args.i c.args.neg c.if-b-i.true

pub returns-in_default : goal.returns-in_default
returns-in_default t c =
    means_nothing c.args.ws.now c.args.val.now c.args.known c.args.b c.args.i c.args.neg c.if-b-i.false _
    c.kind_of.ensures _ _ c.in-Two.is c.zero_sign.ensures (tells_nothing _ c.in_default.not-Some)

pub returns-then-turned : goal.returns-then-turned
returns-then-turned t c =
    let w : turn_of c.zero_sign.result ≡ 1 = rw (c.in-Some.is, c.if-turned.true) in
    means_turned c.args.ws.now c.args.val.now c.args.known c.args.b c.args.i c.args.neg c.if-b-i.false _
    c.kind_of.ensures _ _ c.in-Two.is c.zero_sign.ensures _ _ c.from-left.ensures w c.code_below.ensures

pub returns-else-turned : goal.returns-else-turned
returns-else-turned t c =
    let w : turn_of c.zero_sign.result ≡ 0 = rw (c.in-Some.is, c.if-turned.false) in
    means_same c.args.ws.now c.args.val.now c.args.known c.args.b c.args.i c.args.neg c.if-b-i.false _
    c.kind_of.ensures _ _ c.in-Two.is c.zero_sign.ensures _ _ c.from-left.ensures (λ e. omega arith) (λ e. omega arith)
    c.code_below-else-turned.ensures

pub returns-in-One : goal.returns-in-One
returns-in-One t c =
    means_one c.args.ws.now c.args.val.now c.args.known c.args.b c.args.i c.args.neg c.if-b-i.false _
    c.kind_of.ensures _ _ _ _ c.in-One.is c.shifted_below-s.ensures c.read_code.ensures c.signed_code.ensures

pub returns-in-Imm16 : goal.returns-in-Imm16
returns-in-Imm16 t c = elim c.in-Imm16.is [
  | inl e ↦ means_imm16 c.args.ws.now c.args.val.now c.args.known c.args.b c.args.i c.args.neg c.if-b-i.false _ c.kind_of.ensures e
  | inr r ↦ elim r [
    | inl e ↦ means_imm32 c.args.ws.now c.args.val.now c.args.known c.args.b c.args.i c.args.neg c.if-b-i.false _ c.kind_of.ensures e
    | inr e ↦ means_other c.args.ws.now c.args.val.now c.args.known c.args.b c.args.i c.args.neg c.if-b-i.false _ c.kind_of.ensures e
  ]
]
