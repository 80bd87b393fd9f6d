-- The first i slots are told. Assumes nothing.
use Rattle.std.proofs.Common.{◌≡◌, length}
use Rattle.model.specs.Limits.{slot_count}
use Rattle.capi_signed.proofs.Told.{ToldUpTo}
use Rattle.capi_signed.proofs.lk_check.Given as goal

abbrev pub invariant-loop-i : goal.invariant-loop-i
invariant-loop-i l = (l.out.refusal ≡ 0) × (length l.out.slots ≡ slot_count) × ToldUpTo l.told l.out.slots l.i
