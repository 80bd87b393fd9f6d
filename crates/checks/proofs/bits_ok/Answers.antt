-- The largest is 0 or 1 where each of them is. Assumes nothing.
use Rattle.std.specs.Prelude.{◌≡◌, max, fold}
use Rattle.std.proofs.Common.{rules}
use Rattle.std.proofs.lemmas.Iterator.{YieldsList-from_slice}
use Rattle.std.proofs.lemmas.Iterator.Consumers.{fold_from_yields_List}
use Rattle.checks.proofs.Most.{fold_bits}
use Rattle.checks.proofs.bits_ok.Goals as goal

pub returns : goal.returns
returns c =
    let e : c.fold.result ≡ fold max 0 c.args.bits.now = fold_from_yields_List _ max 0 _ c.fold.ensures.ran (YieldsList-from_slice c.args.bits.now cc) (λ a x b q k. search rules) in
    rw e (fold_bits 0 c.args.bits.now)
