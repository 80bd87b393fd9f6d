use native.Mathlib.Omega.{arith}
use Rattle.parse_filter.proofs.Parsing.{parsed_none, asks_marks, asks_chain, asks_filter, asks_codes, first_fits, alive_fits, parsed}
use Rattle.parse_filter.proofs.parse_requirements.Goals as goal

pub returns-then-first-eq0 : goal.returns-then-first-eq0
returns-then-first-eq0 c =
    rw c.if-first-eq0.true (parsed_none _ _ _ _ _ _ _ c.args.codes.now c.requires.1)

pub marks_for-k-requires : goal.marks_for-k-requires
marks_for-k-requires c =
    asks_marks _ _ _ _ _ _ _ c.args.first c.requires.0 c.requires.1

pub mark_chain-all-requires : goal.mark_chain-all-requires
mark_chain-all-requires c =
    asks_chain _ _ _ _ _ _ _ c.args.first c.requires.0 c.requires.1 _ _ c.marks_for-k.auto.seen c.marks_for-k.ensures

pub filter_alive-kept-requires : goal.filter_alive-kept-requires
filter_alive-kept-requires c =
    asks_filter _ _ _ _ _ _ _ c.args.first c.requires.0 c.requires.1 _ _ c.marks_for-k.auto.seen c.marks_for-k.ensures
    _ _ _ c.mark_chain-all.auto.seen c.mark_chain-all.auto.alive c.mark_chain-all.ensures

pub companion_codes-len-requires : goal.companion_codes-len-requires
companion_codes-len-requires c =
    asks_codes _ _ _ _ _ _ _ c.args.first c.requires.0 c.requires.1 _ _ c.marks_for-k.auto.seen c.marks_for-k.ensures
    _ _ _ c.mark_chain-all.auto.seen c.mark_chain-all.auto.alive c.mark_chain-all.ensures
    _ _ c.filter_alive-kept.auto.alive c.filter_alive-kept.ensures

pub overflow_cast-result : goal.overflow_cast-result
overflow_cast-result c =
    omega (
      arith,
      first_fits _ _ _ _ _ _ _ c.args.first c.requires.0 c.requires.1 _ _ c.marks_for-k.auto.seen c.marks_for-k.ensures
          _ _ _ c.mark_chain-all.auto.seen c.mark_chain-all.auto.alive c.mark_chain-all.ensures
          _ _ c.filter_alive-kept.auto.alive c.filter_alive-kept.ensures,
    )

pub overflow_cast-result-2 : goal.overflow_cast-result-2
overflow_cast-result-2 c =
    omega (
      arith,
      alive_fits _ _ _ _ _ _ _ c.args.first c.requires.0 c.requires.1 _ _ c.marks_for-k.auto.seen c.marks_for-k.ensures
          _ _ _ c.mark_chain-all.auto.seen c.mark_chain-all.auto.alive c.mark_chain-all.ensures
          _ _ c.filter_alive-kept.auto.alive c.filter_alive-kept.ensures,
    )

pub returns : goal.returns
returns c =
    parsed _ _ _ _ _ _ _ c.args.first c.requires.0 c.requires.1 _ _ c.marks_for-k.auto.seen c.marks_for-k.ensures
    _ _ _ c.mark_chain-all.auto.seen c.mark_chain-all.auto.alive c.mark_chain-all.ensures
    _ _ c.filter_alive-kept.auto.alive c.filter_alive-kept.ensures
    _ _ c.companion_codes-len.ensures
