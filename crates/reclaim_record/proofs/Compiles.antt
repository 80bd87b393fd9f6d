-- A compile on a record with its marks: what an accepted one passed, that a refused one changes nothing, and that one at a block whose mark is not 0 is refused (02, A.2). Assumes nothing.
use Rattle.std.specs.Prelude.{◌≡◌, ◌≢◌, [], ◌∷◌}
use Rattle.std.proofs.Common.{ne_eqb}
use Rattle.model.specs.Refusal.{born_later, first_of}
use Rattle.model.specs.Sheet.{Sheet}
use Rattle.model.specs.Shop.{shop_refusal}
use Rattle.model.specs.Memory.{script_of}
use Rattle.model.specs.Compile.{Call, compile_checks, fresh_blocks, room_refusal}
use Rattle.model.specs.RecordCalls.{Born, born_at, call_in, compile_refusal_in, compiled_in, record_refusal}
use Rattle.model.proofs.Laws.Checks.{CompilePassed, compile_passed}
use Rattle.reclaim_model.proofs.Laws.Born.{then_later}

module _ (h : Sheet) (k : Born) (c : Call) where
  pub passed_in : compile_refusal_in h k c ≡ 0 → CompilePassed h (record_refusal k.memory) (born_at k c.setup) (script_of k.memory) c
  unfolding compile_refusal_in
  passed_in e = compile_passed h (record_refusal k.memory) (born_at k c.setup) (script_of k.memory) c e

  pub compile_stays : compile_refusal_in h k c ≢ 0 → compiled_in h k c ≡ k
  unfolding compiled_in
  compile_stays d = rw (ne_eqb (compile_refusal_in h k c) 0 d)

  -- at a block whose mark is not 0 the answer is that of 1 to 7, else 17, and nothing changes
  pub later_refused : born_at k c.setup ≢ 0 → (compile_refusal_in h k c ≡ first_of (call_in h k.memory c.setup ∷ born_later ∷ [])) × (compiled_in h k c ≡ k)
  unfolding compile_refusal_in compile_checks call_in
  later_refused d = (
    rw (ne_eqb (born_at k c.setup) 0 d)
        (then_later (call_in h k.memory c.setup) (shop_refusal h c.shop ∷ room_refusal c.loader (script_of k.memory) (fresh_blocks h (script_of k.memory) c) ∷ [])),
    compile_stays (λ z. d (passed_in z).born),
  )
