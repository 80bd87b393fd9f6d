use Rattle.std.proofs.Common.{◌≡◌, refl, ap, sym, ◌∙◌, ℕ, List, ℤ, ◌<◌, to_z-of_z, w16}
use Rattle.std.proofs.Common as Code
use Rattle.model.specs.Limits.{node_limit}
use Rattle.model.specs.Memory.{nodes_in, tree}
use Rattle.model.specs.Parse.{Place, value, place}
use Rattle.expr.specs.Tree.{tree_below, below_in}
use Rattle.expr.specs.Requirement.{number_of}
use Rattle.parse_scan.specs.Reads.{target_is, target_low, count_low}
use Rattle.parse_scan.specs.Block.{set_first, set_unused, set_item, set_count}
use Rattle.parse_scan.proofs.evaluate_set.Goals as goal

goes : (ws : List ℕ) (vs : List ℤ) (t : ℕ) (x : Code.Option ℤ) (p : Place) → p ≡ place (number_of x) → ((n : ℕ) → number_of x ≡ value (tree_below (nodes_in ws vs n) node_limit t)) → t < node_limit
    → (n : ℕ) → p ≡ place (value (tree (nodes_in ws vs n) t))
goes ws vs t x p e f l n = e ∙ ap place (f n ∙ ap value (below_in (nodes_in ws vs n) node_limit t l))

pub keep-requires : goal.keep-requires
keep-requires c = target_low (number_of c.number_below.result) c.in-ItemOf.i (sym (ap target_is c.in-ItemOf.is) ∙ c.target_of-target.ensures)

pub keep-requires-in-CountOf : goal.keep-requires-in-CountOf
keep-requires-in-CountOf c = count_low (number_of c.number_below.result) c.in-CountOf.i (sym (ap target_is c.in-CountOf.is) ∙ c.target_of-target.ensures)

pub returns-in-First : goal.returns-in-First
returns-in-First c = let a = c.args in
    let b = to_z-of_z {w = w16} {z = a.s.limit} (record { sfits = c.struct_told-1.given.1.1.0.1 }) in
    record {
      is = λ n o. set_first (nodes_in a.ws.now a.val.now n) o a.s a.ids.now a.counts.now _ (tree (nodes_in a.ws.now a.val.now n) a.v) (sym (ap target_is c.in-First.is) ∙ goes a.ws.now a.val.now a.t _ _ c.target_of-target.ensures c.number_below.ensures c.requires.target n) _
          (to_z-of_z {w = w16} (record { sfits = c.limit_after.type_inv }) ∙ (rw b at (c.limit_after.ensures n)));
      last = refl;
    }

pub returns-in-Unused : goal.returns-in-Unused
returns-in-Unused c = let a = c.args in
    record { is = λ n o. set_unused (nodes_in a.ws.now a.val.now n) o a.s a.ids.now a.counts.now _ (tree (nodes_in a.ws.now a.val.now n) a.v) (sym (ap target_is c.in-Unused.is) ∙ goes a.ws.now a.val.now a.t _ _ c.target_of-target.ensures c.number_below.ensures c.requires.target n); last = refl }

pub returns-in-ItemOf : goal.returns-in-ItemOf
returns-in-ItemOf c = let a = c.args in
    let b = to_z-of_z {w = w16} {z = a.s.limit} (record { sfits = c.struct_told-in-ItemOf-2-1.given.1.1.0.1 }) in
    record {
      is = λ n o. set_item (nodes_in a.ws.now a.val.now n) o a.s a.ids.now a.counts.now _ (tree (nodes_in a.ws.now a.val.now n) a.v) c.in-ItemOf.i (sym (ap target_is c.in-ItemOf.is) ∙ goes a.ws.now a.val.now a.t _ _ c.target_of-target.ensures c.number_below.ensures c.requires.target n) _ _ _ b
          (rw (rw b at (c.written_by.ensures n)) at c.keep.ensures);
      last = refl;
    }

pub returns-in-CountOf : goal.returns-in-CountOf
returns-in-CountOf c = let a = c.args in
    let b = to_z-of_z {w = w16} {z = a.s.limit} (record { sfits = c.struct_told-in-CountOf-2-1.given.1.1.0.1 }) in
    record {
      is = λ n o. set_count (nodes_in a.ws.now a.val.now n) o a.s a.ids.now a.counts.now _ (tree (nodes_in a.ws.now a.val.now n) a.v) c.in-CountOf.i (sym (ap target_is c.in-CountOf.is) ∙ goes a.ws.now a.val.now a.t _ _ c.target_of-target.ensures c.number_below.ensures c.requires.target n) _ _ _ b
          (rw (rw b at (c.written_by-in-CountOf.ensures n)) at c.keep-in-CountOf.ensures);
      last = refl;
    }
