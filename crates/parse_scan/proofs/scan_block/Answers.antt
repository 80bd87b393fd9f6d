use Rattle.std.proofs.Common.{refl, sym, ap, ◌∙◌, ◌+◌, ◌-◌, arith, to_z-of_z}
use Rattle.model.specs.Memory.{nodes_in, coded_in, commands_in}
use Rattle.model.specs.Parse.{scan}
use Rattle.parse_scan.specs.Block.{scan_of, scan_fresh, scan_start, scan_step, scan_done}
use Rattle.parse_scan.specs.LastIf.{last_start, last_step, last_done}
use Rattle.parse_scan.proofs.scan_block.Goals as goal

pub loop-c-init : goal.loop-c-init
loop-c-init c = (last_start c.args.cw.now c.args.first _ refl, λ n m e. scan_start (coded_in c.args.ws.now c.args.val.now c.args.cw.now n m) e c.args.held c.args.first _)

pub loop-c-preserved : goal.loop-c-preserved
loop-c-preserved c = let l = c.loop-c in
    let x = c.scan_one-s in (
      last_step c.args.cw.now c.args.first l.c l.s.last_if _ l.auto.c l.invariant.0 x.ensures.last,
      λ n m e. let co = coded_in c.args.ws.now c.args.val.now c.args.cw.now n m in
          l.invariant.1 n m e ∙ scan_step co e (c.args.first + c.args.held) l.c (scan_of co.nodes e l.s l.ids l.counts) (scan_of co.nodes e x.result x.new.ids x.new.counts) (omega arith) (x.ensures.is n m e),
    )

pub returns : goal.returns
returns c = let l = c.loop-c in
    record {
      is = λ n m e. let co = coded_in c.args.ws.now c.args.val.now c.args.cw.now n m in
          sym
          (ap (scan e (commands_in co c.args.held c.args.first))
          (sym (scan_fresh (nodes_in c.args.ws.now c.args.val.now n) e _ c.args.ids.now c.args.counts.now c.args.limit refl refl (to_z-of_z c.ranges.limit) refl c.told-ids c.told-counts))
          ∙ l.invariant.1 n m e ∙ scan_done co e (c.args.first + c.args.held - l.c) l.c _ (omega (arith, c.loop-c-test.false)));
      last = last_done c.args.cw.now c.args.held c.args.first l.c _ (omega (arith, c.loop-c-test.false)) l.invariant.0;
    }
