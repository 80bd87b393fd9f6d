-- The marks are what the roots reach, the packed record is judged, and its blocks are the survivors.
use Rattle.std.proofs.Common.{ℕ, refl, arith}
use Rattle.std.proofs.lemmas.List.{length-replicate}
use Rattle.model.specs.Limits.{block_limit, command_limit, node_limit}
use Rattle.memory.specs.View.{memory_of}
use Rattle.image_write.specs.Lengths.{most_bytes}
use Rattle.reclaim_reach.specs.Roots.{roots_inside}
use Rattle.reclaim.specs.Laws.{words_safe, kept_low, packed_fine, kept_only_lem}
use Rattle.reclaim.proofs.keep_survivors.Goals as goal

pub reach_roots-requires : goal.reach_roots-requires
reach_roots-requires c = (words_safe c.args.ws.now c.args.val.now c.args.cw.now c.args.bw.now c.args.counts c.requires.0, roots_inside _ _ c.requires.1, refl)

pub pack_marked-total-requires : goal.pack_marked-total-requires
pack_marked-total-requires c = kept_low c.args.ws.now c.args.val.now c.args.cw.now c.args.bw.now c.args.counts c.requires.0

pub through_image-requires : goal.through_image-requires
through_image-requires c =
    (packed_fine c.args.ws.now c.args.val.now c.args.cw.now c.args.bw.now c.args.counts c.requires.0 _ _ _ c.reach_roots.ensures _ _ _ _ _ c.pack_marked-total.ensures, omega (arith, length-replicate {A = ℕ} (most_bytes block_limit command_limit node_limit) 0))

pub returns : goal.returns
returns c =
    kept_only_lem c.args.ws.now c.args.val.now c.args.cw.now c.args.bw.now c.args.counts c.requires.0 _ _ _ c.reach_roots.ensures _ _ _ _ _ c.pack_marked-total.ensures
    (memory_of c.through_image.new.ws c.through_image.new.val c.through_image.new.cw c.through_image.new.bw c.through_image.result) c.through_image.ensures
