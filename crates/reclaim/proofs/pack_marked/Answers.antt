-- The table holds the new numbers, by which words, marks and what is told follow.
use Rattle.reclaim.specs.Laws.{tell_asks, pack_asks, packed_by}
use Rattle.reclaim.proofs.pack_marked.Goals as goal

pub tell_moved-requires : goal.tell_moved-requires
tell_moved-requires c =
    (c.requires.0, tell_asks _ c.args.counts _ _ _ c.requires.0 c.requires.1 (record { marks_long = c.told-live; table_long = c.told-table; commands_long = c.told-commands; blocks_long = c.told-blocks }) _ c.number-total.ensures.0)

pub pack-requires : goal.pack-requires
pack-requires c =
    let a = pack_asks _ c.args.counts _ _ _ c.requires.0 c.requires.1 (record { marks_long = c.told-live; table_long = c.told-table; commands_long = c.told-commands; blocks_long = c.told-blocks }) _ _ c.number-total.ensures.0 c.number-total.ensures.1 in
    (c.requires.0, a.0, a.1)

pub returns : goal.returns
returns c =
    packed_by _ c.args.counts _ _ _ c.requires.0 c.requires.1 (record { marks_long = c.told-live; table_long = c.told-table; commands_long = c.told-commands; blocks_long = c.told-blocks }) _ _ _ _ _ _ _
    c.number-total.ensures.0 c.number-total.ensures.1 c.follow.ensures c.pack.ensures c.pack_births.ensures c.tell_moved.ensures
