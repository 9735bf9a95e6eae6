use Rattle.graph_core.proofs.from_counting.Common.{arith, with_items_is, mem}
use Rattle.match_core.proofs.RowMates.{named_rows}
use Rattle.match_core.proofs.mates.mates_off.Goals as goal

pub returns-clause-mates : goal.returns-clause-mates
returns-clause-mates c =
    let has = named_rows c.args.g.now (mem c.args.removed) c.args.m.now c.write_rows.new.mate c.requires c.keeps_matching.ensures c.write_rows.ensures in
    grind (arith, with_items_is)
