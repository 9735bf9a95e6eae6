use Rattle.std.proofs.Common.{arith}
use Rattle.tree_core.proofs.Common.{few-nodes, leaf_count-cuts, leaves, length-leaves_at, node_count-cuts, shape_of}
use Rattle.decomposer.proofs.counting_leaves.tally.Goals as goal

pub tallied-requires : goal.tallied-requires
tallied-requires c =
    let kinds = c.in_ok-kinds.ensures c.args.c.now (leaves c.args.c.now.order (shape_of c.args.found.now.tree)) in
    grind (arith, few-nodes, length-leaves_at, leaf_count-cuts, node_count-cuts)

pub returns : goal.returns
returns c =
    let kinds = c.in_ok-kinds.ensures c.args.c.now (leaves c.args.c.now.order (shape_of c.args.found.now.tree)) in
    grind arith
