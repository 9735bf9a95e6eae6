use Rattle.std.proofs.Common.{◌∙◌, arith}
use Rattle.tree_core.proofs.Common.{leaves, shape_of}
use Rattle.mcg6_lines.proofs.leaf_lines.covered_leaf_lines.Goals as goal

pub lines_of_leaves-requires : goal.lines_of_leaves-requires
lines_of_leaves-requires c =
    (c.args.c.now, leaves c.args.c.now.order (shape_of c.in_ok-found.found.tree), c.deref.ensures.value ∙ c.in_ok-found.ensures.leaves)

pub returns : goal.returns
returns c =
    let told = c.lines_of_leaves.ensures c.args.c.now (leaves c.args.c.now.order (shape_of c.in_ok-found.found.tree)) (c.deref.ensures.value ∙ c.in_ok-found.ensures.leaves) in
    grind arith
