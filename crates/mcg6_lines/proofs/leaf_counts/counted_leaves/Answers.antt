use Rattle.tree_core.proofs.Common.{shape_of, IsTally, leaves}
use Rattle.allowed_edges.proofs.from_counting.Common.{IfOk-weaker}
use Rattle.tree_core.specs.declared.tallies.Tally.{Tally}
use Rattle.mcg6_lines.specs.Standings.{IsCounted}
use Rattle.mcg6_lines.proofs.leaf_counts.counted_leaves.Goals as goal

pub returns : goal.returns
returns c =
    let t = shape_of c.args.found.now.tree in
    IfOk-weaker c.tally.result (λ (tally : Tally). IsTally c.args.c.now (leaves c.args.c.now.order t) tally) (λ (tally : Tally). IsCounted c.args.c.now tally)
    (λ tally counts. record { tree = t; derivation = c.requires.derivation; counts = counts }) c.tally.ensures
