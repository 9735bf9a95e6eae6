use Rattle.std.proofs.Common.{◌∙◌, ap, arith}
use Rattle.tree_core.specs.Common.{PlaceValue}
use Rattle.tight_cuts.proofs.ClustersAtPlaces.{clusters-of_blocks}
use Rattle.tight_cuts.proofs.clusters.Clusters.of_blocks.Goals as goal

pub returns : goal.returns
returns c =
    clusters-of_blocks c.args.place.now.graph c.args.place.now.blocks c.keeps_place.ensures.limits.multigraph.ends c.keeps_place.ensures.partition c.partition-p.result.now.blocks c.args.self.now c.loop-i.sets.items
    (c.partition-p.ensures.blocks ∙ ap (λ (q : PlaceValue). q.blocks) c.place.ensures) c.requires (grind arith) (λ k j w. c.loop-i.invariant.each k j (grind arith))
