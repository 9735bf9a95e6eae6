use Rattle.graph_core.proofs.from_counting.Common.{◌∙◌, ℕ, List, ap, arith, item, mem}
use Rattle.graph_core.proofs.Common.{place, union_of_blocks}
use Rattle.tree_core.specs.Common.{PlaceValue}
use Rattle.tight_cuts.proofs.ClustersAtPlaces.{clusters-of_vertices, item-pushed}
use Rattle.tight_cuts.proofs.LiftedCandidates.{order_q}
use Rattle.tight_cuts.proofs.clusters.Clusters.of_vertices.Goals as goal

pub of_vertex-requires-clause-rows : goal.of_vertex-requires-clause-rows
of_vertex-requires-clause-rows c = grind (arith, order_q c.args.place.now.graph c.args.place.now.blocks)

pub loop-k-preserved : goal.loop-k-preserved
loop-k-preserved c =
    let lifted = c.of_vertex.ensures c.args.place.now.graph (grind arith) in
    record {
      long = grind arith;
      each = λ v w. ap (λ (rows : List (List ℕ)). item rows v) c.in_ok-push.ensures.items
          ∙ item-pushed c.loop-k.sets.items c.of_vertex.result c.loop-k.k (λ v. union_of_blocks c.args.place.now.graph c.partition-p.result.now.blocks (mem (item c.args.self.now (place c.partition-p.result.now.blocks v))))
          c.loop-k.invariant.long c.loop-k.invariant.each lifted v w;
    }

pub returns : goal.returns
returns c =
    clusters-of_vertices c.args.place.now.graph c.args.place.now.blocks c.keeps_place.ensures.limits.multigraph.ends c.keeps_place.ensures.partition c.partition-p.result.now.blocks c.args.self.now c.loop-k.sets.items
    (c.partition-p.ensures.blocks ∙ ap (λ (q : PlaceValue). q.blocks) c.place.ensures) c.requires (grind arith) (λ v w. c.loop-k.invariant.each v (grind arith))
