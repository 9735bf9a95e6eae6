use Rattle.std.proofs.Common.{◌≡◌, []}
use Rattle.tight_cuts.specs.Common.{front_candidates, AreClusters, AreFloodsOf}
use Rattle.tight_cuts.proofs.EdgeLoop.{after_edges}
use Rattle.tight_cuts.proofs.finder.first_flood_cut.Given as goal

abbrev pub invariant-loop-k : goal.invariant-loop-k
invariant-loop-k l = record { floods : AreFloodsOf l.c l.search.side l.search.kept; clusters : AreClusters l.c l.clusters; list : l.list ≡ after_edges l.c (front_candidates l.c) l.k; none : l.list ≡ [] }
