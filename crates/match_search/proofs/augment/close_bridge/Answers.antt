use Rattle.graph_core.proofs.from_counting.Common.{IfOk-weaker, Set}
use Rattle.graph_core.proofs.Common.{Graph}
use Rattle.match_search.specs.Common.{AreClosingPaths, ClosesForest, IsClosed}
use Rattle.match_search.proofs.augment.close_bridge.Goals as goal

pub close-requires : goal.close-requires
close-requires c = let q = c.requires in (q.0, q.1, q.2, c.in_ok-paths.ensures q.0 q.1 q.2 q.3)

pub returns-clause-closed : goal.returns-clause-closed
returns-clause-closed c =
    IfOk-weaker c.close.result (λ b. (g : Graph) (r f : Set) → AreClosingPaths g r f c.args.mate.now c.in_ok-paths.paths → IsClosed g r f c.close.new.mate b) (λ b. (g : Graph) (r f : Set) → ClosesForest g r f c.args.mate.now c.args.forest.now c.args.bridge → IsClosed g r f c.close.new.mate b)
    (λ b closed g r f closes. closed g r f (c.in_ok-paths.ensures g r f closes)) c.close.ensures.closed
