use Rattle.tree_core.proofs.Common.{IsLeafAt}
use Rattle.decomposer.proofs.visited_places.VisitedPlace.of.Goals as goal

pub invariant_of-result : goal.invariant_of-result
unfolding IsLeafAt
invariant_of-result c = record {
  all = c.in_ok-candidates.ensures.list;
  each = c.in_ok-candidates.ensures.tight;
  leaf = c.in_ok-candidates.ensures.none.0;
}
