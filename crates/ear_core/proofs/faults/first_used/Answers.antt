use Rattle.graph_core.proofs.from_counting.Common.{rules, ◌<◌, ◌||◌, ◌∙◌, length, mem}
use Rattle.two_ears.specs.from_match_search.Common.{marks}
use Rattle.ear_core.proofs.FaultPlaces.{found-behind}
use Rattle.ear_core.proofs.FirstFaults.{items-behind}
use Rattle.ear_core.proofs.faults.first_used.Goals as goal

pub edges-preserved : goal.edges-preserved
edges-preserved c = record {
  same = c.edges.invariant.same ∙ found-behind (λ e. marks c.args.mark.now e || mem c.args.used.now e) c.in-Some.e.now c.edges.rest.now c.in-Some.others.now c.in-Some.ensures.cases.0 (search rules);
  below = items-behind (λ d. d < length c.args.mark.now) c.in-Some.e.now c.edges.rest.now c.in-Some.others.now c.in-Some.ensures.cases.0 c.edges.invariant.below;
}
