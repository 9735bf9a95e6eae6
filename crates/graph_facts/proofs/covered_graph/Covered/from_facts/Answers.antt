use Rattle.allowed_edges.proofs.from_counting.Common.{subst, sym, arith, mem}
use Rattle.graph_core.proofs.Common.{Graph, IsCovered, IsGraph, covered_perfect}
use Rattle.allowed_edges.specs.from_match_core.Common.{edges_of}
use Rattle.graph_facts.proofs.CoveredFacts.{maximum_is_perfect}
use Rattle.graph_facts.proofs.covered_graph.Covered.from_facts.Goals as goal

pub unreachable-requires : goal.unreachable-requires
unreachable-requires c = grind (arith, covered_perfect c.facts.inside.graph.now)

pub invariant_of-result : goal.invariant_of-result
invariant_of-result c =
    let g = c.facts.inside.graph.now in
    let is = subst (λ (h : Graph). IsGraph h) (sym c.facts.view_is) c.graph.ensures.limits.multigraph.ends in
    let covered = subst (λ (h : Graph). IsCovered h) (sym c.facts.view_is) c.requires in
    let frame = c.facts.invariant.frame_is in
    grind (arith, maximum_is_perfect g (mem (edges_of c.facts.inside.frame.found.matching)) is frame.maximum (covered_perfect g is covered), covered_perfect g is covered)
