use Rattle.graph_core.proofs.from_counting.Common.{◌≡◌, complement, count}
use Rattle.graph_core.proofs.Common.{size}
use Rattle.two_ears.specs.from_match_search.Common.{marks}
use Rattle.ear_core.specs.Common.{IsBuilt, row_edge}
use Rattle.ear_core.proofs.building.steps_from.Given as goal

-- the steps lead from the first stage to the one that is built
abbrev pub invariant-stages : goal.invariant-stages
invariant-stages l = record {
  built : IsBuilt l.c (row_edge l.kept.rows) (marks l.initial.built.marked.mark.items) l.built;
  last : l.last ≡ l.c;
}

abbrev pub decreases-stages : goal.decreases-stages
decreases-stages l = count (size l.c) (complement (marks l.built.marked.mark.items))
