use Rattle.graph_core.proofs.from_counting.Common.{◌≡◌, All, length, Within}
use Rattle.graph_core.proofs.Common.{size}
use Rattle.ear_core.specs.Common.{last_vertex}
use Rattle.ear_core.proofs.choosing.last_of.Given as goal

-- what is left of the ear leads to its last vertex
abbrev pub invariant-edges : goal.invariant-edges
invariant-edges l = record {
  last : last_vertex l.fn.g l.fn.ear.«from» l.fn.ear.edges ≡ last_vertex l.fn.g l.last l.rest;
  at : Within l.fn.g.order l.last;
  edges : All (Within (size l.fn.g)) l.rest;
}

abbrev pub decreases-edges : goal.decreases-edges
decreases-edges l = length l.rest
