use Rattle.graph_core.proofs.from_counting.Common.{◌≡◌, All, length, Within, mem}
use Rattle.graph_core.proofs.Common.{size}
use Rattle.ear_core.specs.Common.{entering}
use Rattle.ear_core.proofs.fault_places.entering.Given as goal

-- the edges that are left decide
abbrev pub invariant-edges : goal.invariant-edges
invariant-edges l = record {
  same : entering l.fn.g (mem l.taken) l.fn.ear.«from» l.fn.ear.edges ≡ entering l.fn.g (mem l.taken) l.at l.rest;
  at : Within l.fn.g.order l.at;
  edges : All (Within (size l.fn.g)) l.rest;
}

abbrev pub decreases-edges : goal.decreases-edges
decreases-edges l = length l.rest
