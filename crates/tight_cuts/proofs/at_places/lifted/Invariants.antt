-- So far the list is the candidates before the place, taken to the graph.
use Rattle.std.proofs.Common.{◌≡◌, map, take}
use Rattle.graph_core.proofs.Common.{Graph}
use Rattle.tight_cuts.specs.Common.{lifted_candidate, candidate_of}
use Rattle.tight_cuts.proofs.at_places.lifted.Given as goal

abbrev pub invariant-loop-candidate : goal.invariant-loop-candidate
invariant-loop-candidate l = (g : Graph) → g.order ≡ l.p.order → l.list ≡ map (lifted_candidate g l.p.blocks) (map candidate_of (take l.candidate-index l.candidate-items))
