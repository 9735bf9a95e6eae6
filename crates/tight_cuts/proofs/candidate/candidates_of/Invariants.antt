use Rattle.std.proofs.Common.{◌≡◌, map, take}
use Rattle.tight_cuts.specs.Common.{candidate_at, origin_of}
use Rattle.tight_cuts.proofs.candidate.candidates_of.Given as goal

abbrev pub invariant-loop-shore : goal.invariant-loop-shore
invariant-loop-shore l = l.list ≡ map (candidate_at l.n (origin_of l.origin)) (take l.shore-index l.shore-items)
