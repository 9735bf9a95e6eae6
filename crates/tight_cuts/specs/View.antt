-- How the code's candidates are seen.
-- Stated by: tight_cuts, decomposer, mcg6_lines. Used by: theorems, example_order.
use Rattle.tight_cuts.specs.Candidates.{Candidate, Origin, Barrier, Separation, Flow}
use Rattle.tight_cuts.specs.declared.candidate.Candidate.{Candidate as StoredCandidate}
use Rattle.tight_cuts.specs.declared.candidate.Origin.{Origin as StoredOrigin}
use Rattle.tight_cuts.specs.declared.candidate.Origin.TheVariants.{Barrier as FromBarrier, Separation as FromSeparation, Flow as FromFlow}

-- the part of the list
abbrev pub origin_of : StoredOrigin → Origin
origin_of FromBarrier = Barrier
origin_of FromSeparation = Separation
origin_of FromFlow = Flow

-- the candidate with this shore, these numbers and this origin
abbrev pub candidate_of : StoredCandidate → Candidate
candidate_of c = record { shore = c.shore; inside = c.inside; outside = c.outside; origin = origin_of c.origin }
