-- The candidates at a partition: those of the quotient, their shores taken to vertices of the
-- graph and their sides counted in blocks. At the partition into single vertices they are those
-- of the graph itself, in the order of its own edges.
-- Stated by: tight_cuts, decomposer. Used by: tree_check, mcg6_lines, theorems.
use Rattle.std.specs.Prelude.{◌≡◌, ℕ, false, List, length, map, ◌==◌, if◌then◌else◌}
use Rattle.graph_core.specs.from_counting.Common.{count, complement, mem, IsRisingIn}
use Rattle.graph_core.specs.Common.{Graph, IsNontrivial, quotient, union_of_blocks, IsTightAt, blocks_in}
use Rattle.tight_cuts.specs.Candidates.{Candidate, candidates}

-- a candidate of the quotient with its shore taken to vertices; inside and outside stay the
-- numbers of blocks
abbrev pub lifted_candidate : Graph → List (List ℕ) → Candidate → Candidate
lifted_candidate g p c = record { shore = union_of_blocks g p (mem c.shore); inside = c.inside; outside = c.outside; origin = c.origin }

-- the candidates at p; a partition with as many blocks as vertices is the one into single vertices
unfoldable pub candidates_at : Graph → List (List ℕ) → List Candidate
candidates_at g p = if length p == g.order then candidates g else map (lifted_candidate g p) (candidates (quotient g p))

-- the shore is tight at p, nontrivial and canonical, as a rising list, and the two numbers are
-- those of the blocks on its sides
pub record IsCandidateAt (g : Graph) (p : List (List ℕ)) (c : Candidate) : Type 0 where
  pub rising : IsRisingIn g.order c.shore
  pub tight : IsTightAt g p (mem c.shore)
  pub nontrivial : IsNontrivial (length p) (blocks_in p (mem c.shore))
  pub canonical : mem c.shore g.order ≡ false
  pub inside : c.inside ≡ count (length p) (blocks_in p (mem c.shore))
  pub outside : c.outside ≡ count (length p) (complement (blocks_in p (mem c.shore)))
