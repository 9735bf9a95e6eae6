-- What the search in a bipartite graph stands on: a side and a perfect matching, and at an edge
-- the digraph of a perfect matching that holds it, with the side of its lesser end.
-- Stated by: tight_cuts.
use Rattle.std.specs.Prelude.{◌≡◌, ℕ, List, true}
use Rattle.graph_core.specs.Common.{IsSide, Graph, IsPerfect}
use Rattle.graph_core.specs.from_counting.Common.{mem, none}
use Rattle.barrier_kit.specs.from_match_core.Common.{IsOf, MatchingValue, edges_of}
use Rattle.quick_kinds.specs.from_matching_digraph.Digraph.{are_mates}
use Rattle.quick_kinds.specs.from_matching_digraph.Digraphs.{IsDigraphOf}
use Rattle.quick_kinds.specs.from_matching_digraph.declared.digraph.Digraph.{Digraph}
use Rattle.tight_cuts.specs.Candidates.{greater_end, lesser_end}

-- a side of g and a perfect matching of it
pub record AreFloodsOf (g : Graph) (side : List ℕ) (kept : MatchingValue) : Type 0 where
  pub side_of : IsSide g (mem side)
  pub matching : IsOf g kept
  pub perfect : IsPerfect g none (mem (edges_of kept))

-- the digraph is of g, its side has the lesser end of edge e, and the ends of e are mates
pub record IsDigraphAt (g : Graph) (e : ℕ) (d : Digraph) : Type 0 where
  pub of : IsDigraphOf g d
  pub side : mem d.side (lesser_end g e) ≡ true
  pub mates : are_mates g (mem (edges_of d.matching)) (lesser_end g e) (greater_end g e) ≡ true
