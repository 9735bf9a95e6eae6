-- The result of the engine for a whole graph.
-- Stated by: match_search, match_core.
use Rattle.std.specs.Prelude.{◌≡◌, ◌+◌, length}
use Rattle.graph_core.specs.from_counting.Common.{count, Set, mem}
use Rattle.graph_core.specs.Common.{Graph, size, IsMatching}
use Rattle.match_search.specs.Frames.{Frame}
use Rattle.match_search.specs.Rows.{marks}
use Rattle.match_search.specs.Steps.{AreVertexSets}
use Rattle.match_search.specs.declared.best.Best.{Best}

-- the marks are a matching of g - r, and the sets are its frame
pub record IsBest (g : Graph) (r : Set) (b : Best) : Type 0 where
  pub long : length b.mark.items ≡ size g + 1
  pub matching : IsMatching g r (marks b.mark.items)
  pub frame : Frame g r (count (size g) (marks b.mark.items)) (mem b.sets.outer) (mem b.sets.inner)
  pub sets : AreVertexSets g b.sets
