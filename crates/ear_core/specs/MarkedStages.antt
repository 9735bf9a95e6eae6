-- The marks of a stage, with the vertices that it meets.
-- Stated by: ear_core.
use Rattle.std.specs.Prelude.{◌≡◌, ◌+◌, ℕ, length}
use Rattle.graph_core.specs.from_counting.Common.{mem}
use Rattle.graph_core.specs.Common.{Graph, size}
use Rattle.two_ears.specs.from_match_search.Common.{marks}
use Rattle.ear_core.specs.Stages.{is_met}
use Rattle.ear_core.specs.declared.marked.Marked.{Marked}

-- there is a mark for each edge of g, and the vertices are those that the marked edges meet
pub record IsMarked (g : Graph) (m : Marked) : Type 0 where
  pub long : length m.mark.items ≡ size g + 1
  pub met : (v : ℕ) → mem m.met v ≡ is_met g (marks m.mark.items) v
