-- What the last step of a search proves about a matching given by its mates, and what the rows of a
-- table share.
-- Stated by: match_search, match_core. Used by: mcg6_lines.
use Rattle.std.specs.Prelude.{◌≡◌, ◌≢◌, ℕ, ◌-◌, true, false, length, List}
use Rattle.graph_core.specs.from_counting.Common.{Within, count, Set, mem}
use Rattle.graph_core.specs.Common.{Graph, size, IsMatching, missed_count}
use Rattle.match_search.specs.Frames.{Frame}
use Rattle.match_search.specs.Mates.{HasMates}
use Rattle.match_search.specs.Rows.{numbers}
use Rattle.match_search.specs.Steps.{AreVertexSets}
use Rattle.match_search.specs.AlternatingForests.{IsSized, MayBeExposed}
use Rattle.match_search.specs.declared.row_space.RowSpace.{RowSpace}
use Rattle.match_search.specs.declared.answer.FinalSets.{FinalSets}

-- the mates are those of a matching of g - r, and the sets are its frame
pub record HasFrame (g : Graph) (r : Set) (mate : List ℕ) (sets : FinalSets) : Type 0 where
  pub m : Set
  pub mates : HasMates g r m (numbers mate)
  pub frame : Frame g r (count (size g) m) (mem sets.outer) (mem sets.inner)
  pub vertices : AreVertexSets g sets

-- the row has the outer vertices of the frame of a matching m of g - r if m misses one vertex, and
-- otherwise none
pub record IsMissableRow (g : Graph) (r : Set) (row : List ℕ) : Type 0 where
  pub m : Set
  pub outer : Set
  pub inner : Set
  pub matching : IsMatching g r m
  pub frame : Frame g r (count (size g) m) outer inner
  pub one : missed_count g r m ≡ 1 → (v : ℕ) → mem row v ≡ outer v
  pub other : missed_count g r m ≢ 1 → (v : ℕ) → mem row v ≡ false
  pub within : (v : ℕ) → mem row v ≡ true → Within g.order v

-- the forest and the row of mates have the lengths that a search needs, and the set contains each
-- vertex that is left and has no mate
pub record ServesRows (left mate : List ℕ) (space : RowSpace) : Type 0 where
  pub sized : IsSized (length mate - 1) space.forest
  pub own : length space.own.items ≡ length mate
  pub exposed : MayBeExposed left mate space.exposed
