-- Where two parts of a row meet.
-- Stated by: match_search.
use Rattle.std.specs.Prelude.{◌≡◌, ◌≢◌, ℕ, ◌+◌, ◌<◌, List, slice_index}
use Rattle.match_search.specs.declared.cycle.Meeting.{Meeting}

-- two parts of a row meet at their places m.i and m.j, and at no later place of the first
pub record IsLastMeeting (row : List ℕ) (p p_count q q_count : ℕ) (m : Meeting) : Type 0 where
  pub i_in : m.i < p_count
  pub j_in : m.j < q_count
  pub meet : slice_index row (p + m.i) ≡ slice_index row (q + m.j)
  pub latest : (s t : ℕ) → m.i < s → s < p_count → t < q_count → slice_index row (p + s) ≢ slice_index row (q + t)
