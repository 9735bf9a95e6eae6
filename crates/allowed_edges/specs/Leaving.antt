-- Matchings of G - X, and what is left of a matching when the edges with an end in X are removed.
-- Stated by: allowed_edges, tight_cuts.
use Rattle.std.specs.Prelude.{◌≡◌, ℕ, ◌⊎◌, Bool, true, List, ◌||◌, ◌==◌}
use Rattle.graph_core.specs.from_counting.Common.{Within, mem, Set}
use Rattle.graph_core.specs.Common.{Graph, first_end, second_end, IsEnd, IsMatching, IsPerfect, missed_count}
use Rattle.match_core.specs.Common.{IsOf, MatchingValue, edges_of, left_over}

-- m is a matching of g - met, where met is a set of vertices of g
pub record IsMatchingOff (g : Graph) (met : List ℕ) (m : MatchingValue) : Type 0 where
  pub of : IsOf g m
  pub within : (v : ℕ) → mem met v ≡ true → Within g.order v
  pub matching : IsMatching g (mem met) (mem (edges_of m))

-- m is a perfect matching of g - met
pub record IsPerfectOffMet (g : Graph) (met : List ℕ) (m : MatchingValue) : Type 0 where
  pub of : IsOf g m
  pub perfect : IsPerfect g (mem met) (mem (edges_of m))

-- the edges of m without an end in x miss no vertex outside x, or exactly two
abbrev pub LeavesFew : Graph → Set → Set → Type 0
LeavesFew g x m = (missed_count g x (left_over g x m) ≡ 0) ⊎ (missed_count g x (left_over g x m) ≡ 2)

-- no vertex is an end of both edges
abbrev pub ShareNone : Graph → ℕ → ℕ → Type 0
ShareNone g e f = (v : ℕ) → IsEnd g e v → IsEnd g f v → ⊥

-- some vertex is an end of both edges, as a test
abbrev pub share_end : Graph → ℕ → ℕ → Bool
share_end g e f = (((first_end g e == first_end g f) || (first_end g e == second_end g f)) || (second_end g e == first_end g f)) || (second_end g e == second_end g f)
