-- What any two outputs of one query on one line have in common.
-- Stated by: mcg6_top. Used by: mcg6_lines.
use Rattle.std.specs.Prelude.{◌≡◌, ◌⊎◌, ℕ, Bool, true, false, List, []}
use Rattle.mcg6_lines.specs.EarLines.{DifferInEars}
use Rattle.mcg6_lines.specs.MatchingLines.{DifferInEdges}
use Rattle.mcg6_lines.specs.declared.query.Query.{Query}
use Rattle.mcg6_lines.specs.declared.query.Query.TheVariants.{Kinds, Leaves, Elementary, Matching, Cuts, Ears, Graph, Select}

-- the query leaves open which of several outputs is written for a graph
abbrev pub is_free : Query → Bool
is_free Kinds = false
is_free (Leaves order) = false
is_free Elementary = false
is_free Matching = true
is_free Cuts = false
is_free Ears = true
is_free Graph = false
is_free (Select property) = false

-- the two outputs have in common what the graph determines: everything, unless the query is free
abbrev pub AreAlike : Query → (first second : List ℕ) → Type 0
AreAlike Matching first second = DifferInEdges first second
AreAlike Ears first second = DifferInEars first second ⊎ ((first ≡ []) × (second ≡ []))
AreAlike query first second = first ≡ second
