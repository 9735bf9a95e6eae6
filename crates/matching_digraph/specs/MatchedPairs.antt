-- The two ends of a row of a matching.
-- Stated by: matching_digraph.
use Rattle.std.specs.Prelude.{ℕ, Bool, ◌==◌, ◌&&◌, ◌||◌}
use Rattle.barrier_kit.specs.from_match_core.declared.matching.MatchRow.{MatchRow}

-- the row joins u and v
abbrev pub row_joins : ℕ → ℕ → MatchRow → Bool
row_joins u v row = (row.a == u && row.b == v) || (row.a == v && row.b == u)
