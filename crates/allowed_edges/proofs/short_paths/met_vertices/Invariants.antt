use Rattle.graph_core.proofs.from_counting.Common.{◌≡◌, ◌<◌, ℕ, true, slice_get, Some, mem}
use Rattle.match_core.specs.declared.matching.MatchRow.{MatchRow}
use Rattle.allowed_edges.proofs.short_paths.met_vertices.Given as goal

-- the ends of the rows that were read are in the set
abbrev pub invariant-loop-i : goal.invariant-loop-i
invariant-loop-i l = (j : ℕ) (row : MatchRow) → j < l.i → slice_get l.m.rows j ≡ Some row → (mem l.met row.a ≡ true) × (mem l.met row.b ≡ true)
