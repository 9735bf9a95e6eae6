-- Rows of the code as sets, as numbers by place, and as the ends of edges.
-- Stated by: match_search, match_core, allowed_edges, contraction, tight_cuts, ear_core and 1 more.
use Rattle.std.specs.Prelude.{◌+◌, ℕ, List, Bool, false, slice_index_or, slice_index}
use Rattle.graph_core.specs.declared.ends.Ends.{Ends}

-- a row of truth values as a set; false past its end
abbrev pub marks : List Bool → ℕ → Bool
marks xs i = slice_index_or xs i false

-- a row of numbers by place; 0 past its end
abbrev pub numbers : List ℕ → ℕ → ℕ
numbers xs i = slice_index xs i

-- a row from a place on
abbrev pub part : List ℕ → ℕ → ℕ → ℕ
part xs from j = numbers xs (from + j)

-- the first end at place k of a list of ends, the place of edge k + 1
abbrev pub end_a : List Ends → ℕ → ℕ
end_a es k = (slice_index_or es k (record { a = 0; b = 0 })).a

-- the second end at place k
abbrev pub end_b : List Ends → ℕ → ℕ
end_b es k = (slice_index_or es k (record { a = 0; b = 0 })).b
