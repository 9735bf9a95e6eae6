-- Matchings as lists of rows, each an edge with its two ends.
-- Stated by: match_core, allowed_edges, graph_facts, matching_digraph, quick_kinds and 5 more.
-- Used by: bench_reports, theorems.
use Rattle.std.specs.Prelude.{◌≡◌, ℕ, ◌+◌, ◌≤◌, Bool, ◌==◌, ◌&&◌, ◌||◌, not, List, [], ◌∷◌, ◌++◌, filter, nat_lt, map, All}
use Rattle.graph_core.specs.from_counting.Common.{Within, bit, Set, IsRisingIn}
use Rattle.graph_core.specs.Common.{Graph, size, first_end, second_end}
use Rattle.match_core.specs.declared.matching.MatchRow.{MatchRow}

-- an order and rows
pub record MatchingValue : Type 0 where
  pub order : ℕ
  pub rows : List MatchRow

-- how often v occurs in the rows
abbrev pub ends_at : List MatchRow → ℕ → ℕ
ends_at [] v = 0
ends_at (row ∷ rows) v = bit (row.a == v) + bit (row.b == v) + ends_at rows v

-- the edges of the rows
abbrev pub edges_of : MatchingValue → List ℕ
edges_of m = map (λ row. row.edge) m.rows

-- the edge numbers are increasing, the ends are from 1 to the order, and no vertex occurs twice;
-- edges and vertices are within the limits of a multigraph
pub record KeepsMatching (m : MatchingValue) : Type 0 where
  pub few : m.order ≤ 128
  pub edges : IsRisingIn 2048 (edges_of m)
  pub within : All (λ row. Within m.order row.a × Within m.order row.b) m.rows
  pub once : (v : ℕ) → Within m.order v → ends_at m.rows v ≤ 1

-- the row is an edge of g with its ends
pub record IsRowOf (g : Graph) (row : MatchRow) : Type 0 where
  pub edge : Within (size g) row.edge
  pub first : row.a ≡ first_end g row.edge
  pub second : row.b ≡ second_end g row.edge

-- the matching is of g: its order is that of g, and each row is an edge of g with its ends
pub record IsOf (g : Graph) (m : MatchingValue) : Type 0 where
  pub order : m.order ≡ g.order
  pub rows : All (IsRowOf g) m.rows

-- the row meets no vertex of x
abbrev pub is_clear : Set → MatchRow → Bool
is_clear x row = not (x row.a) && not (x row.b)

-- the rows of the edges before that of a row, this row, and the rows of the edges after it
abbrev pub inserted : List MatchRow → MatchRow → List MatchRow
inserted rows new = filter (λ row. nat_lt row.edge new.edge) rows ++ new ∷ filter (λ row. nat_lt new.edge row.edge) rows

-- edge e of g as a row
abbrev pub row_at : Graph → ℕ → MatchRow
row_at g e = record { edge = e; a = first_end g e; b = second_end g e }

-- edge e has an end in x
abbrev pub has_end_in : Graph → Set → Set
has_end_in g x e = x (first_end g e) || x (second_end g e)

-- the edges of m without an end in x
abbrev pub left_over : Graph → Set → Set → Set
left_over g x m e = m e && not (has_end_in g x e)
