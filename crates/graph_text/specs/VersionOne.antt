-- Version 1 of the graph format: a header `p mcg N M` and M lines `e A B`.
-- Stated by: graph_text. Used by: mcg6_lines, bench_top.
use Rattle.std.specs.Prelude.{ℕ, ◌≤◌, ◌&&◌, ◌||◌, not, nat_lt, List, [], ◌∷◌, codes, Result}
use Rattle.graph_core.specs.from_line_text.Common.{Rules, checked, has_form, word_at, is_number, value_of}
use Rattle.graph_core.specs.Common.{Graph, IsMultigraph, size}
use Rattle.graph_core.specs.from_line_text.declared.faults.FaultKind.{FaultKind}
use Rattle.graph_core.specs.from_line_text.declared.faults.FaultKind.TheVariants as kind
use Rattle.graph_text.specs.GraphLines.{GraphSoFar, graph_line, graph_end}

-- the most vertices in version 1
abbrev pub most_vertices : ℕ
most_vertices = 64

-- the most edges in version 1
abbrev pub most_edges : ℕ
most_edges = 512

-- the header, by its words
abbrev pub header : List (List ℕ) → Result GraphSoFar FaultKind
header words =
    let n = value_of (word_at words 2) in
    let m = value_of (word_at words 3) in
    checked ((not (has_form words 4 (codes "p" ∷ codes "mcg" ∷ [])), kind.Header)
    ∷ (not (is_number (word_at words 2) && is_number (word_at words 3)), kind.Number)
    ∷ (nat_lt most_vertices n || nat_lt most_edges m, kind.Limit)
    ∷ [])
    (record { graph = record { order = n; ends = [] }; edges = m })

-- the format
abbrev pub version_one : Rules GraphSoFar Graph FaultKind
version_one = record { header = header; line = graph_line; close = graph_end; headless = kind.Header }

-- a multigraph within the limits of version 1
pub record FitsVersionOne (g : Graph) : Type 0 where
  pub multigraph : IsMultigraph g
  pub vertices : g.order ≤ most_vertices
  pub edges : size g ≤ most_edges
