-- The lines that both versions of the graph format share: what has been read so far, and an edge
-- between numbered vertices.
-- Stated by: graph_text. Used by: bench_top, theorems.
use Rattle.std.specs.Prelude.{ℕ, ◌==◌, ◌&&◌, ◌||◌, not, List, [], ◌∷◌, codes, Result, Ok, Err, if◌then◌else◌}
use Rattle.graph_core.specs.from_line_text.Common.{checked, has_form, word_at, is_number, value_of, is_out_of_range}
use Rattle.graph_core.specs.Common.{Graph, size, with_edge}
use Rattle.graph_core.specs.from_line_text.declared.faults.FaultKind.{FaultKind}
use Rattle.graph_core.specs.from_line_text.declared.faults.FaultKind.TheVariants as kind

-- the edges read so far, and how many are expected
pub record GraphSoFar : Type 0 where
  pub graph : Graph
  pub edges : ℕ

-- a line `e A B` adds an edge
abbrev pub edge_line : GraphSoFar → List (List ℕ) → Result GraphSoFar FaultKind
edge_line body words =
    let a = value_of (word_at words 1) in
    let b = value_of (word_at words 2) in
    checked ((not (has_form words 3 (codes "e" ∷ [])), kind.Word)
    ∷ (not (is_number (word_at words 1) && is_number (word_at words 2)), kind.Number)
    ∷ (is_out_of_range body.graph.order a || is_out_of_range body.graph.order b, kind.Range)
    ∷ (a == b, kind.Loop)
    ∷ [])
    (record body { graph = with_edge body.graph a b })

-- a significant line after the header is an edge, or an error if all edges have been read
abbrev pub graph_line : GraphSoFar → List (List ℕ) → Result GraphSoFar FaultKind
graph_line body words = if size body.graph == body.edges then Err kind.Extra else edge_line body words

-- the text may end when all edges have been read
abbrev pub graph_end : GraphSoFar → Result Graph FaultKind
graph_end body = if size body.graph == body.edges then Ok body.graph else Err kind.Missing
