-- Both versions of the graph format. The second word of the header says which one it is: version 2
-- has a header `p mcg2 N M`, N lines `v NAME` and M lines `e X Y` between names.
-- Stated by: graph_text, mcg6_encoder, bench_tasks, theorems, example_order.
-- Used by: bench_outcomes, bench_top.
use Rattle.std.specs.Prelude.{ℕ, ◌==◌, ◌&&◌, ◌||◌, not, nat_lt, Bool, false, List, [], ◌∷◌, ◌++◌, codes, length, Option, Some, None, Result, Ok, Err, if◌then◌else◌, bytes_eq}
use Rattle.std.specs.Result.{result_map_both}
use Rattle.graph_core.specs.from_line_text.Common.{Rules, checked, SignificantLine, significant_lines_of, has_form, word_at, is_number, value_of}
use Rattle.graph_core.specs.Common.{Graph, size, with_edge}
use Rattle.graph_core.specs.from_line_text.declared.faults.FaultKind.{FaultKind}
use Rattle.graph_core.specs.from_line_text.declared.faults.FaultKind.TheVariants as kind
use Rattle.graph_text.specs.GraphLines.{GraphSoFar, graph_line, graph_end}
use Rattle.graph_text.specs.Names.{is_name, is_among, vertex_of}
use Rattle.graph_text.specs.VersionOne.{most_vertices, most_edges}

-- the graph as far as it has been read, and in version 2 the names read so far
pub record EitherSoFar : Type 0 where
  pub so_far : GraphSoFar
  pub names : Option (List (List ℕ))

-- the graph as far as it has been read, in version 2
abbrev pub named_so_far : GraphSoFar → List (List ℕ) → EitherSoFar
named_so_far body names = record { so_far = body; names = Some names }

-- a graph, and the names of its vertices if it has names
pub record NamedGraph : Type 0 where
  pub graph : Graph
  pub names : Option (List (List ℕ))

-- the most vertices in version 2
abbrev pub most_named_vertices : ℕ
most_named_vertices = 128

-- the most edges in version 2
abbrev pub most_named_edges : ℕ
most_named_edges = 2048

-- a line with these words is a header of version 2
abbrev pub is_named_header : List (List ℕ) → Bool
is_named_header words = has_form words 4 (codes "p" ∷ codes "mcg2" ∷ [])

-- a line with these words is a header of version 1
abbrev pub is_plain_header : List (List ℕ) → Bool
is_plain_header words = has_form words 4 (codes "p" ∷ codes "mcg" ∷ [])

-- so many vertices and edges exceed the limits of the version
abbrev pub is_over : Bool → ℕ → ℕ → Bool
is_over named n m =
    if named then nat_lt most_named_vertices n || nat_lt most_named_edges m else nat_lt most_vertices n || nat_lt most_edges m

-- the header, by its words
abbrev pub either_header : List (List ℕ) → Result EitherSoFar FaultKind
either_header words =
    let n = value_of (word_at words 2) in
    let m = value_of (word_at words 3) in
    checked ((not (is_named_header words || is_plain_header words), kind.Header)
    ∷ (not (is_number (word_at words 2) && is_number (word_at words 3)), kind.Number)
    ∷ (is_over (is_named_header words) n m, kind.Limit)
    ∷ [])
    (record {
      so_far = record { graph = record { order = n; ends = [] }; edges = m };
      names = if is_named_header words then Some [] else None;
    })

-- a line `v NAME` names the next vertex
abbrev pub vertex_line : GraphSoFar → List (List ℕ) → List (List ℕ) → Result EitherSoFar FaultKind
vertex_line body names words =
    let name = word_at words 1 in
    checked ((not (has_form words 2 (codes "v" ∷ [])), kind.Word)
    ∷ (not (is_name name), kind.BadName)
    ∷ (is_among names name, kind.SameName)
    ∷ [])
    (named_so_far body (names ++ name ∷ []))

-- a line `e X Y` adds an edge between the vertices with these names
abbrev pub named_edge_line : GraphSoFar → List (List ℕ) → List (List ℕ) → Result EitherSoFar FaultKind
named_edge_line body names words =
    let x = word_at words 1 in
    let y = word_at words 2 in
    checked ((not (has_form words 3 (codes "e" ∷ [])), kind.Word)
    ∷ (not (is_among names x && is_among names y), kind.Unnamed)
    ∷ (bytes_eq x y, kind.Loop)
    ∷ [])
    (named_so_far (record body { graph = with_edge body.graph (vertex_of names x) (vertex_of names y) }) names)

-- a line after the header in version 2: the names of all vertices come first, then the edges,
-- then nothing
abbrev pub named_line : GraphSoFar → List (List ℕ) → List (List ℕ) → Result EitherSoFar FaultKind
named_line body names words =
    if nat_lt (length names) body.graph.order then vertex_line body names words
    else (if size body.graph == body.edges then Err kind.Extra else named_edge_line body names words)

-- a significant line after the header
abbrev pub line_behind : GraphSoFar → Option (List (List ℕ)) → List (List ℕ) → Result EitherSoFar FaultKind
line_behind body None words = result_map_both (λ next. record { so_far = next; names = None }) (λ k. k) (graph_line body words)
line_behind body (Some names) words = named_line body names words

-- the end of the text comes when all vertices have names and all edges have been read
abbrev pub end_behind : GraphSoFar → Option (List (List ℕ)) → Result NamedGraph FaultKind
end_behind body None = result_map_both (λ g. record { graph = g; names = None }) (λ k. k) (graph_end body)
end_behind body (Some names) =
    if (length names == body.graph.order) && (size body.graph == body.edges) then Ok (record { graph = body.graph; names = Some names })
    else Err kind.Missing

-- the format
abbrev pub either_version : Rules EitherSoFar NamedGraph FaultKind
either_version = record {
  header = either_header;
  line = λ body words. line_behind body.so_far body.names words;
  close = λ body. end_behind body.so_far body.names;
  headless = kind.Header;
}

-- the first of these lines is a header of version 2
abbrev pub begin_named : List SignificantLine → Bool
begin_named [] = false
begin_named (line ∷ lines) = is_named_header line.words

-- version 2 applies to a text if and only if its first significant line is a header of version 2;
-- otherwise version 1 applies
abbrev pub is_version_two : List ℕ → Bool
is_version_two text = begin_named (significant_lines_of text)
