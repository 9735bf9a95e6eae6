-- The texts that are written for a graph.
-- Stated by: graph_text, mcg6_lines. Used by: bench_outcomes, bench_top, theorems.
use Rattle.std.specs.Prelude.{◌≡◌, ℕ, ◌-◌, ◌≤◌, List, [], ◌∷◌, ◌++◌, codes, length, map, slice_index_or, decimal}
use Rattle.graph_core.specs.from_line_text.Common.{written}
use Rattle.graph_core.specs.Common.{Graph, IsMultigraph, size}
use Rattle.graph_text.specs.Names.{AreNames}

-- the words of an edge between numbered vertices
abbrev pub edge_words : ℕ × ℕ → List (List ℕ)
edge_words edge = codes "e" ∷ decimal edge.0 ∷ decimal edge.1 ∷ []

-- the words of the header of version 1, for so many vertices and edges
abbrev pub header_words : ℕ → ℕ → List (List ℕ)
header_words order edges = codes "p" ∷ codes "mcg" ∷ decimal order ∷ decimal edges ∷ []

-- the words of the lines of a graph in version 1: the header, and a line for each edge in the
-- order of their numbers
abbrev pub graph_words : Graph → List (List (List ℕ))
graph_words g = header_words g.order (size g) ∷ map edge_words g.ends

-- the text of a graph in version 1: one space between words, a line feed after each line, numbers
-- in decimal
unfoldable pub graph_text : Graph → List ℕ
graph_text g = written (graph_words g)

-- the words of the header of version 2
abbrev pub named_header_words : ℕ → ℕ → List (List ℕ)
named_header_words order edges = codes "p" ∷ codes "mcg2" ∷ decimal order ∷ decimal edges ∷ []

-- the words of the line of a name
abbrev pub name_words : List ℕ → List (List ℕ)
name_words name = codes "v" ∷ name ∷ []

-- the words of the line of an edge between named vertices
abbrev pub named_edge_words : List (List ℕ) → ℕ × ℕ → List (List ℕ)
named_edge_words names edge =
    codes "e" ∷ slice_index_or names (edge.0 - 1) [] ∷ slice_index_or names (edge.1 - 1) [] ∷ []

-- the words of the lines of a graph in version 2: the header, a line for each name and a line for
-- each edge
abbrev pub named_words : Graph → List (List ℕ) → List (List (List ℕ))
named_words g names = named_header_words g.order (size g) ∷ map name_words names ++ map (named_edge_words names) g.ends

-- the text of a graph with names in version 2
unfoldable pub named_text : Graph → List (List ℕ) → List ℕ
named_text g names = written (named_words g names)

-- a multigraph within the limits of version 2, and a name for each vertex
pub record FitsNames (g : Graph) (names : List (List ℕ)) : Type 0 where
  pub multigraph : IsMultigraph g
  pub edges : size g ≤ 2048
  pub named : AreNames names
  pub one_each : length names ≡ g.order
