-- The graph6 text of a graph (B. D. McKay, "Description of graph6, sparse6 and digraph6
-- encodings").
-- Stated by: graph6_text, mcg6_encoder. Used by: mcg6_lines, bench_outcomes, theorems.
use Rattle.std.specs.Prelude.{◌≡◌, ℕ, ◌/◌, ◌%◌, nat_le, ◌*◌, if◌then◌else◌, Bool, List, [], ◌∷◌, ◌++◌, map, Ok}
use Rattle.graph_core.specs.from_counting.Common.{none}
use Rattle.graph_core.specs.Common.{Graph, IsSimple, adjacent}
use Rattle.graph6_text.specs.Digits.{base, byte_of, bytes_of}
use Rattle.graph6_text.specs.Pairs.{column_pairs}
use Rattle.graph6_text.specs.Reading.{long_byte, most_short, outcome_of}

-- the size: one digit, or for 63 or more vertices the byte of the long form and three digits, the
-- most significant first
unfoldable pub size_of : ℕ → List ℕ
size_of n =
    if nat_le n most_short then byte_of n ∷ [] else
    long_byte ∷ byte_of (n / (base * base)) ∷ byte_of (n / base % base) ∷ byte_of (n % base) ∷ []

-- one bit for each pair of vertices: whether an edge joins them
unfoldable pub adjacency_bits : Graph → List Bool
adjacency_bits g = map (λ pair. adjacent g none pair.0 pair.1) (column_pairs g.order)

-- the text of a graph: the size and then the data, without header and line end
unfoldable pub graph6_of : Graph → List ℕ
graph6_of g = size_of g.order ++ bytes_of (adjacency_bits g)

-- the text stands for a simple graph of the same order with the same adjacent pairs
pub record ReadsBack (text : List ℕ) (g : Graph) : Type 0 where
  pub graph : Graph
  pub stands : outcome_of text ≡ Ok graph
  pub order : graph.order ≡ g.order
  pub simple : IsSimple graph
  pub adjacent_pairs : (u v : ℕ) → adjacent graph none u v ≡ adjacent g none u v
