-- Elementary components (Lovász and Plummer, "Matching Theory", section 5.1): the components of the
-- subgraph of the allowed edges, that is of the edges that lie in perfect matchings; and the lines
-- of `elementary`, which has each of them as a graph of its own.
-- Stated by: mcg6_lines, theorems.
use Rattle.std.specs.Prelude.{ℕ, ◌++◌, ◌&&◌, if◌then◌else◌, List, [], ◌∷◌, codes, length, map, decimal}
use Rattle.allowed_edges.specs.from_counting.Common.{count, mem, none, rising_list}
use Rattle.graph_core.specs.Common.{Graph, components, first_end, has_perfect, inside, is_allowed, second_end, size, with_edge, with_ends}
use Rattle.graph6_text.specs.Common.{graph6_of}
use Rattle.report_text.specs.Common.{numbers_text}

-- the subgraph of the allowed edges: all vertices of g, and the edges that lie in perfect matchings
unfoldable pub allowed_subgraph : Graph → Graph
allowed_subgraph g = with_ends g (map (λ e. (first_end g e, second_end g e)) (rising_list (size g) (is_allowed g)))

-- the vertex sets of the elementary components, as increasing lists, by least vertex
unfoldable pub elementary_parts : Graph → List (List ℕ)
elementary_parts g = components (allowed_subgraph g) none

-- the new number of v among the vertices vs: how many of them are at most v
abbrev pub number_in : List ℕ → ℕ → ℕ
number_in vs v = count v (mem vs)

-- the allowed edges with both ends among the vertices vs, in increasing order
abbrev pub component_edges : Graph → List ℕ → List ℕ
component_edges g vs = rising_list (size g) (λ e. is_allowed g e && inside g (mem vs) e)

-- the elementary component with the vertices vs, as a graph of its own: its vertices get new
-- numbers in the same order, and its edges are the allowed ones
unfoldable pub component_graph : Graph → List ℕ → Graph
component_graph g vs = record { order = length vs; ends = map (λ e. (number_in vs (first_end g e), number_in vs (second_end g e))) (component_edges g vs) }

-- the line of the component with the vertices vs: the number of the line in the list, the graph6
-- text of the component, and its vertices in g
abbrev pub component_line : ℕ → Graph → List ℕ → List ℕ
component_line number g vs = decimal number ++ codes " " ++ graph6_of (component_graph g vs) ++ numbers_text vs ++ codes "\n"

-- the lines of these components, in order
abbrev pub component_lines : ℕ → Graph → List (List ℕ) → List ℕ
component_lines number g [] = []
component_lines number g (vs ∷ parts) = component_line number g vs ++ component_lines number g parts

-- the lines of the elementary components of a graph with a perfect matching, and nothing for
-- another one
unfoldable pub elementary_lines : ℕ → Graph → List ℕ
elementary_lines number g = if has_perfect g none then component_lines number g (elementary_parts g) else []

-- h, and edge e of g if it is allowed
abbrev pub with_allowed : Graph → Graph → ℕ → Graph
with_allowed g h e = if is_allowed g e then with_edge h (first_end g e) (second_end g e) else h

-- h, and edge e of g with new numbers if it is allowed and both of its ends are among the vertices
-- vs
abbrev pub with_inside : Graph → List ℕ → Graph → ℕ → Graph
with_inside g vs h e =
    if is_allowed g e && inside g (mem vs) e then with_edge h (number_in vs (first_end g e)) (number_in vs (second_end g e)) else h
