-- The line of `matching`: the graph6 text of the graph, the number of edges of a maximum matching,
-- these edges, and after `D`, `A` and `C` each the vertices of this Gallai-Edmonds set. The set A
-- shows that the matching is maximum: the matching misses exactly o(A) - |A| vertices. Any maximum
-- matching may be written.
-- Stated by: mcg6_lines. Used by: theorems.
use Rattle.std.specs.Prelude.{◌≡◌, ℕ, zero, suc, ◌++◌, nat_lt, if◌then◌else◌, List, [], codes, decimal}
use Rattle.allowed_edges.specs.from_counting.Common.{count, mem, none, Lists, Set}
use Rattle.allowed_edges.specs.from_match_search.Common.{HasMates}
use Rattle.graph_core.specs.Common.{Attains, Graph, InA, InC, InD, IsMaximum, size}
use Rattle.graph6_text.specs.Common.{graph6_of}
use Rattle.report_text.specs.Common.{numbers_text}

-- these are the mates in a maximum matching with so many edges, and d, a and c are the
-- Gallai-Edmonds sets; the matching misses exactly o(a) - |a| vertices
pub record IsMatchedWith (g : Graph) (edges : ℕ) (mate : ℕ → ℕ) (d a c : List ℕ) : Type 0 where
  pub matching : Set
  pub mates : HasMates g none matching mate
  pub maximum : IsMaximum g none matching
  pub size_is : count (size g) matching ≡ edges
  pub attains : Attains g none (mem a) matching
  pub lists_d : Lists g.order d (InD g)
  pub lists_a : Lists g.order a (InA g)
  pub lists_c : Lists g.order c (InC g)

-- an edge by its ends, after a space
abbrev pub pair_text : ℕ → ℕ → List ℕ
pair_text a b = codes " " ++ decimal a ++ codes "-" ++ decimal b

-- the edge from v to its mate, if that is the higher one of the two
abbrev pub pair_from : (v mate : ℕ) → List ℕ
pair_from v mate = if nat_lt v mate then pair_text v mate else []

-- the edges that join a vertex of 1 to k to a higher mate, in increasing order
abbrev pub pairs_text : (mate : ℕ → ℕ) → ℕ → List ℕ
pairs_text mate zero = []
pairs_text mate (suc v) = pairs_text mate v ++ pair_from (suc v) (mate (suc v))

-- the three sets, each after its letter
abbrev pub sets_text : (d a c : List ℕ) → List ℕ
sets_text d a c = codes " D" ++ numbers_text d ++ codes " A" ++ numbers_text a ++ codes " C" ++ numbers_text c ++ codes "\n"

-- the line of a graph with so many edges in a maximum matching, these mates and these sets
unfoldable pub matched_line : Graph → (edges : ℕ) → (mate : ℕ → ℕ) → (d a c : List ℕ) → List ℕ
matched_line g edges mate d a c = graph6_of g ++ codes " " ++ decimal edges ++ pairs_text mate g.order ++ sets_text d a c

-- the bytes are the line of the graph, and what it says is right
pub record IsMatchingLine (g : Graph) (bytes : List ℕ) : Type 0 where
  pub edges : ℕ
  pub mate : ℕ → ℕ
  pub d : List ℕ
  pub a : List ℕ
  pub c : List ℕ
  pub right : IsMatchedWith g edges mate d a c
  pub line : bytes ≡ matched_line g edges mate d a c

-- two lines differ at most in the edges of the matching: they have the graph, the number of edges
-- and the three sets in common
pub record DifferInEdges (first second : List ℕ) : Type 0 where
  pub graph : Graph
  pub edges : ℕ
  pub d : List ℕ
  pub a : List ℕ
  pub c : List ℕ
  pub mate : ℕ → ℕ
  pub other : ℕ → ℕ
  pub one : first ≡ matched_line graph edges mate d a c
  pub two : second ≡ matched_line graph edges other d a c
