-- Bipartite graphs: vertex covers, surplus, pairs of vertices on opposite sides, sequences of
-- single ears, and the digraph of a perfect matching (König 1931; Dulmage and Mendelsohn 1958;
-- Hetyei 1964; Lovász and Plummer, "Matching Theory", sections 1.1 and 4.1).
-- Stated by: theorems.
use Rattle.std.specs.Prelude.{◌≡◌, ℕ, ◌+◌, ◌≤◌, ◌||◌, List, [], ◌∷◌, true, false}
use Rattle.tree_check.specs.from_counting.Common.{Within, count, Set, pair_set}
use Rattle.ear_text.specs.from_ear_core.Common.{IsEar, PlainEar, with_edges}
use Rattle.graph_core.specs.Common.{Graph, HasPerfect, Walk, first_end, second_end, size}
use Rattle.quick_kinds.specs.from_matching_digraph.Digraph.{arc}
use Rattle.theorems.specs.Braces.{neighbourhood}

-- a vertex cover: each edge has an end in c
abbrev pub IsVertexCover : Graph → Set → Type 0
IsVertexCover g c = (e : ℕ) → Within (size g) e → (c (first_end g e) || c (second_end g e)) ≡ true

-- |N(s)| ≥ |s| + 1 for each s ⊂ a with 1 ≤ |s| ≤ |a| − 1
abbrev pub HasSurplus : Graph → Set → Type 0
HasSurplus g a = (s : Set) → ((v : ℕ) → Within g.order v → s v ≡ true → a v ≡ true) → 1 ≤ count g.order s → count g.order s + 1 ≤ count g.order a → count g.order s + 1 ≤ count g.order (neighbourhood g s)

-- G − u − v has a perfect matching for each u ∈ a and each v ∉ a
abbrev pub ArePairsMatched : Graph → Set → Type 0
ArePairsMatched g a = (u v : ℕ) → Within g.order u → Within g.order v → a u ≡ true → a v ≡ false → HasPerfect g (pair_set u v)

-- each ear is an ear of the edges before it, f and the earlier ears, and together they make all
-- edges: f ∪ a₁ ∪ .. ∪ aₖ = E; nothing is asked of the stages between
abbrev pub AreEarsInTurn : Graph → Set → List PlainEar → Type 0
AreEarsInTurn g f [] = (e : ℕ) → Within (size g) e → f e ≡ true
AreEarsInTurn g f (a ∷ ears) = IsEar g f a.begin a.edges × AreEarsInTurn g (with_edges f a.edges) ears

-- the digraph of the matching m is strongly connected: from each vertex of x an arc leads to its
-- mate, from each other vertex arcs lead to all its neighbours, and a walk of arcs leads from each
-- vertex to each other
abbrev pub IsStrong : Graph → (x m : Set) → Type 0
IsStrong g x m = (u v : ℕ) → Within g.order u → Within g.order v → (ws : List ℕ) × Walk (arc g x m) u ws v
