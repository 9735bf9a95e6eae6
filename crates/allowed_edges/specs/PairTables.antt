-- Tables of pairs: perfect matchings such that any two edges that lie together are both in one of
-- them.
-- Stated by: allowed_edges, tight_cuts.
use Rattle.std.specs.Prelude.{◌≡◌, ℕ, ◌≤◌, ◌<◌, ◌⊎◌, Bool, true, false, ◌&&◌, List, [], ◌∷◌, ◌++◌, map, All}
use Rattle.std.specs.List.{list_any}
use Rattle.graph_core.specs.from_counting.Common.{Within, IsRisingIn, mem, none}
use Rattle.graph_core.specs.Common.{Graph, first_end, second_end, size, IsPerfect, Together, IsLean}
use Rattle.match_core.specs.Common.{IsOf, KeepsMatching, MatchingValue, edges_of}
use Rattle.match_core.specs.from_match_search.Common.{numbers}

-- the number of edges of the graph, and matchings of it
pub record PairsValue : Type 0 where
  pub size : ℕ
  pub list : List MatchingValue

-- the matchings, each as the list of its edges
abbrev pub edge_lists : PairsValue → List (List ℕ)
edge_lists p = map edges_of p.list

-- some list contains both e and f
abbrev pub holds_both : List (List ℕ) → ℕ → ℕ → Bool
holds_both ms e f = list_any (λ m. mem m e && mem m f) ms

-- perfect matchings, each with an edge or a pair that no earlier one contains
pub record AreGrown (g : Graph) (ms : List (List ℕ)) : Type 0 where
  pub rising : All (IsRisingIn (size g)) ms
  pub perfect : All (λ m. IsPerfect g none (mem m)) ms
  pub lean : IsLean ms

-- a perfect matching of g that contains edge e
pub record IsPerfectWith (g : Graph) (e : ℕ) (m : MatchingValue) : Type 0 where
  pub of : IsOf g m
  pub perfect : IsPerfect g none (mem (edges_of m))
  pub held : mem (edges_of m) e ≡ true

-- m is a perfect matching of g that contains an edge, or a pair of edges, that no matching of p
-- contains
pub record IsNew (g : Graph) (p : PairsValue) (m : MatchingValue) : Type 0 where
  pub one : ℕ
  pub other : ℕ
  pub with : IsPerfectWith g one m
  pub held : mem (edges_of m) other ≡ true
  pub new : holds_both (edge_lists p) one other ≡ false

-- the row has edge k of g at both of its ends
pub record NamesEdge (g : Graph) (at : List ℕ) (k : ℕ) : Type 0 where
  pub within : Within (size g) k
  pub first : numbers at (first_end g k) ≡ k
  pub second : numbers at (second_end g k) ≡ k

-- q lists one more matching than p: a perfect matching of g that contains e and f
pub record ListsPair (g : Graph) (e f : ℕ) (p q : PairsValue) : Type 0 where
  pub added : MatchingValue
  pub edge_count : q.size ≡ p.size
  pub list : q.list ≡ p.list ++ added ∷ []
  pub keeps : KeepsMatching added
  pub with : IsPerfectWith g e added
  pub held : mem (edges_of added) f ≡ true

-- q lists one such matching more than p, or e and f do not lie together
abbrev pub Sought : Graph → (e f : ℕ) → (p q : PairsValue) → Type 0
Sought g e f p q = ListsPair g e f p q ⊎ ((q ≡ p) × (Together g e f → ⊥))

-- such matchings of g; any edge below e and any other edge that lie together are both in one of
-- them
pub record SettlesEdges (g : Graph) (e : ℕ) (p : PairsValue) : Type 0 where
  pub edge_count : p.size ≡ size g
  pub of : All (IsOf g) p.list
  pub grown : AreGrown g (edge_lists p)
  pub done : (a b : ℕ) → Within (size g) a → Within (size g) b → a < e → a ≤ b → Together g a b → holds_both (edge_lists p) a b ≡ true

-- the same also for edge e and each edge above it and below f
pub record SettlesPairs (g : Graph) (e f : ℕ) (p : PairsValue) : Type 0 where
  pub edges : SettlesEdges g e p
  pub done : (b : ℕ) → Within (size g) b → e < b → b < f → Together g e b → holds_both (edge_lists p) e b ≡ true
