-- What is known of a graph: its components, its side, a maximum matching and its partners, stated
-- by the definitions of graphs and matchings.
-- Stated by: graph_facts.
use Rattle.std.specs.Prelude.{◌≡◌, ℕ, true, List, Option, Some, None, IfSome, ◌↔◌}
use Rattle.allowed_edges.specs.from_counting.Common.{Within, mem, IsRisingIn, none}
use Rattle.graph_core.specs.Common.{Attains, components, InD, InA, Graph, IsBipartite, IsCovered, HasPerfect, IsMaximum, IsPerfect, IsSide}
use Rattle.allowed_edges.specs.from_match_core.Common.{IsOf, MatchingValue, edges_of, ArePartners}
use Rattle.allowed_edges.specs.from_match_core.declared.frames.FrameSets.{FrameSets}

-- a maximum matching of g; the outer set is D, and the inner one is A, the Berge set
pub record IsFrame (g : Graph) (f : FrameSets) : Type 0 where
  pub of : IsOf g f.found.matching
  pub maximum : IsMaximum g none (mem (edges_of f.found.matching))
  pub berge : f.found.berge ≡ f.inner
  pub attains : Attains g none (mem f.inner) (mem (edges_of f.found.matching))
  pub outer_in : IsRisingIn g.order f.outer
  pub inner_in : IsRisingIn g.order f.inner
  pub missed : (v : ℕ) → Within g.order v → (mem f.outer v ≡ true) ↔ InD g v
  pub next : (v : ℕ) → Within g.order v → (mem f.inner v ≡ true) ↔ InA g v

-- the components of g, one side if g is bipartite, its frame, and its partners, known if and only
-- if g has a perfect matching
pub record AreFacts (g : Graph) (parts : List (List ℕ)) (side : Option (List ℕ)) (frame : FrameSets) (table : Option (List (List ℕ))) : Type 0 where
  pub parts_are : parts ≡ components g none
  pub side_is : (s : List ℕ) → side ≡ Some s → IsSide g (mem s)
  pub bipartite : (side ≡ None) ↔ ¬ (IsBipartite g)
  pub frame_is : IsFrame g frame
  pub partners : IfSome table (ArePartners g none)
  pub perfect : (table ≡ None) ↔ ¬ (HasPerfect g none)

-- g is covered, with a perfect matching, its partners, and one side if it is bipartite
pub record AreCoveredFacts (g : Graph) (matching : MatchingValue) (table : List (List ℕ)) (side : Option (List ℕ)) : Type 0 where
  pub covered : IsCovered g
  pub of : IsOf g matching
  pub perfect : IsPerfect g none (mem (edges_of matching))
  pub partners : ArePartners g none table
  pub side_is : (s : List ℕ) → side ≡ Some s → IsSide g (mem s)
  pub bipartite : (side ≡ None) ↔ ¬ (IsBipartite g)
