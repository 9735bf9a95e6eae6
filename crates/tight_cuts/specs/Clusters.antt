-- Vertices that no nontrivial tight cut separates, of a graph and of a partition.
-- Stated by: tight_cuts, decomposer.
use Rattle.std.specs.Prelude.{◌≡◌, ℕ, true, List, length}
use Rattle.graph_core.specs.from_counting.Common.{Within, Set, item, mem}
use Rattle.graph_core.specs.Common.{Graph, IsNontrivial, IsTight, IsTightAt, blocks_in}

-- no nontrivial tight cut separates u from v
abbrev pub AreUnparted : Graph → (u v : ℕ) → Type 0
AreUnparted g u v = (x : Set) → IsTight g x → IsNontrivial g.order x → x u ≡ x v

-- the row has a set for each vertex, and no nontrivial tight cut separates a vertex from one of its
-- set
pub record AreClusters (g : Graph) (rows : List (List ℕ)) : Type 0 where
  pub one_each : length rows ≡ g.order
  pub unparted : (u v : ℕ) → Within g.order u → mem (item rows u) v ≡ true → AreUnparted g u v

-- no nontrivial shore that is tight at p separates u from v
abbrev pub AreUnpartedAt : Graph → List (List ℕ) → (u v : ℕ) → Type 0
AreUnpartedAt g p u v = (x : Set) → IsTightAt g p x → IsNontrivial (length p) (blocks_in p x) → x u ≡ x v

-- the row has a set for each vertex, and no nontrivial shore that is tight at p separates a vertex
-- from one of its set
pub record AreClustersAt (g : Graph) (p : List (List ℕ)) (rows : List (List ℕ)) : Type 0 where
  pub one_each : length rows ≡ g.order
  pub unparted : (u v : ℕ) → Within g.order u → mem (item rows u) v ≡ true → AreUnpartedAt g p u v
