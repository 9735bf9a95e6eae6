-- Tight cut decompositions as trees (Lovász 1987): a tree of cuts that derives a matching covered
-- graph.
-- Stated by: tree_core, tight_cuts, decomposer, move_laws, tree_check, uncross and 5 more.
-- Used by: bench_outcomes, bench_top.
use Rattle.std.specs.Prelude.{◌≡◌, ℕ, false, List, length}
use Rattle.graph_core.specs.from_counting.Common.{Set, mem, IsRisingIn}
use Rattle.graph_core.specs.Common.{Graph, IsCovered, IsNontrivial, IsTight, complement_of, merged, singles, IsTightAt, blocks_in}
use Rattle.tree_core.specs.Shapes.{Shape, leaf, cut}

-- p with the complement of the shore made one block
abbrev pub kept_at : ℕ → List (List ℕ) → List ℕ → List (List ℕ)
kept_at n p x = merged p (complement_of n x)

-- p with the shore made one block
abbrev pub merged_at : ℕ → List (List ℕ) → List ℕ → List (List ℕ)
merged_at n p x = merged p x

-- a canonical nontrivial shore, tight at p: a rising list without the greatest vertex, and a
-- union of blocks of p with at least three blocks inside and outside, whose cut each perfect
-- matching at p meets once
pub record IsCutAt (g : Graph) (p : List (List ℕ)) (x : List ℕ) : Type 0 where
  pub set : IsRisingIn g.order x
  pub tight : IsTightAt g p (mem x)
  pub nontrivial : IsNontrivial (length p) (blocks_in p (mem x))
  pub canonical : mem x g.order ≡ false

-- no nontrivial shore is tight at p
unfoldable pub IsLeafAt : Graph → List (List ℕ) → Type 0
IsLeafAt g p = (x : Set) → IsTightAt g p x → IsNontrivial (length p) (blocks_in p x) → ⊥

-- the tree is a derivation at p: a leaf stands only where no nontrivial shore is tight; a cut
-- names a canonical nontrivial tight shore, its `kept` tree is a derivation with the complement
-- merged, and its `merged` tree one with the shore merged
abbrev pub IsDerivationAt : Graph → List (List ℕ) → Shape → Type 0
IsDerivationAt g p leaf = IsLeafAt g p
IsDerivationAt g p (cut x k m) = IsCutAt g p x × IsDerivationAt g (kept_at g.order p x) k × IsDerivationAt g (merged_at g.order p x) m

-- the tree is a derivation of a matching covered graph: one at the partition into single vertices
pub record IsDerivation (g : Graph) (t : Shape) : Type 0 where
  pub covered : IsCovered g
  pub derives : IsDerivationAt g (singles g.order) t

-- a canonical nontrivial tight shore of the graph itself: a rising list without the greatest
-- vertex, tight, with at least three vertices inside and outside
pub record IsTightShore (g : Graph) (x : List ℕ) : Type 0 where
  pub set : IsRisingIn g.order x
  pub tight : IsTight g (mem x)
  pub nontrivial : IsNontrivial g.order (mem x)
  pub canonical : mem x g.order ≡ false
