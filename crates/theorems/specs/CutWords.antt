-- Bricks and braces (Lovász 1987; Lucchesi and Murty, "Perfect Matchings"), and the pairs of
-- vertices that tight sets separate.
-- Stated by: theorems.
use Rattle.std.specs.Prelude.{◌≢◌, ℕ, List, ◌⊎◌}
use Rattle.tree_check.specs.from_counting.Common.{Within, ComesBefore, Set}
use Rattle.graph_core.specs.Common.{IsCovered, Graph, quotient}
use Rattle.graph_core.specs.declared.verdict.Kind.TheVariants as kind
use Rattle.bench_top.specs.from_leaf_kinds.LeafKinds.{IsKind}
use Rattle.tree_check.specs.from_tight_cuts.Common.{SeparatesTightly}

-- a brace: a bipartite matching covered graph without nontrivial tight cut
abbrev pub IsBrace : Graph → Type 0
IsBrace g = IsCovered g × IsKind g kind.Brace

-- a brick: a matching covered graph without nontrivial tight cut that is not bipartite
abbrev pub IsBrick : Graph → Type 0
IsBrick g = IsCovered g × IsKind g kind.Brick

-- the quotient at p is a brick or a brace
abbrev pub EndsInBrickOrBrace : Graph → List (List ℕ) → Type 0
EndsInBrickOrBrace g p = IsBrick (quotient g p) ⊎ IsBrace (quotient g p)

-- both vertices of the pair differ from a and b, and some tight set has a and the first of them
-- and neither b nor the second
abbrev pub IsSeparated : Graph → (a b : ℕ) → ℕ × ℕ → Type 0
IsSeparated g a b k = ((k.0 ≢ a) × (k.0 ≢ b)) × ((k.1 ≢ a) × (k.1 ≢ b)) × ((z : Set) × SeparatesTightly g a b k z)

-- k is the first such pair of vertices in lexicographic order
pub record IsFirstSeparated (g : Graph) (a b : ℕ) (k : ℕ × ℕ) : Type 0 where
  pub first : Within g.order k.0
  pub second : Within g.order k.1
  pub separated : IsSeparated g a b k
  pub before : (l : ℕ × ℕ) → Within g.order l.0 → Within g.order l.1 → ComesBefore l k → IsSeparated g a b l → ⊥
