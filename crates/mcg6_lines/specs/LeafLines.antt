-- The lines of `leaves`: for each leaf of a decomposition the number of the line in the list, the
-- graph6 text of its graph, that of the leaf as a simple graph, that is of the quotient at its
-- partition, and `brick` or `brace`. A graph that is not covered has no line.
-- Stated by: mcg6_lines. Used by: theorems.
use Rattle.std.specs.Prelude.{◌≡◌, ℕ, ◌++◌, ◌⊎◌, List, [], ◌∷◌, codes, decimal}
use Rattle.graph_core.specs.Common.{IsCovered, Graph, quotient}
use Rattle.graph6_text.specs.Common.{graph6_of}
use Rattle.report_text.specs.Common.{leaf_kind_word}
use Rattle.tree_core.specs.Common.{IsDerivation, leaves, Shape, AreLeafKinds}
use Rattle.decomposer.specs.Common.{NamedPicks, IsPicked}
use Rattle.decomposer.specs.declared.orders.NamedOrder.{NamedOrder}
use Rattle.tree_core.specs.declared.tallies.LeafKind.{LeafKind}

-- the front of a line: the number of the line in the list, and the graph in it
abbrev pub line_front : ℕ → Graph → List ℕ
line_front number g = decimal number ++ codes " " ++ graph6_of g ++ codes " "

-- the end of a line: the kind of the leaf
abbrev pub leaf_end : LeafKind → List ℕ
leaf_end kind = codes " " ++ leaf_kind_word kind ++ codes "\n"

-- the line of the leaf of this kind at a partition
abbrev pub leaf_line : (front : List ℕ) → Graph → List (List ℕ) → LeafKind → List ℕ
leaf_line front g p kind = front ++ graph6_of (quotient g p) ++ leaf_end kind

-- the lines of the leaves of these kinds at these partitions, in order, each with the same front
abbrev pub leaf_lines : (front : List ℕ) → Graph → List (List (List ℕ)) → List LeafKind → List ℕ
leaf_lines front g [] kinds = []
leaf_lines front g (p ∷ ps) [] = []
leaf_lines front g (p ∷ ps) (kind ∷ kinds) = leaf_line front g p kind ++ leaf_lines front g ps kinds

-- the bytes are the lines of the leaves at these partitions, each with its kind
pub record AreLinesOf (front : List ℕ) (g : Graph) (ps : List (List (List ℕ))) (bytes : List ℕ) : Type 0 where
  pub kinds : List LeafKind
  pub right : AreLeafKinds g ps kinds
  pub lines : bytes ≡ leaf_lines front g ps kinds

-- the bytes are the lines of the leaves of the derivation that the order picks, in the order of
-- the leaves, each with the same front
pub record TellsLeaves (order : NamedOrder) (front : List ℕ) (g : Graph) (bytes : List ℕ) : Type 0 where
  pub tree : Shape
  pub derivation : IsDerivation g tree
  pub picked : IsPicked (NamedPicks order) g tree
  pub lines : AreLinesOf front g (leaves g.order tree) bytes

-- the lines of the leaves of a covered graph, and nothing for one that is not
abbrev pub AreLeafLines : NamedOrder → ℕ → Graph → List ℕ → Type 0
AreLeafLines order number g bytes = TellsLeaves order (line_front number g) g bytes ⊎ ((¬ IsCovered g) × (bytes ≡ []))
