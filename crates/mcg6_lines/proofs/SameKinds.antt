-- Two leaves that are the same by names of blocks are of one kind: the sides of the one are the
-- images of those of the other.
use Rattle.std.proofs.Common.{List, refl, sym, ℕ, ◌≡◌, ◌∙◌}
use Rattle.graph_core.proofs.Common.{Graph, IsBipartite, IsGraph, IsPartition, quotient}
use Rattle.move_laws.proofs.CarryingLaws.{turned-leaf}
use Rattle.move_laws.specs.Common.{IsSameLeaf, image, turned_names}
use Rattle.tree_core.proofs.Common.{IsLeafKind, parted, parts_from_sides, sides_from_parts}
use Rattle.tree_core.specs.declared.tallies.LeafKind.{LeafKind}
use Rattle.tree_core.specs.declared.tallies.LeafKind.TheVariants.{Brick, Brace}

-- sides are carried back
sides_back : (g : Graph) (p q : List (List ℕ)) (names : List ℕ) → IsSameLeaf g p q names → IsBipartite (quotient g q) → IsBipartite (quotient g p)
sides_back g p q names same b = (
  λ i. b.0 (image q names i),
  sides_from_parts g p (λ i. b.0 (image q names i)) (λ i j wi wj l adj.
      parted g q b.0 (parts_from_sides g q b.0 b.1) (image q names i) (image q names j) (same.named i wi).0 (same.named j wj).0
      (sym (same.adjacent i j wi wj) ∙ adj)),
)

pub same_kind : (g : Graph) → IsGraph g → (p q : List (List ℕ)) (names : List ℕ) → IsPartition g.order p → IsPartition g.order q → IsSameLeaf g p q names →
    (k l : LeafKind) → IsLeafKind g p k → IsLeafKind g q l → k ≡ l
same_kind g is p q names pp qp same Brick Brick a b = refl
same_kind g is p q names pp qp same Brace Brace a b = refl
same_kind g is p q names pp qp same Brick Brace a b = absurd (a (sides_back g p q names same b))
same_kind g is p q names pp qp same Brace Brick a b = absurd (b (sides_back g q p (turned_names p q names) (turned-leaf g p q names is pp qp same) a))
