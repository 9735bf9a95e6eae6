-- The graph that is seen at a partition: the graph itself where there are as many blocks as
-- vertices, and the quotient elsewhere. Both have the same kind.
use Rattle.graph_core.proofs.from_counting.Common.{◌≡◌, ◌≢◌, ◌↔◌, ℕ, List, length, ap, eq-eqb, ne_eqb, subst, sym, if◌then◌else◌, inl, inr, cases_eq}
use Rattle.graph_core.proofs.Common.{Graph, IsBipartite, IsMultigraph, IsPartition, quotient}
use Rattle.tree_core.specs.Places.{seen_at}
use Rattle.tree_core.proofs.QuotientSides.{sides-at_vertices}

-- at single vertices
pub seen-vertices : (g : Graph) (p : List (List ℕ)) → length p ≡ g.order → seen_at g p ≡ g
unfolding seen_at
seen-vertices g p e = ap (λ b. if b then g else quotient g p) (eq-eqb (length p) g.order e)

-- and elsewhere
pub seen-blocks : (g : Graph) (p : List (List ℕ)) → length p ≢ g.order → seen_at g p ≡ quotient g p
unfolding seen_at
seen-blocks g p e = ap (λ b. if b then g else quotient g p) (ne_eqb (length p) g.order e)

-- it is bipartite exactly when the quotient is
pub seen-sides : (g : Graph) (p : List (List ℕ)) → IsMultigraph g → IsPartition g.order p → IsBipartite (seen_at g p) ↔ IsBipartite (quotient g p)
seen-sides g p is pp = elim (cases_eq (length p) g.order) [
  | inl e ↦ subst (λ (h : Graph). IsBipartite h ↔ IsBipartite (quotient g p)) (sym (seen-vertices g p e)) (sides-at_vertices g is p pp e)
  | inr d ↦ subst (λ (h : Graph). IsBipartite h ↔ IsBipartite (quotient g p)) (sym (seen-blocks g p d)) (λ b. b, λ b. b)
]
