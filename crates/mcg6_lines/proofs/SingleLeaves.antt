-- A covered graph without a nontrivial tight cut has the leaf as its derivation: so a brick has
-- one brick as its only leaf, and a brace one brace.
use Rattle.std.proofs.Common.{[], ◌∷◌, arith}
use Rattle.graph_core.proofs.Common.{singles-partition, tight-singles, IsCovered, Graph, IsMultigraph, singles, HasOnlyTrivialTightCuts}
use Rattle.graph_core.specs.declared.verdict.Kind.TheVariants.{Brace, Brick}
use Rattle.leaf_kinds.specs.LeafKinds.{IsKind}
use Rattle.tree_core.proofs.Common.{kinds-one, nontrivial-vertices, IsLeafAt, IsLeafKind, tally_of, bipartite_from_singles, singles_from_bipartite}
use Rattle.tree_core.specs.declared.tallies.LeafKind.{LeafKind}
use Rattle.tree_core.specs.declared.tallies.LeafKind.TheVariants as of_leaf
use Rattle.mcg6_lines.specs.Standings.{IsCounted}

uncut_leaf : (g : Graph) → IsMultigraph g → HasOnlyTrivialTightCuts g → IsLeafAt g (singles g.order)
unfolding IsLeafAt
uncut_leaf g is uncut x t some =
    uncut x (tight-singles g x is.ends t) (nontrivial-vertices g.order (singles g.order) (singles-partition g.order).partition x t.union some)

one_leaf : (g : Graph) (kind : LeafKind) → IsMultigraph g → IsCovered g → HasOnlyTrivialTightCuts g → IsLeafKind g (singles g.order) kind → IsCounted g (tally_of (kind ∷ []))
one_leaf g kind is covered uncut of = grind (arith, uncut_leaf g is uncut, kinds-one g (singles g.order) kind of)

pub one_brick : (g : Graph) → IsMultigraph g → IsCovered g → IsKind g Brick → IsCounted g (record { leaves = 1; bricks = 1; braces = 0 })
one_brick g is covered kind = one_leaf g of_leaf.Brick is covered kind.1 (λ b. kind.0 (bipartite_from_singles g is b))

pub one_brace : (g : Graph) → IsMultigraph g → IsCovered g → IsKind g Brace → IsCounted g (record { leaves = 1; bricks = 0; braces = 1 })
one_brace g is covered kind = one_leaf g of_leaf.Brace is covered kind.1 (singles_from_bipartite g is kind.0)
