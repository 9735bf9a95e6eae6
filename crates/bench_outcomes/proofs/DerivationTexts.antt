-- A derivation of a graph within the limits may be written, since no shore is empty and there are
-- few nodes; and the report with its leaves after it stands for the tree.
use Rattle.std.proofs.Common.{◌≡◌, ℕ, List, ◌∷◌, map, ap, subst, true, refl, ◌∙◌, arith}
use Rattle.graph_core.proofs.Common.{Graph, singles, IsWithinLimits}
use Rattle.tree_core.proofs.Common.{IsDerivation, kept_at, merged_at, StandsAt, leaves, Shape, leaf, cut, AreLeafKinds, partitions-leaves, leaf_count-cuts, node_count-cuts, length-leaves_at, few-nodes}
use Rattle.graph_core.specs.from_line_text.Common.{Stands, is_closed, unwords}
use Rattle.graph_core.proofs.from_line_text.ReadBack.{is_closed-unlines}
use Rattle.bench_tasks.specs.from_tree_text.Common.{tree_format, HasVertices, header_words, node_words, tree_text}
use Rattle.bench_tasks.specs.from_graph_text.Common.{NamedGraph}
use Rattle.report_text.specs.Common.{HasFewLeaves, IsCommented, derivation_text}
use Rattle.tree_core.specs.declared.tallies.LeafKind.{LeafKind}
use Rattle.report_text.proofs.Comments.{commented-more, stands-commented}
use Rattle.report_text.proofs.CommentLines.{derivation-commented}
use Rattle.bench_outcomes.specs.Common.{TellsDerivation, with_given_names}
use Rattle.bench_outcomes.specs.declared.status.Status.TheVariants.{Done}

-- a shore of a derivation is not empty
pub has-vertices : (n : ℕ) (p : List (List ℕ)) (t : Shape) → StandsAt n p t → HasVertices t
has-vertices n p leaf stands = tt
has-vertices n p (cut x k m) stands = (stands.1, has-vertices n (kept_at n p x) k stands.3, has-vertices n (merged_at n p x) m stands.4)

-- the text of a tree ends with a line feed
pub closed-tree_text : (n : ℕ) (t : Shape) → is_closed (tree_text n t) ≡ true
unfolding tree_text
closed-tree_text n t = is_closed-unlines (map unwords (header_words n ∷ node_words t))

-- what the report says of the leaves it says in small numbers
few-told : (g : Graph) (t : Shape) (kinds : List LeafKind) → IsWithinLimits g → IsDerivation g t → AreLeafKinds g (leaves g.order t) kinds → HasFewLeaves g (leaves g.order t) kinds
few-told g t kinds limits derived right =
    let order = limits.vertices in
    let edges = limits.edges in
    let nodes = few-nodes g t limits.multigraph.ends order derived in
    let listed = length-leaves_at g.order (singles g.order) t in
    let cuts = leaf_count-cuts t in
    let counted = node_count-cuts t in
    grind (arith, partitions-leaves g t derived)

-- the report with comments after it stands for the tree
stands-told : (g : Graph) (t : Shape) (kinds : List LeafKind) (bytes : List ℕ) → IsWithinLimits g → IsDerivation g t → AreLeafKinds g (leaves g.order t) kinds →
    IsCommented (derivation_text (tree_text g.order t) g (leaves g.order t) kinds) bytes → Stands (tree_format g.order) (tree_text g.order t) t → Stands (tree_format g.order) bytes t
stands-told g t kinds bytes limits derived right commented stands =
    stands-commented (tree_format g.order) (tree_text g.order t) bytes t (closed-tree_text g.order t)
    (commented-more (tree_text g.order t) (derivation_text (tree_text g.order t) g (leaves g.order t) kinds) bytes
    (derivation-commented (tree_text g.order t) g (leaves g.order t) kinds (few-told g t kinds limits derived right)) commented)
    stands

-- the text with the leaves and the names determines the derivation
pub told : (named : NamedGraph) (t : Shape) (n : ℕ) (text shown report bytes : List ℕ) (kinds : List LeafKind) →
    IsWithinLimits named.graph → IsDerivation named.graph t → n ≡ named.graph.order → text ≡ tree_text n t → Stands (tree_format n) text t → shown ≡ text →
    AreLeafKinds named.graph (leaves named.graph.order t) kinds → report ≡ derivation_text shown named.graph (leaves named.graph.order t) kinds →
    bytes ≡ with_given_names report named.names true → IsCommented report bytes → TellsDerivation named t Done bytes
told named t n text shown report bytes kinds limits derived n_is text_is stands shown_is right report_is bytes_are commented = record {
  derivation = derived;
  kinds = kinds;
  right = right;
  done = refl;
  text = bytes_are ∙ ap (λ (r : List ℕ). with_given_names r named.names true) report_tells;
  stands = stands-told named.graph t kinds bytes limits derived right
      (subst (λ (r : List ℕ). IsCommented r bytes) report_tells commented)
      (subst (λ (k : ℕ). Stands (tree_format k) (tree_text k t) t) n_is (subst (λ (bs : List ℕ). Stands (tree_format n) bs t) text_is stands));
}
  where
    report_tells : report ≡ derivation_text (tree_text named.graph.order t) named.graph (leaves named.graph.order t) kinds
    report_tells = report_is
        ∙ ap (λ (x : List ℕ). derivation_text x named.graph (leaves named.graph.order t) kinds) (shown_is ∙ text_is ∙ ap (λ (k : ℕ). tree_text k t) n_is)
