use Rattle.vset_core.proofs.from_counting.Common.{◌≡◌, ◌∙◌, ℕ, List, [], length, ap, subst, sym, mem, none}
use Rattle.graph_core.specs.Common.{AreTrees, AreRows, graph_of}
use Rattle.graph_core.specs.declared.ends.Ends.{Ends}
use Rattle.graph_core.specs.declared.tree.TreeNode.{TreeNode}
use Rattle.graph_core.proofs.graph.MultiGraph.parts_and_sides.Goals as goal

-- the trees of the forest are trees of the graph that the edges and the places stand for
same_trees : (n : ℕ) (items es : List Ends) (kept nodes : List TreeNode) (removed : List ℕ) → length nodes ≡ n → nodes ≡ kept → es ≡ items → removed ≡ [] →
    AreTrees (graph_of n items) (mem removed) kept → AreTrees (graph_of (length nodes) es) none nodes
same_trees n items es kept nodes removed long same edges empty trees =
    subst (λ k. AreTrees (graph_of k es) none nodes) (sym long)
    (subst (λ es. AreTrees (graph_of n es) none nodes) (sym edges)
    (subst (λ nodes. AreTrees (graph_of n items) none nodes) (sym same)
    (subst (λ (xs : List ℕ). AreTrees (graph_of n items) (mem xs) kept) empty trees)))

pub sides_by_depth-requires-clause-trees : goal.sides_by_depth-requires-clause-trees
sides_by_depth-requires-clause-trees c =
    let g = graph_of c.self.inside.order c.self.inside.edges.items in
    let rows = c.self.invariant.neighbours in
    let are = subst (AreRows g) (sym c.deref.ensures.value) rows in
    same_trees c.self.inside.order c.self.inside.edges.items c.deref-2.result.now c.in_ok-forest.forest.nodes.items c.deref-3.result.now c.empty.result
    (ap length c.deref-3.ensures.value ∙ c.in_ok-forest.ensures.each ∙ are.one_each)
    c.deref-3.ensures.value c.deref-2.ensures.value c.empty.ensures
    (c.in_ok-forest.ensures.trees g c.self.invariant.limits.multigraph.ends are)
