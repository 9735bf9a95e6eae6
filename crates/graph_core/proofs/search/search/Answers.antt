use Rattle.vset_core.proofs.from_counting.Common.{◌<◌, not, ap, sym, ◌∙◌, subst, arith, not_from_false, and_from, and_parts, not-true, set-narrower, count, mem}
use Rattle.graph_core.specs.Common.{IsComponentStage, parent_at, depth_at}
use Rattle.graph_core.specs.declared.tree.TreeNode.{TreeNode}
use Rattle.graph_core.proofs.FoundVertices.{grown_less}
use Rattle.graph_core.proofs.FoundComponents.{stage_start, stage_step, stage_end}
use Rattle.graph_core.proofs.search.search.Goals as goal

pub searching-init : goal.searching-init
searching-init c = λ g is are.
    subst (λ parts. IsComponentStage g (mem c.args.removed) (mem c.minus-left.result) parts (parent_at c.args.nodes.now) (depth_at c.args.nodes.now)) (sym c.in_ok-parts.ensures.items)
    (stage_start g (mem c.args.removed) is (mem c.minus-left.result) (parent_at c.args.nodes.now) (depth_at c.args.nodes.now)
    (λ v l. let p = and_parts (mem c.full.result v) (not (mem c.args.removed v)) (sym (c.minus-left.ensures v) ∙ l) in
    let w = (c.full.ensures.members v).0 p.0 in let e = are.one_each in ((omega arith, omega arith), not-true (mem c.args.removed v) p.1))
    (λ v w out. let e = are.one_each in c.minus-left.ensures v ∙ and_from (mem c.full.result v) (not (mem c.args.removed v)) ((c.full.ensures.members v).1 (omega arith)) (not_from_false (mem c.args.removed v) out)))

-- the first vertex that is left goes, so that fewer are left
pub searching-smaller : goal.searching-smaller
searching-smaller c =
    let q = c.requires.graph in
    let grown = c.grow-rest.ensures.grown q.0 q.1 q.2 in
    let l = c.in-Some.ensures.some.member in
    let less = grown_less q.0 (mem c.searching.left) c.in-Some.least (mem c.grow-rest.result) (parent_at c.grow-rest.new.nodes) (depth_at c.grow-rest.new.nodes) q.1 grown
    ((c.searching.invariant q.0 q.1 q.2).vertices c.in-Some.least l).0 l in
    subst (λ n. count n (mem c.grow-rest.result) < count n (mem c.searching.left)) (sym q.2.one_each) (omega arith)

pub searching-preserved : goal.searching-preserved
searching-preserved c = λ g is are.
    let old = c.searching.invariant g is are in
    let grown = c.grow-rest.ensures.grown g is are in
    subst (λ parts. IsComponentStage g (mem c.args.removed) (mem c.grow-rest.result) parts (parent_at c.grow-rest.new.nodes) (depth_at c.grow-rest.new.nodes)) (sym c.in_ok-push.ensures.items)
    (stage_step g (mem c.args.removed) is (mem c.searching.left) (mem c.grow-rest.result) c.searching.parts.items c.minus-part.result
    (parent_at c.searching.nodes) (parent_at c.grow-rest.new.nodes) (depth_at c.searching.nodes) (depth_at c.grow-rest.new.nodes) c.in-Some.least old
    c.in-Some.ensures.some.member c.in-Some.ensures.some.before grown.smaller grown.taken grown.tree
    (λ v w out. let e = c.grow-rest.ensures.kept v (let n = are.one_each in omega arith) out in (ap (λ (node : TreeNode). node.parent) e, ap (λ (node : TreeNode). node.depth) e))
    (set-narrower _ g.order c.minus-part.result c.rises.ensures (λ v m. (old.vertices v (and_parts (mem c.searching.left v) (not (mem c.grow-rest.result v)) (sym (c.minus-part.ensures v) ∙ m)).0).0.1))
    (λ v w. c.minus-part.ensures v))

pub returns-clause-parts : goal.returns-clause-parts
returns-clause-parts c = λ g is are.
    c.from_items.ensures ∙ (stage_end g (mem c.args.removed) is (mem c.searching.left) c.searching.parts.items (parent_at c.searching.nodes) (depth_at c.searching.nodes) (c.searching.invariant g is are) (λ v. ap (λ xs. mem xs v) c.in_default.ensures.none)).0

pub returns-clause-trees : goal.returns-clause-trees
returns-clause-trees c = λ g is are.
    (stage_end g (mem c.args.removed) is (mem c.searching.left) c.searching.parts.items (parent_at c.searching.nodes) (depth_at c.searching.nodes) (c.searching.invariant g is are) (λ v. ap (λ xs. mem xs v) c.in_default.ensures.none)).1
