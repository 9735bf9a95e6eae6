use Rattle.move_text.proofs.from_counting.Common.{◌≡◌, ◌∙◌, ap, length, refl, arith, length-map}
use Rattle.graph_text.specs.Common.{named_graph}
use Rattle.tree_core.proofs.Common.{leaves, place_of, shape_of, fits-derivation, stands-derivation, few-nodes, leaf_count-cuts, length-leaves_at, node_count-cuts}
use Rattle.graph_core.proofs.Common.{singles}
use Rattle.bench_outcomes.proofs.DerivationTexts.{has-vertices, told}
use Rattle.bench_reports.proofs.decomposing.derivation_report.Goals as goal

pub write_tree-requires-clause-fits : goal.write_tree-requires-clause-fits
write_tree-requires-clause-fits c = grind (arith, fits-derivation c.args.named.now.graph (shape_of c.args.found.now.tree) c.requires.derivation)

pub write_tree-requires-clause-vertices : goal.write_tree-requires-clause-vertices
write_tree-requires-clause-vertices c =
    has-vertices c.args.named.now.graph.order (singles c.args.named.now.graph.order) (shape_of c.args.found.now.tree) (stands-derivation c.args.named.now.graph (shape_of c.args.found.now.tree) c.requires.derivation)

pub write_tree-requires-clause-few : goal.write_tree-requires-clause-few
write_tree-requires-clause-few c = few-nodes c.args.named.now.graph (shape_of c.args.found.now.tree) c.keeps_limits.ensures.multigraph.ends c.keeps_limits.ensures.vertices c.requires.derivation

pub derivation_at-requires-clause-places : goal.derivation_at-requires-clause-places
derivation_at-requires-clause-places c =
    (c.args.named.now.graph, leaves c.args.named.now.graph.order (shape_of c.args.found.now.tree), c.deref-2.ensures.value ∙ c.requires.leaves)

pub derivation_at-requires-clause-few : goal.derivation_at-requires-clause-few
derivation_at-requires-clause-few c =
    let t = shape_of c.args.found.now.tree in
    let g = c.args.named.now.graph in
    let few = few-nodes g t c.keeps_limits.ensures.multigraph.ends c.keeps_limits.ensures.vertices c.requires.derivation in
    let same : length c.deref-2.result.now ≡ length (leaves g.order t) = ap length (c.deref-2.ensures.value ∙ c.requires.leaves) ∙ length-map (leaves g.order t) (place_of g) in
    grind (arith, length-leaves_at g.order (singles g.order) t, leaf_count-cuts t, node_count-cuts t)

pub returns-clause-gives : goal.returns-clause-gives
returns-clause-gives c =
    let t = shape_of c.args.found.now.tree in
    let g = c.args.named.now.graph in
    let report = c.in_ok-report.ensures g (leaves g.order t) (c.deref-2.ensures.value ∙ c.requires.leaves) in
    told (named_graph c.args.named.now) t c.order-n.result c.in_ok-text.text.items c.deref.result.now c.in_ok-report.report.items c.in_ok-with_given_names.field-0.items report.0
    c.keeps_limits.ensures c.requires.derivation c.order-n.ensures.is c.in_ok-text.ensures.text c.in_ok-text.ensures.stands c.deref.ensures.value report.1 report.2 c.in_ok-with_given_names.ensures.text
    (c.in_ok-with_given_names.ensures.comments refl)
