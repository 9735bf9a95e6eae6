use Rattle.std.proofs.Common.{ap, arith, option_map, refl, subst, sym, ◌∙◌}
use Rattle.graph_core.proofs.Common.{Graph}
use Rattle.tree_core.proofs.Common.{IsDerivationAt, node_count, moves_of, shape_of}
use Rattle.tree_core.specs.declared.tree.Tree.{Tree}
use Rattle.uncross.proofs.ExposeSteps.{asks_kept, asks_merged, both_fit, leaf_exposes, whole_exposed}
use Rattle.uncross.specs.Common.{plan_of, CutIf, IsExposed, turned_of}
use Rattle.uncross.proofs.exposing.+expose_at.Goals as goal

pub expose_at-requires : goal.expose_at-requires
expose_at-requires t c =
    let asks = asks_kept c.args.p.now.graph c.args.p.now.graph.order c.args.p.now.blocks c.in-Cut.x c.in-Some.y (shape_of c.in-Cut.kept.value) (shape_of c.in-Cut.merged.value) (shape_of c.args.tree) (plan_of c.plan_for-plan.result) c.args.shore
    c.keeps_place.ensures.limits.multigraph.ends refl c.keeps_place.ensures.partition c.keeps_place.ensures.covered (ap shape_of c.in-Cut.is) c.requires.derives c.in-Some.is c.requires.shore c.plan_for-plan.ensures
    c.in_ok-at-in-Cut.at.kept.blocks (shape_of c.into_inner-kept.result) c.first.result c.in_ok-at-in-Cut.ensures.kept.blocks (ap shape_of c.into_inner-kept.ensures) c.first.ensures in
    let below = ap (λ (s : Tree). node_count (shape_of s)) c.into_inner-kept.ensures in let whole = ap (λ (s : Tree). node_count (shape_of s)) c.in-Cut.is in let size = c.decreases in
    (omega arith, subst (λ (h : Graph). IsDerivationAt h c.in_ok-at-in-Cut.at.kept.blocks (shape_of c.into_inner-kept.result) × CutIf h c.in_ok-at-in-Cut.at.kept.blocks c.first.result) (sym c.in_ok-at-in-Cut.ensures.kept.graph) asks)

pub expose_at-requires-in-Cut : goal.expose_at-requires-in-Cut
expose_at-requires-in-Cut t c =
    let asks = asks_merged c.args.p.now.graph c.args.p.now.graph.order c.args.p.now.blocks c.in-Cut.x c.in-Some.y (shape_of c.in-Cut.kept.value) (shape_of c.in-Cut.merged.value) (shape_of c.args.tree) (plan_of c.plan_for-plan.result) c.args.shore
    c.keeps_place.ensures.limits.multigraph.ends refl c.keeps_place.ensures.partition c.keeps_place.ensures.covered (ap shape_of c.in-Cut.is) c.requires.derives c.in-Some.is c.requires.shore c.plan_for-plan.ensures
    c.in_ok-at-in-Cut.at.merged.blocks (shape_of c.into_inner-merged.result) c.second.result c.in_ok-at-in-Cut.ensures.merged.blocks (ap shape_of c.into_inner-merged.ensures) c.second.ensures in
    let below = ap (λ (s : Tree). node_count (shape_of s)) c.into_inner-merged.ensures in let whole = ap (λ (s : Tree). node_count (shape_of s)) c.in-Cut.is in let size = c.decreases in
    (omega arith, subst (λ (h : Graph). IsDerivationAt h c.in_ok-at-in-Cut.at.merged.blocks (shape_of c.into_inner-merged.result) × CutIf h c.in_ok-at-in-Cut.at.merged.blocks c.second.result) (sym c.in_ok-at-in-Cut.ensures.merged.graph) asks)

pub carry_out-requires : goal.carry_out-requires
carry_out-requires t c =
    both_fit c.args.p.now.graph c.args.p.now.graph.order c.args.p.now.blocks c.in-Cut.x c.in-Some.y (shape_of c.in-Cut.kept.value) (shape_of c.in-Cut.merged.value) (shape_of c.args.tree) (plan_of c.plan_for-plan.result) c.args.shore
    c.keeps_place.ensures.limits.multigraph.ends refl c.keeps_place.ensures.partition c.keeps_place.ensures.covered (ap shape_of c.in-Cut.is) c.requires.derives c.in-Some.is c.requires.shore c.plan_for-plan.ensures
    c.in_ok-at-in-Cut.at.kept.blocks c.in_ok-at-in-Cut.at.merged.blocks (shape_of c.into_inner-kept.result) (shape_of c.into_inner-merged.result) (shape_of c.in_ok-inner-in-Cut.inner.tree) (shape_of c.in_ok-outer-in-Cut.outer.tree)
    c.first.result c.second.result (option_map moves_of c.in_ok-inner-in-Cut.inner.moves) (option_map moves_of c.in_ok-outer-in-Cut.outer.moves)
    c.in_ok-at-in-Cut.ensures.kept.blocks c.in_ok-at-in-Cut.ensures.merged.blocks (ap shape_of c.into_inner-kept.ensures) (ap shape_of c.into_inner-merged.ensures) c.first.ensures c.second.ensures
    (subst (λ (h : Graph). IsExposed h c.in_ok-at-in-Cut.at.kept.blocks (shape_of c.into_inner-kept.result) c.first.result (shape_of c.in_ok-inner-in-Cut.inner.tree) (option_map moves_of c.in_ok-inner-in-Cut.inner.moves)) c.in_ok-at-in-Cut.ensures.kept.graph c.in_ok-inner-in-Cut.ensures)
    (subst (λ (h : Graph). IsExposed h c.in_ok-at-in-Cut.at.merged.blocks (shape_of c.into_inner-merged.result) c.second.result (shape_of c.in_ok-outer-in-Cut.outer.tree) (option_map moves_of c.in_ok-outer-in-Cut.outer.moves)) c.in_ok-at-in-Cut.ensures.merged.graph c.in_ok-outer-in-Cut.ensures)
    c.order-n.result (c.order-n.ensures.is ∙ ap (λ (h : Graph). h.order) c.graph.ensures)

pub unreachable-requires : goal.unreachable-requires
unreachable-requires t c = leaf_exposes c.args.p.now.graph c.args.p.now.graph.order c.args.p.now.blocks c.in-Some.y (shape_of c.args.tree) c.args.shore c.keeps_place.ensures.limits.multigraph.ends refl c.keeps_place.ensures.partition c.keeps_place.ensures.covered (ap shape_of c.in-Leaf.is) c.requires.derives c.in-Some.is c.requires.shore

pub returns : goal.returns
returns t c =
    whole_exposed c.args.p.now.graph c.args.p.now.graph.order c.args.p.now.blocks c.in-Cut.x c.in-Some.y (shape_of c.in-Cut.kept.value) (shape_of c.in-Cut.merged.value) (shape_of c.args.tree) (plan_of c.plan_for-plan.result) c.args.shore
    c.keeps_place.ensures.limits.multigraph.ends refl c.keeps_place.ensures.partition c.keeps_place.ensures.covered (ap shape_of c.in-Cut.is) c.requires.derives c.in-Some.is c.requires.shore c.plan_for-plan.ensures
    c.in_ok-at-in-Cut.at.kept.blocks c.in_ok-at-in-Cut.at.merged.blocks (shape_of c.into_inner-kept.result) (shape_of c.into_inner-merged.result) (shape_of c.in_ok-inner-in-Cut.inner.tree) (shape_of c.in_ok-outer-in-Cut.outer.tree)
    c.first.result c.second.result (option_map moves_of c.in_ok-inner-in-Cut.inner.moves) (option_map moves_of c.in_ok-outer-in-Cut.outer.moves)
    c.in_ok-at-in-Cut.ensures.kept.blocks c.in_ok-at-in-Cut.ensures.merged.blocks (ap shape_of c.into_inner-kept.ensures) (ap shape_of c.into_inner-merged.ensures) c.first.ensures c.second.ensures
    (subst (λ (h : Graph). IsExposed h c.in_ok-at-in-Cut.at.kept.blocks (shape_of c.into_inner-kept.result) c.first.result (shape_of c.in_ok-inner-in-Cut.inner.tree) (option_map moves_of c.in_ok-inner-in-Cut.inner.moves)) c.in_ok-at-in-Cut.ensures.kept.graph c.in_ok-inner-in-Cut.ensures)
    (subst (λ (h : Graph). IsExposed h c.in_ok-at-in-Cut.at.merged.blocks (shape_of c.into_inner-merged.result) c.second.result (shape_of c.in_ok-outer-in-Cut.outer.tree) (option_map moves_of c.in_ok-outer-in-Cut.outer.moves)) c.in_ok-at-in-Cut.ensures.merged.graph c.in_ok-outer-in-Cut.ensures)
    c.order-n.result (c.order-n.ensures.is ∙ ap (λ (h : Graph). h.order) c.graph.ensures) (turned_of c.in_ok-tree-in-Cut.field-0) c.in_ok-tree-in-Cut.ensures

pub places_below-requires : goal.places_below-requires
places_below-requires t c = (subst (λ (tree : Tree). IsDerivationAt c.args.p.now.graph c.args.p.now.blocks (shape_of tree)) c.in-Cut.is c.requires.derives).0

pub plan_for-plan-requires-clause-root : goal.plan_for-plan-requires-clause-root
plan_for-plan-requires-clause-root t c = (subst (λ (tree : Tree). IsDerivationAt c.args.p.now.graph c.args.p.now.blocks (shape_of tree)) c.in-Cut.is c.requires.derives).0

pub plan_for-plan-requires-clause-shore : goal.plan_for-plan-requires-clause-shore
plan_for-plan-requires-clause-shore t c = subst (CutIf c.args.p.now.graph c.args.p.now.blocks) c.in-Some.is c.requires.shore
