use Rattle.std.proofs.Common.{◌++◌, sym, ap, ◌∙◌, append_assoc, ◌∷◌, []}
use Rattle.graph_core.specs.Common.{parent_at, depth_at, way_up}
use Rattle.graph_core.proofs.Trees.{way_up-step}
use Rattle.graph_core.proofs.tree.climb.Goals as goal

pub climbing-preserved : goal.climbing-preserved
climbing-preserved c =
    let nodes = c.args.nodes.now in
    let v = c.climbing.v in
    let on = way_up (parent_at nodes) (depth_at nodes (parent_at nodes v)) (parent_at nodes v) in
    record {
      within = c.requires.rooted.within v c.climbing.invariant.within c.climbing-test.true;
      way = ap (λ ws. ws ++ on) c.in_ok-push.ensures.ok ∙ append_assoc c.climbing.walk (parent_at nodes v ∷ []) on
          ∙ ap (λ ws. c.climbing.walk ++ ws) (sym (way_up-step (parent_at nodes) (depth_at nodes) v (c.requires.rooted.deeper v c.climbing.invariant.within c.climbing-test.true)))
          ∙ c.climbing.invariant.way;
    }
