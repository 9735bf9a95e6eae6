use Rattle.vset_core.proofs.from_counting.Common.{◌≡◌, ◌∷◌, ◌++◌, sym, length, subst, not, List, All, Contains, arith, is_odd, rising_list, none}
use Rattle.graph_core.specs.Common.{is_least, IsGraph, depth_at, is_even_at, parent_at, IsLeftSide, IsForest, way_down, way_up, graph_of, IsOddClosedWalk}
use Rattle.graph_core.specs.declared.ends.Ends.{Ends}
use Rattle.graph_core.specs.declared.tree.TreeNode.{TreeNode}
use Rattle.graph_core.proofs.TwoSides.{even_side, forest_rooted, left_bipartite, odd_walk, odd_walk_excludes}
use Rattle.graph_core.proofs.View.{contained_edge, each-edge}
use Rattle.graph_core.proofs.sides.sides_by_depth.Goals as goal

pub walk_over_root-requires-clause-rooted : goal.walk_over_root-requires-clause-rooted
walk_over_root-requires-clause-rooted c = grind (arith, forest_rooted)

pub walk_over_root-requires-clause-first : goal.walk_over_root-requires-clause-first
walk_over_root-requires-clause-first c = (contained_edge (length c.args.nodes.now) c.args.edges.now c.in-Some.edge c.requires.graph c.in-Some.ensures.found.0).0

pub walk_over_root-requires-clause-second : goal.walk_over_root-requires-clause-second
walk_over_root-requires-clause-second c = (contained_edge (length c.args.nodes.now) c.args.edges.now c.in-Some.edge c.requires.graph c.in-Some.ensures.found.0).1

module _ (es : List Ends) (nodes : List TreeNode) (is : IsGraph (graph_of (length nodes) es)) (trees : IsForest (graph_of (length nodes) es) none (is_least (graph_of (length nodes) es) none) (parent_at nodes) (depth_at nodes)) where
  odd_found : (edge : Ends) (walk : List _) → Contains es edge → is_odd (depth_at nodes edge.a) ≡ is_odd (depth_at nodes edge.b) →
      walk ≡ edge.a ∷ (way_up (parent_at nodes) (depth_at nodes edge.a) edge.a ++ way_down (parent_at nodes) (depth_at nodes edge.b) edge.b) → IsOddClosedWalk (graph_of (length nodes) es) walk
  odd_found edge walk there odd e =
      subst (IsOddClosedWalk (graph_of (length nodes) es)) (sym e)
      (odd_walk (graph_of (length nodes) es) (parent_at nodes) (depth_at nodes) is trees edge.a edge.b (contained_edge (length nodes) es edge is there).2 odd)

  even_found : (left : List _) → All (λ (edge : Ends). is_odd (depth_at nodes edge.a) ≡ not (is_odd (depth_at nodes edge.b))) es → left ≡ rising_list (length nodes) (is_even_at nodes) → IsLeftSide (graph_of (length nodes) es) left
  even_found left differ e =
      subst (IsLeftSide (graph_of (length nodes) es)) (sym e)
      (even_side (graph_of (length nodes) es) (parent_at nodes) (depth_at nodes) is trees (each-edge (λ a b. is_odd (depth_at nodes a) ≡ not (is_odd (depth_at nodes b))) (length nodes) es differ))

pub returns-in_ok-walk_over_root-in-Some-clause-even : goal.returns-in_ok-walk_over_root-in-Some-clause-even
returns-in_ok-walk_over_root-in-Some-clause-even c =
    let walk = c.in_ok-walk_over_root-in-Some.field-0 in (
      λ e. absurd e,
      odd_walk_excludes (graph_of (length c.args.nodes.now) c.args.edges.now) walk
          (odd_found c.args.edges.now c.args.nodes.now c.requires.graph c.requires.trees c.in-Some.edge walk c.in-Some.ensures.found.0 c.in-Some.ensures.found.1 c.in_ok-walk_over_root-in-Some.ensures),
    )

pub returns-in_ok-walk_over_root-in-Some-clause-sides : goal.returns-in_ok-walk_over_root-in-Some-clause-sides
returns-in_ok-walk_over_root-in-Some-clause-sides c = grind (arith, odd_found)

pub returns-in_ok-even_vertices-in-None-clause-even : goal.returns-in_ok-even_vertices-in-None-clause-even
returns-in_ok-even_vertices-in-None-clause-even c =
    let left = c.in_ok-even_vertices-in-None.field-0 in
    (λ e. left_bipartite (graph_of (length c.args.nodes.now) c.args.edges.now) left (even_found c.args.edges.now c.args.nodes.now c.requires.graph c.requires.trees left c.in-None.ensures.none c.in_ok-even_vertices-in-None.ensures), λ b. tt)

pub returns-in_ok-even_vertices-in-None-clause-sides : goal.returns-in_ok-even_vertices-in-None-clause-sides
returns-in_ok-even_vertices-in-None-clause-sides c =
    even_found c.args.edges.now c.args.nodes.now c.requires.graph c.requires.trees c.in_ok-even_vertices-in-None.field-0 c.in-None.ensures.none c.in_ok-even_vertices-in-None.ensures
