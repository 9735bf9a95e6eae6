-- The lemmas and definitions of this crate, passed on from one place to the crates above.
-- Declares nothing.
pub use Rattle.tree_core.specs.Common.{Shape, leaf, cut, Fits, node_count, cut_count, leaf_count, depth, shores, kept_at, merged_at, IsCutAt, IsDerivationAt, IsDerivation, IsTightShore, PlaceValue, place_of, IsSeen, leaves_at, leaves, StandsAt, partitions_of, LeadsTo, shape_of, PlainMove, rotate_at, switch_at, result_at, with_child, rotate_result_kept, rotate_result_merged, rotate_result_at, parent_path, last_step, rotate_result, below, union_list, minus_list, meet_list, inner_rest, outer_rest, list_if, kept_if_greatest_comes, merged_if_greatest_comes, kept_if_greatest_stays, merged_shore_if_greatest_stays, merged_if_greatest_stays, is_proper, switch_result_at, switch_result, move_result, TurnsThrough, IsBlockOf, BlocksAt, IsProper, PlainLeafMap, name, map_at, leaf_at, numbers, order_at, rotate_order, kept_order_if_greatest_stays, switch_order, move_order, kept_image, merged_image, switch_names, names_at, move_names, position, maps_from, own_maps, then_map, maps_after, script_maps, move_of, moves_of, turn_result, MayTurn, IsAnswer, IsExchange, shore_after, is_turned, tree_after, cut_after, IsKindOf, IsLeafKind, kind_at, AreLeafKinds, is_brick, tally_of, IsTally}
unfoldable pub use Rattle.tree_core.specs.Common.{IsLeafAt, seen_at, move_maps}
pub use Rattle.tree_core.proofs.DerivationLeaves.{all-one, partitions-leaves_at, partitions-leaves, uncut-leaves}
pub use Rattle.tree_core.proofs.DerivationStands.{cut-nonempty, cut-below, partition-merged, partition-kept, stands-derivation_at, fits-derivation, stands-derivation}
pub use Rattle.tree_core.proofs.DerivationShores.{blocks-few, nontrivial-vertices, cut-shore, shore-cut, TightAbove, tight-shores}
pub use Rattle.tree_core.proofs.Shores.{below-greatest, is-complement, complement-nonempty, below-without_greatest}
pub use Rattle.tree_core.proofs.Sizes.{depth_at_most_nodes, leaf_count-cuts, node_count-cuts, length-leaves_at}
pub use Rattle.tree_core.proofs.TreePaths.{IsThe, leaf-path, path-leaf, LeadsToCut, shore-path, path-shore, within-depth, deepest-path}
pub use Rattle.tree_core.proofs.CutsBelow.{root-covered, kept-partition, merged-partition, kept-covers, merged-covers, merged-length, kept-length, blocks-below, few-cuts_at, few-leaves, HasCoveredQuotient, covered-leaves}
pub use Rattle.tree_core.proofs.RotateSteps.{apart-test, last_step-end, parent_path-end, rotate-end}
pub use Rattle.tree_core.proofs.SwitchSets.{each-member, all_wider, list-of, union-is, union-within, minus-is, minus-within, mem-past, IsOutside, outside-test, not-covered, outside-is, outer_rest-is, outer_rest-within, proper-within, proper_part-within, proper_outside-within}
pub use Rattle.tree_core.proofs.FewLeaves.{few-nodes, few-leaves_listed, blocks-of_leaves}
pub use Rattle.tree_core.proofs.KindsOfLeaves.{kinds-more, blocks-at, kinds-next, kinds-all}
pub use Rattle.tree_core.proofs.AddedKinds.{kinds-one, kinds-both}
pub use Rattle.tree_core.proofs.LeafPlaces.{place-at, no-kinds, kinds-further, kinds-of_all}
pub use Rattle.tree_core.proofs.SingleVertices.{names-rise, last-place, as_many-singles}
pub use Rattle.tree_core.proofs.QuotientSides.{differ, differ-back, Parts, parts_from_sides, sides_from_parts, adjacent_back, parted, bipartite_from_singles, singles_from_bipartite, sides-at_vertices}
pub use Rattle.tree_core.proofs.SeenGraphs.{seen-vertices, seen-blocks, seen-sides}
