-- The definitions of this crate, passed on from one place to the crates above. Declares nothing.
pub use Rattle.tree_core.specs.Shapes.{Shape, leaf, cut, Fits, node_count, cut_count, leaf_count, depth, shores}
pub use Rattle.tree_core.specs.Derivations.{kept_at, merged_at, IsCutAt, IsDerivationAt, IsDerivation, IsTightShore}
unfoldable pub use Rattle.tree_core.specs.Derivations.{IsLeafAt}
pub use Rattle.tree_core.specs.Places.{PlaceValue, place_of, IsSeen}
unfoldable pub use Rattle.tree_core.specs.Places.{seen_at}
pub use Rattle.tree_core.specs.Leaves.{leaves_at, leaves, StandsAt, partitions_of, LeadsTo}
pub use Rattle.tree_core.specs.View.{shape_of}
pub use Rattle.tree_core.specs.Moves.{PlainMove, rotate_at, switch_at, result_at, with_child, rotate_result_kept, rotate_result_merged, rotate_result_at, parent_path, last_step, rotate_result, below, union_list, minus_list, meet_list, inner_rest, outer_rest, list_if, kept_if_greatest_comes, merged_if_greatest_comes, kept_if_greatest_stays, merged_shore_if_greatest_stays, merged_if_greatest_stays, is_proper, switch_result_at, switch_result, move_result, TurnsThrough, IsBlockOf, BlocksAt, IsProper}
pub use Rattle.tree_core.specs.LeafMaps.{PlainLeafMap, name, map_at, leaf_at, numbers, order_at, rotate_order, kept_order_if_greatest_stays, switch_order, move_order, kept_image, merged_image, switch_names, names_at, move_names, position, maps_from, own_maps, then_map, maps_after, script_maps}
unfoldable pub use Rattle.tree_core.specs.LeafMaps.{move_maps}
pub use Rattle.tree_core.specs.MoveView.{move_of, moves_of}
pub use Rattle.tree_core.specs.Turns.{turn_result, MayTurn, IsAnswer}
pub use Rattle.tree_core.specs.Exchanges.{IsExchange, shore_after, is_turned, tree_after, cut_after}
pub use Rattle.tree_core.specs.Tallies.{IsKindOf, IsLeafKind, kind_at, AreLeafKinds, is_brick, tally_of, IsTally}
