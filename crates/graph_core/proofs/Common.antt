-- The lemmas and definitions of this crate, passed on from one place to the crates above.
-- Declares nothing.
pub use Rattle.vset_core.proofs.from_counting.Common.{err_from_is_err_and}
pub use Rattle.graph_core.specs.Common.{Graph, size, first_end, second_end, IsGraph, HasNoLoop, IsMultigraph, with_edge, with_ends, HasEnds, has_ends, in_cut, inside, connects, edges_in_cut, degree, IsBipartite, IsMatching, IsEnd, ShareNoEnd, IsPerfect, IsMaximum, HasPerfect, Allowed, Together, fits_at, is_matching, right_degree, is_perfect, has_perfect, is_allowed, has_matching_of, adjacent, Walk, reaches, IsOddClosedWalk, Hangs, IsForest, way_up, way_down, above, AreRows, node_at, parent_at, depth_at, is_even_at, IsRooted, AreTrees, IsGrowth, IsGrown, IsComponentStage, IsSide, IsLeftSide, AreSides, IsEven, is_least, IsConnected, Attains, IsBergeSet, InD, InA, InC, IsCovered, Reason, Small, Parted, Unmatched, Unallowed, IsReason, reason_of, IsVerdict, IsPairList, HoldsNew, IsLean, CutIsTight, IsTight, is_tight, IsNontrivial, is_nontrivial, HasOnlyTrivialTightCuts, canonical_shore, Merges, is_listed, canonical_list, with_cut, cuts_of, IsCanonicalCut, block, place, names_of, AreBlocks, IsPartition, singles, complement_of, insert_block, merged, IsMerge, IsPerfectAt, blocks_adjacent, edges_between, remembered, union_of_blocks, lifted, projected, IsUnion, blocks_in, block_count, IsTightAt, IsSimple, Equivalent, is_equivalent, IsClass, is_least_of_class, IsBarrier, IsBicritical, IsCutPair, is_bicritical, pair_of, are_ends, graph_of, IsWithinLimits, IsKept}
unfoldable pub use Rattle.graph_core.specs.Common.{missed_count, Joined, joined, component_count, odd_component_count, components, contracted, quotient, classes, equivalent_pair, cut_pair}
pub use Rattle.graph_core.proofs.Blocks.{place_is, place_in, first, carried, in_union, contracted-order, contracted-size, contracted-ends, in_first, carries, merges, contracted-graph}
pub use Rattle.graph_core.proofs.Carrying.{total_image, no_loop, perfect_carried, cut_carried}
unfoldable pub use Rattle.graph_core.proofs.Carrying.{image, carried_set}
pub use Rattle.graph_core.proofs.Components.{joined_walk, walk_joined, one_leader, joined_outside, some_leader, length-components, component_count_le}
pub use Rattle.graph_core.proofs.Complements.{complement_of-rising_list, complement_of-rises, mem-complement_of, union-complement_of}
pub use Rattle.graph_core.proofs.Contraction.{tight_from_cut, drop_inside, perfect_down, tight_up, covered_down, tight_down}
pub use Rattle.graph_core.proofs.Decide.{is_perfect_true, true_is_perfect, degree_congr, is_perfect_congr, allowed_or_not, tight_or_not, is_matching_true, true_is_matching, is_matching_congr, none_matching, maximum_below, maximum_exists, missed_or_met, has_perfect_says, has_perfect_found, is_allowed_says, is_allowed_found, is_equivalent_says, is_equivalent_found, is_tight_says, is_tight_found, covered_perfect, reason-uncovered}
pub use Rattle.graph_core.proofs.Edits.{degree_sum, degree_put, shared, shared_put, shared_le, sum_degrees, missed_edges, edge_at, ends_le_degree, two_ends_le_degree, ends_of_is, bit_same, bit_other, add_edge, edge_of}
unfoldable pub use Rattle.graph_core.proofs.Edits.{ends_of}
pub use Rattle.graph_core.proofs.Parity.{ends_in, degrees, parity, two_cuts}
pub use Rattle.graph_core.proofs.Quotients.{quotient-order, quotient_edge, edge_of_pair}
pub use Rattle.graph_core.proofs.SameSets.{cut_congr, tight-same, nontrivial-same}
pub use Rattle.graph_core.proofs.Shores.{shore_up, shore_down}
pub use Rattle.graph_core.proofs.Singles.{length-singles, place_singles, block-singles, singles-partition}
pub use Rattle.graph_core.proofs.Textbook.{one_end, matching_apart, ends_one, apart_matching}
pub use Rattle.graph_core.proofs.Uncrossing.{odd_meets, no_edge_joins, meet_tight, union_tight}
pub use Rattle.graph_core.proofs.Walks.{Walk-join, Walk-stays, spread, flood_walk, grows, flood_closed, flood_own, walk_or_not, Walk-back, adjacent-edge, has_ends-cases, adjacent_within, adjacent_from, has_ends-back, adjacent_back, has_ends-own, joined_self, joined_back, joined_on, joined_or_not, parted}
unfoldable pub use Rattle.graph_core.proofs.Walks.{IsClosed}
pub use Rattle.graph_core.proofs.WeakDuality.{berge_bound}
pub use Rattle.graph_core.proofs.View.{size-graph_of, pair-graph_of, has_ends-graph_of, some-take, some-graph_of, ends_within, contained_edge, each-edge}
pub use Rattle.graph_core.proofs.Trees.{adjacent_more, joined_more, hangs_more, StandsAt, root_at, hangs_at, above_root, up_walk, down_walk, above_joined, length-way_up, length-way_down, least_same, way_up-step, way_down-step}
pub use Rattle.graph_core.proofs.TwoSides.{odd_walk_excludes, left_bipartite, left_side_only, least_depth, odd_walk, even_side, forest_rooted}
pub use Rattle.graph_core.proofs.OneVertexLess.{Loses, Loses-own, Loses-others, Loses-smaller, Loses-out, count_lost, Gains, count_gained}
pub use Rattle.graph_core.proofs.FoundVertices.{growth_start, growth_step, growth_drop, growth_end, grown_less}
pub use Rattle.graph_core.proofs.FoundComponents.{AreFirst, parts_start, stage_start, parts_step, stage_step, stage_end, parts_end}
pub use Rattle.graph_core.proofs.FloodedComponents.{flood-joined}
pub use Rattle.graph_core.proofs.Merging.{Has, block_has, has_block, insert_has, filter_has, mem_last, block_of, merged_partition, merged_merges}
pub use Rattle.graph_core.proofs.SameBlocks.{Ordered, rising_ordered, block_rises, Finer, same_blocks}
pub use Rattle.graph_core.proofs.MergeOrder.{merged_order, merged_blocks}
pub use Rattle.graph_core.proofs.QuotientTight.{quotient_graph, cut_up, cut_down}
pub use Rattle.graph_core.proofs.BlockSets.{rep, count_over, rep_in, rep_place, place_rep, at_rep, at_place, union_congr, union_rest, union_meet, union_join, union_minus, block_count_congr, block_count_rest, block_count_parts, block_count_some, tight_congr, tight_rest, meet_tight_at, union_tight_at, no_edge_at}
pub use Rattle.graph_core.proofs.MergedShores.{Below, Apart, Some, alike_in, alike_up, same_side, alike_down, closed_up, closed_over, closed_apart, inside_or_apart, block_count_outside, block_count_new, block_count_around, merge_of, covered_merged, tight_up_merged, tight_down_merged}
pub use Rattle.graph_core.proofs.Adjacency.{Alike, has_ends-from, tight_back, covered_over}
pub use Rattle.graph_core.proofs.Simplicity.{repeats, repeats-back, simple_from_no_repeat, no_repeat_from_simple}
pub use Rattle.graph_core.proofs.EndLists.{joins, some_items, adjacent-ends}
pub use Rattle.graph_core.proofs.OneMoreEdge.{limits-with_edge, rows-with_edge}
pub use Rattle.graph_core.proofs.Rows.{row-adjacent, none_left, one_left}
pub use Rattle.graph_core.proofs.Perfect.{perfect_matching, perfect_misses, missed_one, none_missed-perfect}
pub use Rattle.graph_core.proofs.SingleBlocks.{contracted-singles, union-singles, blocks-singles, tight-singles, singles-tight, in-cut-at, edges-in-cut-at}
pub use Rattle.graph_core.proofs.ShoreLists.{shore-some, complement-tight}
pub use Rattle.graph_core.proofs.CutLists.{nontrivial-length, length-in, canonical-kept, canonical-turned, canonical-rises, canonical-nontrivial, cut-taken, cut-narrow, cut-known}
pub use Rattle.graph_core.proofs.Inside.{degree-inside, degree-inside_off}
