-- The definitions of this crate, passed on from one place to the crates above. Declares nothing.
pub use Rattle.graph_core.specs.Graph.{Graph, size, first_end, second_end, IsGraph, HasNoLoop, IsMultigraph, with_edge, with_ends, HasEnds, has_ends, in_cut, inside, connects, edges_in_cut, degree, IsBipartite}
pub use Rattle.graph_core.specs.Matchings.{IsMatching, IsEnd, ShareNoEnd, IsPerfect, IsMaximum, HasPerfect, Allowed, Together, fits_at, is_matching, right_degree, is_perfect, has_perfect, is_allowed, has_matching_of}
unfoldable pub use Rattle.graph_core.specs.Matchings.{missed_count}
pub use Rattle.graph_core.specs.Walks.{adjacent, Walk, reaches, IsOddClosedWalk}
unfoldable pub use Rattle.graph_core.specs.Walks.{Joined, joined}
pub use Rattle.graph_core.specs.Trees.{Hangs, IsForest, way_up, way_down, above}
pub use Rattle.graph_core.specs.Rows.{AreRows}
pub use Rattle.graph_core.specs.Nodes.{node_at, parent_at, depth_at, is_even_at, IsRooted, AreTrees}
pub use Rattle.graph_core.specs.FoundVertices.{IsGrowth, IsGrown, IsComponentStage}
pub use Rattle.graph_core.specs.Sides.{IsSide, IsLeftSide, AreSides, IsEven}
pub use Rattle.graph_core.specs.Components.{is_least, IsConnected}
unfoldable pub use Rattle.graph_core.specs.Components.{component_count, odd_component_count, components}
pub use Rattle.graph_core.specs.BergeSets.{Attains, IsBergeSet}
pub use Rattle.graph_core.specs.GallaiEdmonds.{InD, InA, InC}
pub use Rattle.graph_core.specs.Covered.{IsCovered, Reason, Small, Parted, Unmatched, Unallowed, IsReason}
pub use Rattle.graph_core.specs.Verdicts.{reason_of, IsVerdict}
pub use Rattle.graph_core.specs.PairLists.{IsPairList, HoldsNew, IsLean}
pub use Rattle.graph_core.specs.Tight.{CutIsTight, IsTight, is_tight, IsNontrivial, is_nontrivial, HasOnlyTrivialTightCuts, canonical_shore, Merges}
pub use Rattle.graph_core.specs.CanonicalCuts.{is_listed, canonical_list, with_cut, cuts_of, IsCanonicalCut}
pub use Rattle.graph_core.specs.Partitions.{block, place, names_of, AreBlocks, IsPartition, singles, complement_of, insert_block, merged, IsMerge, IsPerfectAt}
unfoldable pub use Rattle.graph_core.specs.Partitions.{contracted}
pub use Rattle.graph_core.specs.Quotients.{blocks_adjacent, edges_between, remembered, union_of_blocks, lifted, projected}
unfoldable pub use Rattle.graph_core.specs.Quotients.{quotient}
pub use Rattle.graph_core.specs.Shores.{IsUnion, blocks_in, block_count, IsTightAt}
pub use Rattle.graph_core.specs.Simple.{IsSimple}
pub use Rattle.graph_core.specs.Structure.{Equivalent, is_equivalent, IsClass, is_least_of_class, IsBarrier, IsBicritical, IsCutPair, is_bicritical}
unfoldable pub use Rattle.graph_core.specs.Structure.{classes, equivalent_pair, cut_pair}
pub use Rattle.graph_core.specs.View.{pair_of, are_ends, graph_of, IsWithinLimits, IsKept}
