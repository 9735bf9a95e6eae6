-- The definitions of this crate, passed on from one place to the crates above. Declares nothing.
pub use Rattle.grow_gen.specs.Pieces.{piece_order, piece_ends, piece_graph, is_bipartite_piece, side, further_piece}
pub use Rattle.grow_gen.specs.Splices.{is_at, end_opposite, neighbours, permutations, permutation, new_number, edge_with_end, rehung_edges, targets_of, renumbered_edge}
unfoldable pub use Rattle.grow_gen.specs.Splices.{splice}
pub use Rattle.grow_gen.specs.Cubic.{IsCubic}
pub use Rattle.grow_gen.specs.Growth.{Growth, first_growth, eligible, next_class, MayTake}
unfoldable pub use Rattle.grow_gen.specs.Growth.{with_piece, growth_from, grown}
pub use Rattle.grow_gen.specs.Growing.{growth_of}
