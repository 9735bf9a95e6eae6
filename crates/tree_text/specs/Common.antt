-- The definitions of this crate, passed on from one place to the crates above. Declares nothing.
pub use Rattle.tree_text.specs.Places.{Place, root, in_kept, in_merged, Reading, wanted, whole, put}
pub use Rattle.tree_text.specs.TreeFormat.{most_nodes, TreeSoFar, behind_first, is_rising, is_leaf_line, is_cut_line, tree_header, is_node_line, shore_told, shore_tests, with_node, node_line, line_behind, tree_end, tree_format}
pub use Rattle.tree_text.specs.PickFormat.{most_picks, PicksSoFar, pick_header, pick_line, pick_end, pick_format}
pub use Rattle.tree_text.specs.Writing.{header_words, cut_words, node_words, HasVertices, ShoresRise, IsWritable}
unfoldable pub use Rattle.tree_text.specs.Writing.{tree_text}
pub use Rattle.tree_text.specs.SoFar.{next_place, progress_of, tree_so_far, picks_so_far}
