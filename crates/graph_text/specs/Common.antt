-- The definitions of this crate, passed on from one place to the crates above. Declares nothing.
pub use Rattle.graph_text.specs.GraphLines.{GraphSoFar, edge_line, graph_line, graph_end}
pub use Rattle.graph_text.specs.VersionOne.{most_vertices, most_edges, header, version_one, FitsVersionOne}
pub use Rattle.graph_text.specs.SoFar.{so_far, either_so_far, named_graph}
pub use Rattle.graph_text.specs.Writing.{edge_words, header_words, graph_words, named_header_words, name_words, named_edge_words, named_words, FitsNames}
unfoldable pub use Rattle.graph_text.specs.Writing.{graph_text, named_text}
pub use Rattle.graph_text.specs.Names.{is_among, vertex_of, AreNames, plain_name}
unfoldable pub use Rattle.graph_text.specs.Names.{is_name_byte, is_name, plain_names}
pub use Rattle.graph_text.specs.EitherVersion.{EitherSoFar, named_so_far, NamedGraph, most_named_vertices, most_named_edges, is_named_header, is_plain_header, is_over, either_header, vertex_line, named_edge_line, named_line, line_behind, end_behind, either_version, begin_named, is_version_two}
