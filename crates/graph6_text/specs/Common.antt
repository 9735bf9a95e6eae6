-- The definitions of this crate, passed on from one place to the crates above. Declares nothing.
pub use Rattle.graph6_text.specs.Checks.{Checks, IsFirstFaultOfRows, limit_row}
pub use Rattle.graph6_text.specs.Digits.{base, zero_byte, last_byte, byte_of, digit_of, is_digit, weights, bits_of_digit, bits_value, digit_of_bits}
unfoldable pub use Rattle.graph6_text.specs.Digits.{bits_of, bytes_of}
pub use Rattle.graph6_text.specs.Pairs.{column, chosen, chosen_one}
unfoldable pub use Rattle.graph6_text.specs.Pairs.{column_pairs}
pub use Rattle.graph6_text.specs.Reading.{without_header, without_line_end, IsBare, most_vertices, most_edges, most_short, long_byte, is_long, digit_at, pair_count, data_len, filling_of, Fault, faults_of, first_fault, graph_unless}
unfoldable pub use Rattle.graph6_text.specs.Reading.{body_of, order_of, data_of, graph_of_bits, outcome_of}
pub use Rattle.graph6_text.specs.Writing.{ReadsBack}
unfoldable pub use Rattle.graph6_text.specs.Writing.{size_of, adjacency_bits, graph6_of}
