-- The definitions of this crate, passed on from one place to the crates above. Declares nothing.
pub use Rattle.move_text.specs.MoveFormat.{most_moves, most_steps, is_step, side_of, is_path_word, path_of, is_comma, parts_of, are_numbers, vertices_of, is_rotate_line, is_switch_line, moves_header, rotate_line, switch_line, move_line, move_format}
pub use Rattle.move_text.specs.Writing.{header_words, letter_of, path_word, behind_commas, set_word, move_words, HasShortPath, HasSets, SetsRise, IsWritable}
unfoldable pub use Rattle.move_text.specs.Writing.{moves_text}
