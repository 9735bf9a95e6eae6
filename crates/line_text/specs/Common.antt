-- The definitions of this crate, passed on from one place to the crates above. Declares nothing.
pub use Rattle.line_text.specs.Format.{Rules, checked, step, finish, Begins, Stands, BreaksAtLine, BreaksAtEnd, FirstFault, StandsAlone, BreaksAlone}
pub use Rattle.line_text.specs.Lines.{is_line_feed, lines_of_parts, unlines, is_closed}
unfoldable pub use Rattle.line_text.specs.Lines.{lines_of}
pub use Rattle.line_text.specs.Numerals.{is_number, value_of, numbers_of}
unfoldable pub use Rattle.line_text.specs.Numerals.{number_of}
pub use Rattle.line_text.specs.Reading.{Refuses, Gives, Fails, Reads, placed, go_on, state_after, reading_from, reading_of, IsFirst, ReadingTells}
pub use Rattle.line_text.specs.Words.{texts_of, is_blank, word_at, begin_with, is_skipped, SignificantLine, significant_lines_of, unwords, written, is_word, AreWords, IsSignificant, IsComment, numbered_from}
unfoldable pub use Rattle.line_text.specs.Words.{words_of, has_form, significant_from}
pub use Rattle.line_text.specs.FaultKinds.{kind_number}
pub use Rattle.line_text.specs.Faults.{IsFault}
pub use Rattle.line_text.specs.TextReads.{IsFirstFault, ReadsText}
pub use Rattle.line_text.specs.Ranges.{is_out_of_range}
