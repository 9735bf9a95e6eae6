-- The definitions of this crate, passed on from one place to the crates above. Declares nothing.
pub use Rattle.mcg6_top.specs.Commands.{ListCommand, Mcg6Command, Answer, Encode, bricks_property, braces_property, property_named, query_named, pair_named, may_skip, asks_skip, command_with_word, command_with_two, command_with, command_if, pair_command, list_command_of, encode_pair, encode_of, command_or, command_of, file_of, file_named_by}
unfoldable pub use Rattle.mcg6_top.specs.Commands.{counted_property, leaves_named, select_named}
pub use Rattle.mcg6_top.specs.Asked.{text_of, list_asked, asked}
pub use Rattle.mcg6_top.specs.Listings.{is_past_graph, TellsLineOf, IsBadLine, lacks_of, TellsOrSkips, ListStopsAt, SkipsLine, is_by_line, opens_with_header}
pub use Rattle.mcg6_top.specs.Statuses.{code_of, status_after, status_encoded, status_at, status_in}
pub use Rattle.mcg6_top.specs.Outcomes.{EndsWith, SkipsUpTo, StopsAtBad, HasSkipped, ListOutcome, TellsSome, OutcomeOfRead, StreamsTo, Streams, IsSettledEnding, HasAnswer, HasSettledEnd, HasListOutcome}
pub use Rattle.mcg6_top.specs.AlikeOutputs.{AreAlikeOutputs}
pub use Rattle.mcg6_top.specs.Splits.{found_behind, ending_behind}
pub use Rattle.mcg6_top.specs.Encodings.{StopsAtFile, EncodeOutcome, EncodesSome, ReadsFirstTo}
pub use Rattle.mcg6_top.specs.Runs.{ListRuns, AnswersList, AnswersFile, command_at, Performs, ListRunsTo}
pub use Rattle.mcg6_top.specs.Installed.{RowGives, HasListReport, InstalledRun, nothing_read, nothing_printed, EndsOn}
