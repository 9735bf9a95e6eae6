-- The definitions of this crate, passed on from one place to the crates above. Declares nothing.
pub use Rattle.outside.specs.Faults.{next_fault, faults_after, MayCount, next_call, Rose}
pub use Rattle.outside.specs.Limits.{most_bytes, most_line}
pub use Rattle.outside.specs.Shelf.{NamedFile, file_named, HoldsLonger, Answer, answer_seen, bytes_in, AnswersInTurn, ReadsInTurn, ReadsFirst, TellsFile, IsLonger}
pub use Rattle.outside.specs.Sink.{appended, taken_by, WritesTake, IsWritten, IsCutOff}
pub use Rattle.outside.specs.Noting.{NotesFiles, named_texts}
pub use Rattle.outside.specs.Source.{prepended, IsAtEnd, given_by}
pub use Rattle.outside.specs.MemShelf.{ShelfState, FailsNext, MayTakeBytes, MayAnswer, IsRead}
pub use Rattle.outside.specs.MemSink.{SinkState, share, IsWrite}
pub use Rattle.outside.specs.MemSource.{SourceState, size_for, portion, bytes_given, IsGiven}
pub use Rattle.outside.specs.StoredFile.{named_files}
pub use Rattle.outside.specs.DirShelf.{OpenState, given_after, CountsFault, IsOpened}
pub use Rattle.outside.specs.OutSink.{PrintState, HasPrinted}
pub use Rattle.outside.specs.InSource.{name_in, ReaderState, ReadState, read_after, HasTaken}
pub use Rattle.outside.specs.LineSink.{LineState, HasBegun, HasSaid}
