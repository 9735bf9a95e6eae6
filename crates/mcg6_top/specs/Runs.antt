-- What a run makes of a source and a sink, as one fact: `run`, `run_to_ending` and the front cite
-- it.
-- Stated by: mcg6_top, theorems. Used by: mcg6_front_top.
use Rattle.std.specs.Prelude.{◌≡◌, ◌↔◌, ℕ, List, [], Option, Some, None}
use Rattle.mcg6_encoder.specs.from_outside.Common.{Rose}
use Rattle.mcg6_reader.specs.Common.{Appended, ReadsTold, Reports, TellsList, TellsRead}
use Rattle.mcg6_reader.specs.declared.ending.InputEnding.TheVariants as ending
use Rattle.mcg6_reader.specs.declared.ending.InputEnding.{InputEnding}
use Rattle.mcg6_encoder.specs.Files.{Encodes}
use Rattle.mcg6_encoder.specs.Reads.{EncodesFile, ReadsThenWrites}
use Rattle.mcg6_top.specs.Asked.{list_asked}
use Rattle.mcg6_top.specs.Commands.{Mcg6Command, ListCommand, Answer, Encode, command_of}
use Rattle.mcg6_top.specs.Encodings.{EncodeOutcome, EncodesSome, ReadsFirstTo}
use Rattle.mcg6_top.specs.Listings.{TellsOrSkips, ListStopsAt, SkipsLine, lacks_of}
use Rattle.mcg6_top.specs.Outcomes.{EndsWith, SkipsUpTo, ListOutcome, OutcomeOfRead, Streams, StreamsTo, TellsSome}
use Rattle.mcg6_lines.specs.declared.query.Query.{Query}
use Rattle.mcg6_top.specs.declared.command.AtBadLine.{AtBadLine}
use Rattle.mcg6_top.specs.declared.command.AtBadLine.TheVariants.{Stop}
use Rattle.mcg6_top.specs.declared.status.ListEnding.{ListEnding}
use Rattle.mcg6_top.specs.declared.status.ListRunEnding.{ListRunEnding}
use Rattle.mcg6_top.specs.declared.status.ListRunEnding.TheVariants.{Answered, Encoded}
use Rattle.mcg6_top.specs.declared.status.ListStatus.{ListStatus}
use Rattle.mcg6_top.specs.declared.status.ListStatus.TheVariants.{Usage, ReadFault, WriteFault}

-- a run of these words ended with this status. It led from the first source to the last, and from
-- the sink before to the sink now; the functions are those that tell of a source and of a sink
pub record ListRuns {S K : Type 0} (left : S → Option (List ℕ)) (faults : S → ℕ) (reads : S → Option (List ℕ) → S → Type 0)
    (written : K → Option (List ℕ)) (writes : K → List ℕ → ℕ → K → Type 0) (sink_faults : K → ℕ) (words : List (List ℕ)) (ended : ListStatus)
    (first last : S) (before now : K) : Type 0 where
  -- the status is Usage exactly if the words match no row, and then nothing is read or written
  pub usage : (ended ≡ Usage) ↔ (command_of words ≡ None)
  pub unread : ended ≡ Usage → last ≡ first
  pub nothing : ended ≡ Usage → now ≡ before
  -- a fault of the outside comes only where its count rose in this run
  pub read_fault : ended ≡ ReadFault → Rose (faults first) (faults last)
  pub write_fault : ended ≡ WriteFault → Rose (sink_faults before) (sink_faults now)
  -- what was written is what the words ask of the lines of the list, in whatever pieces it was read
  pub outcome : (command : ListCommand) (bytes : List ℕ) → command_of words ≡ Some (Answer command) → left first ≡ Some bytes
      → Appended (ListOutcome command.query command.at_bad bytes ended) (written before) (written now)
  -- if what is left of the source is not known, it is what they ask of the lines of some list
  pub tells : (command : ListCommand) → command_of words ≡ Some (Answer command)
      → TellsSome command.query command.at_bad ended (left first) (written before) (written now)
  -- whatever the source makes known, it is what they ask of the lines of what was read
  pub from_read : (command : ListCommand) → command_of words ≡ Some (Answer command)
      → OutcomeOfRead command.query command.at_bad reads ended first last (written before) (written now)
  -- where the source fails, each whole line of what was read is told and written
  pub torn : (command : ListCommand) → command_of words ≡ Some (Answer command) → ended ≡ ReadFault
      → Appended (ReadsTold (TellsOrSkips command.query command.at_bad) (left first) (left last)) (written before) (written now)
  -- after each read, what is asked of the lines that are whole by then is written before the next
  -- read; no write follows one that failed, and no read or write follows a read that failed
  pub streams : (command : ListCommand) → command_of words ≡ Some (Answer command)
      → Streams command.query command.at_bad reads written writes ended first before last now
  -- if they ask for the graph6 text of a graph file, what was written is what the file gives
  pub encodes : (name file : List ℕ) → command_of words ≡ Some (Encode name) → left first ≡ Some file
      → Appended (EncodeOutcome file ended) (written before) (written now)
  -- if the source does not tell what is left, it is what some file gives
  pub encodes_some : (name : List ℕ) → command_of words ≡ Some (Encode name) → EncodesSome ended (left first) (written before) (written now)
  -- the file is read to its end before the first write; nothing is written of a bad file, and no
  -- write follows one that failed
  pub reads_first : (name : List ℕ) → command_of words ≡ Some (Encode name)
      → ReadsFirstTo reads written writes ended first before last now

-- a list was answered, and ended so: what was written, and the reports on the bad lines that were
-- skipped. The functions are those that tell of a source and of a sink
pub record AnswersList {S K : Type 0} (query : Query) (at_bad : AtBadLine) (left : S → Option (List ℕ)) (faults : S → ℕ) (reads : S → Option (List ℕ) → S → Type 0)
    (written : K → Option (List ℕ)) (writes : K → List ℕ → ℕ → K → Type 0) (sink_faults : K → ℕ) (ended : ListEnding)
    (first last : S) (before now : K) : Type 0 where
  -- a fault of the outside comes only where its count rose in this run
  pub read_fault : ended.ending ≡ ending.ReadFault → Rose (faults first) (faults last)
  pub write_fault : ended.ending ≡ ending.WriteFault → Rose (sink_faults before) (sink_faults now)
  -- what was written is what is asked of the lines of the list up to this ending
  pub outcome : (bytes : List ℕ) → left first ≡ Some bytes → Appended (EndsWith query at_bad bytes ended.ending) (written before) (written now)
  -- the reports are exactly those on the bad lines that were skipped, in order; there is none if
  -- the list ends at a bad line
  pub skips : (bytes : List ℕ) → left first ≡ Some bytes → SkipsUpTo query at_bad bytes ended.ending ended.skipped.items
  pub skips_none : at_bad ≡ Stop → ended.skipped.items ≡ []
  -- if what is left of the source is not known, it is what is asked of the lines of some list, and
  -- the reports are on the same lines
  pub tells : TellsList (TellsOrSkips query at_bad) (ListStopsAt query at_bad) (lacks_of query) (Reports (SkipsLine query at_bad)) ended.ending (left first)
      (written before) (written now) [] ended.skipped.items
  -- whatever the source makes known, both are those of the lines of what was read
  pub from_read : TellsRead (TellsOrSkips query at_bad) (ListStopsAt query at_bad) (lacks_of query) (Reports (SkipsLine query at_bad)) reads ended.ending first last
      (written before) (written now) [] ended.skipped.items
  -- where the source fails, each whole line of what was read is told and written
  pub torn : ended.ending ≡ ending.ReadFault → Appended (ReadsTold (TellsOrSkips query at_bad) (left first) (left last)) (written before) (written now)
  -- after each read, what is asked of the lines that are whole by then is written before the next
  pub streams : StreamsTo query at_bad reads written writes ended.ending first before last now

-- a graph file was encoded, and that ended so
pub record AnswersFile {S K : Type 0} (left : S → Option (List ℕ)) (faults : S → ℕ) (reads : S → Option (List ℕ) → S → Type 0)
    (written : K → Option (List ℕ)) (writes : K → List ℕ → ℕ → K → Type 0) (sink_faults : K → ℕ) (ended : InputEnding)
    (first last : S) (before now : K) : Type 0 where
  -- a fault of the outside comes only where its count rose in this run
  pub read_fault : ended ≡ ending.ReadFault → Rose (faults first) (faults last)
  pub write_fault : ended ≡ ending.WriteFault → Rose (sink_faults before) (sink_faults now)
  -- what was written is what the file gives up to this ending
  pub encodes : (file : List ℕ) → left first ≡ Some file → Appended (Encodes file ended) (written before) (written now)
  -- if the source does not tell what is left, it is what some file gives
  pub encodes_some : EncodesFile ended (left first) (written before) (written now)
  -- the file is read to its end before the first write; nothing is written of a bad file
  pub reads_first : ReadsThenWrites reads written writes ended first before last now

-- what a run was asked for that ended so
abbrev pub command_at : ListRunEnding → Mcg6Command
command_at (Answered list end) = Answer (list_asked list)
command_at (Encoded file ending) = Encode file.now

-- what a run made of a source and a sink that ended so: the list was answered, or the file encoded
abbrev pub Performs : {S K : Type 0} → (S → Option (List ℕ)) → (S → ℕ) → (S → Option (List ℕ) → S → Type 0) → (K → Option (List ℕ)) →
    (K → List ℕ → ℕ → K → Type 0) → (K → ℕ) → ListRunEnding → (first last : S) → (before now : K) → Type 0
Performs left faults reads written writes sink_faults (Answered list end) first last before now =
    AnswersList list.query list.at_bad left faults reads written writes sink_faults end first last before now
Performs left faults reads written writes sink_faults (Encoded file ending) first last before now =
    AnswersFile left faults reads written writes sink_faults ending first last before now

-- the same of a run that ended so; with no end the words match no row
pub record ListRunsTo {S K : Type 0} (left : S → Option (List ℕ)) (faults : S → ℕ) (reads : S → Option (List ℕ) → S → Type 0)
    (written : K → Option (List ℕ)) (writes : K → List ℕ → ℕ → K → Type 0) (sink_faults : K → ℕ) (words : List (List ℕ)) (ended : Option ListRunEnding)
    (first last : S) (before now : K) : Type 0 where
  -- there is no end exactly if the words match no row, and then nothing is read or written
  pub usage : (ended ≡ None) ↔ (command_of words ≡ None)
  pub unread : ended ≡ None → last ≡ first
  pub nothing : ended ≡ None → now ≡ before
  -- else it is the end of what the words ask for, and that was done
  pub command : (at : ListRunEnding) → ended ≡ Some at → command_of words ≡ Some (command_at at)
  pub performs : (at : ListRunEnding) → ended ≡ Some at → Performs left faults reads written writes sink_faults at first last before now
