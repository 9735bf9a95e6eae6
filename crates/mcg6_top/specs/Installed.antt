-- What a run of the installed program was given and what it printed: its source notes the bytes that
-- it gives and the name that it opened, and its sink the bytes that it takes.
-- Stated by: mcg6_top, theorems. Used by: mcg6_front_top.
use Rattle.std.specs.Prelude.{◌≡◌, ℕ, List, [], ◌++◌, false, Option, Some, None}
use Rattle.mcg6_encoder.specs.from_outside.Common.{HasPrinted, HasTaken, PrintState, ReadState}
use Rattle.mcg6_top.specs.Commands.{Mcg6Command, Answer, Encode, command_of, file_named_by}
use Rattle.mcg6_top.specs.Encodings.{EncodeOutcome}
use Rattle.mcg6_top.specs.Outcomes.{ListOutcome}
use Rattle.mcg6_top.specs.Runs.{ListRuns}
use Rattle.mcg6_top.specs.Statuses.{code_of}
use Rattle.mcg6_top.specs.declared.status.ListStatus.{ListStatus}
use Rattle.mcg6_top.specs.declared.status.ListStatus.TheVariants.{Usage}

-- of this row, where these bytes were read and these printed, a run ends with this status: what was
-- printed is what the row asks of the lines of the list that was read, or what it asks of the graph
-- file; where the words match no row, nothing was read or printed
abbrev pub RowGives : Option Mcg6Command → ListStatus → (read printed : List ℕ) → Type 0
RowGives None status read printed = (status ≡ Usage) × (read ≡ []) × (printed ≡ [])
RowGives (Some (Answer list)) status read printed = ListOutcome list.query list.at_bad read status printed
RowGives (Some (Encode name)) status read printed = EncodeOutcome read status printed

-- between two states such bytes were read, of what was opened before, and such bytes printed, and
-- nothing else
pub record HasListReport (row : Option Mcg6Command) (status : ListStatus) (first last : ReadState) (before now : PrintState) : Type 0 where
  pub read : List ℕ
  pub printed : List ℕ
  pub opened : last.name ≡ first.name
  pub given : last.read ≡ first.read ++ read
  pub took : now.printed ≡ before.printed ++ printed
  pub gives : RowGives row status read printed

-- a run of these words with this status, of a reader and a stream of a runtime
abbrev pub InstalledRun : List (List ℕ) → ListStatus → (first last : ReadState) → (before now : PrintState) → Type 0
InstalledRun words status first last before now =
    ListRuns (λ (s : ReadState). None) (λ (s : ReadState). s.faults) HasTaken (λ (k : PrintState). Some k.printed) HasPrinted (λ (k : PrintState). k.faults) words status first last before now

-- what was opened by that name, or standard input, before it is read
abbrev pub nothing_read : Option (List ℕ) → ReadState
nothing_read name = record { name = name; read = []; faults = 0; reason = None }

-- a stream that took nothing yet
abbrev pub nothing_printed : PrintState
nothing_printed = record { printed = []; faults = 0; is_abandoned = false }

-- the program ended so on these words: with this exit status, these bytes read and these printed
pub record EndsOn (words : List (List ℕ)) (code : ℕ) (source : ReadState) (sink : PrintState) : Type 0 where
  pub status : ListStatus
  pub is_code : code ≡ code_of status
  -- the run is one of `run`
  pub ran : InstalledRun words status (nothing_read (file_named_by words)) source nothing_printed sink
  -- the file that the words name was opened; where they name none, standard input was read
  pub opened : source.name ≡ file_named_by words
  -- and what was printed is what the words ask of what was read
  pub gives : RowGives (command_of words) status source.read sink.printed
