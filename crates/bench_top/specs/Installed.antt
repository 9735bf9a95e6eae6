-- What a run of the installed program was given and what it printed: its shelf notes the files that
-- it gives, and its sink the bytes that it takes.
-- Stated by: bench_top, theorems. Used by: front_top.
use Rattle.std.specs.Prelude.{◌≡◌, ℕ, ◌+◌, List, [], ◌∷◌, ◌++◌, ◌⊎◌, length, false, Option, Some, None, option_map}
use Rattle.outside.specs.Common.{HasPrinted, IsOpened, NamedFile, OpenState, PrintState, named_texts}
use Rattle.bench_reports.specs.from_bench_tasks.Common.{Command, by_place, command_of, names_in, place_name}
use Rattle.bench_reports.specs.from_bench_outcomes.Common.{CommandGives, IsSettled, code_of}
use Rattle.bench_reports.specs.from_bench_outcomes.declared.status.Status.{Status}
use Rattle.bench_reports.specs.from_bench_outcomes.declared.status.Status.TheVariants.{Usage, ReadFault, Memory}
use Rattle.bench_top.specs.Given.{GivenOutcome}
use Rattle.bench_top.specs.Runs.{Runs}

-- texts as files that are named by their places, from this one on
abbrev pub placed : ℕ → List (List ℕ) → List NamedFile
placed place [] = []
placed place (text ∷ texts) = (place_name place, text) ∷ placed (place + 1) texts

-- these are the files that the row names, in order, each with the text that was given for it, and
-- the bytes are a report with this status on these texts. One name may stand twice, and its file may
-- have changed in between, so the report is on the texts by their places
pub record IsReportOn (row : Option Command) (status : Status) (files : List NamedFile) (bytes : List ℕ) : Type 0 where
  pub texts : List (List ℕ)
  pub count : length texts ≡ length (names_in row)
  pub are : files ≡ named_texts (names_in row) texts
  pub gives : CommandGives (placed 1 texts) (option_map by_place row) status bytes

-- between two states such files were given, and such bytes printed, and nothing else
pub record HasReported (row : Option Command) (status : Status) (given_before given_now : List NamedFile) (printed_before printed_now : List ℕ) : Type 0 where
  pub files : List NamedFile
  pub bytes : List ℕ
  pub given : given_now ≡ given_before ++ files
  pub printed : printed_now ≡ printed_before ++ bytes
  pub is_report : IsReportOn row status files bytes

-- a run of this row with this status, of a shelf of real files and a stream of a runtime
abbrev pub InstalledOutcome : Option Command → Status → (first last : OpenState) → (before now : PrintState) → Type 0
InstalledOutcome row status first last before now = GivenOutcome IsOpened (λ (k : PrintState). Some k.printed) HasPrinted row status first last before now

-- a shelf that gave nothing yet, and a stream that took nothing yet
abbrev pub nothing_given : OpenState
nothing_given = record { given = []; taken = 0; faults = 0; reason = None }

abbrev pub nothing_printed : PrintState
nothing_printed = record { printed = []; faults = 0; is_abandoned = false }

-- the program ended so on these words: with this exit status, these files given and these bytes
-- printed
pub record EndsOn (words : List (List ℕ)) (code : ℕ) (shelf : OpenState) (sink : PrintState) : Type 0 where
  pub status : Status
  pub is_code : code ≡ code_of status
  -- the run is one of `run`
  pub ran : Runs (λ (s : OpenState). None) (λ (s : OpenState). false) (λ (s : OpenState). s.faults) IsOpened (λ (k : PrintState). Some k.printed) HasPrinted (λ (k : PrintState). k.faults)
      (command_of words) status nothing_given shelf nothing_printed sink
  -- with status 0 or 1, the files that were given are those that the words name, and what was
  -- printed is a report on them
  pub reported : IsSettled status → IsReportOn (command_of words) status shelf.given sink.printed
  -- without a report nothing was printed
  pub silent : (status ≡ Usage) ⊎ ((status ≡ ReadFault) ⊎ (status ≡ Memory)) → sink.printed ≡ []
