-- A run that is done, of the installed program: what it was given and what it printed.
use Rattle.std.proofs.Common.{◌≡◌, ◌∙◌, ℕ, List, ◌++◌, Some, ap}
use Rattle.bench_top.specs.from_outside.Common.{HasPrinted, IsOpened, NamedFile, NotesFiles, OpenState, PrintState}
use Rattle.bench_top.proofs.Reported.{given-in_turn, told-printed}
use Rattle.theorems.specs.Outcomes.{IsDoneRun, IsInstalledRun}

abbrev pub given : OpenState → List NamedFile
given shelf = shelf.given

pub notes : NotesFiles IsOpened given
notes before name bytes now read = read.given

abbrev pub printed : PrintState → List ℕ
printed sink = sink.printed

pub installed-run : (names texts : List (List ℕ)) (output : List ℕ) (first last : OpenState) (before now : PrintState) → IsDoneRun IsOpened (λ (k : PrintState). Some k.printed) HasPrinted names texts output first last before now → IsInstalledRun names texts output first last before now
installed-run names texts output first last before now run = record {
  given = given-in_turn IsOpened given notes names texts first last run.gave;
  printed = told-printed printed HasPrinted (λ told. told ≡ output) before now run.wrote ∙ ap (λ (bytes : List ℕ). before.printed ++ bytes) run.wrote.right;
}
