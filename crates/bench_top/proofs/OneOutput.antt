-- How many outputs does a done task have? One, if its text is not free; what an analysis or a
-- refusal leaves free is one list of numbers.
use Rattle.std.proofs.Common.{◌≡◌, ℕ, List, Option, Some, subst, arith}
use Rattle.outside.specs.Common.{NamedFile}
use Rattle.bench_reports.specs.from_bench_tasks.Common.{Command, command_of, All, loaded, Task}
use Rattle.bench_reports.specs.from_bench_outcomes.Common.{CommandGives, Outcome, ResultOf}
use Rattle.bench_reports.specs.from_bench_outcomes.declared.status.Status.{Status}
use Rattle.bench_reports.specs.from_bench_outcomes.declared.status.Status.TheVariants.{Done, Negative, BadInput}
use Rattle.bench_reports.proofs.from_bench_outcomes.Settled.{KeepsGraph}
use Rattle.bench_top.specs.Fixed.{DifferAtMostIn, HasChosenText, HasOneOutput, MayShow, ShowsNothingFree}
use Rattle.bench_top.proofs.AlikeTasks.{refused-alike, task-alike, task-once}
use Rattle.bench_top.proofs.AlikeTexts.{alike-none}
use Rattle.bench_top.proofs.LoadedGraphs.{Holds, loaded-graph}

-- good files give what their task gives
gives-task : (words : List (List ℕ)) (files : List NamedFile) (command : Command) (t : Task) (status : Status) (output : List ℕ) →
    command_of words ≡ Some command → loaded files command ≡ All t → Outcome words files status output → ResultOf t status output
gives-task words files command t status output row held outcome = grind arith

keeps-task : (files : List NamedFile) (command : Command) (t : Task) → loaded files command ≡ All t → KeepsGraph t
keeps-task files command t held = subst (Holds KeepsGraph) held (loaded-graph files command)

pub output-once : (words : List (List ℕ)) (files : List NamedFile) (command : Command) (t : Task) (output other : List ℕ) →
    command_of words ≡ Some command → loaded files command ≡ All t → HasOneOutput t → Outcome words files Done output → Outcome words files Done other → output ≡ other
output-once words files command t output other row held fixed one two =
    task-once t (keeps-task files command t held) fixed output other (gives-task words files command t Done output row held one) (gives-task words files command t Done other row held two)

pub refusal-once : (words : List (List ℕ)) (files : List NamedFile) (command : Command) (t : Task) (output other : List ℕ) →
    command_of words ≡ Some command → loaded files command ≡ All t → ShowsNothingFree t → Outcome words files Negative output → Outcome words files Negative other → output ≡ other
refusal-once words files command t output other row held nothing one two =
    alike-none (MayShow t) output other nothing
    (refused-alike t (keeps-task files command t held) output other (gives-task words files command t Negative output row held one) (gives-task words files command t Negative other row held two))

pub outputs-alike : (words : List (List ℕ)) (files : List NamedFile) (command : Command) (t : Task) (status : Status) (output other : List ℕ) →
    command_of words ≡ Some command → loaded files command ≡ All t → (HasChosenText t → status ≡ Negative) → Outcome words files status output → Outcome words files status other → DifferAtMostIn (MayShow t) output other
outputs-alike words files command t status output other row held free one two =
    task-alike t (keeps-task files command t held) status free output other (gives-task words files command t status output row held one) (gives-task words files command t status other row held two)

row-bad : (files : List NamedFile) (row : Option Command) (output other : List ℕ) → CommandGives files row BadInput output → CommandGives files row BadInput other → output ≡ other
row-bad files row output other one two = grind arith

pub bad-once : (words : List (List ℕ)) (files : List NamedFile) (output other : List ℕ) → Outcome words files BadInput output → Outcome words files BadInput other → output ≡ other
bad-once words files output other one two = row-bad files (command_of words) output other one two
