-- Words and files decide the status: of good files by whether the task succeeds, and of a bad one
-- it is BadInput.
use Rattle.std.proofs.Common.{◌≡◌, ◌↔◌, ℕ, List, Option, Some, ◌⊎◌, inl, inr, refl, arith}
use Rattle.outside.specs.Common.{NamedFile}
use Rattle.bench_reports.specs.from_bench_tasks.Common.{Command, command_of, Loaded, All, loaded, Task}
use Rattle.bench_reports.specs.from_bench_outcomes.Common.{CommandGives, IsReported, LoadedGives, Outcome, Succeeds}
use Rattle.bench_reports.specs.from_bench_outcomes.declared.status.Status.{Status}
use Rattle.bench_reports.specs.from_bench_outcomes.declared.status.Status.TheVariants.{Done, Negative, Usage, ReadFault, BadInput, WriteFault, Memory}
use Rattle.bench_top.proofs.LoadedGraphs.{Holds, loaded-graph}
use Rattle.bench_reports.proofs.from_bench_outcomes.Settled.{KeepsGraph, Settles, settled}

settles-done : (fact : Type 0) (status : Status) → Settles fact status → (status ≡ Done) ↔ fact
settles-done fact status h = grind arith

settles-negative : (fact : Type 0) (status : Status) → Settles fact status → (status ≡ Negative) ↔ (fact → ⊥)
settles-negative fact status h = grind arith

settles-once : (fact : Type 0) (first second : Status) → Settles fact first → Settles fact second → first ≡ second
settles-once fact first second h k = grind arith

-- good files settle
outcome-settles : (words : List (List ℕ)) (files : List NamedFile) (command : Command) (task : Task) (status : Status) (output : List ℕ) →
    command_of words ≡ Some command → loaded files command ≡ All task → Outcome words files status output → Settles (Succeeds task) status
outcome-settles words files command task status output row held gives = grind (arith, settled, loaded-graph)

pub done-given : (files : List NamedFile) (command : Command) (task : Task) (status : Status) (output : List ℕ) →
    loaded files command ≡ All task → LoadedGives (loaded files command) status output → (status ≡ Done) ↔ Succeeds task
done-given files command task status output held gives = grind (arith, settles-done, settled, loaded-graph)

pub done-exactly : (words : List (List ℕ)) (files : List NamedFile) (command : Command) (task : Task) (status : Status) (output : List ℕ) →
    command_of words ≡ Some command → loaded files command ≡ All task → Outcome words files status output → (status ≡ Done) ↔ Succeeds task
done-exactly words files command task status output row held gives = settles-done (Succeeds task) status (outcome-settles words files command task status output row held gives)

pub negative-exactly : (words : List (List ℕ)) (files : List NamedFile) (command : Command) (task : Task) (status : Status) (output : List ℕ) →
    command_of words ≡ Some command → loaded files command ≡ All task → Outcome words files status output → (status ≡ Negative) ↔ (Succeeds task → ⊥)
negative-exactly words files command task status output row held gives = settles-negative (Succeeds task) status (outcome-settles words files command task status output row held gives)

-- one status
held-once : (held : Loaded Task) (first second : Status) (output other : List ℕ) → Holds KeepsGraph held → LoadedGives held first output → LoadedGives held second other → first ≡ second
held-once held first second output other keeps gives again = grind (arith, settles-once, settled)

row-once : (files : List NamedFile) (row : Option Command) (first second : Status) (output other : List ℕ) → CommandGives files row first output → CommandGives files row second other → first ≡ second
row-once files row first second output other gives again = grind (arith, held-once, loaded-graph files)

pub status-once : (words : List (List ℕ)) (files : List NamedFile) (first second : Status) (output other : List ℕ) → Outcome words files first output → Outcome words files second other → first ≡ second
status-once words files first second output other gives again = row-once files (command_of words) first second output other gives again

-- a run that ended otherwise is done, or memory ran out
pub done-or_memory : (status : Status) → (status ≡ Usage → ⊥) → (status ≡ ReadFault → ⊥) → (status ≡ WriteFault → ⊥) → (IsReported status → status ≡ Done) → (status ≡ Done) ⊎ (status ≡ Memory)
done-or_memory Done usage read write reported = inl refl
done-or_memory Negative usage read write reported = inl (reported (inr (inl refl)))
done-or_memory Usage usage read write reported = absurd (usage refl)
done-or_memory ReadFault usage read write reported = absurd (read refl)
done-or_memory BadInput usage read write reported = inl (reported (inr (inr refl)))
done-or_memory WriteFault usage read write reported = absurd (write refl)
done-or_memory Memory usage read write reported = inr refl
