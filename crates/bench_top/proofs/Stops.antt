-- What is known of the stop of a load is known of it as the reason why a run ended.
-- Each lemma goes by the cases of the answer.
use Rattle.std.proofs.Common.{ℕ, List, Bool, Option, Result, Ok, Err, IfErr, arith}
use Rattle.outside.specs.Common.{Answer}
use Rattle.outside.specs.declared.explain.FailureReason.{FailureReason}
use Rattle.bench_reports.specs.from_bench_tasks.Common.{CarriesFile, CarriesFirstSizes, Command, FailsAs, File, GathersAnswered, Held, IsReadFault, LoadsAs, ReadsAs, file_names, task_of}
use Rattle.bench_reports.specs.from_bench_tasks.declared.stop.LoadStop.{LoadStop}
use Rattle.bench_reports.specs.from_bench_tasks.declared.tasks.Task.TheVariants as code
use Rattle.bench_top.specs.Endings.{Carries, CarriesGraph, CarriesRead, IsStopOf, StopsAfter, Unread, stop_in}

pub unread : {X : Type 0} (result : Result X LoadStop) → IsReadFault result → Unread (stop_in result)
unread result fault = grind arith

pub stop-is : (steady : Bool) (result : Result code.the_data LoadStop) (held : Held) → LoadsAs task_of result held → FailsAs steady result held → IsStopOf steady (stop_in result) held
stop-is steady result held loads fails = grind arith

pub stop-reads : {S X : Type 0} (reads : S → List ℕ → Answer → S → Type 0) (names : List (List ℕ)) (result : Result X LoadStop) (first last : S) → ReadsAs reads names result first last → StopsAfter reads names (stop_in result) first last
stop-reads reads names result first last made = grind arith

pub stop-carries : {X : Type 0} (files : List File) (reason : Option FailureReason) (result : Result X LoadStop) → IfErr result (CarriesFile files reason) → Carries files reason (stop_in result)
stop-carries files reason (Ok x) carries = tt
stop-carries files reason (Err stopped) carries = carries

pub stop-carries-bytes : {S : Type 0} (reads : S → List ℕ → Answer → S → Type 0) (command : Command) (result : Result code.the_data LoadStop) (first last : S) → GathersAnswered reads command result first last →
    CarriesRead reads (file_names command) (stop_in result) first last
stop-carries-bytes reads command (Ok x) first last made = tt
stop-carries-bytes reads command (Err stopped) first last made = record { answers = made.answers; in_turn = made.in_turn; carries = made.carries }

pub stop-carries-graph : {S X : Type 0} (reads : S → List ℕ → Answer → S → Type 0) (names : List (List ℕ)) (result : Result X LoadStop) (first : S) → IfErr result (CarriesFirstSizes reads names first) → CarriesGraph reads names (stop_in result) first
stop-carries-graph reads names (Ok x) first carries = tt
stop-carries-graph reads names (Err stopped) first carries = carries
