-- What a task gives is a report: it is done or refused; and it is refused only if it may be. Each
-- is read off how the task is settled.
use Rattle.std.proofs.Common.{◌≡◌, Result, IfOk, arith}
use Rattle.bench_outcomes.specs.from_bench_tasks.Common.{Task}
use Rattle.bench_outcomes.specs.Common.{IsReported, ResultOf, TaskMayRefuse}
use Rattle.bench_outcomes.specs.declared.report.Report.{Report}
use Rattle.bench_outcomes.specs.declared.status.Status.{Status}
use Rattle.bench_outcomes.specs.declared.status.Status.TheVariants.{Negative, BadInput}
use Rattle.bench_outcomes.proofs.Settled.{IsSettledTask}

-- done or refused is reported
reported : (t : Task) (status : Status) → IsSettledTask t status → IsReported status
reported t status h = grind arith

-- a report, if there is one
pub all-reported : {E : Type 0} (t : Task) (result : Result Report E) → IfOk result (λ report. ResultOf t report.status report.bytes.items) → IfOk result (λ report. IsReported report.status)
all-reported t result gives = grind arith

pub all-may : {E : Type 0} (t : Task) (result : Result Report E) → IfOk result (λ report. ResultOf t report.status report.bytes.items) →
    IfOk result (λ report. report.status ≡ Negative → TaskMayRefuse t)
all-may t result gives = grind arith

pub all-good : {E : Type 0} (t : Task) (result : Result Report E) → IfOk result (λ report. ResultOf t report.status report.bytes.items) → IfOk result (λ report. report.status ≡ BadInput → ⊥)
all-good t result gives = grind arith
