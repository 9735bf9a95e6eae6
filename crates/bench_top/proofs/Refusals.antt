-- A command may refuse if what was gathered of it may: that is a task of the command.
-- Idea: the task that was gathered is the one that is asked for; a stop can refuse nothing.
use Rattle.std.proofs.Common.{Result, IfOk, Some, arith}
use Rattle.bench_reports.specs.from_bench_tasks.Common.{Command, task_of, IsTaskOf}
use Rattle.bench_reports.specs.from_bench_tasks.declared.stop.LoadStop.{LoadStop}
use Rattle.bench_reports.specs.from_bench_tasks.declared.tasks.Task.TheVariants as code
use Rattle.bench_reports.specs.from_bench_outcomes.Common.{GatheredMayRefuse, MayRefuse}

pub may-refuse : (command : Command) (gathered : Result code.the_data LoadStop) → IfOk gathered (λ t. IsTaskOf command (task_of t)) → GatheredMayRefuse gathered → MayRefuse (Some command)
may-refuse command gathered is may = grind arith
