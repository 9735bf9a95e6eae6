-- Which commands and which tasks can refuse their input, as their conduct says.
-- Stated by: bench_reports, bench_top. Used by: bench_outcomes.
use Rattle.std.specs.Prelude.{Option, Some, None, Result, Ok, Err}
use Rattle.bench_tasks.specs.Common.{Command, task_of, Task, IsTaskOf}
use Rattle.bench_tasks.specs.declared.stop.LoadStop.{LoadStop}
use Rattle.bench_tasks.specs.declared.tasks.Task.TheVariants as code
use Rattle.bench_outcomes.specs.Conducts.{Conduct, Writes, Tells, Needs, Chooses, conduct_of}

-- a conduct with a condition, which refuses input that does not satisfy it
abbrev pub RefusesBy : Conduct → Type 0
RefusesBy Writes = ⊥
RefusesBy (Tells shown) = ⊥
RefusesBy (Needs fact shown) = Unit {0}
RefusesBy (Chooses fact shown) = Unit {0}

-- a task that can be refused
abbrev pub TaskMayRefuse : Task → Type 0
TaskMayRefuse t = RefusesBy (conduct_of t)

-- a command that can refuse its input: its task can be refused
abbrev pub MayRefuse : Option Command → Type 0
MayRefuse None = ⊥
MayRefuse (Some command) = (t : Task) × IsTaskOf command t × TaskMayRefuse t

-- the same for what was loaded, if anything was
abbrev pub GatheredMayRefuse : Result code.the_data LoadStop → Type 0
GatheredMayRefuse (Ok loaded_task) = TaskMayRefuse (task_of loaded_task)
GatheredMayRefuse (Err stop) = ⊥
