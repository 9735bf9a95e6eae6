-- The exit statuses of the program.
-- Stated by: bench_outcomes, front_top. Used by: bench_top.
use Rattle.std.specs.Prelude.{ℕ}
use Rattle.bench_outcomes.specs.declared.status.Status.{Status}
use Rattle.bench_outcomes.specs.declared.status.Status.TheVariants.{Done, Negative, Usage, ReadFault, BadInput, WriteFault, Memory}

-- the exit status of the program
abbrev pub code_of : Status → ℕ
code_of Done = 0
code_of Negative = 1
code_of Usage = 2
code_of ReadFault = 3
code_of BadInput = 4
code_of WriteFault = 5
code_of Memory = 6
