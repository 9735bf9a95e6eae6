-- When a task succeeds and is not refused: the graph is matching covered, the trees are derivations
-- of it, the list is an ear list of it, the moves lead through derivations; or always.
-- Stated by: bench_top. Used by: bench_outcomes, theorems.
use Rattle.bench_outcomes.specs.Conducts.{Conduct, Writes, Tells, Needs, Chooses, conduct_of}
use Rattle.bench_tasks.specs.Common.{Task}

-- the condition of a conduct
abbrev pub NeedOf : Conduct → Type 0
NeedOf Writes = Unit {0}
NeedOf (Tells shown) = Unit {0}
NeedOf (Needs fact shown) = fact
NeedOf (Chooses fact shown) = fact

-- the task succeeds
abbrev pub Succeeds : Task → Type 0
Succeeds t = NeedOf (conduct_of t)
