-- Runs in which the outside did not fail, and runs that read all that they read.
-- Stated by no contract. Used by: bench_top.
use Rattle.std.specs.Prelude.{ℕ, ◌⊎◌, Bool, IsTrue}
use Rattle.outside.specs.Common.{Rose}
use Rattle.bench_reports.specs.from_bench_outcomes.declared.status.Status.{Status}
use Rattle.bench_reports.specs.from_bench_outcomes.declared.status.Status.TheVariants as status

-- the sink's count of faults did not rise, and the shelf is steady or its count did not rise
pub record IsCalm (steady : Bool) (shelf_before shelf_now sink_before sink_now : ℕ) : Type 0 where
  pub sink : ¬ Rose sink_before sink_now
  pub shelf : IsTrue steady ⊎ (¬ Rose shelf_before shelf_now)

-- a run of this status has read all that it reads: it wrote its report or a part of it, or a
-- steady shelf does not hold a file
abbrev pub HasRead : (steady : Bool) → Status → Type 0
HasRead steady status.Done = Unit {0}
HasRead steady status.Negative = Unit {0}
HasRead steady status.Usage = ⊥
HasRead steady status.ReadFault = IsTrue steady
HasRead steady status.BadInput = Unit {0}
HasRead steady status.WriteFault = Unit {0}
HasRead steady status.Memory = ⊥
