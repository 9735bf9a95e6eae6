-- The report of the commands on matching covered graphs for any other graph.
-- Stated by: bench_reports. Used by: bench_outcomes, bench_top, theorems.
use Rattle.std.specs.Prelude.{◌≡◌, ℕ, List}
use Rattle.graph_core.specs.Common.{IsCovered, IsReason, Graph, reason_of}
use Rattle.graph_core.specs.declared.verdict.Reason.{Reason}
use Rattle.graph_core.specs.declared.verdict.Verdict.TheVariants.{NotCovered}
use Rattle.report_text.specs.Common.{verdict_text}
use Rattle.bench_outcomes.specs.declared.status.Status.{Status}
use Rattle.bench_outcomes.specs.declared.status.Status.TheVariants.{Negative}

-- the graph is not covered: the output is the line of the first reason
pub record Uncovered (g : Graph) (status : Status) (output : List ℕ) : Type 0 where
  pub reason : Reason
  pub first : IsReason g (reason_of reason)
  pub uncovered : ¬ IsCovered g
  pub negative : status ≡ Negative
  pub text : output ≡ verdict_text (NotCovered reason)
