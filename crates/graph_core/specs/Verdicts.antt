-- The verdict on a graph, as the code returns it.
-- Stated by: allowed_edges, graph_facts, decomposer, bench_reports, example_order.
-- Used by: tree_check, mcg6_lines, bench_outcomes, bench_top, theorems.
use Rattle.graph_core.specs.Covered
use Rattle.graph_core.specs.Graph.{Graph}
use Rattle.graph_core.specs.declared.verdict.Reason.{Reason}
use Rattle.graph_core.specs.declared.verdict.Reason.TheVariants.{Small, Parted, Unmatched, Unallowed}
use Rattle.graph_core.specs.declared.verdict.Verdict.{Verdict}
use Rattle.graph_core.specs.declared.verdict.Verdict.TheVariants.{Covered as IsSaid, NotCovered}

-- the reason that the code's value represents
abbrev pub reason_of : Reason → Covered.Reason
reason_of Small = Covered.Small
reason_of (Parted a b) = Covered.Parted a b
reason_of (Unmatched berge) = Covered.Unmatched berge
reason_of (Unallowed edge) = Covered.Unallowed edge

-- the verdict is right
abbrev pub IsVerdict : Graph → Verdict → Type 0
IsVerdict g IsSaid = Covered.IsCovered g
IsVerdict g (NotCovered reason) = Covered.IsReason g (reason_of reason)
