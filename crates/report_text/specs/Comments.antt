-- Reports that are a text with comments after it: lines that each reader of a text skips.
-- Stated by: report_text, bench_reports. Used by: bench_outcomes, bench_top, theorems.
use Rattle.std.specs.Prelude.{◌≡◌, ◌<◌, ◌^◌, ℕ, List, ◌++◌, length, All}
use Rattle.std.specs.List.{AllByRecursion}
use Rattle.graph_core.specs.from_line_text.Common.{IsComment, written}
use Rattle.graph_core.specs.Common.{Graph, size, IsPartition}
use Rattle.move_text.specs.from_tree_core.declared.tallies.LeafKind.{LeafKind}

-- the report is the text followed by lines that are comments
pub record IsCommented (text report : List ℕ) : Type 0 where
  pub lines : List (List (List ℕ))
  pub each : AllByRecursion IsComment lines
  pub is : report ≡ text ++ written lines

-- the numbers in the lines on the leaves have at most nine digits: the leaves are partitions of the
-- vertices of the graph, there are no more kinds than leaves, and there are not too many vertices,
-- edges and leaves
pub record HasFewLeaves (g : Graph) (ps : List (List (List ℕ))) (kinds : List LeafKind) : Type 0 where
  pub order : g.order < 10 ^ 9
  pub edges : size g < 10 ^ 9
  pub leaves : length ps < 10 ^ 9
  pub each_one : length kinds ≡ length ps
  pub partitions : All (IsPartition g.order) ps
