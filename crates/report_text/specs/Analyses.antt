-- The report of `analyse` as a function of the values in it.
-- Stated by: report_text. Used by: bench_outcomes, bench_top, theorems.
use Rattle.std.specs.Prelude.{List, ℕ, ◌++◌, codes, Option, Some, None}
use Rattle.report_text.specs.Reports.{size_line, components_line, bipartite_line, matching_line, deficiency_line, list_line, verdict_text}
use Rattle.report_text.specs.Structures.{structure_text}
use Rattle.report_text.specs.declared.analyses.AnalysisLines.{AnalysisLines}
use Rattle.report_text.specs.declared.structures.Structure.{Structure}

-- the lines on the graph and its sides
abbrev pub graph_lines : AnalysisLines → List ℕ
graph_lines lines = (size_line lines.order lines.size ++ components_line lines.components) ++ bipartite_line lines.bipartite

-- the lines on the graph, and on the numbers of its maximum matchings
abbrev pub numbers_told : AnalysisLines → List ℕ
numbers_told lines = (graph_lines lines ++ matching_line lines.matching) ++ deficiency_line lines.deficiency

-- the lines of the Gallai-Edmonds sets after others
abbrev pub with_three_sets : List ℕ → AnalysisLines → List ℕ
with_three_sets before lines = ((before ++ list_line (codes "D") lines.d) ++ list_line (codes "A") lines.a) ++ list_line (codes "C") lines.c

-- the lines of the allowed edges and of the verdict after others
abbrev pub with_verdict : List ℕ → AnalysisLines → List ℕ
with_verdict before lines = (before ++ list_line (codes "allowed") lines.allowed) ++ verdict_text lines.verdict

-- the lines on the structure after others, if there is one
abbrev pub with_structure : List ℕ → Option Structure → List ℕ
with_structure before None = before
with_structure before (Some structure) = before ++ structure_text structure

-- the lines from that of the graph to that of the verdict
unfoldable pub verdict_lines : AnalysisLines → List ℕ
verdict_lines lines = with_verdict (with_three_sets (numbers_told lines) lines) lines

-- the report of `analyse`
unfoldable pub analysis_text : AnalysisLines → List ℕ
analysis_text lines = with_structure (verdict_lines lines) lines.structure
