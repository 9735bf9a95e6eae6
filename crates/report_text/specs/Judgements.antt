-- The lines that judge a tree or an ear list, as functions of the values in them.
-- Stated by: report_text. Used by: bench_outcomes, bench_reports, bench_top, theorems.
use Rattle.std.specs.Prelude.{ℕ, List, [], ◌++◌, Option, Some, None, codes, decimal}
use Rattle.report_text.specs.Reports.{numbers_text}
use Rattle.report_text.specs.Words.{tally_end}
use Rattle.move_text.specs.from_tree_core.declared.tallies.Tally.{Tally}
use Rattle.report_text.specs.declared.judgements.Shown.{Shown}
use Rattle.report_text.specs.declared.judgements.Shown.TheVariants as shown
use Rattle.report_text.specs.declared.judgements.TreeLine.{TreeLine}
use Rattle.report_text.specs.declared.judgements.TreeLine.TheVariants as tree
use Rattle.report_text.specs.declared.ear_judgements.EarLine.{EarLine}
use Rattle.report_text.specs.declared.ear_judgements.EarLine.TheVariants as ears

-- what a refusal shows: nothing, a matching, or a shore
abbrev pub shown_text : Shown → List ℕ
shown_text shown.Nothing = []
shown_text (shown.Matching edges) = codes " matching" ++ numbers_text edges
shown_text (shown.Cut shore) = codes " cut" ++ numbers_text shore

-- the line on a tree that is accepted
abbrev pub accepted_line : Tally → List ℕ
accepted_line tally = codes "accepted" ++ tally_end tally

-- words and a number
unfoldable pub numbered : List ℕ → ℕ → List ℕ
numbered words number = words ++ decimal number

-- a line that begins with words and a number and gives the refusal of a tree: the node, the reason,
-- and what shows it
abbrev pub refused_line : (words : List ℕ) (number node why : ℕ) → Shown → List ℕ
refused_line words number node why what =
    (((numbered words number ++ numbered (codes " refused node ") node) ++ numbered (codes " why ") why) ++ shown_text what) ++ codes "\n"

-- the line on a tree
unfoldable pub judgement_text : TreeLine → List ℕ
judgement_text (tree.Accepted tally) = accepted_line tally
judgement_text (tree.Refused number node why what) = refused_line (codes "tree ") number node why what

-- the edge that a refusal names, if it names one
abbrev pub edge_text : Option ℕ → List ℕ
edge_text None = []
edge_text (Some edge) = codes " edge " ++ decimal edge

-- the step at which an ear list is refused, and the reason
unfoldable pub step_refusal_text : (step why : ℕ) → List ℕ
step_refusal_text step why = codes "refused step " ++ decimal step ++ codes " why " ++ decimal why

-- the line on an ear list that is refused, with the edge that it names
abbrev pub refused_step_line : (step why : ℕ) → Option ℕ → List ℕ
refused_step_line step why edge = step_refusal_text step why ++ (edge_text edge ++ codes "\n")

-- the line on an ear list
unfoldable pub ear_judgement_text : EarLine → List ℕ
ear_judgement_text (ears.Accepted steps single double) =
    codes "accepted steps " ++ decimal steps ++ codes " single " ++ decimal single ++ codes " double " ++ decimal double ++ codes "\n"
ear_judgement_text (ears.Refused step why edge) = refused_step_line step why edge
