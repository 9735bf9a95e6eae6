-- What one command makes of the output of another: with what was written it succeeds, and of a
-- script `replay` makes the tree to which it leads.
-- Stated by: bench_top.
use Rattle.std.specs.Prelude.{◌≡◌, List, [], ◌∷◌, ℕ, Some, codes, length}
use Rattle.outside.specs.Common.{NamedFile}
use Rattle.graph_text.specs.Common.{NamedGraph}
use Rattle.tree_core.specs.Common.{PlainMove, Shape, leaf_count}
use Rattle.move_text.specs.from_tree_text.Common.{tree_text}
use Rattle.move_text.specs.Common.{moves_text}
use Rattle.mcg6_lines.specs.from_report_text.Common.{replayed_text, script_report_text}
use Rattle.bench_reports.specs.from_bench_tasks.Common.{Command, command_of, All, loaded, trees_given, Task}
use Rattle.bench_reports.specs.from_bench_outcomes.Common.{Outcome, Succeeds}
use Rattle.bench_reports.specs.from_bench_outcomes.declared.status.Status.{Status}
use Rattle.bench_reports.specs.from_bench_outcomes.declared.status.Status.TheVariants.{Done}

-- by these files the words ask for a task that succeeds; so `run` does it, if the outside does
-- not fail and memory lasts
pub record AsksDone (words : List (List ℕ)) (files : List NamedFile) : Type 0 where
  pub command : Command
  pub row : command_of words ≡ Some command
  pub task : Task
  pub held : loaded files command ≡ All task
  pub succeeds : Succeeds task

-- the output gives a script from the first tree of the files to the second, and by the files
-- again the replay of the file of this name on the same graph and first tree is done: it gives
-- the second tree and the number of the script's moves, and nothing else
pub record ReplaysScript (files again : List NamedFile) (graph first second script output : List ℕ) : Type 0 where
  pub named : NamedGraph
  pub source : Shape
  pub target : Shape
  pub held : trees_given files graph first second ≡ All (named, (source, target))
  pub moves : List PlainMove
  pub told : output ≡ script_report_text (moves_text named.graph.order moves) (leaf_count source) (length moves)
  pub replayed : Outcome (codes "replay" ∷ graph ∷ first ∷ script ∷ []) again Done (replayed_text (tree_text named.graph.order target) (length moves))
  pub only : (status : Status) (text : List ℕ) → Outcome (codes "replay" ∷ graph ∷ first ∷ script ∷ []) again status text
      → (status ≡ Done) × (text ≡ replayed_text (tree_text named.graph.order target) (length moves))
  pub asks : AsksDone (codes "replay" ∷ graph ∷ first ∷ script ∷ []) again
