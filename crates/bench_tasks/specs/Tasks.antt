-- What a command works on: its verb with what its files hold in place of their names.
-- Stated by: bench_tasks, bench_reports, bench_top, theorems. Used by: bench_outcomes.
use Rattle.std.specs.Prelude.{◌≡◌, ℕ, List}
use Rattle.graph_core.specs.Common.{Graph}
use Rattle.graph_text.specs.Common.{NamedGraph}
use Rattle.tree_core.specs.Common.{Shape, PlainMove}
use Rattle.ear_text.specs.from_ear_core.Common.{PlainEars}
use Rattle.bench_tasks.specs.Commands.{Command}
use Rattle.bench_tasks.specs.Commands as command
use Rattle.bench_tasks.specs.declared.verbs.GraphVerb.{GraphVerb}
use Rattle.bench_tasks.specs.declared.verbs.SimpleGraphVerb.{SimpleGraphVerb}
use Rattle.bench_tasks.specs.declared.verbs.TreeVerb.{TreeVerb}
use Rattle.bench_tasks.specs.declared.verbs.PicksVerb.{PicksVerb}
use Rattle.bench_tasks.specs.declared.verbs.EarsVerb.{EarsVerb}
use Rattle.bench_tasks.specs.declared.verbs.MovesVerb.{MovesVerb}
use Rattle.bench_tasks.specs.declared.verbs.TreesVerb.{TreesVerb}
use Rattle.bench_tasks.specs.declared.verbs.NumbersVerb.{NumbersVerb}

-- a verb of one of the eight sorts, with what it works on
pub data Task : Type 0 where
  OnGraph : (verb : GraphVerb) (named : NamedGraph) → Task
  OnSimpleGraph : (verb : SimpleGraphVerb) (graph : Graph) → Task
  OnTree : (verb : TreeVerb) (named : NamedGraph) (tree : Shape) → Task
  OnPicks : (verb : PicksVerb) (named : NamedGraph) (picks : List ℕ) → Task
  OnEars : (verb : EarsVerb) (named : NamedGraph) (list : PlainEars) → Task
  OnMoves : (verb : MovesVerb) (named : NamedGraph) (tree : Shape) (moves : List PlainMove) → Task
  OnTrees : (verb : TreesVerb) (named : NamedGraph) (first second : Shape) → Task
  OnNumbers : (verb : NumbersVerb) (seed pieces : ℕ) → Task

-- the task is one of the command: it has its verb, and works on what such files may hold
abbrev pub IsTaskOf : Command → Task → Type 0
IsTaskOf (command.OnGraph verb graph) (OnGraph other named) = other ≡ verb
IsTaskOf (command.OnSimpleGraph verb graph) (OnSimpleGraph other g) = other ≡ verb
IsTaskOf (command.OnTree verb graph tree) (OnTree other named t) = other ≡ verb
IsTaskOf (command.OnPicks verb graph picks) (OnPicks other named list) = other ≡ verb
IsTaskOf (command.OnEars verb graph ears) (OnEars other named list) = other ≡ verb
IsTaskOf (command.OnMoves verb graph tree moves) (OnMoves other named t list) = other ≡ verb
IsTaskOf (command.OnTrees verb graph first second) (OnTrees other named s t) = other ≡ verb
IsTaskOf (command.OnNumbers verb seed pieces) (OnNumbers other start many) = (other ≡ verb) × ((start ≡ seed) × (many ≡ pieces))
IsTaskOf command task = ⊥
