-- What loading a file, or the files of a command, answers.
-- Stated by: bench_tasks, bench_reports, bench_top. Used by: bench_outcomes.
use Rattle.std.specs.Prelude.{◌≡◌, ◌≤◌, List, ℕ, Bool, Option, Some, Result, Ok, Err}
use Rattle.outside.specs.Common.{Rose, NamedFile}
use Rattle.graph_core.specs.from_line_text.Common.{kind_number}
use Rattle.graph_core.specs.Common.{Graph}
use Rattle.graph_text.specs.Common.{NamedGraph, named_graph}
use Rattle.tree_core.specs.Common.{shape_of, moves_of, PlainMove, Shape}
use Rattle.ear_text.specs.from_ear_core.Common.{PlainEars, ears_of}
use Rattle.bench_tasks.specs.Loading.{Loaded, All, Bad, on_tree, on_picks, on_ears, on_moves, on_trees}
use Rattle.bench_tasks.specs.Reads.{FailsAs, IsReadFault}
use Rattle.bench_tasks.specs.Tasks.{Task}
use Rattle.bench_tasks.specs.Tasks as task
use Rattle.bench_tasks.specs.declared.stop.LoadStop.{LoadStop}
use Rattle.bench_tasks.specs.declared.stop.LoadStop.TheVariants as stop
use Rattle.bench_tasks.specs.declared.tasks.SimpleGraph.{SimpleGraph}
use Rattle.bench_tasks.specs.declared.tasks.GivenTree.{GivenTree}
use Rattle.bench_tasks.specs.declared.tasks.GivenPicks.{GivenPicks}
use Rattle.bench_tasks.specs.declared.tasks.GivenEars.{GivenEars}
use Rattle.bench_tasks.specs.declared.tasks.GivenTrees.{GivenTrees}
use Rattle.bench_tasks.specs.declared.tasks.GivenMoves.{GivenMoves}
use Rattle.bench_tasks.specs.declared.tasks.Task.TheVariants as code

-- what the files of a command hold
abbrev pub Held : Type 0
Held = Loaded Task

-- the graph of a value that is kept simple
abbrev pub simple_graph_in : SimpleGraph → Graph
simple_graph_in simple = simple.graph

-- a graph with what is given beside it, as they are seen
abbrev pub given_tree : GivenTree → NamedGraph × Shape
given_tree given = (named_graph given.named, shape_of given.tree)

-- a graph with a list of picks, as they are seen
abbrev pub given_picks : GivenPicks → NamedGraph × List ℕ
given_picks given = (named_graph given.named, given.picks)

-- a graph with a list of ears, as they are seen
abbrev pub given_ears : GivenEars → NamedGraph × PlainEars
given_ears given = (named_graph given.named, ears_of given.list)

-- a graph with a tree and moves, as they are seen
abbrev pub given_moves : GivenMoves → NamedGraph × (Shape × List PlainMove)
given_moves given = (named_graph given.named, (shape_of given.tree, moves_of given.moves))

-- a graph with two trees, as they are seen
abbrev pub given_trees : GivenTrees → NamedGraph × (Shape × Shape)
given_trees given = (named_graph given.named, (shape_of given.first, shape_of given.second))

-- the task as it is seen
abbrev pub task_of : code.the_data → Task
task_of (code.OnGraph verb named) = task.OnGraph verb (named_graph named)
task_of (code.OnSimpleGraph verb simple) = task.OnSimpleGraph verb (simple_graph_in simple)
task_of (code.OnTree verb given) = on_tree verb (given_tree given)
task_of (code.OnPicks verb given) = on_picks verb (given_picks given)
task_of (code.OnEars verb given) = on_ears verb (given_ears given)
task_of (code.OnMoves verb given) = on_moves verb (given_moves given)
task_of (code.OnTrees verb given) = on_trees verb (given_trees given)
task_of (code.OnNumbers verb growth) = task.OnNumbers verb growth.seed growth.pieces

-- a stop names the first bad file; nothing is said of a failed read or of lack of memory
abbrev pub StopsAs : {A : Type 0} → LoadStop → Loaded A → Type 0
StopsAs (stop.Bad file line kind found) loaded = loaded ≡ Bad file line (kind_number kind)
StopsAs (stop.ReadFault file unread) loaded = Unit {0}
StopsAs stop.Memory loaded = Unit {0}

-- what was loaded, seen by view, is what the files hold
abbrev pub LoadsAs : {X A : Type 0} → (X → A) → Result X LoadStop → Loaded A → Type 0
LoadsAs view (Ok x) loaded = loaded ≡ All (view x)
LoadsAs view (Err stopped) loaded = StopsAs stopped loaded

-- what a call that loads makes of a shelf, and what it answers: the files and whether the shelf
-- is steady stay as they were, the count of faults does not fall, and rose if a read failed;
-- and if the files are known, the answer is what they hold, and over a steady shelf a
-- read fails only at a file that is not held
pub record Loads {S X A : Type 0} (told : S → Option (List NamedFile)) (steady : S → Bool) (faults : S → ℕ) (view : X → A) (held : List NamedFile → Loaded A) (result : Result X LoadStop) (before now : S) : Type 0 where
  pub files : told now ≡ told before
  pub as_steady : steady now ≡ steady before
  pub later : faults before ≤ faults now
  pub failed : IsReadFault result → Rose (faults before) (faults now)
  pub loads : (files : List NamedFile) → told before ≡ Some files → LoadsAs view result (held files)
  pub absent : (files : List NamedFile) → told before ≡ Some files → FailsAs (steady before) result (held files)
