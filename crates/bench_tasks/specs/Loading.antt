-- What the files that a command names hold: each is looked up and read in the order of the words,
-- up to the first that is not held or is bad.
-- Stated by: bench_tasks, bench_reports, bench_top, theorems. Used by: bench_outcomes.
use Rattle.std.specs.Prelude.{ℕ, List, length, nat_lt, if◌then◌else◌, Option, Some, None, Result, Ok, Err}
use Rattle.outside.specs.Common.{NamedFile, file_named}
pub use Rattle.outside.specs.Common.{most_bytes}
use Rattle.graph_core.specs.from_line_text.Common.{reading_of, kind_number}
use Rattle.graph_core.specs.Common.{Graph, size}
use Rattle.graph_core.specs.from_line_text.declared.faults.FaultKind.{FaultKind}
use Rattle.graph_core.specs.from_line_text.declared.faults.FaultKind.TheVariants.{Limit}
use Rattle.graph_text.specs.Common.{NamedGraph, either_version}
use Rattle.graph6_text.specs.Common.{outcome_of}
use Rattle.tree_core.specs.Common.{Shape, PlainMove}
use Rattle.move_text.specs.from_tree_text.Common.{pick_format, tree_format}
use Rattle.move_text.specs.Common.{move_format}
use Rattle.ear_text.specs.from_ear_core.Common.{PlainEars}
use Rattle.ear_text.specs.EarFormat.{ear_format}
use Rattle.bench_tasks.specs.Commands.{Command, OnGraph, OnSimpleGraph, OnTree, OnPicks, OnEars, OnMoves, OnTrees, OnNumbers}
use Rattle.bench_tasks.specs.Tasks.{Task}
use Rattle.bench_tasks.specs.Tasks as task
use Rattle.bench_tasks.specs.declared.verbs.TreeVerb.{TreeVerb}
use Rattle.bench_tasks.specs.declared.verbs.PicksVerb.{PicksVerb}
use Rattle.bench_tasks.specs.declared.verbs.EarsVerb.{EarsVerb}
use Rattle.bench_tasks.specs.declared.verbs.MovesVerb.{MovesVerb}
use Rattle.bench_tasks.specs.declared.verbs.TreesVerb.{TreesVerb}

-- all is held and good; or the file at this place, counted from 1, is the first that is bad, at
-- this line by this kind; or the file at this place is not held, and all before it are held and
-- good
pub data Loaded (A : Type 0) : Type 0 where
  All : (inputs : A) → Loaded A
  Bad : (file line kind : ℕ) → Loaded A
  Absent : (file : ℕ) → Loaded A

-- what a file's text is read as
abbrev pub from_reading : {A : Type 0} → ℕ → Result A (ℕ × FaultKind) → Loaded A
from_reading place (Ok value) = All value
from_reading place (Err fault) = Bad place fault.0 (kind_number fault.1)

-- one file: not held; over the limit of bytes, which is line 0 whatever else is wrong;
-- or what its text is read as
abbrev pub file_read : {A : Type 0} → ℕ → (List ℕ → Result A (ℕ × FaultKind)) → Option (List ℕ) → Loaded A
file_read place reading None = Absent place
file_read place reading (Some bytes) = if nat_lt most_bytes (length bytes) then Bad place 0 (kind_number Limit) else from_reading place (reading bytes)

-- what is made of what files hold
abbrev pub loaded_as : {A B : Type 0} → (A → B) → Loaded A → Loaded B
loaded_as make (All value) = All (make value)
loaded_as make (Bad file line kind) = Bad file line kind
loaded_as make (Absent file) = Absent file

-- what is loaded where a further file is asked only if those before it are held and good
abbrev pub and_then : {A B : Type 0} → Loaded A → (A → Loaded B) → Loaded B
and_then (All value) next = next value
and_then (Bad file line kind) next = Bad file line kind
and_then (Absent file) next = Absent file

-- the graph of the file of that name, in either version of the graph format; or in graph6
abbrev pub graph_file : List NamedFile → List ℕ → Loaded NamedGraph
graph_file files name = file_read 1 (reading_of either_version) (file_named name files)

-- the graph of the file of that name, in graph6
abbrev pub graph6_file : List NamedFile → List ℕ → Loaded Graph
graph6_file files name = file_read 1 outcome_of (file_named name files)

-- the list of picks of the file of that name, which is the second
abbrev pub pick_file : List NamedFile → List ℕ → Loaded (List ℕ)
pick_file files name = file_read 2 (reading_of pick_format) (file_named name files)

-- the tree of the file of that name, which has this place among the named files, for a graph of
-- that order
abbrev pub tree_file : List NamedFile → (place : ℕ) → List ℕ → (order : ℕ) → Loaded Shape
tree_file files place name order = file_read place (reading_of (tree_format order)) (file_named name files)

-- the ear list of the file of that name, which is the second, for that graph
abbrev pub ear_file : List NamedFile → List ℕ → Graph → Loaded PlainEars
ear_file files name g = file_read 2 (reading_of (ear_format g.order (size g))) (file_named name files)

-- the moves of the file of that name, which is the third, on trees for a graph of that order
abbrev pub move_file : List NamedFile → List ℕ → (order : ℕ) → Loaded (List PlainMove)
move_file files name order = file_read 3 (reading_of (move_format order)) (file_named name files)

-- a graph, and a tree for it
abbrev pub tree_given : List NamedFile → (graph tree : List ℕ) → Loaded (NamedGraph × Shape)
tree_given files graph tree = and_then (graph_file files graph) (λ named. loaded_as (λ t. (named, t)) (tree_file files 2 tree named.graph.order))

-- a graph, and a list of picks
abbrev pub picks_given : List NamedFile → (graph picks : List ℕ) → Loaded (NamedGraph × List ℕ)
picks_given files graph picks = and_then (graph_file files graph) (λ named. loaded_as (λ list. (named, list)) (pick_file files picks))

-- a graph, and a list of ears for it
abbrev pub ears_given : List NamedFile → (graph ears : List ℕ) → Loaded (NamedGraph × PlainEars)
ears_given files graph ears = and_then (graph_file files graph) (λ named. loaded_as (λ list. (named, list)) (ear_file files ears named.graph))

-- a graph, a tree for it, and moves
abbrev pub moves_given : List NamedFile → (graph tree moves : List ℕ) → Loaded (NamedGraph × (Shape × List PlainMove))
moves_given files graph tree moves =
    and_then (tree_given files graph tree) (λ given. loaded_as (λ ms. (given.0, (given.1, ms))) (move_file files moves given.0.graph.order))

-- a graph, and two trees for it
abbrev pub trees_given : List NamedFile → (graph first second : List ℕ) → Loaded (NamedGraph × (Shape × Shape))
trees_given files graph first second =
    and_then (tree_given files graph first) (λ given. loaded_as (λ t. (given.0, (given.1, t))) (tree_file files 3 second given.0.graph.order))

-- the task of a verb on such
abbrev pub on_tree : TreeVerb → NamedGraph × Shape → Task
on_tree verb given = task.OnTree verb given.0 given.1

-- the task of a verb on a graph and a list of picks
abbrev pub on_picks : PicksVerb → NamedGraph × List ℕ → Task
on_picks verb given = task.OnPicks verb given.0 given.1

-- the task of a verb on a graph and a list of ears
abbrev pub on_ears : EarsVerb → NamedGraph × PlainEars → Task
on_ears verb given = task.OnEars verb given.0 given.1

-- the task of a verb on a graph, a tree and moves
abbrev pub on_moves : MovesVerb → NamedGraph × (Shape × List PlainMove) → Task
on_moves verb given = task.OnMoves verb given.0 given.1.0 given.1.1

-- the task of a verb on a graph and two trees
abbrev pub on_trees : TreesVerb → NamedGraph × (Shape × Shape) → Task
on_trees verb given = task.OnTrees verb given.0 given.1.0 given.1.1

-- what the files of a command hold
abbrev pub loaded : List NamedFile → Command → Loaded Task
loaded files (OnGraph verb graph) = loaded_as (task.OnGraph verb) (graph_file files graph)
loaded files (OnSimpleGraph verb graph) = loaded_as (task.OnSimpleGraph verb) (graph6_file files graph)
loaded files (OnTree verb graph tree) = loaded_as (on_tree verb) (tree_given files graph tree)
loaded files (OnPicks verb graph picks) = loaded_as (on_picks verb) (picks_given files graph picks)
loaded files (OnEars verb graph ears) = loaded_as (on_ears verb) (ears_given files graph ears)
loaded files (OnMoves verb graph tree moves) = loaded_as (on_moves verb) (moves_given files graph tree moves)
loaded files (OnTrees verb graph first second) = loaded_as (on_trees verb) (trees_given files graph first second)
loaded files (OnNumbers verb seed pieces) = All (task.OnNumbers verb seed pieces)
