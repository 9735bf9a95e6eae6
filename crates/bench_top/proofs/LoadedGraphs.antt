-- What the files of a command hold keeps a graph: the graph that a file is read as is one. Each
-- case of loading passes this on.
use Rattle.std.proofs.Common.{ℕ, List, Option, Some, None, Result, arith}
use Rattle.outside.specs.Common.{NamedFile, file_named}
use Rattle.graph_core.specs.from_line_text.Common.{reading_of}
use Rattle.graph6_text.specs.Common.{outcome_of}
use Rattle.ear_text.specs.from_ear_core.Common.{PlainEars}
use Rattle.graph_core.proofs.Common.{Graph, IsMultigraph}
use Rattle.graph_core.specs.from_line_text.declared.faults.FaultKind.{FaultKind}
use Rattle.graph_text.specs.Common.{NamedGraph, either_version}
use Rattle.tree_core.proofs.Common.{PlainMove, Shape}
use Rattle.bench_reports.specs.from_bench_tasks.Common.{Command, OnGraph, OnSimpleGraph, OnTree, OnPicks, OnEars, OnMoves, OnTrees, OnNumbers, Loaded, All, Bad, Absent, and_then, ear_file, ears_given, file_read, graph6_file, graph_file, loaded, loaded_as, move_file, moves_given, on_ears, on_moves, on_picks, on_tree, on_trees, pick_file, picks_given, tree_file, tree_given, trees_given}
use Rattle.bench_reports.specs.from_bench_tasks.Tasks as task
use Rattle.bench_top.proofs.ReadGraphs.{GoesOn, HasGraph, IsRead, read-graph}
use Rattle.bench_top.proofs.ReadSimpleGraphs.{read-simple_graph}
use Rattle.bench_reports.proofs.from_bench_outcomes.Settled.{KeepsGraph}

-- the fact holds of what is held, if all is held and good
abbrev pub Holds : {A : Type 0} → (A → Type 0) → Loaded A → Type 0
Holds P (All value) = P value
Holds P (Bad file line kind) = Unit {0}
Holds P (Absent file) = Unit {0}

abbrev Anything : {A : Type 0} → A → Type 0
Anything value = Unit {0}

any-holds : {A : Type 0} (held : Loaded A) → Holds Anything held
any-holds held = grind arith

as-holds : {A B : Type 0} (P : A → Type 0) (Q : B → Type 0) (make : A → B) (held : Loaded A) → ((a : A) → P a → Q (make a)) → Holds P held → Holds Q (loaded_as make held)
as-holds P Q make held give is = grind arith

then-holds : {A B : Type 0} (P : A → Type 0) (Q : B → Type 0) (held : Loaded A) (next : A → Loaded B) → Holds P held → ((a : A) → P a → Holds Q (next a)) → Holds Q (and_then held next)
then-holds P Q held next is give = grind arith

read-holds : {A : Type 0} (P : A → Type 0) (place : ℕ) (reading : List ℕ → Result A (ℕ × FaultKind)) (file : Option (List ℕ)) → ((bytes : List ℕ) → GoesOn P (reading bytes)) → Holds P (file_read place reading file)
read-holds {A} P place reading None goes = tt
read-holds {A} P place reading (Some bytes) goes = grind arith

-- the graph of a file
pub graph-holds : (files : List NamedFile) (name : List ℕ) → Holds HasGraph (graph_file files name)
graph-holds files name = read-holds HasGraph 1 (reading_of either_version) (file_named name files) read-graph

-- the same of a graph6 text
graph6-holds : (files : List NamedFile) (name : List ℕ) → Holds IsMultigraph (graph6_file files name)
graph6-holds files name = read-holds IsMultigraph 1 outcome_of (file_named name files) read-simple_graph

-- what is given beside a graph leaves it as it is
beside-holds : {B C : Type 0} (files : List NamedFile) (graph : List ℕ) (further : NamedGraph → Loaded B) (make : NamedGraph → B → C) (HasIts : C → Type 0) →
    ((named : NamedGraph) (b : B) → HasGraph named → HasIts (make named b)) → Holds HasIts (and_then (graph_file files graph) (λ named. loaded_as (make named) (further named)))
beside-holds files graph further make HasIts gives = grind (arith, then-holds, graph-holds, as-holds, any-holds)

abbrev TreeHasGraph : NamedGraph × Shape → Type 0
TreeHasGraph given = IsRead given.0.graph

tree_given-holds : (files : List NamedFile) (graph tree : List ℕ) → Holds TreeHasGraph (tree_given files graph tree)
tree_given-holds files graph tree =
    beside-holds files graph (λ named. tree_file files 2 tree named.graph.order) (λ named t. (named, t)) TreeHasGraph (λ named t is. is)

-- the same of what is given beside a graph and a tree
beside_tree-holds : {B C : Type 0} (files : List NamedFile) (graph tree : List ℕ) (further : NamedGraph × Shape → Loaded B) (make : NamedGraph × Shape → B → C) (HasIts : C → Type 0) →
    ((given : NamedGraph × Shape) (b : B) → TreeHasGraph given → HasIts (make given b)) → Holds HasIts (and_then (tree_given files graph tree) (λ given. loaded_as (make given) (further given)))
beside_tree-holds files graph tree further make HasIts gives = grind (arith, then-holds, tree_given-holds, as-holds, any-holds)

-- a graph that is read has no loops
read-keeps : (g : Graph) → IsRead g → IsMultigraph g
read-keeps g is = record { ends = is.ends; no_loop = is.no_loop }

-- what a command works on, by the files that it reads
pub loaded-graph : (files : List NamedFile) (command : Command) → Holds KeepsGraph (loaded files command)
loaded-graph files (OnGraph verb graph) = grind (arith, as-holds HasGraph KeepsGraph (task.OnGraph verb) (graph_file files graph), read-keeps, graph-holds files graph)
loaded-graph files (OnSimpleGraph verb graph) = as-holds IsMultigraph KeepsGraph (task.OnSimpleGraph verb) (graph6_file files graph) (λ g is. is) (graph6-holds files graph)
loaded-graph files (OnTree verb graph tree) = grind (arith, as-holds TreeHasGraph KeepsGraph (on_tree verb) (tree_given files graph tree), read-keeps, tree_given-holds files graph tree)
loaded-graph files (OnPicks verb graph picks) =
    as-holds (λ (given : NamedGraph × List ℕ). IsRead given.0.graph) KeepsGraph (on_picks verb) (picks_given files graph picks) (λ given is. read-keeps given.0.graph is)
    (beside-holds files graph (λ named. pick_file files picks) (λ named list. (named, list)) (λ given. IsRead given.0.graph) (λ named list is. is))
loaded-graph files (OnEars verb graph ears) =
    as-holds (λ (given : NamedGraph × PlainEars). IsRead given.0.graph) KeepsGraph (on_ears verb) (ears_given files graph ears) (λ given is. read-keeps given.0.graph is)
    (beside-holds files graph (λ named. ear_file files ears named.graph) (λ named list. (named, list)) (λ given. IsRead given.0.graph) (λ named list is. is))
loaded-graph files (OnMoves verb graph tree moves) =
    as-holds (λ (given : NamedGraph × (Shape × List PlainMove)). IsRead given.0.graph) KeepsGraph (on_moves verb) (moves_given files graph tree moves) (λ given is. read-keeps given.0.graph is)
    (beside_tree-holds files graph tree (λ given. move_file files moves given.0.graph.order) (λ given ms. (given.0, (given.1, ms))) (λ given. IsRead given.0.graph) (λ given ms is. is))
loaded-graph files (OnTrees verb graph first second) =
    as-holds (λ (given : NamedGraph × (Shape × Shape)). IsRead given.0.graph) KeepsGraph (on_trees verb) (trees_given files graph first second) (λ given is. read-keeps given.0.graph is)
    (beside_tree-holds files graph first (λ given. tree_file files 3 second given.0.graph.order) (λ given t. (given.0, (given.1, t))) (λ given. IsRead given.0.graph) (λ given t is. is))
loaded-graph files (OnNumbers verb seed pieces) = tt
