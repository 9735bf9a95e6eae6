-- Each command whose files load has a report, and so each command has an outcome or names a file
-- that is missing. What a file is read as gives what the report asks of it: a graph file a graph
-- within the limits, a tree file shores that are sets, an ear file an edge to begin with.
use Rattle.tree_check.proofs.from_counting.Common.{◌≡◌, ◌⊎◌, ℕ, ◌≤◌, nat_lt, Bool, true, false, cond, List, length, Option, Some, None, Result, Ok, Err, refl, sym, ap, subst, inl, inr, Within}
use Rattle.bench_top.specs.from_outside.Common.{NamedFile, file_named, most_bytes}
use Rattle.ear_text.specs.from_ear_core.Common.{PlainEars}
use Rattle.ear_text.proofs.EarsRead.{list-read}
use Rattle.ear_text.specs.EarFormat.{ear_format}
use Rattle.graph6_text.specs.Common.{outcome_of}
use Rattle.graph_core.proofs.Common.{Graph, IsMultigraph, size}
use Rattle.graph_core.specs.from_line_text.declared.faults.FaultKind.{FaultKind}
use Rattle.graph_text.specs.Common.{NamedGraph, either_version}
use Rattle.graph_core.proofs.from_line_text.ExactlyOne.{Stands-from_reading}
use Rattle.graph_core.specs.from_line_text.Common.{reading_of}
use Rattle.report_text.specs.Common.{bad_input_text}
use Rattle.tree_check.specs.Common.{HasShores}
use Rattle.tree_core.proofs.Common.{PlainMove, Shape}
use Rattle.move_text.proofs.from_tree_text.TreeRead.{tree_read}
use Rattle.move_text.specs.from_tree_text.Common.{tree_format}
use Rattle.bench_tasks.specs.from_decomposer.Common.{NamedPicks, ScriptPicks}
use Rattle.bench_top.specs.from_bench_outcomes.Common.{CommandGives, LoadedGives, Outcome, ResultOf}
use Rattle.bench_top.specs.from_bench_outcomes.declared.status.Status.{Status}
use Rattle.bench_top.specs.from_bench_outcomes.declared.status.Status.TheVariants.{BadInput}
use Rattle.bench_tasks.specs.Common.{Command, OnGraph, OnSimpleGraph, OnTree, OnPicks, OnEars, OnMoves, OnTrees, OnNumbers, command_of, Loaded, All, Bad, Absent, and_then, ear_file, ears_given, file_read, from_reading, graph6_file, graph_file, loaded, loaded_as, move_file, moves_given, on_ears, on_moves, on_picks, on_tree, on_trees, pick_file, picks_given, tree_file, tree_given, trees_given, Task}
use Rattle.bench_tasks.specs.Tasks as task
use Rattle.bench_tasks.specs.declared.verbs.GraphVerb.{GraphVerb}
use Rattle.bench_tasks.specs.declared.verbs.GraphVerb.TheVariants.{Analyse, Convert, Decompose, Ears}
use Rattle.bench_tasks.specs.declared.verbs.SimpleGraphVerb.{SimpleGraphVerb}
use Rattle.bench_tasks.specs.declared.verbs.SimpleGraphVerb.TheVariants.{Analyse6}
use Rattle.bench_tasks.specs.declared.verbs.TreeVerb.{TreeVerb}
use Rattle.bench_tasks.specs.declared.verbs.TreeVerb.TheVariants.{Check}
use Rattle.bench_tasks.specs.declared.verbs.PicksVerb.{PicksVerb}
use Rattle.bench_tasks.specs.declared.verbs.PicksVerb.TheVariants.{DecomposeBy}
use Rattle.bench_tasks.specs.declared.verbs.EarsVerb.{EarsVerb}
use Rattle.bench_tasks.specs.declared.verbs.EarsVerb.TheVariants.{CheckEars}
use Rattle.bench_tasks.specs.declared.verbs.MovesVerb.{MovesVerb}
use Rattle.bench_tasks.specs.declared.verbs.MovesVerb.TheVariants.{Replay}
use Rattle.bench_tasks.specs.declared.verbs.TreesVerb.{TreesVerb}
use Rattle.bench_tasks.specs.declared.verbs.TreesVerb.TheVariants.{Compare, Script}
use Rattle.bench_tasks.specs.declared.verbs.NumbersVerb.{NumbersVerb}
use Rattle.bench_tasks.specs.declared.verbs.NumbersVerb.TheVariants.{Grow}
use Rattle.bench_top.proofs.ReadGraphs.{GoesOn, HasGraph, read-graph}
use Rattle.bench_top.proofs.ReadSimpleGraphs.{read-simple_graph}
use Rattle.theorems.proofs.AnalysesExist.{analysed-exists, analysed6-exists}
use Rattle.theorems.proofs.BuiltExist.{built-exists, converted-exists, decomposition-exists, grown-exists}
use Rattle.theorems.proofs.CommandOrders.{named-some, script-some}
use Rattle.theorems.proofs.MovedShores.{shores-both}
use Rattle.theorems.proofs.NamesRead.{HasNames, read-names}
use Rattle.theorems.proofs.ReplaysExist.{replay-exists, script-exists}
use Rattle.theorems.proofs.ReportsExist.{check-exists, comparison-exists, ear_check-exists}
use Rattle.theorems.specs.Outcomes.{IsFileGraph}

abbrev Reported : Task → Type 0
Reported given = (status : Status) × (output : List ℕ) × ResultOf given status output

-- what is loaded was read
pub file-text : {A : Type 0} (place : ℕ) (reading : List ℕ → Result A (ℕ × FaultKind)) (file : Option (List ℕ)) (value : A) → file_read place reading file ≡ All value → (bytes : List ℕ) × (reading bytes ≡ Ok value)
file-text {A} place reading None value e = let no : ⊥ = cc e in absurd no
file-text {A} place reading (Some bytes) value e = (bytes, at (nat_lt most_bytes (length bytes)) (reading bytes) e)
  where
    at : (b : Bool) (r : Result A (ℕ × FaultKind)) → cond b (Bad place 0 6) (from_reading place r) ≡ All value → r ≡ Ok value
    at true r e = cc e
    at false (Ok found) e = let same : found ≡ value = cc e in ap Ok same
    at false (Err fault) e = cc e

pub made-of : {A B : Type 0} (make : A → B) (held : Loaded A) (b : B) → loaded_as make held ≡ All b → (a : A) × (held ≡ All a) × (make a ≡ b)
made-of make (All a) b e = let same : make a ≡ b = cc e in (a, refl, same)
made-of make (Bad file line fault) b e = let no : ⊥ = cc e in absurd no
made-of make (Absent file) b e = let no : ⊥ = cc e in absurd no

pub then-of : {A B : Type 0} (held : Loaded A) (next : A → Loaded B) (b : B) → and_then held next ≡ All b → (a : A) × (held ≡ All a) × (next a ≡ All b)
then-of (All a) next b e = (a, refl, e)
then-of (Bad file line fault) next b e = let no : ⊥ = cc e in absurd no
then-of (Absent file) next b e = let no : ⊥ = cc e in absurd no

module _ (files : List NamedFile) where
  -- a graph
  graph-given : (name : List ℕ) (named : NamedGraph) → graph_file files name ≡ All named → IsFileGraph named
  graph-given name named e =
      let text = file-text 1 (reading_of either_version) (file_named name files) named e in
      let read = subst (GoesOn HasGraph) text.1 (read-graph text.0) in
      record {
        limits = record { vertices = read.vertices; edges = read.edges; multigraph = record { ends = read.ends; no_loop = read.no_loop } };
        names = subst (GoesOn HasNames) text.1 (read-names text.0);
      }

  graph6-given : (name : List ℕ) (g : Graph) → graph6_file files name ≡ All g → IsMultigraph g
  graph6-given name g e =
      let text = file-text 1 outcome_of (file_named name files) g e in
      subst (GoesOn IsMultigraph) text.1 (read-simple_graph text.0)

  -- a tree
  tree-shores : (place : ℕ) (name : List ℕ) (n : ℕ) (t : Shape) → n ≤ 128 → tree_file files place name n ≡ All t → HasShores n t
  tree-shores place name n t few e =
      let text = file-text place (reading_of (tree_format n)) (file_named name files) t e in
      let is = tree_read n text.0 t few (Stands-from_reading (tree_format n) text.0 t text.1) in
      shores-both n t is.fits is.rising

  -- a list of ears
  ear-start : (name : List ℕ) (g : Graph) (list : PlainEars) → ear_file files name g ≡ All list → Within (size g) list.start
  ear-start name g list e =
      let text = file-text 2 (reading_of (ear_format g.order (size g))) (file_named name files) list e in
      (list-read g.order (size g) text.0 list (Stands-from_reading (ear_format g.order (size g)) text.0 list text.1)).0.start

  -- a graph and a tree, two trees, and moves
  abbrev HoldsTree : NamedGraph × Shape → Type 0
  HoldsTree given = IsFileGraph given.0 × HasShores given.0.graph.order given.1

  one-tree : (graph tree : List ℕ) (given : NamedGraph × Shape) → tree_given files graph tree ≡ All given → HoldsTree given
  one-tree graph tree given e =
      let first = then-of (graph_file files graph) (λ named. loaded_as (λ t. (named, t)) (tree_file files 2 tree named.graph.order)) given e in
      let named = first.0 in
      let second = made-of (λ t. (named, t)) (tree_file files 2 tree named.graph.order) given first.2 in
      let is = graph-given graph named first.1 in
      subst HoldsTree second.2 (is, tree-shores 2 tree named.graph.order second.0 is.limits.vertices second.1)

  abbrev HoldsTrees : NamedGraph × (Shape × Shape) → Type 0
  HoldsTrees given = IsFileGraph given.0 × HasShores given.0.graph.order given.1.0 × HasShores given.0.graph.order given.1.1

  two-trees : (graph one two : List ℕ) (given : NamedGraph × (Shape × Shape)) → trees_given files graph one two ≡ All given → HoldsTrees given
  two-trees graph one two given e =
      let first = then-of (tree_given files graph one) (λ held. loaded_as (λ t. (held.0, (held.1, t))) (tree_file files 3 two held.0.graph.order)) given e in
      let held = first.0 in
      let second = made-of (λ t. (held.0, (held.1, t))) (tree_file files 3 two held.0.graph.order) given first.2 in
      let is = one-tree graph one held first.1 in
      subst HoldsTrees second.2 (is.0, is.1, tree-shores 3 two held.0.graph.order second.0 is.0.limits.vertices second.1)

  abbrev HoldsMoves : NamedGraph × (Shape × List PlainMove) → Type 0
  HoldsMoves given = IsFileGraph given.0 × HasShores given.0.graph.order given.1.0

  tree-moves : (graph tree moves : List ℕ) (given : NamedGraph × (Shape × List PlainMove)) → moves_given files graph tree moves ≡ All given → HoldsMoves given
  tree-moves graph tree moves given e =
      let first = then-of (tree_given files graph tree) (λ held. loaded_as (λ ms. (held.0, (held.1, ms))) (move_file files moves held.0.graph.order)) given e in
      let held = first.0 in
      let second = made-of (λ ms. (held.0, (held.1, ms))) (move_file files moves held.0.graph.order) given first.2 in
      subst HoldsMoves second.2 (one-tree graph tree held first.1)

  -- each verb, on what the files that it reads hold
  on_graph : (verb : GraphVerb) (named : NamedGraph) → IsFileGraph named → Reported (task.OnGraph verb named)
  on_graph Analyse named is = analysed-exists named is.limits.multigraph
  on_graph Convert named is = converted-exists named is
  on_graph (Decompose order) named is = decomposition-exists (NamedPicks order) named (named-some order) is
  on_graph Ears named is = built-exists named.graph is.limits.multigraph

  on_simple : (verb : SimpleGraphVerb) (g : Graph) → IsMultigraph g → Reported (task.OnSimpleGraph verb g)
  on_simple Analyse6 g is = analysed6-exists g is

  of_tree : (verb : TreeVerb) (given : NamedGraph × Shape) → HoldsTree given → Reported (on_tree verb given)
  of_tree Check given is = check-exists given.0.graph given.1 is.0.limits.multigraph is.1

  of_picks : (verb : PicksVerb) (named : NamedGraph) (picks : List ℕ) → IsFileGraph named → Reported (task.OnPicks verb named picks)
  of_picks DecomposeBy named picks is = decomposition-exists (ScriptPicks picks) named (script-some picks) is

  of_ears : (verb : EarsVerb) (named : NamedGraph) (list : PlainEars) → IsFileGraph named → Within (size named.graph) list.start → Reported (task.OnEars verb named list)
  of_ears CheckEars named list is start = ear_check-exists named.graph list is.limits.multigraph start

  of_moves : (verb : MovesVerb) (given : NamedGraph × (Shape × List PlainMove)) → HoldsMoves given → Reported (on_moves verb given)
  of_moves Replay given is = replay-exists given.0.graph given.1.0 given.1.1 is.0.limits.multigraph is.1

  of_trees : (verb : TreesVerb) (given : NamedGraph × (Shape × Shape)) → HoldsTrees given → Reported (on_trees verb given)
  of_trees Compare given is = comparison-exists given.0.graph given.1.0 given.1.1 is.0.limits.multigraph is.1 is.2
  of_trees Script given is = script-exists given.0.graph given.1.0 given.1.1 is.0.limits is.1 is.2

  of_numbers : (verb : NumbersVerb) (seed pieces : ℕ) → Reported (task.OnNumbers verb seed pieces)
  of_numbers Grow seed pieces = grown-exists seed pieces

  -- each command, by the files that it reads
  pub reported : (command : Command) (given : Task) → loaded files command ≡ All given → Reported given
  reported (OnGraph verb graph) given e =
      let l = made-of (task.OnGraph verb) (graph_file files graph) given e in
      subst Reported l.2 (on_graph verb l.0 (graph-given graph l.0 l.1))
  reported (OnSimpleGraph verb graph) given e =
      let l = made-of (task.OnSimpleGraph verb) (graph6_file files graph) given e in
      subst Reported l.2 (on_simple verb l.0 (graph6-given graph l.0 l.1))
  reported (OnTree verb graph tree) given e =
      let l = made-of (on_tree verb) (tree_given files graph tree) given e in
      subst Reported l.2 (of_tree verb l.0 (one-tree graph tree l.0 l.1))
  reported (OnPicks verb graph picks) given e =
      let l = made-of (on_picks verb) (picks_given files graph picks) given e in
      let first = then-of (graph_file files graph) (λ named. loaded_as (λ list. (named, list)) (pick_file files picks)) l.0 l.1 in
      let second = made-of (λ (list : List ℕ). (first.0, list)) (pick_file files picks) l.0 first.2 in
      subst Reported l.2 (subst (λ (h : NamedGraph × List ℕ). Reported (on_picks verb h)) second.2 (of_picks verb first.0 second.0 (graph-given graph first.0 first.1)))
  reported (OnEars verb graph ears) given e =
      let l = made-of (on_ears verb) (ears_given files graph ears) given e in
      let first = then-of (graph_file files graph) (λ named. loaded_as (λ list. (named, list)) (ear_file files ears named.graph)) l.0 l.1 in
      let second = made-of (λ (list : PlainEars). (first.0, list)) (ear_file files ears first.0.graph) l.0 first.2 in
      subst Reported l.2 (subst (λ (h : NamedGraph × PlainEars). Reported (on_ears verb h)) second.2
      (of_ears verb first.0 second.0 (graph-given graph first.0 first.1) (ear-start ears first.0.graph second.0 second.1)))
  reported (OnMoves verb graph tree moves) given e =
      let l = made-of (on_moves verb) (moves_given files graph tree moves) given e in
      subst Reported l.2 (of_moves verb l.0 (tree-moves graph tree moves l.0 l.1))
  reported (OnTrees verb graph one two) given e =
      let l = made-of (on_trees verb) (trees_given files graph one two) given e in
      subst Reported l.2 (of_trees verb l.0 (two-trees graph one two l.0 l.1))
  reported (OnNumbers verb seed pieces) given e = let same : task.OnNumbers verb seed pieces ≡ given = cc e in subst Reported same (of_numbers verb seed pieces)

-- and so an outcome
given-outcome : (held : Loaded Task) → ((given : Task) → held ≡ All given → Reported given) → ((file : ℕ) × (held ≡ Absent file)) ⊎ ((status : Status) × (output : List ℕ) × LoadedGives held status output)
given-outcome (All given) tells = inr (tells given refl)
given-outcome (Bad file line fault) tells = inr (BadInput, bad_input_text file line fault, (refl, refl))
given-outcome (Absent file) tells = inl (file, refl)

pub outcome-exists : (words : List (List ℕ)) (files : List NamedFile) (command : Command) → command_of words ≡ Some command →
    ((file : ℕ) × (loaded files command ≡ Absent file)) ⊎ ((status : Status) × (output : List ℕ) × Outcome words files status output)
outcome-exists words files command e = elim (given-outcome (loaded files command) (reported files command)) [
  | inl missing ↦ inl missing
  | inr told ↦ inr (told.0, told.1, subst (λ (o : Option Command). CommandGives files o told.0 told.1) (sym e) told.2)
]
