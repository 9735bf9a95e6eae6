-- The status and the output that belong to the arguments and the files. If a named file is missing,
-- no case applies.
-- Stated by: bench_reports, bench_top, theorems. Used by: bench_outcomes, front_top.
use Rattle.std.specs.Prelude.{◌≡◌, ℕ, ◌<◌, ◌⊎◌, List, length, take, Bool, true, false, Option, Some, None}
use Rattle.outside.specs.Common.{NamedFile, appended}
use Rattle.graph_core.specs.Common.{Graph}
use Rattle.graph_core.specs.from_line_text.Common.{Stands}
use Rattle.bench_tasks.specs.from_graph_text.Common.{NamedGraph, either_version, plain_names, named_text}
use Rattle.bench_tasks.specs.from_graph6_text.Common.{graph6_of}
use Rattle.tree_check.specs.from_tight_cuts.Common.{Candidate}
use Rattle.tree_core.specs.Common.{IsDerivation, leaves, Shape, AreLeafKinds}
use Rattle.bench_tasks.specs.from_tree_text.Common.{tree_format, tree_text}
use Rattle.bench_tasks.specs.from_decomposer.Common.{NamedPicks, ScriptPicks, IsPicked}
use Rattle.report_text.specs.Common.{analysis_text, derivation_text, bad_input_text, with_names_text, graph6_line}
use Rattle.report_text.specs.declared.analyses.AnalysisLines.{AnalysisLines}
use Rattle.tree_core.specs.declared.tallies.LeafKind.{LeafKind}
use Rattle.bench_tasks.specs.Common.{Command, command_of, Task, Loaded, All, Bad, Absent, loaded}
use Rattle.bench_outcomes.specs.Uncovered.{Uncovered}
use Rattle.bench_outcomes.specs.Checks.{CheckGives}
use Rattle.bench_outcomes.specs.EarChecks.{EarCheckGives, EarsGives}
use Rattle.bench_outcomes.specs.Replays.{ReplayGives}
use Rattle.bench_outcomes.specs.Comparisons.{CompareGives, ScriptGives}
use Rattle.bench_outcomes.specs.Growths.{Grown}
use Rattle.bench_tasks.specs.Tasks as task
use Rattle.bench_tasks.specs.declared.verbs.GraphVerb.TheVariants.{Analyse, Convert, Decompose, Ears}
use Rattle.bench_tasks.specs.declared.verbs.SimpleGraphVerb.TheVariants.{Analyse6}
use Rattle.bench_tasks.specs.declared.verbs.TreeVerb.TheVariants.{Check}
use Rattle.bench_tasks.specs.declared.verbs.PicksVerb.TheVariants.{DecomposeBy}
use Rattle.bench_tasks.specs.declared.verbs.EarsVerb.TheVariants.{CheckEars}
use Rattle.bench_tasks.specs.declared.verbs.MovesVerb.TheVariants.{Replay}
use Rattle.bench_tasks.specs.declared.verbs.TreesVerb.TheVariants.{Compare, Script}
use Rattle.bench_tasks.specs.declared.verbs.NumbersVerb.TheVariants.{Grow}
use Rattle.bench_outcomes.specs.Facts.{IsAnalysis}
use Rattle.bench_outcomes.specs.declared.status.Status.{Status}
use Rattle.bench_outcomes.specs.declared.status.Status.TheVariants.{Done, Negative, BadInput}

-- a report, and then the names of the vertices if the graph has names; each may be a comment
abbrev pub with_given_names : List ℕ → Option (List (List ℕ)) → (comments : Bool) → List ℕ
with_given_names report None comments = report
with_given_names report (Some names) comments = with_names_text report names comments

-- the names of the vertices of a graph of that order, or the default ones if it has none
abbrev pub given_or_plain : ℕ → Option (List (List ℕ)) → List (List ℕ)
given_or_plain order None = plain_names order
given_or_plain order (Some names) = names

-- the structure of a graph: the output is the text of correct lines, and then the names
pub record Analysed (named : NamedGraph) (status : Status) (output : List ℕ) : Type 0 where
  pub lines : AnalysisLines
  pub right : IsAnalysis named.graph lines
  pub done : status ≡ Done
  pub text : output ≡ with_given_names (analysis_text lines) named.names false

-- the canonical text of a graph with its names or the default ones; it stands for the graph with
-- these names
pub record Converted (named : NamedGraph) (status : Status) (output : List ℕ) : Type 0 where
  pub done : status ≡ Done
  pub text : output ≡ named_text named.graph (given_or_plain named.graph.order named.names)
  pub stands : Stands either_version output (record { graph = named.graph; names = Some (given_or_plain named.graph.order named.names) })

-- the structure of a simple graph, and then its graph6 text
pub record Analysed6 (g : Graph) (status : Status) (output : List ℕ) : Type 0 where
  pub lines : AnalysisLines
  pub right : IsAnalysis g lines
  pub done : status ≡ Done
  pub text : output ≡ graph6_line (analysis_text lines) (graph6_of g)

-- the tree is a derivation of the graph, and the output is its text, and then as comments its
-- leaves, each with its right kind, and the names of the vertices if the graph has names; as a
-- text of a derivation it stands for the tree
pub record TellsDerivation (named : NamedGraph) (tree : Shape) (status : Status) (output : List ℕ) : Type 0 where
  pub derivation : IsDerivation named.graph tree
  pub kinds : List LeafKind
  pub right : AreLeafKinds named.graph (leaves named.graph.order tree) kinds
  pub done : status ≡ Done
  pub text : output ≡ with_given_names (derivation_text (tree_text named.graph.order tree) named.graph (leaves named.graph.order tree) kinds) named.names true
  pub stands : Stands (tree_format named.graph.order) output tree

-- the decomposition of a covered graph by tight cuts: the tree is a derivation of it, the one that
-- the order picks
pub record Decomposed (picks : List Candidate → ℕ → ℕ → Type 0) (named : NamedGraph) (status : Status) (output : List ℕ) : Type 0 where
  pub tree : Shape
  pub picked : IsPicked picks named.graph tree
  pub told : TellsDerivation named tree status output

-- the result of `decompose` with an order that picks so: for a covered graph a derivation, and for
-- any other the reason
abbrev pub DecomposeGives : (List Candidate → ℕ → ℕ → Type 0) → NamedGraph → Status → List ℕ → Type 0
DecomposeGives picks named status output = Decomposed picks named status output ⊎ Uncovered named.graph status output

-- the result of a command for its data: one case for each row of the table of commands
abbrev pub ResultOf : Task → Status → List ℕ → Type 0
ResultOf (task.OnGraph Analyse named) status output = Analysed named status output
ResultOf (task.OnGraph Convert named) status output = Converted named status output
ResultOf (task.OnSimpleGraph Analyse6 g) status output = Analysed6 g status output
ResultOf (task.OnGraph (Decompose order) named) status output = DecomposeGives (NamedPicks order) named status output
ResultOf (task.OnPicks DecomposeBy named picks) status output = DecomposeGives (ScriptPicks picks) named status output
ResultOf (task.OnTree Check named tree) status output = CheckGives named.graph tree status output
ResultOf (task.OnEars CheckEars named list) status output = EarCheckGives named.graph list status output
ResultOf (task.OnGraph Ears named) status output = EarsGives named.graph status output
ResultOf (task.OnMoves Replay named tree moves) status output = ReplayGives named.graph tree moves status output
ResultOf (task.OnTrees Compare named first second) status output = CompareGives named.graph first second status output
ResultOf (task.OnTrees Script named first second) status output = ScriptGives named.graph first second status output
ResultOf (task.OnNumbers Grow seed pieces) status output = Grown seed pieces status output

-- the result of a command for the contents of its files
abbrev pub LoadedGives : Loaded Task → Status → List ℕ → Type 0
LoadedGives (All given) status output = ResultOf given status output
LoadedGives (Bad file line kind) status output = (status ≡ BadInput) × (output ≡ bad_input_text file line kind)
LoadedGives (Absent file) status output = ⊥

-- the same for the arguments, which may match no row
abbrev pub CommandGives : List NamedFile → Option Command → Status → List ℕ → Type 0
CommandGives files None status output = ⊥
CommandGives files (Some command) status output = LoadedGives (loaded files command) status output

-- this status and this output belong to the arguments and the files
abbrev pub Outcome : List (List ℕ) → List NamedFile → Status → List ℕ → Type 0
Outcome words files status output = CommandGives files (command_of words) status output

-- the output of some outcome with this status was appended to what the sink had
pub record Appended (gives : Status → List ℕ → Type 0) (status : Status) (before now : Option (List ℕ)) : Type 0 where
  pub output : List ℕ
  pub outcome : gives status output
  pub written : now ≡ appended before output

-- a proper prefix of the output of some outcome was appended to what the sink had
pub record CutShort (gives : Status → List ℕ → Type 0) (before now : Option (List ℕ)) : Type 0 where
  pub status : Status
  pub output : List ℕ
  pub count : ℕ
  pub outcome : gives status output
  pub less : count < length output
  pub written : now ≡ appended before (take count output)

-- a run that wrote its report: success, a refusal, or a bad file
abbrev pub IsReported : Status → Type 0
IsReported status = (status ≡ Done) ⊎ ((status ≡ Negative) ⊎ (status ≡ BadInput))

-- a run that wrote its report on good files: success or a refusal
abbrev pub IsSettled : Status → Type 0
IsSettled status = (status ≡ Done) ⊎ (status ≡ Negative)
