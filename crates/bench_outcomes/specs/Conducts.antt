-- How each task behaves, stated once: whether it can be refused and when it succeeds, whether its
-- text is determined, and which lists of numbers its report may show. When a task succeeds
-- (`Success`) and what is not determined in a report (`Fixed` of `bench_top`) follow from this.
-- Stated by no contract. Used by: bench_outcomes, bench_top.
use Rattle.std.specs.Prelude.{ℕ, List}
use Rattle.graph_core.specs.Common.{IsCovered, Graph}
use Rattle.tree_core.specs.Common.{IsDerivation, PlainMove, TurnsThrough, Shape}
use Rattle.bench_tasks.specs.from_ear_core.Common.{IsEarList}
use Rattle.bench_outcomes.specs.Shown.{MayBeBerge, MayShowOfTree, MayShowOfMoves, MayShowOfTwo}
use Rattle.bench_tasks.specs.Common.{Task}
use Rattle.bench_tasks.specs.Tasks as task
use Rattle.bench_tasks.specs.declared.verbs.GraphVerb.TheVariants.{Analyse, Convert, Decompose, Ears}
use Rattle.bench_tasks.specs.declared.verbs.SimpleGraphVerb.TheVariants.{Analyse6}
use Rattle.bench_tasks.specs.declared.verbs.TreeVerb.TheVariants.{Check}
use Rattle.bench_tasks.specs.declared.verbs.PicksVerb.TheVariants.{DecomposeBy}
use Rattle.bench_tasks.specs.declared.verbs.EarsVerb.TheVariants.{CheckEars}
use Rattle.bench_tasks.specs.declared.verbs.MovesVerb.TheVariants.{Replay}
use Rattle.bench_tasks.specs.declared.verbs.TreesVerb.TheVariants.{Compare, Script}
use Rattle.bench_tasks.specs.declared.verbs.NumbersVerb.TheVariants.{Grow}

-- the ways to behave; numbers that may be shown need not be unique
pub data Conduct : Type 1 where
  -- always succeeds, with one output: to convert a graph, to generate one
  Writes : Conduct
  -- always succeeds, with one output except for such numbers: to analyse a graph
  Tells : (shown : List ℕ → Type 0) → Conduct
  -- succeeds if the condition is true, with one output, and is otherwise refused, for a reason that
  -- may show such numbers: to decompose, to check, to replay
  Needs : (fact : Type 0) (shown : List ℕ → Type 0) → Conduct
  -- the same, but on success any correct text may be written: to find an ear list, a script or a
  -- pairing
  Chooses : (fact : Type 0) (shown : List ℕ → Type 0) → Conduct

-- both trees are derivations of the graph
abbrev pub AreDerivations : Graph → (first second : Shape) → Type 0
AreDerivations g first second = IsDerivation g first × IsDerivation g second

-- the tree is a derivation of the graph, and the moves lead through derivations to a last one
abbrev pub LeadsOn : Graph → Shape → List PlainMove → Type 0
LeadsOn g tree moves = IsDerivation g tree × ((last : Shape) × TurnsThrough g tree moves last)

-- the table of tasks: one line for each command
abbrev pub conduct_of : Task → Conduct
conduct_of (task.OnGraph Analyse named) = Tells (MayBeBerge named.graph)
conduct_of (task.OnGraph Convert named) = Writes
conduct_of (task.OnSimpleGraph Analyse6 g) = Tells (MayBeBerge g)
conduct_of (task.OnGraph (Decompose order) named) = Needs (IsCovered named.graph) (MayBeBerge named.graph)
conduct_of (task.OnPicks DecomposeBy named picks) = Needs (IsCovered named.graph) (MayBeBerge named.graph)
conduct_of (task.OnTree Check named tree) = Needs (IsDerivation named.graph tree) (MayShowOfTree named.graph tree)
conduct_of (task.OnEars CheckEars named list) = Needs (IsCovered named.graph × IsEarList named.graph list) (MayBeBerge named.graph)
conduct_of (task.OnGraph Ears named) = Chooses (IsCovered named.graph) (MayBeBerge named.graph)
conduct_of (task.OnMoves Replay named tree moves) = Needs (LeadsOn named.graph tree moves) (MayShowOfMoves named.graph tree moves)
conduct_of (task.OnTrees Compare named first second) = Chooses (AreDerivations named.graph first second) (MayShowOfTwo named.graph first second)
conduct_of (task.OnTrees Script named first second) = Chooses (AreDerivations named.graph first second) (MayShowOfTwo named.graph first second)
conduct_of (task.OnNumbers Grow seed pieces) = Writes
