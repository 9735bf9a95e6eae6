-- How alike are two reports of one task? One line for each task says it of a done one and of a
-- refused one, as far as its conduct promises; the rest goes by the conduct alone.
use Rattle.std.proofs.Common.{◌≡◌, ◌∙◌, ℕ, List, inl, inr, sym, subst, arith}
use Rattle.mcg6_lines.specs.from_decomposer.Common.{NamedPicks, ScriptPicks}
use Rattle.bench_reports.specs.from_bench_tasks.Common.{Task}
use Rattle.bench_reports.specs.from_bench_tasks.Tasks as task
use Rattle.bench_reports.specs.from_bench_tasks.declared.verbs.GraphVerb.TheVariants.{Analyse, Convert, Decompose, Ears}
use Rattle.bench_reports.specs.from_bench_tasks.declared.verbs.SimpleGraphVerb.TheVariants.{Analyse6}
use Rattle.bench_reports.specs.from_bench_tasks.declared.verbs.TreeVerb.TheVariants.{Check}
use Rattle.bench_reports.specs.from_bench_tasks.declared.verbs.PicksVerb.TheVariants.{DecomposeBy}
use Rattle.bench_reports.specs.from_bench_tasks.declared.verbs.EarsVerb.TheVariants.{CheckEars}
use Rattle.bench_reports.specs.from_bench_tasks.declared.verbs.MovesVerb.TheVariants.{Replay}
use Rattle.bench_reports.specs.from_bench_tasks.declared.verbs.TreesVerb.TheVariants.{Compare, Script}
use Rattle.bench_reports.specs.from_bench_tasks.declared.verbs.NumbersVerb.TheVariants.{Grow}
use Rattle.bench_reports.specs.from_bench_outcomes.Common.{Conduct, Writes, Tells, Needs, Chooses, conduct_of, ResultOf, RefusesBy, TaskMayRefuse}
use Rattle.bench_reports.specs.from_bench_outcomes.declared.status.Status.{Status}
use Rattle.bench_reports.specs.from_bench_outcomes.declared.status.Status.TheVariants.{Done, Negative}
use Rattle.bench_reports.proofs.from_bench_outcomes.Settled.{IsSettledTask, KeepsGraph, settled, task-settled}
use Rattle.bench_top.specs.Fixed.{ChosenBy, DifferAtMostIn, HasChosenText, HasOneOutput, MayShow, OneBy, ShownBy}
use Rattle.bench_top.proofs.AlikeRefusals.{check-alike, compare-alike, decompose-alike, ears-alike, list-alike, replay-alike, script-alike}
use Rattle.bench_top.proofs.AlikeReports.{analysed-alike, analysed6-alike, check-once, decompose-once, ears-once, grow-once, replay-once}
use Rattle.bench_top.proofs.AlikeTexts.{alike-none}
use Rattle.mcg6_lines.proofs.OneTree.{named-once, script-once}

-- what a conduct promises of two reports of a done task
abbrev DoneAlike : Conduct → (output other : List ℕ) → Type 0
DoneAlike Writes output other = output ≡ other
DoneAlike (Tells shown) output other = DifferAtMostIn shown output other
DoneAlike (Needs fact shown) output other = output ≡ other
DoneAlike (Chooses fact shown) output other = Unit {0}

-- the same of a refused task
abbrev RefusedAlike : Conduct → (output other : List ℕ) → Type 0
RefusedAlike Writes output other = Unit {0}
RefusedAlike (Tells shown) output other = Unit {0}
RefusedAlike (Needs fact shown) output other = DifferAtMostIn shown output other
RefusedAlike (Chooses fact shown) output other = DifferAtMostIn shown output other

record AreAlike (t : Task) : Type 0 where
  pub done : (output other : List ℕ) → ResultOf t Done output → ResultOf t Done other → DoneAlike (conduct_of t) output other
  pub refused : (output other : List ℕ) → ResultOf t Negative output → ResultOf t Negative other → RefusedAlike (conduct_of t) output other

-- each task
alike : (t : Task) → KeepsGraph t → AreAlike t
alike (task.OnGraph Analyse named) is = record { done = analysed-alike named is; refused = λ output other one two. tt }
alike (task.OnGraph Convert named) is = record { done = λ output other one two. one.text ∙ sym two.text; refused = λ output other one two. tt }
alike (task.OnGraph (Decompose order) named) is = record { done = decompose-once (NamedPicks order) (named-once order) named; refused = decompose-alike (NamedPicks order) named }
alike (task.OnGraph Ears named) is = record { done = λ output other one two. tt; refused = ears-alike named.graph }
alike (task.OnSimpleGraph Analyse6 g) is = record { done = analysed6-alike g is; refused = λ output other one two. tt }
alike (task.OnTree Check named tree) is = record { done = check-once named.graph tree; refused = check-alike named.graph is.ends tree }
alike (task.OnPicks DecomposeBy named picks) is = record { done = decompose-once (ScriptPicks picks) (script-once picks) named; refused = decompose-alike (ScriptPicks picks) named }
alike (task.OnEars CheckEars named list) is = record { done = ears-once named.graph list; refused = list-alike named.graph list }
alike (task.OnMoves Replay named tree moves) is = record { done = replay-once named.graph tree moves; refused = replay-alike named.graph is.ends tree moves }
alike (task.OnTrees Compare named first second) is = record { done = λ output other one two. tt; refused = compare-alike named.graph is.ends first second }
alike (task.OnTrees Script named first second) is = record { done = λ output other one two. tt; refused = script-alike named.graph is.ends first second }
alike (task.OnNumbers Grow seed pieces) is = record { done = grow-once seed pieces; refused = λ output other one two. tt }

-- what follows by a conduct alone
one-by : (c : Conduct) (output other : List ℕ) → OneBy c → DoneAlike c output other → output ≡ other
one-by Writes output other one same = same
one-by (Tells shown) output other one same = alike-none shown output other one same
one-by (Needs fact shown) output other one same = same
one-by (Chooses fact shown) output other one same = absurd one

done-by : (c : Conduct) (output other : List ℕ) → (ChosenBy c → ⊥) → DoneAlike c output other → DifferAtMostIn (ShownBy c) output other
done-by Writes output other free same = inl same
done-by (Tells shown) output other free same = same
done-by (Needs fact shown) output other free same = inl same
done-by (Chooses fact shown) output other free same = absurd (free tt)

refused-by : (c : Conduct) (output other : List ℕ) → RefusesBy c → RefusedAlike c output other → DifferAtMostIn (ShownBy c) output other
refused-by Writes output other may same = absurd may
refused-by (Tells shown) output other may same = absurd may
refused-by (Needs fact shown) output other may same = same
refused-by (Chooses fact shown) output other may same = same

-- a refused task may be
may-refuse : (t : Task) → IsSettledTask t Negative → TaskMayRefuse t
may-refuse t h = grind arith

-- each task whose text is not free
pub task-once : (t : Task) → KeepsGraph t → HasOneOutput t → (output other : List ℕ) → ResultOf t Done output → ResultOf t Done other → output ≡ other
task-once t is fixed output other one two = one-by (conduct_of t) output other fixed ((alike t is).done output other one two)

-- each task that is refused
pub refused-alike : (t : Task) → KeepsGraph t → (output other : List ℕ) → ResultOf t Negative output → ResultOf t Negative other → DifferAtMostIn (MayShow t) output other
refused-alike t is output other one two = refused-by (conduct_of t) output other (may-refuse t (task-settled t Negative output one)) ((alike t is).refused output other one two)

-- each task
pub task-alike : (t : Task) → KeepsGraph t → (status : Status) → (HasChosenText t → status ≡ Negative) → (output other : List ℕ) → ResultOf t status output → ResultOf t status other → DifferAtMostIn (MayShow t) output other
task-alike t is status free output other one two = elim (settled t is status output one) [
  | inl done ↦
      done-by (conduct_of t) output other (λ chosen. let refused = free chosen in let no : Done ≡ Negative = sym done.0 ∙ refused in cc no)
      ((alike t is).done output other (subst (λ (s : Status). ResultOf t s output) done.0 one) (subst (λ (s : Status). ResultOf t s other) done.0 two))
  | inr refused ↦ grind (arith, refused-alike t is output other)
]
