-- The result of a task is determined by whether it succeeds: success, or a refusal, which is then
-- possible. A refused tree is not a derivation, a refused list not an ear list, and moves that fail
-- lead through no derivations to a last tree.
use Rattle.tree_check.proofs.from_counting.Common.{◌≡◌, ◌∙◌, ℕ, List, [], ◌∷◌, ◌⊎◌, inl, inr, sym, subst, none-some, same_Some, singleton}
use Rattle.graph_core.proofs.Common.{Graph, IsGraph, IsMultigraph, IsCovered}
use Rattle.tree_core.proofs.Common.{IsDerivation, PlainMove, TurnsThrough, Shape}
use Rattle.tree_check.specs.Common.{Why, IsRefused, IsStuckAt, IsRefusedMoveAt}
use Rattle.tree_check.proofs.FirstRefusals.{refused-not_derived}
use Rattle.bench_tasks.proofs.from_ear_core.Refusing.{refusal-none}
use Rattle.bench_tasks.specs.from_graph_text.Common.{NamedGraph}
use Rattle.bench_outcomes.specs.Common.{RefusesTree, RefusesPair, DecomposeGives, ResultOf, TaskMayRefuse, Succeeds}
use Rattle.bench_tasks.specs.Common.{Task}
use Rattle.bench_tasks.specs.Tasks as task
use Rattle.bench_tasks.specs.declared.verbs.GraphVerb.TheVariants.{Analyse, Convert, Decompose, Ears}
use Rattle.bench_tasks.specs.declared.verbs.SimpleGraphVerb.TheVariants.{Analyse6}
use Rattle.bench_tasks.specs.declared.verbs.TreeVerb.TheVariants.{Check}
use Rattle.bench_tasks.specs.declared.verbs.PicksVerb.TheVariants.{DecomposeBy}
use Rattle.bench_tasks.specs.declared.verbs.EarsVerb.TheVariants.{CheckEars}
use Rattle.bench_tasks.specs.declared.verbs.MovesVerb.TheVariants.{Replay}
use Rattle.bench_tasks.specs.declared.verbs.TreesVerb.TheVariants.{Compare, Script}
use Rattle.bench_tasks.specs.declared.verbs.NumbersVerb.TheVariants.{Grow}
use Rattle.tree_check.specs.from_tight_cuts.Common.{Candidate}
use Rattle.bench_outcomes.specs.declared.status.Status.{Status}
use Rattle.bench_outcomes.specs.declared.status.Status.TheVariants.{Done, Negative}

-- done if the fact holds, and refused if not
abbrev pub Settles : Type 0 → Status → Type 0
Settles fact status = ((status ≡ Done) × fact) ⊎ ((status ≡ Negative) × (fact → ⊥))

-- the graph of a task is one without loops
abbrev pub KeepsGraph : Task → Type 0
KeepsGraph (task.OnGraph verb named) = IsMultigraph named.graph
KeepsGraph (task.OnSimpleGraph verb g) = IsMultigraph g
KeepsGraph (task.OnTree verb named tree) = IsMultigraph named.graph
KeepsGraph (task.OnPicks verb named picks) = IsMultigraph named.graph
KeepsGraph (task.OnEars verb named list) = IsMultigraph named.graph
KeepsGraph (task.OnMoves verb named tree moves) = IsMultigraph named.graph
KeepsGraph (task.OnTrees verb named first second) = IsMultigraph named.graph
KeepsGraph (task.OnNumbers verb seed pieces) = Unit {0}

-- done, and then it succeeds; or refused, and then it may be, and of a graph without loops it does
-- not succeed
abbrev pub IsSettledTask : Task → Status → Type 0
IsSettledTask t status = ((status ≡ Done) × Succeeds t) ⊎ ((status ≡ Negative) × (TaskMayRefuse t × (KeepsGraph t → Succeeds t → ⊥)))

-- moves that lead through derivations do not fail
turns-not_stuck : (g : Graph) (s t : Shape) (ms : List PlainMove) (at : ℕ) → TurnsThrough g s ms t → IsStuckAt g s ms at → ⊥
turns-not_stuck g s t [] at turns stuck = stuck
turns-not_stuck g s t (m ∷ ms) at turns (inl first) = none-some _ (sym first.1 ∙ turns.1)
turns-not_stuck g s t (m ∷ ms) at turns (inr later) =
    turns-not_stuck g turns.0 t ms later.3.0 turns.3 (subst (λ (r : Shape). IsStuckAt g r ms later.3.0) (same_Some _ _ (sym later.1 ∙ turns.1)) later.3.2)

turns-not_refused : (g : Graph) → IsGraph g → (s t : Shape) (ms : List PlainMove) (at node : ℕ) (why : Why) → TurnsThrough g s ms t → IsRefusedMoveAt g s ms at node why → ⊥
turns-not_refused g is s t [] at node why turns refused = refused
turns-not_refused g is s t (m ∷ ms) at node why turns refused =
    let same : refused.0 ≡ turns.0 = same_Some _ _ (sym refused.1 ∙ turns.1) in
    elim refused.2 [
      | inl first ↦ refused-not_derived g is turns.0 node why turns.2 (subst (λ (r : Shape). IsRefused g r node why) same first.1)
      | inr later ↦ turns-not_refused g is turns.0 t ms later.1.0 node why turns.3 (subst (λ (r : Shape). IsRefusedMoveAt g r ms later.1.0 node why) same later.1.2)
    ]

-- a decomposition
decompose-settled : (picks : List Candidate → ℕ → ℕ → Type 0) (named : NamedGraph) (status : Status) (output : List ℕ) → DecomposeGives picks named status output →
    ((status ≡ Done) × IsCovered named.graph) ⊎ ((status ≡ Negative) × (IsCovered named.graph → ⊥))
decompose-settled picks named status output (inl made) = inl (made.told.done, made.told.derivation.covered)
decompose-settled picks named status output (inr not_covered) = inr (not_covered.negative, not_covered.uncovered)

-- a refusal that needs nothing of the graph
without-graph : {keeps fact : Type 0} {status : Status} → ((status ≡ Done) × fact) ⊎ ((status ≡ Negative) × (fact → ⊥)) → ((status ≡ Done) × fact) ⊎ ((status ≡ Negative) × (Unit {0} × (keeps → fact → ⊥)))
without-graph (inl done) = inl done
without-graph (inr refused) = inr (refused.0, (tt, λ keeps fact. refused.1 fact))

-- a tree that is refused
refused-status : (g : Graph) (t : Shape) (place : ℕ) (status : Status) (output : List ℕ) → RefusesTree g t place status output → status ≡ Negative
refused-status g t place status output (inl refused) = refused.negative
refused-status g t place status output (inr not_covered) = not_covered.negative

pub refused-tree : (g : Graph) → IsGraph g → (t : Shape) (place : ℕ) (status : Status) (output : List ℕ) → RefusesTree g t place status output → IsDerivation g t → ⊥
refused-tree g is t place status output (inl refused) = λ derived. refused-not_derived g is t refused.node refused.why derived refused.refused
refused-tree g is t place status output (inr not_covered) = λ derived. not_covered.uncovered derived.covered

refused_pair-status : (g : Graph) (s t : Shape) (status : Status) (output : List ℕ) → RefusesPair g s t status output → status ≡ Negative
refused_pair-status g s t status output (inl refused) = refused.negative
refused_pair-status g s t status output (inr (inl refused)) = refused.1.negative
refused_pair-status g s t status output (inr (inr not_covered)) = not_covered.negative

refused-pair : (g : Graph) → IsGraph g → (s t : Shape) (status : Status) (output : List ℕ) → RefusesPair g s t status output → IsDerivation g s × IsDerivation g t → ⊥
refused-pair g is s t status output (inl refused) = λ both. refused-not_derived g is s refused.node refused.why both.0 refused.refused
refused-pair g is s t status output (inr (inl refused)) = λ both. refused-not_derived g is t refused.1.node refused.1.why both.1 refused.1.refused
refused-pair g is s t status output (inr (inr not_covered)) = λ both. not_covered.uncovered both.0.covered

-- each task
pub task-settled : (t : Task) (status : Status) (output : List ℕ) → ResultOf t status output → IsSettledTask t status
task-settled (task.OnGraph Analyse named) status output gives = inl (gives.done, tt)
task-settled (task.OnGraph Convert named) status output gives = inl (gives.done, tt)
task-settled (task.OnGraph (Decompose order) named) status output gives = without-graph (decompose-settled _ named status output gives)
task-settled (task.OnGraph Ears named) status output (inl built) = inl (built.done, built.covered)
task-settled (task.OnGraph Ears named) status output (inr not_covered) = inr (not_covered.negative, (tt, λ is. not_covered.uncovered))
task-settled (task.OnSimpleGraph Analyse6 g) status output gives = inl (gives.done, tt)
task-settled (task.OnTree Check named tree) status output (inl accepted) = inl (accepted.done, accepted.derivation)
task-settled (task.OnTree Check named tree) status output (inr refused) =
    inr (refused-status named.graph tree 1 status output refused, (tt, λ is. refused-tree named.graph is.ends tree 1 status output refused))
task-settled (task.OnPicks DecomposeBy named picks) status output gives = without-graph (decompose-settled _ named status output gives)
task-settled (task.OnEars CheckEars named list) status output (inl accepted) = inl (accepted.done, (accepted.covered, accepted.is))
task-settled (task.OnEars CheckEars named list) status output (inr (inl refused)) =
    inr (refused.negative, (tt, λ is good. refusal-none named.graph (singleton list.start) 0 list.steps refused.step refused.why refused.refused good.1.steps))
task-settled (task.OnEars CheckEars named list) status output (inr (inr not_covered)) = inr (not_covered.negative, (tt, λ is good. not_covered.uncovered good.0))
task-settled (task.OnMoves Replay named tree moves) status output (inl (inl replayed)) = inl (replayed.done, (replayed.derivation, (replayed.reached, replayed.turns)))
task-settled (task.OnMoves Replay named tree moves) status output (inl (inr (inl stuck))) =
    inr (stuck.negative, (tt, λ is good. turns-not_stuck named.graph tree good.1.0 moves stuck.at good.1.1 stuck.stuck))
task-settled (task.OnMoves Replay named tree moves) status output (inl (inr (inr refused))) =
    inr (refused.negative, (tt, λ is good. turns-not_refused named.graph is.ends tree good.1.0 moves refused.at refused.node refused.why good.1.1 refused.refused))
task-settled (task.OnMoves Replay named tree moves) status output (inr refused) =
    inr (refused-status named.graph tree 1 status output refused, (tt, λ is good. refused-tree named.graph is.ends tree 1 status output refused good.0))
task-settled (task.OnTrees Compare named first second) status output (inl compared) = inl (compared.done, (compared.script.first, compared.script.second))
task-settled (task.OnTrees Compare named first second) status output (inr refused) =
    inr (refused_pair-status named.graph first second status output refused, (tt, λ is. refused-pair named.graph is.ends first second status output refused))
task-settled (task.OnTrees Script named first second) status output (inl scripted) = inl (scripted.done, (scripted.script.first, scripted.script.second))
task-settled (task.OnTrees Script named first second) status output (inr refused) =
    inr (refused_pair-status named.graph first second status output refused, (tt, λ is. refused-pair named.graph is.ends first second status output refused))
task-settled (task.OnNumbers Grow seed pieces) status output gives = inl (gives.done, tt)

-- so, of a graph without loops, it is done if and only if it succeeds
settled-by : (t : Task) → KeepsGraph t → (status : Status) → IsSettledTask t status → Settles (Succeeds t) status
settled-by t is status (inl done) = inl done
settled-by t is status (inr refused) = inr (refused.0, refused.1.1 is)

pub settled : (t : Task) → KeepsGraph t → (status : Status) (output : List ℕ) → ResultOf t status output → Settles (Succeeds t) status
settled t is status output gives = settled-by t is status (task-settled t status output gives)
