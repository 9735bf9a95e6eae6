-- An ear list of a graph has no more steps than the graph has edges, since each step adds an edge
-- to the stage before it.
use Rattle.tree_check.proofs.from_counting.Common.{◌+◌, ◌≤◌, List, [], ◌∷◌, length, arith, count, Set, singleton, count_le}
use Rattle.graph_core.proofs.Common.{Graph, size}
use Rattle.bench_tasks.specs.from_ear_core.Common.{PlainEars, PlainStep, next_stage, AreSteps, IsEarList}
use Rattle.bench_tasks.proofs.from_ear_core.FirstStage.{step-adds}

-- the edges of the first stage and the steps are at most the edges of the graph
few-from : (g : Graph) (f : Set) (steps : List PlainStep) → AreSteps g f steps → count (size g) f + length steps ≤ size g
few-from g f [] go = let most = count_le (size g) f in omega arith
few-from g f (s ∷ steps) go = let more = step-adds g f s go.0 in let rest = few-from g (next_stage f s) steps go.2 in omega arith

pub few-steps : (g : Graph) (list : PlainEars) → IsEarList g list → length list.steps ≤ size g
few-steps g list is = let few = few-from g (singleton list.start) list.steps is.steps in omega arith
