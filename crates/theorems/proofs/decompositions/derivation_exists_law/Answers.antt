use Rattle.bench_tasks.specs.from_decomposer.Common.{NamedPicks, ScriptPicks}
use Rattle.theorems.proofs.CommandOrders.{named-some, script-some}
use Rattle.theorems.proofs.PickedDerivations.{chosen-tree, first-tree, picked-tree, some-tree}
use Rattle.theorems.proofs.decompositions.derivation_exists_law.Goals as goal

pub returns : goal.returns
returns c = record {
  some = some-tree;
  picked = chosen-tree;
  first = first-tree;
  named = λ order g is covered. picked-tree (NamedPicks order) (named-some order) g is covered;
  script = λ picks g is covered. picked-tree (ScriptPicks picks) (script-some picks) g is covered;
}
