use Rattle.std.proofs.Common.{arith, subst, sym}
use Rattle.tree_core.proofs.Common.{IsDerivation}
use Rattle.uncross.proofs.ScriptSteps.{script_derives, derivation_script_pairs}
use Rattle.move_laws.proofs.Uniqueness.{script_through}
use Rattle.uncross.proofs.exposing.expose.Goals as goal

pub script_maps-requires-clause-derives : goal.script_maps-requires-clause-derives
script_maps-requires-clause-derives c = subst (IsDerivation c.args.g.now) (sym c.in_ok-before.ensures) c.requires.derives

pub script_maps-requires-clause-script : goal.script_maps-requires-clause-script
script_maps-requires-clause-script c = grind arith

pub returns-clause-derives : goal.returns-clause-derives
returns-clause-derives c = grind (arith, script_derives)

pub returns-clause-through : goal.returns-clause-through
returns-clause-through c = grind (arith, script_through)

pub returns-clause-paired : goal.returns-clause-paired
returns-clause-paired c = grind (arith, derivation_script_pairs)

pub returns-clause-root : goal.returns-clause-root
returns-clause-root c = grind arith

pub returns-clause-few : goal.returns-clause-few
returns-clause-few c = let few = c.in_ok-tree.ensures.few in omega arith
