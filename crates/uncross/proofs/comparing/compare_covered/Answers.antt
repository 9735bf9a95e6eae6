use Rattle.std.proofs.Common.{ap, ◌∙◌, arith}
use Rattle.graph_core.proofs.Common.{Graph}
use Rattle.tree_core.proofs.Common.{moves_of, script_maps, shape_of}
use Rattle.uncross.proofs.ScriptSteps.{derivation_script_pairs}
use Rattle.uncross.proofs.comparing.compare_covered.Goals as goal

pub script_maps-requires-clause-script : goal.script_maps-requires-clause-script
script_maps-requires-clause-script c = grind arith

pub returns-clause-paired : goal.returns-clause-paired
returns-clause-paired c = grind (arith, derivation_script_pairs)

pub returns-clause-through : goal.returns-clause-through
returns-clause-through c = c.in_ok-moves.ensures.through

pub returns-clause-maps : goal.returns-clause-maps
returns-clause-maps c = c.in_ok-maps.ensures ∙ ap (λ (h : Graph). script_maps h.order (shape_of c.args.first.now) (moves_of c.in_ok-moves.moves)) c.graph.ensures.same
