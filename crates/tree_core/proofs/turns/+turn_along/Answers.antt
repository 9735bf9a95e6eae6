use Rattle.std.proofs.Common.{arith, subst}
use Rattle.tree_core.specs.Common.{MayTurn, shape_of}
use Rattle.tree_core.specs.declared.turns.Turn.{Turn}
use Rattle.tree_core.proofs.turns.+turn_along.Goals as goal

pub switch_here-requires : goal.switch_here-requires
switch_here-requires t c = subst (λ (turn : Turn). MayTurn turn (shape_of c.args.tree)) c.in-Switch.is c.requires

pub turn_along-requires : goal.turn_along-requires
turn_along-requires t c = grind arith
