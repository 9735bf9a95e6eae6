use Rattle.std.proofs.Common.{arith}
use Rattle.tree_core.proofs.Common.{moves_of, shape_of}
use Rattle.move_laws.proofs.Uniqueness.{script_through}
use Rattle.uncross.proofs.comparing.moves_between_covered.Goals as goal

pub compare_at-requires-clause-first : goal.compare_at-requires-clause-first
compare_at-requires-clause-first c = grind arith

pub compare_at-requires-clause-second : goal.compare_at-requires-clause-second
compare_at-requires-clause-second c = grind arith

pub returns-clause-script : goal.returns-clause-script
returns-clause-script c = grind arith

pub returns-clause-through : goal.returns-clause-through
returns-clause-through c = grind (arith, script_through c.args.c.now (shape_of c.args.first.now) (moves_of c.in_ok-moves.moves) (shape_of c.args.second.now) c.requires.first.covered)
