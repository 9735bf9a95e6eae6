use Rattle.std.proofs.Common.{rules}
use Rattle.refusals.specs.declared.faults.StuckFault.TheVariants.{Crossing}
use Rattle.tree_core.specs.Common.{move_of, shape_of}
use Rattle.bench_reports.proofs.NestedShores.{never_crossing}
use Rattle.bench_reports.proofs.stuck_moves.stuck_fault.Goals as goal

pub returns-in-Rotate-2-clause-nested : goal.returns-in-Rotate-2-clause-nested
returns-in-Rotate-2-clause-nested c g derivation none same =
    never_crossing g (shape_of c.args.tree.now) (move_of c.args.step.now) Crossing (search rules) derivation none same
