use Rattle.std.proofs.Common.{arith}
use Rattle.separation_kit.proofs.SeparationFacts.{equivalent-none}
use Rattle.separation_kit.proofs.first_pairs.cut_where_bicritical.Goals as goal

pub returns-in-Some : goal.returns-in-Some
returns-in-Some c = grind (arith, equivalent-none c.args.c.now)
