use Rattle.std.proofs.Common.{arith}
use Rattle.mcg6_lines.proofs.MissedVertices.{perfect_deficiency, small_deficiency}
use Rattle.mcg6_lines.proofs.deficiencies.deficiency.Goals as goal

pub returns-in-Small : goal.returns-in-Small
returns-in-Small c = grind (arith, small_deficiency c.args.g.now c.keeps_limits.ensures.multigraph.ends)

pub returns-in-Unallowed : goal.returns-in-Unallowed
returns-in-Unallowed c = grind (arith, perfect_deficiency c.args.g.now c.keeps_limits.ensures.multigraph.ends)
