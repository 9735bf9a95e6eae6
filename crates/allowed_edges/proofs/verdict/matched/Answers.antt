use Rattle.std.proofs.Common.{arith}
use Rattle.allowed_edges.proofs.AllowedPartners.{perfect_unless_none}
use Rattle.allowed_edges.proofs.verdict.matched.Goals as goal

pub returns-in-Some-first_unallowed : goal.returns-in-Some-first_unallowed
returns-in-Some-first_unallowed c = grind (arith, perfect_unless_none c.args.g.now)
