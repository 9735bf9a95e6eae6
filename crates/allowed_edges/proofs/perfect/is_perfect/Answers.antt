use Rattle.std.proofs.Common.{eq-eqb, eqb-true, arith}
use Rattle.allowed_edges.proofs.AllowedPartners.{maximum-perfect}
use Rattle.allowed_edges.proofs.perfect.is_perfect.Goals as goal

pub returns : goal.returns
returns c = grind (arith, maximum-perfect, eqb-true, eq-eqb)
