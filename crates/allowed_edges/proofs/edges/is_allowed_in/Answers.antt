use Rattle.std.proofs.Common.{arith}
use Rattle.allowed_edges.proofs.AllowedPartners.{row-allowed}
use Rattle.allowed_edges.proofs.edges.is_allowed_in.Goals as goal

pub returns : goal.returns
returns c = grind (arith, row-allowed)
