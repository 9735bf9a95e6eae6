use Rattle.std.proofs.Common.{arith}
use Rattle.allowed_edges.proofs.AllowedPartners.{listed-allowed}
use Rattle.allowed_edges.proofs.edges.partnered.Goals as goal

pub returns : goal.returns
returns c = grind (arith, listed-allowed c.args.g.now c.loop-k.edges)
