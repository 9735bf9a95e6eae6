use Rattle.std.proofs.Common.{arith}
use Rattle.match_core.specs.from_match_search.Common.{marks}
use Rattle.allowed_edges.proofs.TwiceNamed.{named_matching}
use Rattle.allowed_edges.proofs.varied.perfect_from.Goals as goal

pub perfect_marked-requires-clause-matching : goal.perfect_marked-requires-clause-matching
perfect_marked-requires-clause-matching c = grind (arith, named_matching c.args.g.now c.args.at.now (marks c.deref.result.now) c.keeps_limits.ensures.multigraph)
