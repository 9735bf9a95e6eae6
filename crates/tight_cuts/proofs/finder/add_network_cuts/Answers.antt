use Rattle.std.proofs.Common.{arith}
use Rattle.tight_cuts.proofs.EdgeLoop.{after_edges}
use Rattle.tight_cuts.proofs.FirstCandidates.{edges-known}
use Rattle.tight_cuts.proofs.FrontCandidates.{edges-all}
use Rattle.tight_cuts.proofs.finder.add_network_cuts.Goals as goal

pub returns-then-known-size-clause-list : goal.returns-then-known-size-clause-list
returns-then-known-size-clause-list c = grind (arith, edges-all, edges-known, after_edges)
