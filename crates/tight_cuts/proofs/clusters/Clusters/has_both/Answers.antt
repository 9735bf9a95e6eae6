use Rattle.std.proofs.Common.{arith}
use Rattle.std.proofs.lemmas.Grind.{common_steps}
use Rattle.tight_cuts.proofs.ClusteredVertices.{set_unparted}
use Rattle.tight_cuts.proofs.clusters.Clusters.has_both.Goals as goal

pub returns : goal.returns
returns c = grind (arith, set_unparted, common_steps)
