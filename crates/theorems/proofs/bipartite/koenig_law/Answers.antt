use Rattle.theorems.proofs.VertexCovers.{cover_bound, koenig}
use Rattle.theorems.proofs.bipartite.koenig_law.Goals as goal

pub returns : goal.returns
returns c = record { below = cover_bound; equal = koenig }
