-- A matching covered graph at its single vertices is a stage from which trees are derived. Idea:
-- the single vertices are a partition whose contraction is the graph itself.
use Rattle.std.proofs.Common.{subst, sym}
use Rattle.graph_core.proofs.Common.{contracted-singles, singles-partition, IsCovered, Graph, IsGraph, singles}
use Rattle.move_laws.proofs.BigShores.{Stage}

pub singles_stage : (g : Graph) → IsGraph g → IsCovered g → Stage g (singles g.order)
singles_stage g is cov = record { graph = is; list = singles-partition g.order; covered = subst IsCovered (sym (contracted-singles g is)) cov }
