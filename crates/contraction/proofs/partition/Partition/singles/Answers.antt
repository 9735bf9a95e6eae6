use Rattle.std.proofs.Common.{sym, subst}
use Rattle.graph_core.proofs.Common.{IsPartition, singles-partition}
use Rattle.contraction.proofs.partition.Partition.singles.Goals as goal

pub invariant_of-result : goal.invariant_of-result
invariant_of-result c = record { few = c.requires; partition = subst (IsPartition c.args.n) (sym c.in_ok-single_vertices.ensures) (singles-partition c.args.n) }
