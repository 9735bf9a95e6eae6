use Rattle.std.proofs.Common.{◌<◌, ℕ, List, length, subst, sym}
use Rattle.graph_core.proofs.Common.{complement_of-rises, union-complement_of}
use Rattle.contraction.specs.Partition.{IsUnionAt}
use Rattle.tree_core.proofs.Shores.{is-complement, complement-nonempty}
use Rattle.tree_core.proofs.leaf_partitions.complement_in.Goals as goal

pub returns-clause-list : goal.returns-clause-list
returns-clause-list c =
    is-complement 128 c.args.p.now.order c.order.result c.full.result c.args.shore c.minus-complement.result c.keeps_partition.ensures.few c.order.ensures c.full.ensures.list c.rises.ensures c.minus-complement.ensures

pub returns-clause-union : goal.returns-clause-union
returns-clause-union c =
    subst (IsUnionAt c.args.p.now) (sym (is-complement 128 c.args.p.now.order c.order.result c.full.result c.args.shore c.minus-complement.result c.keeps_partition.ensures.few c.order.ensures c.full.ensures.list c.rises.ensures c.minus-complement.ensures))
    (record { set = complement_of-rises c.args.p.now.order c.args.shore; union = union-complement_of c.args.p.now.order c.args.p.now.blocks c.args.shore c.requires.union.union })

pub returns-clause-nonempty : goal.returns-clause-nonempty
returns-clause-nonempty c =
    subst (λ (xs : List ℕ). 0 < length xs) (sym (is-complement 128 c.args.p.now.order c.order.result c.full.result c.args.shore c.minus-complement.result c.keeps_partition.ensures.few c.order.ensures c.full.ensures.list c.rises.ensures c.minus-complement.ensures))
    (complement-nonempty c.args.p.now.order c.args.shore c.requires.union.set c.requires.nonempty c.requires.fits)
