use Rattle.graph_core.proofs.from_counting.Common.{ap, ◌∙◌, arith, ℕ, List, length, ◌&&◌, mem, some}
use Rattle.graph_core.proofs.Common.{block}
use Rattle.contraction.specs.Partition.{PartitionValue}
use Rattle.contraction.proofs.ContractedValues.{union-listed}
use Rattle.contraction.proofs.QuotientValues.{few-blocks}
use Rattle.contraction.proofs.partition.Partition.lift_set.Goals as goal

pub union_at-union-requires : goal.union_at-union-requires
union_at-union-requires c = grind (arith, few-blocks c.args.self.now)

pub returns : goal.returns
returns c = λ g order. union-listed g c.args.self.now c.union_at-union.result c.args.s c.keeps_partition.ensures order c.rises.ensures
    (λ v. c.union_at-union.ensures v ∙ ap (λ (b : List (List ℕ)). some (length b) (λ i. mem c.args.s i && mem (block b i) v)) (c.deref.ensures.value ∙ ap (λ (p : PartitionValue). p.blocks) c.self.view_is))
