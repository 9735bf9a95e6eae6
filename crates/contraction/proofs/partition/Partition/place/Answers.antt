use Rattle.std.proofs.Common.{◌≡◌, ◌<◌, ◌^◌, ℕ, List, ap, ◌∙◌, arith}
use Rattle.graph_core.proofs.Common.{place}
use Rattle.contraction.specs.Partition.{PartitionValue, KeepsPartition}
use Rattle.contraction.proofs.BlockLists.{place-le, length-partition}
use Rattle.contraction.proofs.partition.Partition.place.Goals as goal

few : (n : ℕ) (p q : List (List ℕ)) (v k : ℕ) → KeepsPartition (record { order = n; blocks = p }) → q ≡ p → k ≡ place q v → k < 2 ^ 32
few n p q v k keeps same e = grind (arith, place-le q v, length-partition n p keeps.partition)

pub overflow_cast-result : goal.overflow_cast-result
overflow_cast-result c = let f = few c.self.inside.order c.self.inside.blocks.items c.deref.result.now c.args.v c.place_of.result c.self.invariant c.deref.ensures.value c.place_of.ensures in omega arith

pub returns : goal.returns
returns c = c.place_of.ensures ∙ ap (λ (q : List (List ℕ)). place q c.args.v) (c.deref.ensures.value ∙ ap (λ (p : PartitionValue). p.blocks) c.self.view_is)
