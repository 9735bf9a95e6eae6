use Rattle.graph_core.proofs.from_counting.Common.{◌≡◌, ◌<◌, ◌^◌, ap, sym, ◌∙◌, arith, ℕ, List, count_by, count_by-le-length, is_subset, mem}
use Rattle.graph_core.proofs.Common.{block_count}
use Rattle.contraction.specs.Partition.{PartitionValue, KeepsPartition}
use Rattle.contraction.proofs.BlockLists.{count-along, length-partition}
use Rattle.contraction.proofs.partition.Partition.blocks_in.Goals as goal

few : (n : ℕ) (p q : List (List ℕ)) (s : List ℕ) (k : ℕ) → KeepsPartition (record { order = n; blocks = p }) → q ≡ p → k ≡ count_by (λ b. is_subset b s) q → k < 2 ^ 32
few n p q s k keeps same e = grind (arith, count_by-le-length, length-partition n p keeps.partition)

inside : (p : PartitionValue) (blocks q : List (List ℕ)) (s : List ℕ) (k : ℕ) → blocks ≡ p.blocks → q ≡ blocks → k ≡ count_by (λ b. is_subset b s) q → k ≡ block_count p.blocks (mem s)
inside p blocks q s k e f h = h ∙ ap (count_by (λ b. is_subset b s)) (f ∙ e) ∙ sym (count-along (λ b. is_subset b s) p.blocks)

pub overflow_cast-result : goal.overflow_cast-result
overflow_cast-result c = let f = few c.self.inside.order c.self.inside.blocks.items c.deref.result.now c.args.set c.count_inside.result c.self.invariant c.deref.ensures.value c.count_inside.ensures in omega arith

pub returns : goal.returns
returns c = inside c.args.self.now c.self.inside.blocks.items c.deref.result.now c.args.set c.count_inside.result (ap (λ (p : PartitionValue). p.blocks) c.self.view_is) c.deref.ensures.value c.count_inside.ensures
