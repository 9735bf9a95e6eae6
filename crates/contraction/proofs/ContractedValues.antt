-- What the value of a quotient says: as many lists of remembered edges as edges, each that of its
-- edge, and the union of the blocks at the places of a set.
use Rattle.graph_core.proofs.from_counting.Common.{◌≡◌, ℕ, ◌≤◌, ◌&&◌, List, length, sym, ap, ◌∙◌, arith, subst, and_parts, get_or-map, list-from_test, set-narrower, some_true, Within, IsRisingIn, item, mem, some}
use Rattle.graph_core.proofs.Common.{Graph, size, block, remembered, union_of_blocks}
use Rattle.contraction.proofs.BlockLists.{length-partition}
use Rattle.contraction.specs.Contracted.{ContractedValue, KeepsContraction, contraction}
use Rattle.contraction.specs.Partition.{KeepsPartition, PartitionValue}

-- which is that of the edge
pub item-remembered : (g : Graph) (p : List (List ℕ)) (q : ContractedValue) (e : ℕ) → q ≡ contraction g p → Within (size q.graph) e → item q.edges e ≡ remembered g p e
item-remembered g p q e is w = grind (arith, get_or-map)

-- at most 128 blocks
pub few-blocks : (q : ContractedValue) → KeepsContraction q → length q.blocks ≤ 128
few-blocks q keeps = let l = length-partition keeps.base.order q.blocks keeps.partition in let f = keeps.limits.vertices in omega arith

-- the set with the vertices of the blocks at the places in s is their union
pub union-listed : (g : Graph) (p : PartitionValue) (u s : List ℕ) → KeepsPartition p → g.order ≡ p.order → IsRisingIn 128 u → ((v : ℕ) → mem u v ≡ some (length p.blocks) (λ i. mem s i && mem (block p.blocks i) v)) → u ≡ union_of_blocks g p.blocks (mem s)
union-listed g p u s keeps order rises members = list-from_test g.order u _ (set-narrower 128 g.order u rises (grind (arith, some_true (length p.blocks), and_parts))) (λ v w. members v)

-- at a quotient the blocks are its own
pub union-blocks : (g : Graph) (p : List (List ℕ)) (q : ContractedValue) (u s : List ℕ) → KeepsContraction q → q ≡ contraction g p → IsRisingIn 128 u → ((v : ℕ) → mem u v ≡ some (length q.blocks) (λ i. mem s i && mem (block q.blocks i) v)) → u ≡ union_of_blocks g p (mem s)
union-blocks g p q u s keeps is rises members =
    subst (λ (b : List (List ℕ)). u ≡ union_of_blocks g b (mem s)) (ap (λ (r : ContractedValue). r.blocks) is)
    (union-listed g (record { order = keeps.base.order; blocks = q.blocks }) u s (record { few = keeps.limits.vertices; partition = keeps.partition })
    (sym (ap (λ (r : ContractedValue). r.order) is) ∙ ap (λ (r : ContractedValue). r.order) keeps.is) rises members)
