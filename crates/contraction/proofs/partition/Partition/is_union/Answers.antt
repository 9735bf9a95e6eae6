use Rattle.graph_core.proofs.from_counting.Common.{◌≡◌, ap, sym, ◌∙◌, subst, true, IsTrue, ℕ, List, Bool, list_all, both_ways, rising_list-rises, Within, everything, IsRisingIn, is_subset, mem, rising_list}
use Rattle.contraction.specs.Partition.{IsUnionAt, KeepsPartition, PartitionValue}
use Rattle.contraction.proofs.BlockUnions.{in_or_apart, union-test, within-test, test-from_union}
use Rattle.contraction.proofs.partition.Partition.is_union.Goals as goal

passes : (p : PartitionValue) (q : List (List ℕ)) (s full : List ℕ) (r t : Bool) → KeepsPartition p → IsRisingIn 128 s → full ≡ rising_list p.order everything → q ≡ p.blocks → r ≡ is_subset s full → r ≡ true → t ≡ list_all (in_or_apart s) q →
    (IsTrue t → IsUnionAt p s) × (IsUnionAt p s → IsTrue t)
passes p q s full r t keeps rises all same sub is_yes test = (
  λ h. union-test p s full keeps.partition rises (subst (IsRisingIn p.order) (sym all) (rising_list-rises p.order everything)) (sym sub ∙ is_yes) (ap (list_all (in_or_apart s)) (sym same) ∙ sym test ∙ h),
  λ u. test ∙ ap (list_all (in_or_apart s)) same ∙ test-from_union p.order p.blocks s keeps.partition.partition u.union,
)

pub returns-then-is_subset : goal.returns-then-is_subset
returns-then-is_subset c =
    let view : c.args.self.now ≡ record { order = c.self.inside.order; blocks = c.self.inside.blocks.items } = sym c.self.view_is in
    subst (λ (p : PartitionValue). (IsTrue c.each_in_or_apart.result → IsUnionAt p c.args.set) × (IsUnionAt p c.args.set → IsTrue c.each_in_or_apart.result)) (sym view)
    (passes (record { order = c.self.inside.order; blocks = c.self.inside.blocks.items }) c.deref.result.now c.args.set c.full.result c.is_subset.result c.each_in_or_apart.result c.self.invariant c.rises.ensures c.full.ensures.list c.deref.ensures.value c.is_subset.ensures c.if-is_subset.true c.each_in_or_apart.ensures)

fails : (p : PartitionValue) (s full : List ℕ) (r : Bool) → ((v : ℕ) → (mem full v ≡ true → Within p.order v) × (Within p.order v → mem full v ≡ true)) → r ≡ is_subset s full → (IsTrue r → IsUnionAt p s) → (IsTrue r → IsUnionAt p s) × (IsUnionAt p s → IsTrue r)
fails p s full r all sub none = (none, λ u. sub ∙ within-test p s full (λ v. (all v).1) u)

pub returns-else-is_subset : goal.returns-else-is_subset
returns-else-is_subset c =
    let view : c.args.self.now ≡ record { order = c.self.inside.order; blocks = c.self.inside.blocks.items } = sym c.self.view_is in
    subst (λ (p : PartitionValue). (IsTrue c.is_subset.result → IsUnionAt p c.args.set) × (IsUnionAt p c.args.set → IsTrue c.is_subset.result)) (sym view)
    (fails (record { order = c.self.inside.order; blocks = c.self.inside.blocks.items }) c.args.set c.full.result c.is_subset.result c.full.ensures.members c.is_subset.ensures (λ t. absurd (both_ways c.is_subset.result c.if-is_subset.false t)))
