use Rattle.graph_core.proofs.from_counting.Common.{◌≡◌, ap, sym, ◌∙◌, subst, ℕ, List, filter, not, is_subset}
use Rattle.graph_core.proofs.Common.{insert_block, merged}
use Rattle.contraction.specs.Partition.{IsUnionAt, KeepsPartition, PartitionValue}
use Rattle.contraction.proofs.BlockUnions.{keeps-merged, merged-outside}
use Rattle.contraction.proofs.partition.Partition.merge.Goals as goal

same : (p : PartitionValue) (q kept new : List (List ℕ)) (s : List ℕ) → KeepsPartition p → IsUnionAt p s → q ≡ p.blocks → kept ≡ filter (λ b. not (is_subset b s)) q → new ≡ insert_block s kept → new ≡ merged p.blocks s
same p q kept new s keeps union e f g = g ∙ ap (insert_block s) (f ∙ ap (filter (λ b. not (is_subset b s))) e) ∙ merged-outside p.order p.blocks s keeps.partition.partition union.union

pub invariant_of-result : goal.invariant_of-result
invariant_of-result c =
    let p : PartitionValue = record { order = c.self.inside.order; blocks = c.self.inside.blocks.items } in
    let union : IsUnionAt p c.args.shore = subst (λ (q : PartitionValue). IsUnionAt q c.args.shore) (sym c.self.view_is) c.requires.union in
    subst (λ blocks. KeepsPartition (record { order = c.self.inside.order; blocks = blocks }))
    (sym (same p c.deref.result.now c.in_ok-blocks.blocks.items c.insert_by_name.new.blocks.items c.args.shore c.self.invariant union c.deref.ensures.value c.in_ok-blocks.ensures c.in_ok-insert_by_name.ensures))
    (keeps-merged p c.args.shore c.self.invariant union c.requires.nonempty)

pub returns-clause-blocks : goal.returns-clause-blocks
returns-clause-blocks c =
    let p : PartitionValue = record { order = c.self.inside.order; blocks = c.self.inside.blocks.items } in
    let union : IsUnionAt p c.args.shore = subst (λ (q : PartitionValue). IsUnionAt q c.args.shore) (sym c.self.view_is) c.requires.union in
    same p c.deref.result.now c.in_ok-blocks.blocks.items c.insert_by_name.new.blocks.items c.args.shore c.self.invariant union c.deref.ensures.value c.in_ok-blocks.ensures c.in_ok-insert_by_name.ensures
    ∙ ap (λ (q : PartitionValue). merged q.blocks c.args.shore) c.self.view_is
