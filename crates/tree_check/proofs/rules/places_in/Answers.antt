use Rattle.graph_core.proofs.from_counting.Common.{◌≡◌, ℕ, ◌+◌, ◌==◌, ◌||◌, List, sym, ◌∙◌, subst, arith, mem}
use Rattle.tree_check.proofs.PlacesInside.{added-members, added-within, all-places, left-members, left-within, room}
use Rattle.tree_check.proofs.rules.places_in.Goals.{then-is_subset, else-is_subset}
use Rattle.tree_check.proofs.rules.places_in.Goals as goal

pub overflow_cast-i : goal.overflow_cast-i
overflow_cast-i c = let below = room _ _ _ _ c.keeps_partition.ensures.partition c.keeps_partition.ensures.few c.len-i-end.ensures c.loop-i-test.true in omega arith

pub overflow_add-i : goal.overflow_add-i
overflow_add-i c = let below = room _ _ _ _ c.keeps_partition.ensures.partition c.keeps_partition.ensures.few c.len-i-end.ensures c.loop-i-test.true in omega arith

pub with-places-requires : goal.with-places-requires
with-places-requires c =
    let below = room _ _ _ _ c.keeps_partition.ensures.partition c.keeps_partition.ensures.few c.len-i-end.ensures c.loop-i-test.true in (omega arith, omega arith)

pub loop-i-preserved : goal.loop-i-preserved
loop-i-preserved c = elim c.if-is_subset.branch [
  | then-is_subset w ↦ record {
    within = added-within c.args.p.now.blocks c.args.shore c.loop-i.places c.loop-i.i c.loop-i.invariant.within c.loop-i.invariant.members c.block.result c.block.ensures c.if-is_subset.places
        (λ j. subst (λ (s : List ℕ). mem s j ≡ (mem c.loop-i.places j || (c.loop-i.i + 1 == j))) (sym w.places-is) (w.with-places.ensures j));
    members = added-members c.args.p.now.blocks c.args.shore c.loop-i.places c.loop-i.i c.loop-i.invariant.within c.loop-i.invariant.members c.block.result c.block.ensures c.if-is_subset.places
        (λ j. subst (λ (s : List ℕ). mem s j ≡ (mem c.loop-i.places j || (c.loop-i.i + 1 == j))) (sym w.places-is) (w.with-places.ensures j))
        (sym c.is_subset.ensures ∙ w.if-is_subset.true);
  }
  | else-is_subset w ↦ grind (arith, left-within, left-members)
]

pub returns : goal.returns
returns c = grind (arith, all-places c.args.p.now.blocks c.args.shore c.loop-i.places c.loop-i.i)
