-- In a derivation no Rotate is stuck at two shores that cross: a cut that is the `merged` child of
-- another was found where the other's shore is one block, so its shore contains that block or does
-- not meet it.
use Rattle.move_text.proofs.from_counting.Common.{◌≡◌, ◌∙◌, ◌≢◌, inl, inr, List, [], ◌∷◌, ℕ, true, false, not, ◌&&◌, sym, subst, ap, None, everything, is_apart, is_subset, mem, mem-within, member-of_set, minus, true_all_in}
use Rattle.graph_core.proofs.Common.{Graph, IsPartition, inside_or_apart, merged, merged_merges, singles, singles-partition}
use Rattle.refusals.specs.declared.faults.StuckFault.{StuckFault}
use Rattle.refusals.specs.declared.faults.StuckFault.TheVariants.{Crossing}
use Rattle.tree_core.proofs.Common.{IsCutAt, IsDerivation, IsDerivationAt, PlainMove, Shape, cut, cut-below, cut-nonempty, kept_at, leaf, merged_at, move_result, partition-kept, partition-merged, rotate_at, switch_at}
use Rattle.tree_core.specs.declared.path.Side.{Side}
use Rattle.tree_core.specs.declared.path.Side.TheVariants.{Kept, Merged}
use Rattle.bench_outcomes.specs.Common.{CrossesParent, IsStuckBy, stuck_fault}
use Rattle.bench_reports.proofs.StuckMoves.{stuck_by}

module _ (g : Graph) where
  -- the shore of a cut below `merged` contains the shore above it, or does not meet it
  nested : (p : List (List ℕ)) (x y : List ℕ) → IsPartition g.order p → IsCutAt g p x → IsCutAt g (merged_at g.order p x) y → is_subset x y ≡ false → is_apart x y ≡ false → ⊥
  nested p x y is upper lower outside meets =
      let low = mem-within g.order x upper.set in
      let some = member-of_set g.order x upper.set (cut-nonempty g p x is upper) in
      let merge = merged_merges g.order p x is.partition upper.tight.union some low in
      elim (inside_or_apart g.order p (merged p x) (mem x) is.partition upper.tight.union merge some (mem y) lower.tight.union) [
        | inl inside ↦ cc (sym outside ∙ true_all_in x (mem y) (λ v m. inside v (low v m) m))
        | inr apart ↦ cc (sym meets ∙ true_all_in x (minus everything (mem y)) (λ v m. ap (λ k. true && not k) (apart v (low v m) m)))
      ]

  never_crosses : (path : List Side) (t : Shape) (p : List (List ℕ)) → IsPartition g.order p → IsDerivationAt g p t → CrossesParent path t → ⊥
  never_crosses [] t p is derives crossing = crossing
  never_crosses (side ∷ path) leaf p is derives crossing = crossing
  never_crosses (Kept ∷ path) (cut x a b) p is derives crossing =
      let cuts = derives.0 in
      never_crosses path a (kept_at g.order p x) (partition-kept g.order p x is cuts.set (cut-nonempty g p x is cuts) (cut-below g p x cuts) cuts.tight.union) derives.1 crossing
  never_crosses (Merged ∷ []) (cut x a leaf) p is derives crossing = crossing
  never_crosses (Merged ∷ []) (cut x a (cut y c d)) p is derives crossing = nested p x y is derives.0 derives.2.0 crossing.0 crossing.1
  never_crosses (Merged ∷ next ∷ path) (cut x a b) p is derives crossing =
      let cuts = derives.0 in
      never_crosses (next ∷ path) b (merged_at g.order p x) (partition-merged g.order p x is cuts.set (cut-nonempty g p x is cuts) cuts.tight.union) derives.2 crossing

  not_crossing : (t : Shape) (m : PlainMove) → IsDerivation g t → IsStuckBy g.order t m Crossing → ⊥
  not_crossing t (rotate_at path) derivation crossing = never_crosses path t (singles g.order) (singles-partition g.order) derivation.derives crossing
  not_crossing t (switch_at path u v) derivation crossing = crossing

  pub never_crossing : (t : Shape) (m : PlainMove) (fault : StuckFault) → fault ≡ stuck_fault m t → IsDerivation g t → move_result g.order t m ≡ None → fault ≢ Crossing
  never_crossing t m fault is derivation none crossing =
      not_crossing t m derivation (subst (λ (f : StuckFault). IsStuckBy g.order t m f) crossing ((stuck_by g.order t m fault is).0 none))
