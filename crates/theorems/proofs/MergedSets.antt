-- A nonempty vertex set made one vertex: the contraction of the graph at the partition that has the
-- set as a block and each other vertex alone.
use Rattle.tree_check.proofs.from_counting.Common.{◌≡◌, ℕ, true, ◌∙◌, sym, List, subst, mem-within, mem-rising_list, rising_list-rises, Within, IsRisingIn, mem, rising_list, Set}
use Rattle.graph_core.proofs.Common.{contracted-graph, contracted-singles, merged_merges, merges, carried, singles-partition, union-singles, blocks-singles, Graph, IsGraph, Merges, blocks_in, contracted, merged, singles}

-- the shore may be given by another set with the same vertices
pub other_set : (g : Graph) (x y : Set) (h : Graph) (f : ℕ → ℕ) (c : ℕ) → ((v : ℕ) → Within g.order v → x v ≡ y v) → Merges g x h f c → Merges g y h f c
other_set g x y h f c same m = record {
  edges = m.edges;
  first_ends = m.first_ends;
  second_ends = m.second_ends;
  inside = λ v w t. m.inside v w (same v w ∙ t);
  outside = λ v w t. m.outside v w (same v w ∙ t);
  apart = λ u v wu wv i j. m.apart u v wu wv (same u wu ∙ i) (same v wv ∙ j);
  onto = λ w ww d. let r = m.onto w ww d in (r.0, r.1, sym (same r.0 r.1) ∙ r.2, r.3);
  new = m.new;
}

module _ (g : Graph) (is : IsGraph g) where
  -- the vertices of a nonempty list made one
  pub merged_list : (x : List ℕ) → IsRisingIn g.order x → (u : ℕ) → Within g.order u → mem x u ≡ true → (f : ℕ → ℕ) × (c : ℕ) × Merges g (mem x) (contracted g (merged (singles g.order) x)) f c
  merged_list x rises u wu xu =
      let p = (singles-partition g.order).partition in
      let union = union-singles g.order (mem x) in
      let is_merge = merged_merges g.order (singles g.order) x p union (u, wu, xu) (λ v. mem-within g.order x rises v) in
      let m = merges g is (singles g.order) (merged (singles g.order) x) (mem x) p union is_merge in
      let k = subst (λ (k : Graph). Merges k (blocks_in (singles g.order) (mem x)) (contracted g (merged (singles g.order) x)) (carried (singles g.order) (merged (singles g.order) x)) is_merge.new.0) (contracted-singles g is) m in
      (carried (singles g.order) (merged (singles g.order) x), is_merge.new.0, other_set g (blocks_in (singles g.order) (mem x)) (mem x) _ _ _ (λ v w. blocks-singles g.order (mem x) v w) k)

  -- and those of a nonempty set, into a graph
  pub merged_set : (x : Set) (u : ℕ) → Within g.order u → x u ≡ true → (h : Graph) × (f : ℕ → ℕ) × (c : ℕ) × IsGraph h × Merges g x h f c
  merged_set x u wu xu =
      let xs = rising_list g.order x in
      let rises = rising_list-rises g.order x in
      let own : mem xs u ≡ true = mem-rising_list g.order x u wu ∙ xu in
      let m = merged_list xs rises u wu own in
      let k = merged_merges g.order (singles g.order) xs (singles-partition g.order).partition (union-singles g.order (mem xs)) (u, wu, own) (λ v. mem-within g.order xs rises v) in
      (contracted g (merged (singles g.order) xs), m.0, m.1, contracted-graph g (merged (singles g.order) xs) is k.partition, other_set g (mem xs) x _ m.0 m.1 (λ v w. mem-rising_list g.order x v w) m.2)
