-- A derivation is a tree of nontrivial tight cuts in words that do not name the contracted graph,
-- and a pairing of leaves is a bijection. An odd number of blocks follows from a perfect
-- matching, which has exactly one edge in the cut.
use Rattle.tree_check.proofs.from_counting.Common.{◌≡◌, ◌&&◌, ℕ, suc, ◌+◌, true, not, ◌==◌, List, length, refl, sym, ap, ◌∙◌, arith, eq-eqb, eqb-true, only_one, count_member, complement_odd, odd-double, Within, count, is_odd, mem, Set, complement, none}
use Rattle.barrier_kit.proofs.Common.{even_order}
use Rattle.definition_laws.proofs.BlockWords.{tight-words, words-tight}
use Rattle.graph_core.proofs.Common.{contracted-graph, block_count_rest, covered_perfect, parity, edges-in-cut-at, Graph, inside, size, contracted, block_count, blocks_in}
use Rattle.tree_core.proofs.Common.{IsCutAt, IsDerivationAt, IsLeafAt, kept_at, merged_at, PlainLeafMap, leaf_at, map_at, Shape, cut, leaf}
use Rattle.tree_check.proofs.from_move_laws.BigShores.{Stage, cut_big}
use Rattle.tree_check.specs.from_move_laws.Common.{IsPairing, image}
use Rattle.theorems.proofs.NestedCuts.{CutAt, kept_stage, merged_stage}
use Rattle.theorems.specs.TightCuts.{IsBijection, IsTightCutAt, IsTightCutTreeAt, PairsLeaves}

module _ (g : Graph) (p : List (List ℕ)) (st : Stage g p) where
  cut-words : (x : List ℕ) → IsCutAt g p x → IsTightCutAt g p (mem x)
  cut-words x c = grind (arith, inside, block_count_rest, mem, tight-words)

  -- the number of blocks inside is that of the edges of a perfect matching in the cut, and twice
  -- those inside
  odd_inside : (x : Set) → IsTightCutAt g p x → is_odd (count (length p) (blocks_in p x)) ≡ true
  unfolding contracted
  odd_inside x c =
      let cg = contracted-graph g p st.graph st.list.partition in
      let m = covered_perfect (contracted g p) cg st.covered in
      let a = parity (contracted g p) cg m.0 (blocks_in p x) m.1 in
      let b = edges-in-cut-at g p x st.graph st.list.partition c.union m.0 in
      let d = c.once m.0 m.1 in
      odd_one (count (length p) (blocks_in p x)) (count (size (contracted g p)) (λ e. m.0 e && inside (contracted g p) (blocks_in p x) e)) (omega arith)
    where
      odd_one : (k i : ℕ) → k ≡ (i + i) + 1 → is_odd k ≡ true
      odd_one k i e = let s : (i + i) + 1 ≡ suc (i + i) = omega arith in ap is_odd (e ∙ s) ∙ ap not (odd-double i)

  odd_outside : (x : Set) → IsTightCutAt g p x → is_odd (block_count p (complement x)) ≡ true
  unfolding contracted
  odd_outside x c =
      let cg = contracted-graph g p st.graph st.list.partition in
      let m = covered_perfect (contracted g p) cg st.covered in
      sym (ap is_odd (block_count_rest g.order p st.list.partition x c.union)) ∙ complement_odd (length p) (blocks_in p x) (even_order (contracted g p) m.0 cg m.1) (odd_inside x c)

  leaf-words : IsLeafAt g p → (x : Set) → IsTightCutAt g p x → ⊥
  unfolding IsLeafAt
  leaf-words none x c = grind (arith, none, words-tight, odd_inside, odd_outside, inside, block_count_rest)

pub tree-words : (g : Graph) (p : List (List ℕ)) (t : Shape) → Stage g p → IsDerivationAt g p t → IsTightCutTreeAt g p t
tree-words g p leaf st d = leaf-words g p st d
tree-words g p (cut x a b) st d =
    let c : CutAt g p x = record { big = cut_big g p st x d.0.set d.0; canonical = d.0.canonical } in
    (cut-words g p st x d.0, tree-words g (kept_at g.order p x) a (kept_stage g p st x c) d.1, tree-words g (merged_at g.order p x) b (merged_stage g p st x c) d.2)

-- a map that takes exactly one number to each is a bijection
counted-bijection : (n m : ℕ) (f : ℕ → ℕ) → ((i : ℕ) → Within n i → Within m (f i)) → ((k : ℕ) → Within m k → count n (λ i. f i == k) ≡ 1) → IsBijection n m f
counted-bijection n m f within once = record {
  within = within;
  once = λ i j wi wj e. only_one n (λ k. f k == f i) (once (f i) (within i wi)) i j wi wj (eq-eqb (f i) (f i) refl) (eq-eqb (f j) (f i) (sym e));
  onto = λ k w. let r = count_member n (λ i. f i == k) (let o = once k w in omega arith) in (r.0, r.1, eqb-true (f r.0) k r.2);
}

pub pairing-words : (g : Graph) (ps qs : List (List (List ℕ))) (maps : List PlainLeafMap) → IsPairing g ps qs maps → PairsLeaves g ps qs (λ i. (map_at maps i).to) (λ i. image (leaf_at qs (map_at maps i).to) (map_at maps i).images)
pairing-words g ps qs maps is = record {
  pairs = counted-bijection (length ps) (length qs) (λ i. (map_at maps i).to) is.within is.once;
  same = λ i w. let s = is.same i w in record {
    bijection = counted-bijection (length (leaf_at ps i)) (length (leaf_at qs (map_at maps i).to)) (image (leaf_at qs (map_at maps i).to) (map_at maps i).images) (λ j v. (s.named j v).0) s.once;
    adjacent = s.adjacent;
  };
}
