-- A perfect matching and a tight shore at a partition, defined without the contracted graph. They
-- are the wordings for the contracted graph, whose ends are places of blocks and whose cuts are
-- those of the graph.
use Rattle.counting.proofs.Common.{◌≡◌, ℕ, true, List, length, refl, sym, ap, ◌∙◌, arith, subst, ◌↔◌, Within, is_odd, mem, Set, complement, none}
use Rattle.graph_core.proofs.Common.{contracted-ends, contracted-graph, contracted-order, contracted-size, place_in, place_is, block_count_rest, edges-in-cut-at, Graph, IsGraph, edges_in_cut, size, IsEnd, AreBlocks, IsPerfectAt, block, contracted, place, IsTightAt, IsUnion, block_count}
use Rattle.definition_laws.proofs.MatchingWords.{avoids_none, meets-perfect, perfect-meets, perfect-no_loop}
use Rattle.definition_laws.specs.Words.{HasEndIn, LeavesBlocks, MeetsEachBlockOnce}

module _ (g : Graph) (p : List (List ℕ)) (is : IsGraph g) (pp : AreBlocks g.order p) where
  -- a vertex is in the block of its place alone
  in_block : (v i : ℕ) → Within g.order v → Within (length p) i → (mem (block p i) v ≡ true) ↔ (place p v ≡ i)
  in_block v i wv wi = (λ h. sym (place_is g.order p pp v i wv wi h), λ q. subst (λ k. mem (block p k) v ≡ true) q (place_in g.order p pp v wv).1)

  -- edge numbers go over
  there : (e : ℕ) → Within (size g) e → Within (size (contracted g p)) e
  there e w = let s = contracted-size g p in omega arith

  -- and back
  back : (e : ℕ) → Within (size (contracted g p)) e → Within (size g) e
  back e w = let s = contracted-size g p in omega arith

  -- an end of the contracted edge is a block with an end of the edge
  end_in : (e i : ℕ) → Within (size g) e → Within (length p) i → IsEnd (contracted g p) e i → HasEndIn g p e i
  end_in e i we wi h = grind (arith, contracted-ends, in_block)

  -- and the other way round
  in_end : (e i : ℕ) → Within (size g) e → Within (length p) i → HasEndIn g p e i → IsEnd (contracted g p) e i
  in_end e i we wi h = grind (arith, contracted-ends, in_block)

  -- no edge of a perfect matching at p is inside a block
  pub perfect-leaves : (m : Set) → IsPerfectAt g p m → LeavesBlocks g p m
  perfect-leaves m h e we me q = grind (arith, contracted-ends g p e we, perfect-no_loop (contracted g p) none m (contracted-graph g p is pp) h e (there e we) me, contracted-graph g p is pp)

  -- and each block contains an end of exactly one of its edges
  pub perfect-meets_blocks : (m : Set) → IsPerfectAt g p m → MeetsEachBlockOnce g p m
  perfect-meets_blocks m h i wi =
      let wc : Within (contracted g p).order i = (let o = contracted-order g p in omega arith) in
      let f = perfect-meets (contracted g p) none m h i wc refl in
      (f.0, back f.0 f.1, f.2, end_in f.0 i (back f.0 f.1) wi f.3, λ e we me ee. f.4 e (there e we) me (in_end e i we wi ee))

  -- such a set of edges is a perfect matching at p
  pub meets-perfect_at : (m : Set) → LeavesBlocks g p m → MeetsEachBlockOnce g p m → IsPerfectAt g p m
  meets-perfect_at m leaves meets = meets-perfect (contracted g p) none m
      (λ e we me q. let k = contracted-ends g p e (back e we) in leaves e (back e we) me (sym k.0 ∙ q ∙ k.1))
      (avoids_none (contracted g p) m)
      (λ i wc out. let wi : Within (length p) i = (let o = contracted-order g p in omega arith) in let f = meets i wi in
      (f.0, there f.0 f.1, f.2, in_end f.0 i f.1 wi f.3, λ e we me ee. f.4 e (back e we) me (end_in e i (back e we) wi ee)))

  -- a tight shore at p: its blocks and those outside are odd in number, and its cut in g has one
  -- edge of each perfect matching at p
  pub tight-words : (x : Set) → IsTightAt g p x → IsUnion g.order p x × (is_odd (block_count p x) ≡ true) × (is_odd (block_count p (complement x)) ≡ true) × ((m : Set) → IsPerfectAt g p m → edges_in_cut g m x ≡ 1)
  unfolding contracted
  tight-words x t = (t.union, t.tight.odd, ap is_odd (sym (block_count_rest g.order p pp x t.union)) ∙ t.tight.odd_complement, λ m h. sym (edges-in-cut-at g p x is pp t.union m) ∙ t.tight.cut m h)

  -- and the other way round
  pub words-tight : (x : Set) → IsUnion g.order p x → is_odd (block_count p x) ≡ true → is_odd (block_count p (complement x)) ≡ true → ((m : Set) → IsPerfectAt g p m → edges_in_cut g m x ≡ 1) → IsTightAt g p x
  unfolding contracted
  words-tight x u odd other h = grind (arith, block_count_rest g.order p pp x u, edges-in-cut-at g p x is pp u)
