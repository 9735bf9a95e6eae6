-- Clusters at a place of a derivation. What is tight at a merged partition was tight before, and a
-- nontrivial shore has no more blocks there than before: so clusters stay clusters below a cut. And
-- what is tight at a place is a union of blocks whose set is tight in the quotient, so clusters
-- there and clusters of the quotient are made of one another.
use Rattle.graph_core.proofs.from_counting.Common.{◌≡◌, ℕ, ◌+◌, ◌≤◌, ◌<◌, ◌-◌, true, List, [], ◌∷◌, ◌++◌, length, get_or, slice_get, Some, sym, ap, ◌∙◌, arith, inl, inr, subst, slice_get_within, cases_eq, get_or-append_seam, get_or_append_left, get_or_from_slice_get, mem-within, member_count, member-of_set, rising_list-rises, Within, item, last_of, mem, complement, IsRisingIn, Set}
use Rattle.tree_core.proofs.from_contraction.MergedQuotients.{tight-before}
use Rattle.tree_core.proofs.from_contraction.QuotientLaws.{tight_at_up}
use Rattle.graph_core.proofs.Common.{at_place, block_count_around, block_count_outside, block_count_rest, closed_up, complement-tight, complement_of-rises, inside_or_apart, in_union, mem_last, merge_of, place_in, shore-some, singles-tight, tight-singles, union_rest, IsCovered, Graph, IsGraph, AreBlocks, IsPartition, block, complement_of, merged, place, quotient, singles, union_of_blocks, IsTightAt, IsUnion, block_count, blocks_in, IsNontrivial}
use Rattle.tree_core.proofs.Common.{seen-vertices, as_many-singles, IsCutAt, kept_at, merged_at, seen_at}
use Rattle.tight_cuts.proofs.LiftedCandidates.{nontrivial-single, order_q, single-nontrivial, union-blocks, union-holds, union-nontrivial, union-tight, union-union}
use Rattle.tight_cuts.specs.Common.{AreClusters, AreClustersAt}

-- below a cut that merges the tight shore x
module _ (g : Graph) (p : List (List ℕ)) (x : List ℕ) (is : IsGraph g) (pp : IsPartition g.order p) (covered : IsCovered (quotient g p)) (rises : IsRisingIn g.order x) (tight : IsTightAt g p (mem x)) where
  some : (v : ℕ) × Within g.order v × (mem x v ≡ true)
  some = member-of_set g.order x rises (shore-some g is p pp.partition x tight)

  -- a union of new blocks has no more of them than of the old
  fewer : (y : Set) → IsUnion g.order (merged p x) y → block_count (merged p x) y ≤ block_count p y
  fewer y union =
      let merge = merge_of g is p x pp.partition tight some (mem-within g.order x rises) in
      let one = member_count (length p) (blocks_in p (mem x)) (place p some.0) (place_in g.order p pp.partition some.0 some.1).0 (at_place g.order p pp.partition (mem x) tight.union some.0 some.1 ∙ some.2) in
      elim (inside_or_apart g.order p (merged p x) (mem x) pp.partition tight.union merge some y union) [
        | inl below ↦ let e = block_count_around g.order p (merged p x) (mem x) pp.partition tight.union merge some y union below in omega arith
        | inr apart ↦ let e = block_count_outside g.order p (merged p x) (mem x) pp.partition tight.union merge y union apart in omega arith
      ]

  -- so what is nontrivial then was nontrivial before
  before : (y : Set) → IsTightAt g (merged p x) y → IsNontrivial (length (merged p x)) (blocks_in (merged p x) y) → IsNontrivial (length p) (blocks_in p y)
  before y t new =
      let merge = merge_of g is p x pp.partition tight some (mem-within g.order x rises) in
      let old = closed_up g.order p (merged p x) (mem x) pp.partition tight.union merge y t.union in
      let inside = fewer y t.union in
      let outside = fewer (complement y) (union_rest g.order (merged p x) merge.partition y t.union) in
      let rest = block_count_rest g.order p pp.partition y old in
      let rest_new = block_count_rest g.order (merged p x) merge.partition y t.union in
      let least = new.inside in
      let least_outside = new.outside in
      record { inside = omega arith; outside = omega arith }

  below : (rows : List (List ℕ)) → AreClustersAt g p rows → AreClustersAt g (merged p x) rows
  below rows c = grind (arith, tight-before, before)

-- clusters stay clusters at both places below a cut
module _ (g : Graph) (p : List (List ℕ)) (x : List ℕ) (rows : List (List ℕ)) (is : IsGraph g) (pp : IsPartition g.order p) (covered : IsCovered (quotient g p)) (cuts : IsCutAt g p x) (c : AreClustersAt g p rows) where
  pub clusters_merged : AreClustersAt g (merged_at g.order p x) rows
  clusters_merged = below g p x is pp covered cuts.set cuts.tight rows c

  pub clusters_kept : AreClustersAt g (kept_at g.order p x) rows
  clusters_kept = below g p (complement_of g.order x) is pp covered (complement_of-rises g.order x) (complement-tight g is p pp.partition x cuts.tight) rows c

-- a block has its name
module _ (n : ℕ) (p : List (List ℕ)) (blocks : AreBlocks n p) where
  name-in : (i : ℕ) → Within (length p) i → Within n (last_of (block p i)) × (mem (block p i) (last_of (block p i)) ≡ true)
  name-in i w = let f = blocks.full i w in let m = mem_last (block p i) f.0 f.2 in (blocks.within i (last_of (block p i)) w m, m)

  -- and the name of a listed one is a vertex
  pub name-listed : (i name : ℕ) (b : List ℕ) → slice_get p i ≡ Some b → name ≡ last_of b → Within (length p) (i + 1) × Within n name × (name ≡ last_of (block p (i + 1)))
  name-listed i name b is named =
      let less : i < length p = slice_get_within p i b is in
      let w : Within (length p) (i + 1) = (omega arith, omega arith) in
      let back : i + 1 - 1 ≡ i = omega arith in
      let own : name ≡ last_of (block p (i + 1)) = named ∙ ap last_of (sym (get_or_from_slice_get p i b [] is) ∙ ap (λ k. get_or p k []) (sym back)) in
      (w, subst (Within n) (sym own) (name-in (i + 1) w).0, own)

-- one row more
pub item-pushed : (rows : List (List ℕ)) (new : List ℕ) (k : ℕ) (f : ℕ → List ℕ) → length rows ≡ k → ((v : ℕ) → Within k v → item rows v ≡ f v) → new ≡ f (k + 1) → (v : ℕ) → Within (k + 1) v → item (rows ++ new ∷ []) v ≡ f v
item-pushed rows new k f long old last v w = elim (cases_eq v (k + 1)) [
  | inl e ↦ ap (λ i. get_or (rows ++ new ∷ []) i []) (let r : v - 1 ≡ length rows = omega arith in r) ∙ get_or-append_seam rows new [] [] ∙ last ∙ ap f (sym e)
  | inr d ↦ get_or_append_left rows (new ∷ []) [] (v - 1) (omega arith) ∙ old v (w.0, omega arith)
]

module _ (g : Graph) (p : List (List ℕ)) (is : IsGraph g) (pp : IsPartition g.order p) where
  -- clusters of the quotient from those at the place, by the names of the blocks
  of_blocks : (rows sets : List (List ℕ)) → AreClustersAt g p rows → length sets ≡ length p →
      ((i j : ℕ) → Within (length p) i → mem (item sets i) j ≡ true → Within (length p) j × (mem (item rows (last_of (block p i))) (last_of (block p j)) ≡ true)) → AreClusters (quotient g p) sets
  of_blocks rows sets c long each = record {
    one_each = long ∙ sym (order_q g p is pp);
    unparted = λ i j w h x t new.
        let wi : Within (length p) i = subst (λ n. Within n i) (order_q g p is pp) w in
        let r = each i j wi h in
        let union = union-union g p is pp x in
        let here = name-in g.order p pp.partition i wi in
        let there = name-in g.order p pp.partition j r.0 in
        let same = c.unparted (last_of (block p i)) (last_of (block p j)) here.0 r.1 (mem (union_of_blocks g p x)) (union-tight g p is pp x t) (union-nontrivial g p is pp x new) in
        union-blocks g p is pp x i wi ∙ in_union g.order p (mem (union_of_blocks g p x)) pp.partition union i (last_of (block p i)) wi here.1 ∙ same
        ∙ sym (in_union g.order p (mem (union_of_blocks g p x)) pp.partition union j (last_of (block p j)) r.0 there.1) ∙ sym (union-blocks g p is pp x j r.0);
  }

  pub clusters-of_blocks : (q rows sets : List (List ℕ)) → q ≡ p → AreClustersAt g p rows → length sets ≡ length q →
      ((i j : ℕ) → Within (length q) i → mem (item sets i) j ≡ true → Within (length q) j × (mem (item rows (last_of (block q i))) (last_of (block q j)) ≡ true)) → AreClusters (quotient g p) sets
  clusters-of_blocks q rows sets same c long each = grind (arith, of_blocks, mem, item, last_of, block)

  -- and back: each vertex has the blocks of the cluster of its own
  of_vertices : (sets rows : List (List ℕ)) → AreClusters (quotient g p) sets → length rows ≡ g.order →
      ((v : ℕ) → Within g.order v → item rows v ≡ union_of_blocks g p (mem (item sets (place p v)))) → AreClustersAt g p rows
  of_vertices sets rows c long each = record {
    one_each = long;
    unparted = λ u v w h x t new.
        let s = item sets (place p u) in
        let held : mem (union_of_blocks g p (mem s)) v ≡ true = ap (λ (r : List ℕ). mem r v) (sym (each u w)) ∙ h in
        let wv : Within g.order v = mem-within g.order (union_of_blocks g p (mem s)) (rising_list-rises g.order _) v held in
        let own = sym (order_q g p is pp) in
        let same = c.unparted (place p u) (place p v) (subst (λ n. Within n (place p u)) own (place_in g.order p pp.partition u w).0) (sym (union-holds g p is pp (mem s) v wv) ∙ held)
        (blocks_in p x) (tight_at_up g p is pp.partition x t) (subst (λ n. IsNontrivial n (blocks_in p x)) own new) in
        sym (at_place g.order p pp.partition x t.union u w) ∙ same ∙ at_place g.order p pp.partition x t.union v wv;
  }

  pub clusters-of_vertices : (q sets rows : List (List ℕ)) → q ≡ p → AreClusters (quotient g p) sets → length rows ≡ g.order →
      ((v : ℕ) → Within g.order v → item rows v ≡ union_of_blocks g q (mem (item sets (place q v)))) → AreClustersAt g p rows
  clusters-of_vertices q sets rows same c long each = grind (arith, of_vertices, item, union_of_blocks, mem, place)

  -- at single vertices the clusters are those of the graph
  module _ (many : length p ≡ g.order) (rows : List (List ℕ)) where
    pub clusters-seen : AreClustersAt g p rows → AreClusters (seen_at g p) rows
    clusters-seen c =
        let at : AreClustersAt g (singles g.order) rows = subst (λ (q : List (List ℕ)). AreClustersAt g q rows) (as_many-singles g.order p pp many) c in
        subst (λ (h : Graph). AreClusters h rows) (sym (seen-vertices g p many))
        (record { one_each = at.one_each; unparted = λ u v w h x t new. at.unparted u v w h x (singles-tight g x is t) (single-nontrivial g is x new) })

    pub seen-clusters : AreClusters (seen_at g p) rows → AreClustersAt g p rows
    seen-clusters c =
        let of : AreClusters g rows = subst (λ (h : Graph). AreClusters h rows) (seen-vertices g p many) c in
        subst (λ (q : List (List ℕ)). AreClustersAt g q rows) (sym (as_many-singles g.order p pp many))
        (record { one_each = of.one_each; unparted = λ u v w h x t new. of.unparted u v w h x (tight-singles g x is t) (nontrivial-single g is x new) })
