-- At the partition into single vertices the contracted graph is the graph itself, so what is said
-- at that partition is what is said of the graph; at any partition the edges in the cut of a
-- union of blocks are those of the graph.
use Rattle.std.proofs.Common.{◌≡◌, ℕ, suc, ◌+◌, ◌-◌, ◌&&◌, List, [], ◌∷◌, length, map, cond, get_or, refl, sym, ap, ap₂, ◌∙◌, arith, subst, le-leb}
use Rattle.vset_core.proofs.from_counting.Common.{get_or-map, count_congr, and_true, Within, count, all_in, Set}
use Rattle.graph_core.proofs.BlockSets.{at_place}
use Rattle.graph_core.proofs.Blocks.{contracted-size}
use Rattle.graph_core.proofs.SameSets.{tight-same}
use Rattle.graph_core.proofs.Singles.{block-singles, length-singles, place_singles}
use Rattle.graph_core.specs.Common.{Graph, IsGraph, edges_in_cut, first_end, in_cut, second_end, size, AreBlocks, contracted, place, singles, IsTightAt, IsUnion, blocks_in, IsTight}

own-place : (n v : ℕ) → Within n v → place (singles n) v ≡ v
own-place n v w = place_singles n v w.0 ∙ ap (λ b. cond b v (n + 1)) (le-leb v n w.1)

-- pairs of vertices are led to themselves
same-pairs : (n : ℕ) (ends : List (ℕ × ℕ)) → ((e : ℕ) → Within (length ends) e → Within n (get_or ends (e - 1) (0, 0)).0 × Within n (get_or ends (e - 1) (0, 0)).1) → map (λ (d : ℕ × ℕ). (place (singles n) d.0, place (singles n) d.1)) ends ≡ ends
same-pairs n [] h = refl
same-pairs n (d ∷ ends) h =
    let w = h 1 (omega arith) in
    ap₂ (λ (k : ℕ × ℕ) (ks : List (ℕ × ℕ)). k ∷ ks) (ap₂ (λ (a b : ℕ). (a, b)) (own-place n d.0 w.0) (own-place n d.1 w.1)) (same-pairs n ends (λ e we. let i : suc e - 1 ≡ suc (e - 1) = omega arith in
    subst (λ j. Within n (get_or (d ∷ ends) j (0, 0)).0 × Within n (get_or (d ∷ ends) j (0, 0)).1) i (h (suc e) (omega arith))))

-- the graph contracted at its single vertices
pub contracted-singles : (g : Graph) → IsGraph g → contracted g (singles g.order) ≡ g
unfolding contracted
contracted-singles g is = ap₂ (λ (n : ℕ) (ends : List (ℕ × ℕ)). record { order = n; ends = ends }) (length-singles g.order) (same-pairs g.order g.ends is)

-- every set is a union of single vertices, and contains its members
pub union-singles : (n : ℕ) (x : Set) → IsUnion n (singles n) x
union-singles n x u v wu wv e = ap x (sym (own-place n u wu) ∙ e ∙ own-place n v wv)

pub blocks-singles : (n : ℕ) (x : Set) (v : ℕ) → Within n v → blocks_in (singles n) x v ≡ x v
blocks-singles n x v w = ap (λ (b : List ℕ). all_in b x) (block-singles n v w) ∙ and_true (x v)

pub tight-singles : (g : Graph) (x : Set) → IsGraph g → IsTightAt g (singles g.order) x → IsTight g x
tight-singles g x is t = tight-same g (blocks_in (singles g.order) x) x is (blocks-singles g.order x) (subst (λ h. IsTight h (blocks_in (singles g.order) x)) (contracted-singles g is) t.tight)

pub singles-tight : (g : Graph) (x : Set) → IsGraph g → IsTight g x → IsTightAt g (singles g.order) x
singles-tight g x is t = grind (arith, union-singles g.order x, contracted-singles g is, tight-same g x (blocks_in (singles g.order) x) is, blocks-singles g.order x)

-- the cut of a union of blocks, edge by edge
module _ (g : Graph) (p : List (List ℕ)) (x : Set) (is : IsGraph g) (pp : AreBlocks g.order p) (union : IsUnion g.order p x) where
  ends : (e : ℕ) → Within (size g) e → get_or (contracted g p).ends (e - 1) (0, 0) ≡ (place p (first_end g e), place p (second_end g e))
  unfolding contracted
  ends e w = get_or-map (λ (d : ℕ × ℕ). (place p d.0, place p d.1)) g.ends (e - 1) (0, 0) (0, 0) (omega arith)

  pub in-cut-at : (e : ℕ) → Within (size g) e → in_cut (contracted g p) (blocks_in p x) e ≡ in_cut g x e
  in-cut-at e w = grind (arith, ends, at_place)

  pub edges-in-cut-at : (m : Set) → edges_in_cut (contracted g p) m (blocks_in p x) ≡ edges_in_cut g m x
  edges-in-cut-at m = ap (λ n. count n (λ e. m e && in_cut (contracted g p) (blocks_in p x) e)) (contracted-size g p) ∙ count_congr (size g) _ _ (λ e w. ap (λ b. m e && b) (in-cut-at e w))
