-- Unions of blocks block by block: how many blocks are in them, and uncrossing at a partition. A
-- union of blocks is counted at the first vertex of each block; uncrossing is that of the
-- contracted graph.
use Rattle.vset_core.proofs.from_counting.Common.{◌≡◌, ℕ, suc, zero, ◌+◌, ◌*◌, ◌≤◌, Bool, true, false, ◌==◌, refl, sym, ap, ap₂, ◌∙◌, arith, ◌&&◌, ◌||◌, not, eq-eqb, eqb-true, inl, inr, List, length, cases_Bool, both_ways, and_parts, and_from, cases_eq, get_or-map, count_congr, some_true, true_some, total_add, total_congr, apart_denied, bit_parted, not_not, Within, bit, count, is_odd, total, mem, Set, complement, meet, minus, none, union, some}
use Rattle.graph_core.proofs.Blocks.{contracted-graph, contracted-size, first, in_union, place_in, place_is}
use Rattle.graph_core.proofs.Carrying.{image, total_image}
use Rattle.graph_core.proofs.Contraction.{tight_from_cut}
use Rattle.graph_core.proofs.Decide.{covered_perfect}
use Rattle.graph_core.proofs.SameSets.{cut_congr}
use Rattle.graph_core.proofs.Uncrossing.{meet_tight, no_edge_joins, union_tight}
use Rattle.graph_core.specs.Common.{IsCovered, Graph, IsGraph, connects, first_end, second_end, size, IsPerfect, AreBlocks, block, contracted, place, block_count, IsTightAt, IsUnion, blocks_in}

-- Blocks by their first vertices, numbers of blocks, and both laws of tight cuts at a partition.

-- the first vertex of a block
abbrev pub rep : List (List ℕ) → ℕ → ℕ
rep p i = first (block p i)

-- as many pass on both sides of a bijection
pub count_over : (n m : ℕ) (x y : Set) (f b : ℕ → ℕ) →
    ((i : ℕ) → Within n i → x i ≡ true → Within m (f i) × (y (f i) ≡ true) × (b (f i) ≡ i)) →
    ((j : ℕ) → Within m j → y j ≡ true → Within n (b j) × (x (b j) ≡ true) × (f (b j) ≡ j)) → count n x ≡ count m y
unfolding image
count_over n m x y f b there back =
    let t = total_image n m x f (λ i. 1) (λ i w h. (there i w h).0) (λ d e wd we hd he q. sym (there d wd hd).2 ∙ ap b q ∙ (there e we he).2) in
    total_congr n _ _ (λ i w. let z = bit (x i) in omega arith) ∙ sym t ∙ total_congr m _ _ (λ j w. ap (λ s. bit s * 1) (same j w (y j) refl) ∙ (grind arith))
  where
    same : (j : ℕ) → Within m j → (s : Bool) → y j ≡ s → some n (λ e. x e && (f e == j)) ≡ y j
    same j w true h = let r = back j w h in true_some n (λ e. x e && (f e == j)) (b j) r.0 (and_from (x (b j)) (f (b j) == j) r.1 (eq-eqb (f (b j)) j r.2)) ∙ sym h
    same j w false h = grind (arith, cases_Bool, some_true n, and_parts, both_ways (y j) h, eqb-true)

module _ (n : ℕ) (p : List (List ℕ)) (pp : AreBlocks n p) where
  pub rep_in : (i : ℕ) → Within (length p) i → Within n (rep p i) × (mem (block p i) (rep p i) ≡ true)
  rep_in i w = let f = pp.full i w in let h = own (block p i) f.0 f.2 in (pp.within i (rep p i) w h, h)
    where
      own : (vs : List ℕ) (v : ℕ) → mem vs v ≡ true → mem vs (first vs) ≡ true
      own vs v h = grind arith

  pub rep_place : (i : ℕ) → Within (length p) i → place p (rep p i) ≡ i
  rep_place i w = sym (place_is n p pp (rep p i) i (rep_in i w).0 w (rep_in i w).1)

  pub place_rep : (v : ℕ) → Within n v → place p (rep p (place p v)) ≡ place p v
  place_rep v w = rep_place (place p v) (place_in n p pp v w).0

  pub at_rep : (x : Set) → IsUnion n p x → (i : ℕ) → Within (length p) i → blocks_in p x i ≡ x (rep p i)
  at_rep x u i w = in_union n p x pp u i (rep p i) w (rep_in i w).1

  pub at_place : (x : Set) → IsUnion n p x → (v : ℕ) → Within n v → blocks_in p x (place p v) ≡ x v
  at_place x u v w = in_union n p x pp u (place p v) v (place_in n p pp v w).0 (place_in n p pp v w).1

  -- sets that agree on 1 to n
  pub union_congr : (x y : Set) → ((v : ℕ) → Within n v → x v ≡ y v) → IsUnion n p x → IsUnion n p y
  union_congr x y h u a b wa wb e = sym (h a wa) ∙ u a b wa wb e ∙ h b wb

  pub union_rest : (x : Set) → IsUnion n p x → IsUnion n p (complement x)
  union_rest x u a b wa wb e = ap not (u a b wa wb e)

  pub union_meet : (x y : Set) → IsUnion n p x → IsUnion n p y → IsUnion n p (meet x y)
  union_meet x y u t a b wa wb e = ap₂ ◌&&◌ (u a b wa wb e) (t a b wa wb e)

  pub union_join : (x y : Set) → IsUnion n p x → IsUnion n p y → IsUnion n p (union x y)
  union_join x y u t a b wa wb e = ap₂ ◌||◌ (u a b wa wb e) (t a b wa wb e)

  pub union_minus : (x y : Set) → IsUnion n p x → IsUnion n p y → IsUnion n p (minus x y)
  union_minus x y u t a b wa wb e = ap₂ (λ s r. s && not r) (u a b wa wb e) (t a b wa wb e)

module _ (n : ℕ) (p : List (List ℕ)) (pp : AreBlocks n p) where
  pub block_count_congr : (x y : Set) → ((v : ℕ) → Within n v → x v ≡ y v) → IsUnion n p x → block_count p x ≡ block_count p y
  block_count_congr x y h u = count_congr (length p) _ _ (λ i w. at_rep n p pp x u i w ∙ h (rep p i) (rep_in n p pp i w).0 ∙ sym (at_rep n p pp y (union_congr n p pp x y h u) i w))

  pub block_count_rest : (x : Set) → IsUnion n p x → count (length p) (complement (blocks_in p x)) ≡ block_count p (complement x)
  block_count_rest x u = count_congr (length p) _ _ (λ i w. ap not (at_rep n p pp x u i w) ∙ sym (at_rep n p pp (complement x) (union_rest n p pp x u) i w))

  -- two parts
  pub block_count_parts : (x y : Set) → IsUnion n p x → IsUnion n p y → block_count p x ≡ block_count p (meet x y) + block_count p (minus x y)
  block_count_parts x y u t =
      total_congr (length p) _ _ (λ i w. ap bit (at_rep n p pp x u i w) ∙ bit_parted (x (rep p i)) (y (rep p i)) ∙ ap₂ (λ a b. bit a + bit b) (sym (at_rep n p pp (meet x y) (union_meet n p pp x y u t) i w)) (sym (at_rep n p pp (minus x y) (union_minus n p pp x y u t) i w)))
      ∙ total_add (length p) (λ i. bit (blocks_in p (meet x y) i)) (λ i. bit (blocks_in p (minus x y) i))

  pub block_count_some : (x : Set) → IsUnion n p x → (v : ℕ) → Within n v → x v ≡ true → 1 ≤ block_count p x
  block_count_some x u v w h = let a = at_le_number in let b : bit (blocks_in p x (place p v)) ≡ 1 = ap bit (at_place n p pp x u v w ∙ h) in omega arith
    where
      at_le_number : bit (blocks_in p x (place p v)) ≤ block_count p x
      at_le_number = at_le (length p) (λ i. bit (blocks_in p x i)) (place p v) (place_in n p pp v w).0
        where
          at_le : (k : ℕ) (f : ℕ → ℕ) (a : ℕ) → Within k a → f a ≤ total k f
          at_le zero f a w = omega arith
          at_le (suc k) f a w = elim (cases_eq a (suc k)) [
            | inl e ↦ omega (arith, ap f e)
            | inr e ↦ omega (arith, at_le k f a (omega arith))
          ]

-- tight at p, by the cut alone
module _ (g : Graph) (is : IsGraph g) (p : List (List ℕ)) (pp : AreBlocks g.order p) where
  pub tight_congr : (x y : Set) → ((v : ℕ) → Within g.order v → x v ≡ y v) → IsTightAt g p x → IsTightAt g p y
  unfolding contracted
  tight_congr x y h t =
      let u = union_congr g.order p pp x y h t.union in
      let s : (i : ℕ) → Within (length p) i → blocks_in p x i ≡ blocks_in p y i = λ i w. at_rep g.order p pp x t.union i w ∙ h (rep p i) (rep_in g.order p pp i w).0 ∙ sym (at_rep g.order p pp y u i w) in
      record {
        union = u;
        tight = record {
          odd = ap is_odd (sym (count_congr (length p) _ _ s)) ∙ t.tight.odd;
          odd_complement = ap is_odd (sym (count_congr (length p) _ _ (λ i w. ap not (s i w)))) ∙ t.tight.odd_complement;
          cut = cut_congr (contracted g p) (blocks_in p x) (blocks_in p y) (contracted-graph g p is pp) s t.tight.cut;
        };
      }

  pub tight_rest : (x : Set) → IsTightAt g p x → IsTightAt g p (complement x)
  unfolding contracted
  tight_rest x t =
      let u = union_rest g.order p pp x t.union in
      let s : (i : ℕ) → Within (length p) i → complement (blocks_in p x) i ≡ blocks_in p (complement x) i = λ i w. ap not (at_rep g.order p pp x t.union i w) ∙ sym (at_rep g.order p pp (complement x) u i w) in
      record {
        union = u;
        tight = record {
          odd = ap is_odd (sym (count_congr (length p) _ _ s)) ∙ t.tight.odd_complement;
          odd_complement = ap is_odd (count_congr (length p) _ _ (λ i w. ap not (sym (s i w)) ∙ not_not (blocks_in p x i))) ∙ t.tight.odd;
          cut = cut_congr (contracted g p) (complement (blocks_in p x)) (blocks_in p (complement x)) (contracted-graph g p is pp) s (λ m k. count_congr (size (contracted g p)) _ _ (λ e w. apart_denied (m e) (blocks_in p x (first_end (contracted g p) e)) (blocks_in p x (second_end (contracted g p) e))) ∙ t.tight.cut m k);
        };
      }

  -- uncrossing at the partition p
  module _ (cov : IsCovered (contracted g p)) (x y : Set) (tx : IsTightAt g p x) (ty : IsTightAt g p y) (odd : is_odd (block_count p (meet x y)) ≡ true) where
    met : (i : ℕ) → Within (length p) i → meet (blocks_in p x) (blocks_in p y) i ≡ blocks_in p (meet x y) i
    met i w = ap₂ ◌&&◌ (at_rep g.order p pp x tx.union i w) (at_rep g.order p pp y ty.union i w) ∙ sym (at_rep g.order p pp (meet x y) (union_meet g.order p pp x y tx.union ty.union) i w)

    joined : (i : ℕ) → Within (length p) i → union (blocks_in p x) (blocks_in p y) i ≡ blocks_in p (union x y) i
    joined i w = ap₂ ◌||◌ (at_rep g.order p pp x tx.union i w) (at_rep g.order p pp y ty.union i w) ∙ sym (at_rep g.order p pp (union x y) (union_join g.order p pp x y tx.union ty.union) i w)

    odd_met : is_odd (count (contracted g p).order (meet (blocks_in p x) (blocks_in p y))) ≡ true
    unfolding contracted
    odd_met = ap is_odd (count_congr (length p) _ _ met) ∙ odd

    base : (m : Set) × IsPerfect (contracted g p) none m
    base = covered_perfect (contracted g p) (contracted-graph g p is pp) cov

    pub meet_tight_at : IsTightAt g p (meet x y)
    unfolding contracted
    meet_tight_at = record {
      union = union_meet g.order p pp x y tx.union ty.union;
      tight = tight_from_cut (contracted g p) (blocks_in p (meet x y)) base.0 (contracted-graph g p is pp) base.1
          (cut_congr (contracted g p) _ _ (contracted-graph g p is pp) met (meet_tight (contracted g p) (contracted-graph g p is pp) cov (blocks_in p x) (blocks_in p y) tx.tight ty.tight odd_met).cut);
    }

    pub union_tight_at : IsTightAt g p (union x y)
    unfolding contracted
    union_tight_at = record {
      union = union_join g.order p pp x y tx.union ty.union;
      tight = tight_from_cut (contracted g p) (blocks_in p (union x y)) base.0 (contracted-graph g p is pp) base.1
          (cut_congr (contracted g p) _ _ (contracted-graph g p is pp) joined (union_tight (contracted g p) (contracted-graph g p is pp) cov (blocks_in p x) (blocks_in p y) tx.tight ty.tight odd_met).cut);
    }

    -- and no edge joins the two differences
    pub no_edge_at : (e : ℕ) → Within (size g) e → connects g (minus x y) (minus y x) e ≡ false
    unfolding contracted
    no_edge_at e w =
        let s = contracted-size g p in
        let n = no_edge_joins (contracted g p) (contracted-graph g p is pp) cov (blocks_in p x) (blocks_in p y) tx.tight ty.tight odd_met e (omega arith, omega arith) in
        let en = ends_of e w in
        let xn = ap (blocks_in p x) en.0 ∙ at_place g.order p pp x tx.union (first_end g e) (is e w).0 in
        let xf = ap (blocks_in p x) en.1 ∙ at_place g.order p pp x tx.union (second_end g e) (is e w).1 in
        let yn = ap (blocks_in p y) en.0 ∙ at_place g.order p pp y ty.union (first_end g e) (is e w).0 in
        let yf = ap (blocks_in p y) en.1 ∙ at_place g.order p pp y ty.union (second_end g e) (is e w).1 in
        same (blocks_in p x (first_end (contracted g p) e)) (x (first_end g e)) (blocks_in p x (second_end (contracted g p) e)) (x (second_end g e)) (blocks_in p y (first_end (contracted g p) e)) (y (first_end g e)) (blocks_in p y (second_end (contracted g p) e)) (y (second_end g e)) xn xf yn yf n
      where
        same : (a b c d e f i j : Bool) → a ≡ b → c ≡ d → e ≡ f → i ≡ j → (((a && not e) && (i && not c)) || ((e && not a) && (c && not i))) ≡ false → (((b && not f) && (j && not d)) || ((f && not b) && (d && not j))) ≡ false
        same a b c d e f i j p q r s h = sym (ap₂ (λ z w. ((z && not f) && (j && not w)) || ((f && not z) && (w && not j))) p q) ∙ sym (ap₂ (λ z w. ((a && not z) && (w && not c)) || ((z && not a) && (c && not w))) r s) ∙ h

        ends_of : (e : ℕ) → Within (size g) e → (first_end (contracted g p) e ≡ place p (first_end g e)) × (second_end (contracted g p) e ≡ place p (second_end g e))
        ends_of e w = grind (arith, get_or-map)
