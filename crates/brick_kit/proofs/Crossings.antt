-- Two tight shores X and Y that cross: X ∩ Y or X ∪ Y is nontrivial, or the vertex in X ∩ Y and the
-- vertex outside X ∪ Y separate the graph. If |X ∩ Y| is even, the complement of Y is taken
-- instead. No edge joins X - Y with Y - X.
use Rattle.graph_core.proofs.from_counting.Common.{◌≡◌, ℕ, ◌≤◌, Bool, true, false, cond, ◌==◌, ◌&&◌, ◌||◌, not, sym, ap, ◌∙◌, arith, inl, inr, ◌⊎◌, ne_eqb, eqb-false, and_from, and_parts, both_ways, cases_Bool, not-true, or_from, or_parts, true≢false, or_left, only_one, count_member, odd-add, odd_three, count_mono, count_split, Within, count, is_odd, Set, complement, meet, minus, pair_set, union}
use Rattle.graph_core.proofs.Common.{no_edge_joins, union_tight, IsCovered, Graph, HasEnds, IsGraph, connects, first_end, in_cut, second_end, size, IsCutPair, IsNontrivial, IsTight}
use Rattle.separation_kit.proofs.from_barrier_kit.Common.{tight-turned}
use Rattle.brick_kit.proofs.CutEnds.{cut_ends, ends_within}
use Rattle.brick_kit.proofs.PairSeparations.{beside_ends, separates}
use Rattle.brick_kit.proofs.PartingShores.{ApartEdges}

-- tight x and t, an odd number of vertices in both, a in x alone, b in t alone
pub record Crossing (g : Graph) (x t : Set) (a b : ℕ) : Type 0 where
  pub first : IsTight g x
  pub second : IsTight g t
  pub odd : is_odd (count g.order (meet x t)) ≡ true
  pub a_real : Within g.order a
  pub b_real : Within g.order b
  pub left : (x a ≡ true) × (t a ≡ false)
  pub right : (x b ≡ false) × (t b ≡ true)

pub odd_crossing : (g : Graph) (x t : Set) (d : ApartEdges g x) → IsGraph g → IsTight g x → IsTight g t → is_odd (count g.order (meet x t)) ≡ true → t d.u ≡ t d.v → t d.u' ≡ t d.v' → t d.u ≡ not (t d.u') →
    (a : ℕ) × (b : ℕ) × Crossing g x t a b
odd_crossing g x t d is tx h odd p p' q = grind arith

pub turned : (g : Graph) (x t : Set) (d : ApartEdges g x) → IsGraph g → IsTight g x → IsTight g t → t d.u ≡ t d.v → t d.u' ≡ t d.v' → t d.u ≡ not (t d.u') →
    ((a : ℕ) × (b : ℕ) × Crossing g x t a b) ⊎ ((a : ℕ) × (b : ℕ) × Crossing g x (complement t) a b)
turned g x t d is tx tt p p' q = elim (cases_Bool (is_odd (count g.order (meet x t)))) [
  | inl o ↦ inl (odd_crossing g x t d is tx tt o p p' q)
  | inr o ↦ inr (odd_crossing g x (complement t) d is tx (tight-turned g t tt)
      (other (is_odd (count g.order (meet x t))) (is_odd (count g.order (minus x t))) (sym (ap is_odd (count_split g.order x t) ∙ odd-add (count g.order (meet x t)) (count g.order (minus x t))) ∙ tx.odd) o)
      (ap not p) (ap not p') (ap not q))
]
  where
    other : (a b : Bool) → cond a (not b) b ≡ true → a ≡ false → b ≡ true
    other a b h k = grind arith

pub meet_wide : (g : Graph) (x t : Set) (a b : ℕ) → Crossing g x t a b → IsNontrivial g.order x → 2 ≤ count g.order (meet x t) → IsNontrivial g.order (meet x t)
meet_wide g x t a b c wide two = grind (arith, odd_three (count g.order (meet x t)) c.odd two, count_mono g.order (complement x) (complement (meet x t)), true≢false)

pub union_wide : (g : Graph) (x t : Set) (a b : ℕ) → IsGraph g → IsCovered g → Crossing g x t a b → IsNontrivial g.order x → 2 ≤ count g.order (complement (union x t)) → IsNontrivial g.order (union x t)
union_wide g x t a b is cov c wide two = grind (arith, count_mono g.order x (union x t), or_left, union_tight g is cov x t c.first c.second c.odd, odd_three (count g.order (complement (union x t))))

-- an edge with one end in y and the other in z connects them
pub joins : (g : Graph) (y z : Set) (e u v : ℕ) → HasEnds g e u v → y u ≡ true → z v ≡ true → connects g y z e ≡ true
joins g y z e u v ends yu zv = grind arith

pub single_corners : (g : Graph) (x t : Set) (a b : ℕ) → IsGraph g → IsCovered g → Crossing g x t a b → count g.order (meet x t) ≡ 1 → count g.order (complement (union x t)) ≡ 1 → (c : ℕ) × (d : ℕ) × IsCutPair g c d
single_corners g x t a b is cov k one one' = (
  c.0,
  d.0,
  separates g c.0 d.0 x a b is c.1 d.1 (λ q. both_ways (x d.0) dd.0 (ap x (sym q) ∙ cc.0)) k.a_real k.b_real
      (or_from (c.0 == a) (d.0 == a) (ne_eqb c.0 a (λ q. both_ways (t a) k.left.1 (ap t (sym q) ∙ cc.1))) (ne_eqb d.0 a (λ q. both_ways (x d.0) dd.0 (ap x q ∙ k.left.0))))
      (or_from (c.0 == b) (d.0 == b) (ne_eqb c.0 b (λ q. both_ways (x b) k.right.0 (ap x (sym q) ∙ cc.0))) (ne_eqb d.0 b (λ q. both_ways (t d.0) dd.1 (ap t q ∙ k.right.1))))
      k.left.0 k.right.0 stays,
)
  where
    c : (w : ℕ) × Within g.order w × (meet x t w ≡ true)
    c = count_member g.order (meet x t) (omega arith)

    d : (w : ℕ) × Within g.order w × (complement (union x t) w ≡ true)
    d = count_member g.order (complement (union x t)) (omega arith)

    cc : (x c.0 ≡ true) × (t c.0 ≡ true)
    cc = and_parts (x c.0) (t c.0) c.2

    dd : (x d.0 ≡ false) × (t d.0 ≡ false)
    dd = or_parts (x d.0) (t d.0) (not-true (x d.0 || t d.0) d.2)

    stays : (e : ℕ) → Within (size g) e → pair_set c.0 d.0 (first_end g e) ≡ false → pair_set c.0 d.0 (second_end g e) ≡ false → in_cut g x e ≡ false
    stays e we p q = elim (cases_Bool (in_cut g x e)) [
      | inr f ↦ f
      | inl h ↦
          let n = cut_ends g x e h in
          let o = beside_ends g (pair_set c.0 d.0) e n.0 n.1 n.2 p q in
          let wu = (ends_within g is e n.0 n.1 we n.2).0 in
          let wv = (ends_within g is e n.0 n.1 we n.2).1 in
          absurd (both_ways (connects g (minus x t) (minus t x) e) (no_edge_joins g is cov x t k.first k.second k.odd e we)
          (joins g (minus x t) (minus t x) e n.0 n.1 n.2
          (first_alone (x n.0) (t n.0) n.3 (λ tu. eqb-false c.0 n.0 (or_parts (c.0 == n.0) (d.0 == n.0) o.0).0 (only_one g.order (meet x t) one c.0 n.0 c.1 wu c.2 (and_from (x n.0) (t n.0) n.3 tu))))
          (second_alone (x n.1) (t n.1) n.4 (λ tv. eqb-false d.0 n.1 (or_parts (c.0 == n.1) (d.0 == n.1) o.1).1 (only_one g.order (complement (union x t)) one' d.0 n.1 d.1 wv d.2 (ap not (or_from (x n.1) (t n.1) n.4 tv)))))))
    ]
      where
        first_alone : (i j : Bool) → i ≡ true → (j ≡ true → ⊥) → (i && not j) ≡ true
        first_alone i j h l = grind arith

        second_alone : (i j : Bool) → i ≡ false → (j ≡ false → ⊥) → (j && not i) ≡ true
        second_alone i j h l = grind arith
