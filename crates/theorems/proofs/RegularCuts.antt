-- A tight cut of an r-graph has r edges. A perfect matching is heaviest for the weight "n, and one
-- more in the cut", so a cover weighs as much; its inequality is summed over all edges. So there is
-- no nontrivial tight cut if each nontrivial odd set has more than r edges in its cut.
use Rattle.tree_check.proofs.from_counting.Common.{◌≡◌, ℕ, suc, zero, ◌+◌, ◌*◌, ◌/◌, ◌≤◌, true, false, List, [], ◌∷◌, refl, sym, ap, ◌∙◌, arith, All, inl, inr, mul-add, mul-le-mul_left, mul_left_comm, All-head, All-tail, cases_lt, complement_odd, order_even, true≢false, bit, count, is_odd, total, Set, complement, everything, none}
use Rattle.quick_kinds.proofs.from_brick_kit.CoverBound.{Dual, cover_sum}
use Rattle.quick_kinds.proofs.from_brick_kit.CutWeights.{cut_weight, perfect_heaviest}
use Rattle.quick_kinds.proofs.from_brick_kit.Duality.{dual}
use Rattle.quick_kinds.proofs.from_brick_kit.EdgeSums.{weight_le}
use Rattle.quick_kinds.specs.from_brick_kit.Weights.{cover_value, covering, sum_over, weight_of}
use Rattle.graph_core.proofs.Common.{Graph, HasOnlyTrivialTightCuts, IsGraph, IsMultigraph, IsNontrivial, degree, edges_in_cut, in_cut, size, IsPerfect, IsTight}
use Rattle.theorems.proofs.BrickFacts.{turned_cut}
use Rattle.theorems.proofs.RegularDegrees.{all_edges, each_degree, few_inside, inner_size, perfect_size, two_inside, weighted_degrees}
use Rattle.theorems.proofs.RegularMatchings.{regular_perfect}
use Rattle.theorems.specs.RegularGraphs.{HasWideOddCuts, IsRegular, cut_size}

module _ (r : ℕ) (g : Graph) (is : IsGraph g) (regular : IsRegular r g) (wide : HasWideOddCuts r g) where
  few_inside_all : (us : List Set) → All (λ x. is_odd (count g.order x) ≡ true) us → sum_over (inner_size g) us ≤ r * sum_over (λ x. count g.order x / 2) us
  few_inside_all [] odd = omega arith
  few_inside_all (x ∷ us) odd =
      let a = few_inside r g x is regular wide (All-head (λ x. is_odd (count g.order x) ≡ true) x us odd) in
      let b = few_inside_all us (All-tail (λ x. is_odd (count g.order x) ≡ true) x us odd) in
      let c = mul-add r (count g.order x / 2) (sum_over (λ x. count g.order x / 2) us) in omega arith

  -- a cover, summed over all edges
  pub all_covered : (w : ℕ → ℕ) (d : Dual g w) → weight_of g w everything ≤ r * cover_value g d.y d.us
  all_covered w d =
      let c = d.cover in
      let l = weight_le g w (covering g d.y d.us) everything (λ e i h. c.enough e i) in
      settle (weight_of g w everything) (weight_of g (covering g d.y d.us) everything) (total g.order (λ v. d.y v * degree g everything v)) (sum_over (inner_size g) d.us) (total g.order d.y) (sum_over (λ x. count g.order x / 2) d.us)
      l (cover_sum g d.y d.us everything is) (weighted_degrees r g d.y regular) (few_inside_all d.us c.odd)
    where
      settle : (w c e s y h : ℕ) → w ≤ c → c ≡ e + s → e ≡ r * y → s ≤ r * h → w ≤ r * (y + h)
      settle w c e s y h a l m n = let q = mul-add r y h in omega arith

  module _ (x : Set) (t : IsTight g x) (p : Set) (pp : IsPerfect g none p) where
    abbrev weight : ℕ → ℕ
    weight e = g.order + bit (in_cut g x e)

    d : Dual g weight
    d = dual g weight is

    -- what the cover weighs
    cover_weight : cover_value g d.y d.us ≤ g.order * count (size g) p + 1
    cover_weight =
        let h = perfect_heaviest g x p is pp t.cut in
        let m = h.most d.m d.is in
        let e = d.equal in
        let c = cut_weight g g.order x p in
        let k = t.cut p pp in settle (weight_of g weight d.m) (cover_value g d.y d.us) (weight_of g weight p) (g.order * count (size g) p) (edges_in_cut g p x) e m c k
      where
        settle : (a b c k i : ℕ) → a ≡ b → a ≤ c → c ≡ k + i → i ≡ 1 → b ≤ k + 1
        settle a b c k i e f h j = omega arith

    at_most : cut_size g x ≤ r
    at_most =
        let s = perfect_size g p is pp in
        let a = all_edges r g is regular in
        settle g.order (count (size g) everything) (count (size g) p) (cut_size g x) (cover_value g d.y d.us) s a cover_weight in_cut_of_all
      where
        under : (a b c d : ℕ) → a ≡ b + c → a ≤ d → b + c ≤ d
        under a b c d h k = omega arith

        in_cut_of_all : g.order * count (size g) everything + cut_size g x ≤ r * cover_value g d.y d.us
        in_cut_of_all = under (weight_of g weight everything) (g.order * count (size g) everything) (cut_size g x) (r * cover_value g d.y d.us) (cut_weight g g.order x everything) (all_covered weight d)

        settle : (n m k i c : ℕ) → n ≡ 2 * k → r * n ≡ 2 * m → c ≤ n * k + 1 → n * m + i ≤ r * c → i ≤ r
        settle n m k i c s a l h =
            let u : n ≡ k + k = omega arith in
            let v = ap (λ t. r * t) u ∙ mul-add r k k in
            let e : m ≡ r * k = omega arith in
            let q : n * m ≡ r * (n * k) = ap (λ t. n * t) e ∙ mul_left_comm n r k in
            let w = mul-le-mul_left r l in
            let z = mul-add r (n * k) 1 in omega arith

  pub tight_size : (x : Set) → IsTight g x → cut_size g x ≡ r
  tight_size x t = elim (cases_lt 0 r) [
    | inl some ↦
        let p = regular_perfect r g is regular wide some in
        let a = at_most x t p.0 p.1 in
        let b = wide x t.odd in omega arith
    | inr never ↦ let h = each_degree r g x is regular in let z = none_times r (count g.order x) never in omega arith
  ]
    where
      none_times : (k n : ℕ) → k ≤ 0 → k * n ≡ 0
      none_times zero n h = omega arith
      none_times (suc k) n h = absurd (omega arith)

-- one vertex has r edges in its cut
module _ (r : ℕ) (g : Graph) (is : IsMultigraph g) (regular : IsRegular r g) where
  one_cut : (y : Set) → count g.order y ≡ 1 → r ≤ cut_size g y
  one_cut y one =
      let h = each_degree r g y is.ends regular in
      let m = ap (λ k. r * k) one in
      elim (cases_lt 0 (inner_size g y)) [
        | inl some ↦ let t = two_inside g y is some in absurd (omega arith)
        | inr never ↦ omega arith
      ]

  single : (k : ℕ) → is_odd k ≡ true → k ≤ 2 → k ≡ 1
  single zero o l = absurd (true≢false (sym o))
  single (suc zero) o l = refl
  single (suc (suc zero)) o l = absurd (true≢false (sym o))
  single (suc (suc (suc k))) o l = absurd (omega arith)

  module _ (more : (x : Set) → IsNontrivial g.order x → is_odd (count g.order x) ≡ true → r + 1 ≤ cut_size g x) where
    wide_from : is_odd g.order ≡ false → HasWideOddCuts r g
    wide_from even y odd = grind (arith, cases_lt, count, one_cut, single, complement, turned_cut, everything, complement_odd)

    pub wide_trivial : HasOnlyTrivialTightCuts g
    wide_trivial x t n =
        let s = tight_size r g is.ends regular (wide_from (order_even g.order x t.odd t.odd_complement)) x t in
        let m = more x n t.odd in absurd (omega arith)
