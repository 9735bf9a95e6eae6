-- In an r-graph the edges weigh at most D on average if those of each perfect matching do. Let n be
-- the order. With a large number N added to each weight, no matching weighs more than n / 2 edges of
-- the weight N + D, so some cover has no larger value; its inequality is summed over all edges.
use Rattle.tree_check.proofs.from_counting.Common.{◌≡◌, ℕ, ◌+◌, ◌*◌, ◌≤◌, ◌<◌, refl, sym, ap, ◌∙◌, arith, inl, inr, mul-add, mul-le-mul_left, mul_comm, mul_left_comm, cases_eq, count_complement, total_none, count, total, Set, everything, none}
use Rattle.quick_kinds.proofs.from_brick_kit.CoverBound.{Dual}
use Rattle.quick_kinds.proofs.from_brick_kit.CutWeights.{lighter, raised_weight}
use Rattle.quick_kinds.proofs.from_brick_kit.Duality.{dual}
use Rattle.quick_kinds.proofs.from_brick_kit.EdgeSums.{weight_most}
use Rattle.quick_kinds.specs.from_brick_kit.Weights.{cover_value, weight_of}
use Rattle.graph_core.proofs.Common.{missed_edges, none_missed-perfect, Graph, IsGraph, size, IsMatching, IsPerfect, missed_count}
use Rattle.theorems.proofs.RegularCuts.{all_covered}
use Rattle.theorems.proofs.RegularDegrees.{all_edges}
use Rattle.theorems.specs.RegularGraphs.{HasWideOddCuts, IsRegular}

module _ (r : ℕ) (g : Graph) (is : IsGraph g) (regular : IsRegular r g) (wide : HasWideOddCuts r g) (h : ℕ) (half : h + h ≡ g.order) (u : ℕ → ℕ) (most : ℕ)
    (light : (p : Set) → IsPerfect g none p → weight_of g u p ≤ most * count (size g) p) where
  -- no matching weighs more for u
  abbrev large : ℕ
  large = total (size g) u

  abbrev weight : ℕ → ℕ
  weight e = large + u e

  d : Dual g weight
  d = dual g weight is

  -- the vertices that a matching misses, and the two ends of each of its edges, are all vertices
  matching_size : (m : Set) → IsMatching g none m → missed_count g none m + (count (size g) m + count (size g) m) ≡ h + h
  matching_size m mm =
      let c = count_complement g.order none in
      let z : count g.order none ≡ 0 = total_none g.order _ (λ v w. refl) in
      let e = missed_edges g none m is mm in omega arith

  each_weight : (m : Set) → IsMatching g none m → weight_of g weight m ≤ (large + most) * h
  each_weight m mm = elim (cases_eq (missed_count g none m) 0) [
    | inl z ↦ full (count (size g) m) (weight_of g u m) (weight_of g weight m) (raised_weight g u large m) (light m (none_missed-perfect g none m mm z)) (no_missed (missed_count g none m) (count (size g) m) z (matching_size m mm))
    | inr n ↦ fewer (count (size g) m) (weight_of g u m) (weight_of g weight m) (raised_weight g u large m) (weight_most g u m) (some_missed (missed_count g none m) (count (size g) m) n (matching_size m mm))
  ]
    where
      no_missed : (k c : ℕ) → k ≡ 0 → k + (c + c) ≡ h + h → c ≡ h
      no_missed k c z e = omega arith

      some_missed : (k c : ℕ) → (k ≡ 0 → ⊥) → k + (c + c) ≡ h + h → c < h
      some_missed k c n e = omega arith

      apart : (a b : ℕ) → (a + b) * h ≡ a * h + b * h
      apart a b = mul_comm (a + b) h ∙ mul-add h a b ∙ (let p = mul_comm h a in let q = mul_comm h b in omega arith)

      full : (c k w : ℕ) → w ≡ large * c + k → k ≤ most * c → c ≡ h → w ≤ (large + most) * h
      full c k w e l s =
          let p = ap (λ t. large * t) s in
          let q = ap (λ t. most * t) s in
          let a = apart large most in omega arith

      fewer : (c k w : ℕ) → w ≡ large * c + k → k ≤ large → c < h → w ≤ (large + most) * h
      fewer c k w e l s =
          let p = lighter large c k h l s in
          let a = apart large most in omega arith

  pub light_on_average : weight_of g u everything ≤ most * count (size g) everything
  light_on_average = close (count (size g) everything) (weight_of g u everything) (weight_of g weight everything) (cover_value g d.y d.us) (weight_of g weight d.m)
      (raised_weight g u large everything) (all_covered r g is regular wide weight d) d.equal (each_weight d.m d.is) (all_edges r g is regular)
    where
      close : (m k w c x : ℕ) → w ≡ large * m + k → w ≤ r * c → x ≡ c → x ≤ (large + most) * h → r * g.order ≡ 2 * m → k ≤ most * m
      close m k w c x e l s b a =
          let u = ap (λ t. r * t) (sym half) ∙ mul-add r h h in
          let v : m ≡ r * h = omega arith in
          let o : c ≤ (large + most) * h = omega arith in
          let p = mul-le-mul_left r o in
          let q : r * ((large + most) * h) ≡ (large + most) * m = mul_left_comm r (large + most) h ∙ ap (λ t. (large + most) * t) (sym v) in
          let z = mul_comm (large + most) m ∙ mul-add m large most in
          let f = mul_comm m large in
          let i = mul_comm m most in omega arith
