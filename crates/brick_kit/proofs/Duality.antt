-- Each weight has a matching and a cover of the same weight. By induction on the sum of all
-- weights. If each heaviest matching meets some vertex, the weights of the edges at that vertex are
-- lowered; otherwise a component of the edges of positive weight is an odd set, and the weights of
-- the edges inside it are lowered.
use Rattle.graph_core.proofs.from_counting.Common.{◌≡◌, ℕ, suc, zero, ◌≤◌, ◌<◌, ◌⊎◌, List, refl, sym, ◌∙◌, arith, inl, inr, and_from, cases_lt, scan, at_le_total, some_term, total_none, total_zero, Within, total, Set, none}
use Rattle.graph_core.proofs.Common.{none_matching, Graph, IsGraph, degree, first_end, inside, second_end, size}
use Rattle.brick_kit.proofs.CoverBound.{Dual, cover_bound}
use Rattle.brick_kit.proofs.CutEnds.{same_side}
use Rattle.brick_kit.proofs.HeaviestMatchings.{heaviest_exists, heaviest_misses}
use Rattle.brick_kit.proofs.HeavyParts.{part_closed, part_of, part_own, part_walk}
use Rattle.brick_kit.proofs.LoweredWeights.{lowered, lowered_falls}
use Rattle.brick_kit.proofs.MetVertex.{is_at, met_dual, met_edge}
use Rattle.brick_kit.proofs.OddPart.{part_dual}
use Rattle.brick_kit.specs.Weights.{IsCover, IsHeaviest, cover_value, weight_of}

-- a weight of 0 everywhere
flat_dual : (g : Graph) (w : ℕ → ℕ) → total (size g) w ≤ 0 → Dual g w
flat_dual g w l = grind (arith, none_matching g none, at_le_total (size g) w, total_none (size g), total_zero g.order)

-- some vertex is met by each heaviest matching, or each is missed by one
met_or_missed : (g : Graph) (w : ℕ → ℕ) → ((v : ℕ) × Within g.order v × ((m : Set) → IsHeaviest g w m → 0 < degree g m v)) ⊎ ((v : ℕ) → Within g.order v → (n : Set) × IsHeaviest g w n × (degree g n v ≡ 0))
met_or_missed g w = scan g.order (λ v. (m : Set) → IsHeaviest g w m → 0 < degree g m v) (λ v. (n : Set) × IsHeaviest g w n × (degree g n v ≡ 0)) (λ v wv. elim (heaviest_misses g w v) [
  | inl n ↦ inr n
  | inr met ↦ inl met
])

dual_below : (b : ℕ) (g : Graph) (w : ℕ → ℕ) → IsGraph g → total (size g) w ≤ b → Dual g w
dual_below zero g w is l = flat_dual g w l
dual_below (suc b) g w is l = elim (cases_lt 0 (total (size g) w)) [
  | inr z ↦ flat_dual g w z
  | inl positive ↦
      let r = some_term (size g) w positive in
      let a : ℕ = first_end g r.0 in
      let wa = (is r.0 r.1).0 in
      let k : Set = part_of g w a in
      elim (met_or_missed g w) [
        | inl u ↦
            let best = heaviest_exists g w in
            let e = met_edge g w u.0 u.2 best.0 best.1 in
            let falls = lowered_falls g w (is_at g u.0) e.0 e.1 e.3 e.4 in
            met_dual g w u.0 is u.1 u.2 (dual_below b g (lowered w (is_at g u.0)) is (omega arith))
        | inr missed ↦
            let own = part_own g w a in
            let side = same_side g k r.0 a (second_end g r.0) (inl (refl, refl)) (part_closed g w a is wa r.0 r.1 r.2) in
            let falls = lowered_falls g w (inside g k) r.0 r.1 (and_from (k a) (k (second_end g r.0)) own (sym side ∙ own)) r.2 in
            part_dual g is w k (part_closed g w a is wa) (λ v wv kv. missed v wv) (λ u v wu wv ku kv. part_walk g w a is u v ku kv) a wa own (dual_below b g (lowered w (inside g k)) is (omega arith))
      ]
]

pub dual : (g : Graph) (w : ℕ → ℕ) → IsGraph g → Dual g w
dual g w is = dual_below (total (size g) w) g w is (omega arith)

-- each heaviest matching weighs as much as some cover
pub heaviest_cover : (g : Graph) (w : ℕ → ℕ) (m : Set) → IsGraph g → IsHeaviest g w m → (y : ℕ → ℕ) × (us : List Set) × IsCover g w y us × (weight_of g w m ≡ cover_value g y us)
heaviest_cover g w m is best = grind (arith, dual g w is, cover_bound g w)
