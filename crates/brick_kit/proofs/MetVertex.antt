-- If each heaviest matching meets a vertex, the weights of the edges at it are lowered by one, and
-- the vertex gets one more in a cover of the lowered weights. The value of the cover increases by
-- one. So does the weight of a heaviest matching: otherwise a matching that is heaviest for the
-- lowered weights would be heaviest for the weights, and have an edge at the vertex, where the two
-- differ.
use Rattle.graph_core.proofs.from_counting.Common.{◌≡◌, ℕ, ◌+◌, ◌≤◌, ◌<◌, true, ◌==◌, ◌||◌, arith, eq-eqb, or_left, or_right, count_singleton, total_add, Within, bit, Set}
use Rattle.graph_core.proofs.Common.{edge_at, Graph, IsGraph, degree, first_end, second_end, size}
use Rattle.brick_kit.proofs.CoverBound.{Dual, cover_bound}
use Rattle.brick_kit.proofs.EdgeSums.{weight_drop}
use Rattle.brick_kit.proofs.HeaviestMatchings.{heaviest_exists, heavy_heaviest, heavy_holds, heavy_part}
use Rattle.brick_kit.proofs.LoweredWeights.{lowered, lowered_at_most, lowered_below, lowered_less}
use Rattle.brick_kit.specs.Weights.{IsCover, IsHeaviest, cover_value, weight_of}

-- u is an end of edge e
abbrev pub is_at : Graph → ℕ → Set
is_at g u e = (u == first_end g e) || (u == second_end g e)

-- a heaviest matching has an edge of weight 1 or more at a vertex that each heaviest one meets
pub met_edge : (g : Graph) (w : ℕ → ℕ) (u : ℕ) → ((m : Set) → IsHeaviest g w m → 0 < degree g m u) → (m : Set) → IsHeaviest g w m →
    (e : ℕ) × Within (size g) e × (m e ≡ true) × (is_at g u e ≡ true) × (0 < w e)
met_edge g w u met m best = grind (arith, edge_at g (heavy_part w m) u, heavy_part w m, heavy_heaviest g w w m, heavy_holds w m, or_left, eq-eqb u, or_right)

module _ (g : Graph) (w : ℕ → ℕ) (u : ℕ) (is : IsGraph g) (wu : Within g.order u) (met : (m : Set) → IsHeaviest g w m → 0 < degree g m u) (d : Dual g (lowered w (is_at g u))) where
  -- one more at u
  abbrev raised : ℕ → ℕ
  raised v = d.y v + bit (u == v)

  raised_value : cover_value g raised d.us ≡ cover_value g d.y d.us + 1
  raised_value = grind (arith, total_add g.order d.y, count_singleton g.order u wu)

  raised_cover : IsCover g w raised d.us
  raised_cover = grind arith

  -- a heaviest matching weighs as much as the new cover
  not_less : (m : Set) → IsHeaviest g w m → weight_of g w m ≤ cover_value g d.y d.us → ⊥
  not_less m best l =
      let low = lowered_less g w (is_at g u) d.m in
      let most = best.most d.m d.is in
      let equal = d.equal in
      let own : IsHeaviest g w d.m = record { is = d.is; most = λ k kk. let b = best.most k kk in omega arith } in
      let r = met_edge g w u met d.m own in
      let drop = weight_drop g w (lowered w (is_at g u)) d.m r.0 (λ i. lowered_at_most w (is_at g u) i) r.1 r.2 (lowered_below w (is_at g u) r.0 r.3 r.4) in
      absurd (omega arith)

  pub met_dual : Dual g w
  met_dual =
      let r = heaviest_exists g w in
      let best = r.1 in
      let bound = cover_bound g w raised d.us r.0 is raised_cover best.is in
      grind (arith, raised_cover, settle, raised_value, not_less)
    where
      settle : (a b c : ℕ) → a ≤ b → b ≡ c + 1 → (a ≤ c → ⊥) → a ≡ b
      settle a b c h i j = grind arith
