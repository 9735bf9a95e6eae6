-- All perfect matchings of a covered graph have equal weight if and only if numbers of the vertices
-- balance twice the weight with the cuts of a list of tight shores. With a large number added at
-- each edge a perfect matching is heaviest, so a cover weighs as much, and it is exact at each edge;
-- back, the equations are summed over a perfect matching.
use Rattle.tree_check.proofs.from_counting.Common.{◌≡◌, ◌≢◌, ℕ, ◌+◌, ◌*◌, ◌≤◌, Bool, true, false, List, [], ◌∷◌, refl, sym, ap, ap₂, ◌∙◌, arith, All, All-head, All-tail, total_congr, Within, bit, count, is_odd, total, Set, none}
use Rattle.barrier_kit.proofs.Common.{even_order, loop_free}
use Rattle.graph_core.proofs.Common.{covered_perfect, perfect_matching, Graph, IsCovered, IsGraph, degree, edges_in_cut, first_end, in_cut, second_end, size, IsPerfect, IsTight}
use Rattle.quick_kinds.proofs.from_brick_kit.CoverBound.{Dual, cover_bound}
use Rattle.quick_kinds.proofs.from_brick_kit.CutWeights.{raised_heaviest}
use Rattle.quick_kinds.proofs.from_brick_kit.Duality.{dual}
use Rattle.quick_kinds.proofs.from_brick_kit.EdgeSums.{weight_flat, weight_most, weight_plus}
use Rattle.quick_kinds.proofs.from_brick_kit.EndSums.{ends_weight}
use Rattle.quick_kinds.proofs.from_brick_kit.PairBounds.{cut_sums}
use Rattle.quick_kinds.proofs.from_brick_kit.TightCovers.{exact_each, exact_number, exact_tight}
use Rattle.quick_kinds.specs.from_brick_kit.Weights.{IsHeaviest, cover_value, sum_over, weight_of}
use Rattle.theorems.proofs.RegularDegrees.{perfect_size}
use Rattle.theorems.specs.Weights.{IsFlat}

-- how many sets of the list have edge e in their cut
abbrev pub crossed : Graph → List Set → ℕ → ℕ
crossed g us e = sum_over (λ x. bit (in_cut g x e)) us

-- for each edge uv that is not a loop, q u + q v is 2 (w uv + k) plus the number of sets whose cut
-- contains it
abbrev pub Balances : (g : Graph) (w q : ℕ → ℕ) (k : ℕ) (us : List Set) → Type 0
Balances g w q k us = (e : ℕ) → Within (size g) e → first_end g e ≢ second_end g e → q (first_end g e) + q (second_end g e) ≡ 2 * (w e + k) + crossed g us e

module _ (g : Graph) (w : ℕ → ℕ) (is : IsGraph g) (flat : IsFlat g w) where
  -- no matching weighs more
  abbrev most : ℕ
  most = total (size g) w

  d : Dual g (λ e. most + w e)
  d = dual g (λ e. most + w e) is

  heaviest : (p : Set) → IsPerfect g none p → IsHeaviest g (λ e. most + w e) p
  heaviest p pp = raised_heaviest g w most p is pp (λ m mm. weight_most g w m) (λ m pm. let e = flat m p pm pp in omega arith)

  exact : (p : Set) → IsPerfect g none p → weight_of g (λ e. most + w e) p ≡ cover_value g d.y d.us
  exact p pp =
      let h = heaviest p pp in
      let m = h.most d.m d.is in
      let e = d.equal in
      let b = cover_bound g (λ e. most + w e) d.y d.us p is d.cover (perfect_matching g none p pp) in
      settle (weight_of g (λ e. most + w e) d.m) (weight_of g (λ e. most + w e) p) (cover_value g d.y d.us) m e b
    where
      settle : (a b c : ℕ) → a ≤ b → a ≡ c → b ≤ c → b ≡ c
      settle a b c h i j = omega arith

  pub flat_balances : IsCovered g → (k : ℕ) × (q : ℕ → ℕ) × (us : List Set) × All (IsTight g) us × Balances g w q k us
  flat_balances cov = (most, exact_number g w most is d exact, d.us, exact_tight g w most is d exact even, λ e i apart_ends. turn most (w e) (crossed g d.us e) _ (exact_each g w most is d exact cov e i apart_ends))
    where
      even : is_odd g.order ≡ false
      even = let p = covered_perfect g is cov in even_order g p.0 is p.1

      turn : (n c k s : ℕ) → s ≡ (n + n) + (c + (c + k)) → s ≡ 2 * (c + n) + k
      turn n c k s h = omega arith

-- each tight shore has one edge of each perfect matching in its cut
same_crossings : (g : Graph) (us : List Set) (m n : Set) → All (IsTight g) us → IsPerfect g none m → IsPerfect g none n → sum_over (edges_in_cut g m) us ≡ sum_over (edges_in_cut g n) us
same_crossings g [] m n tight pm pn = refl
same_crossings g (x ∷ us) m n tight pm pn =
    let t = All-head (IsTight g) x us tight in ap₂ ◌+◌ (t.cut m pm ∙ sym (t.cut n pn)) (same_crossings g us m n (All-tail (IsTight g) x us tight) pm pn)

module _ (g : Graph) (w q : ℕ → ℕ) (k : ℕ) (us : List Set) (is : IsGraph g) (tight : All (IsTight g) us) (balances : Balances g w q k us) where
  -- the equations, summed over a perfect matching
  balanced_weight : (m : Set) → IsPerfect g none m → total g.order q ≡ (weight_of g w m + weight_of g w m) + ((k + k) * count (size g) m + sum_over (edges_in_cut g m) us)
  balanced_weight m pm =
      total_congr g.order q (λ v. q v * degree g m v) (λ v i. let one = pm.once v i refl in sym (by_one (q v) (degree g m v) one))
      ∙ ends_weight g q m is
      ∙ total_congr (size g) (λ e. bit (m e) * (q (first_end g e) + q (second_end g e))) (λ e. bit (m e) * ((w e + w e) + ((k + k) + crossed g us e)))
      (λ e i. term (m e) _ _ (λ t. each e i (loop_free g none m is pm e i t)))
      ∙ weight_plus g (λ e. w e + w e) (λ e. (k + k) + crossed g us e) m
      ∙ ap₂ ◌+◌ (weight_plus g w w m) (weight_plus g (λ e. k + k) (λ e. crossed g us e) m ∙ ap₂ ◌+◌ (weight_flat g (k + k) m) (cut_sums g m us))
    where
      by_one : (a b : ℕ) → b ≡ 1 → a * b ≡ a
      by_one a b h = ap (λ t. a * t) h ∙ omega arith

      term : (b : Bool) (i j : ℕ) → (b ≡ true → i ≡ j) → bit b * i ≡ bit b * j
      term b i j h = grind arith

      each : (e : ℕ) → Within (size g) e → first_end g e ≢ second_end g e → q (first_end g e) + q (second_end g e) ≡ (w e + w e) + ((k + k) + crossed g us e)
      each e i apart_ends = let h = balances e i apart_ends in omega arith

  pub balances_flat : IsFlat g w
  balances_flat m n pm pn =
      settle (weight_of g w m) (weight_of g w n) (count (size g) m) (count (size g) n) (sum_over (edges_in_cut g m) us) (sum_over (edges_in_cut g n) us) (k + k) g.order (total g.order q)
      (balanced_weight m pm) (balanced_weight n pn) (perfect_size g m is pm) (perfect_size g n is pn) (same_crossings g us m n tight pm pn)
    where
      settle : (a b i j s t c n q : ℕ) → q ≡ (a + a) + (c * i + s) → q ≡ (b + b) + (c * j + t) → n ≡ 2 * i → n ≡ 2 * j → s ≡ t → a ≡ b
      settle a b i j s t c n q h l u v e = let x : i ≡ j = omega arith in let y = ap (λ z. c * z) x in omega arith
