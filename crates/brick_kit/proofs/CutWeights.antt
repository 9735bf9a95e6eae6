-- A perfect matching is heaviest if it is so among the perfect ones and each edge weighs at least N,
-- where no matching weighs more than N beyond that: a matching that misses a vertex has fewer edges.
-- So each perfect matching is heaviest for the weight "n, and one more in a tight cut".
use Rattle.graph_core.proofs.from_counting.Common.{◌≡◌, ℕ, suc, ◌+◌, ◌*◌, ◌≤◌, ◌<◌, ◌&&◌, refl, ap, ◌∙◌, arith, mul-le-mul_left, and_parts, cases_eq, count_complement, count_mono, total_none, bit, count, Set, none}
use Rattle.graph_core.proofs.Common.{missed_edges, none_missed-perfect, perfect_matching, perfect_misses, Graph, IsGraph, edges_in_cut, in_cut, size, IsMatching, IsPerfect, missed_count, CutIsTight}
use Rattle.brick_kit.proofs.EdgeSums.{weight_flat, weight_plus, weight_test}
use Rattle.brick_kit.specs.Weights.{IsHeaviest, weight_of}

pub raised_weight : (g : Graph) (w : ℕ → ℕ) (n : ℕ) (m : Set) → weight_of g (λ e. n + w e) m ≡ n * count (size g) m + weight_of g w m
raised_weight g w n m = weight_plus g (λ e. n) w m ∙ ap (λ k. k + weight_of g w m) (weight_flat g n m)

pub cut_weight : (g : Graph) (n : ℕ) (x m : Set) → weight_of g (λ e. n + bit (in_cut g x e)) m ≡ n * count (size g) m + edges_in_cut g m x
cut_weight g n x m = raised_weight g (λ e. bit (in_cut g x e)) n m ∙ ap (λ k. n * count (size g) m + k) (weight_test g (in_cut g x) m)

-- with fewer than h edges, each of the weight n, and at most n more: no more than h edges have
pub lighter : (n c k h : ℕ) → k ≤ n → c < h → n * c + k ≤ n * h
lighter n c k h i j = let l : suc c ≤ h = omega arith in omega (arith, mul-le-mul_left n l)

-- the vertices that a matching misses, and the two ends of each of its edges, are all vertices
matching_size : (g : Graph) (m : Set) → IsGraph g → IsMatching g none m → missed_count g none m + (count (size g) m + count (size g) m) ≡ g.order
matching_size g m is mm =
    let c = count_complement g.order none in
    let z : count g.order none ≡ 0 = total_none g.order _ (λ v w. refl) in
    let e = missed_edges g none m is mm in omega arith

pub raised_heaviest : (g : Graph) (w : ℕ → ℕ) (n : ℕ) (p : Set) → IsGraph g → IsPerfect g none p → ((m : Set) → IsMatching g none m → weight_of g w m ≤ n) →
    ((m : Set) → IsPerfect g none m → weight_of g w m ≤ weight_of g w p) → IsHeaviest g (λ e. n + w e) p
raised_heaviest g w n p is pp light best = record { is = perfect_matching g none p pp; most = most }
  where
    close : (order mm c k h j wm wp : ℕ) → wm ≡ n * c + k → wp ≡ n * h + j → mm + (c + c) ≡ order → h + h ≡ order → (mm ≡ 0 → k ≤ j) → k ≤ n → wm ≤ wp
    close order mm c k h j wm wp i l p q same few = grind (arith, cases_eq mm 0, lighter n c k h few)

    most : (m : Set) → IsMatching g none m → weight_of g (λ e. n + w e) m ≤ weight_of g (λ e. n + w e) p
    most m mm = close g.order (missed_count g none m) (count (size g) m) (weight_of g w m) (count (size g) p) (weight_of g w p)
        (weight_of g (λ e. n + w e) m) (weight_of g (λ e. n + w e) p)
        (raised_weight g w n m) (raised_weight g w n p)
        (matching_size g m is mm)
        (no_missed (missed_count g none p) (count (size g) p) g.order (perfect_misses g none p pp) (matching_size g p is (perfect_matching g none p pp)))
        (λ z. best m (none_missed-perfect g none m mm z))
        (light m mm)
      where
        no_missed : (mm c n : ℕ) → mm ≡ 0 → mm + (c + c) ≡ n → c + c ≡ n
        no_missed mm c n h i = omega arith

pub perfect_heaviest : (g : Graph) (x p : Set) → IsGraph g → IsPerfect g none p → CutIsTight g x → IsHeaviest g (λ e. g.order + bit (in_cut g x e)) p
perfect_heaviest g x p is pp tight = raised_heaviest g (λ e. bit (in_cut g x e)) g.order p is pp light best
  where
    light : (m : Set) → IsMatching g none m → weight_of g (λ e. bit (in_cut g x e)) m ≤ g.order
    light m mm =
        let a = matching_size g m is mm in
        let b = weight_test g (in_cut g x) m in
        let c = count_mono (size g) (λ e. m e && in_cut g x e) m (λ e w h. (and_parts (m e) (in_cut g x e) h).0) in omega arith

    best : (m : Set) → IsPerfect g none m → weight_of g (λ e. bit (in_cut g x e)) m ≤ weight_of g (λ e. bit (in_cut g x e)) p
    best m mm =
        let a = weight_test g (in_cut g x) m in
        let b = weight_test g (in_cut g x) p in
        let c = tight m mm in
        let d = tight p pp in omega arith
