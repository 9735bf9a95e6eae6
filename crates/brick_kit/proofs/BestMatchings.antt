-- Matchings that are heaviest when each edge inside k weighs one less, and among these have most
-- edges inside k. Such a matching is heaviest for one weight in which the lowered weights count for
-- more than all edges inside; with its edges inside a swap set replaced by those of a heaviest
-- matching it is again best.
use Rattle.graph_core.proofs.from_counting.Common.{◌≡◌, ◌≢◌, ℕ, suc, ◌+◌, ◌*◌, ◌≤◌, ◌<◌, true, false, ◌&&◌, nat_lt, refl, sym, ap, ap₂, ◌∙◌, arith, lt-ltb, cases_Bool, count_congr, count_le, Within, bit, count, Set, none, put}
use Rattle.graph_core.proofs.Common.{add_edge, bit_same, ends_le_degree, ends_of_is, Graph, HasEnds, IsGraph, degree, inside, size, IsMatching}
use Rattle.brick_kit.proofs.EdgeSums.{weight_plus, weight_put, weight_test, weight_times}
use Rattle.brick_kit.proofs.HeaviestMatchings.{heaviest_exists, heavy_heaviest, heavy_holds, heavy_part}
use Rattle.brick_kit.proofs.LoweredWeights.{lowered, lowered_weight}
use Rattle.brick_kit.proofs.SwapSets.{held}
use Rattle.brick_kit.proofs.Swaps.{Swaps, second_fewer, swapped, swapped_inside, swapped_matching, swapped_weight}
use Rattle.brick_kit.specs.Weights.{IsHeaviest, weight_of}

-- each edge of m has a weight of 1 or more
abbrev pub HasWeight : Graph → (ℕ → ℕ) → Set → Type 0
HasWeight g w m = (e : ℕ) → Within (size g) e → m e ≡ true → 0 < w e

-- m has only edges of weight, is heaviest for w lowered inside k, and among those it has most
-- edges inside k
pub record IsBest (g : Graph) (w : ℕ → ℕ) (k m : Set) : Type 0 where
  pub is : IsMatching g none m
  pub heavy : HasWeight g w m
  pub low : (n : Set) → IsMatching g none n → weight_of g (lowered w (inside g k)) n ≤ weight_of g (lowered w (inside g k)) m
  pub most : (n : Set) → IsMatching g none n → HasWeight g w n → weight_of g (lowered w (inside g k)) n ≡ weight_of g (lowered w (inside g k)) m → held g n k ≤ held g m k

-- of two numbers of which the first counts more than s times, the first decides, and where the
-- first are equal the second
first_of_two : (s x y c d : ℕ) → suc s * x + c ≤ suc s * y + d → d ≤ s → x ≤ y
first_of_two s x y c d h l = grind arith

second_of_two : (s x y c d : ℕ) → suc s * x + c ≤ suc s * y + d → x ≡ y → c ≤ d
second_of_two s x y c d h e = let a = ap (λ z. suc s * z) e in omega arith

-- the weight for which a heaviest matching is best: the lowered one many times over, and one for
-- each edge inside that has weight
abbrev ranked : Graph → (ℕ → ℕ) → Set → ℕ → ℕ
ranked g w k e = suc (size g) * lowered w (inside g k) e + bit (inside g k e && nat_lt 0 (w e))

ranked_parts : (g : Graph) (w : ℕ → ℕ) (k n : Set) → weight_of g (ranked g w k) n ≡ suc (size g) * weight_of g (lowered w (inside g k)) n + count (size g) (λ e. n e && (inside g k e && nat_lt 0 (w e)))
ranked_parts g w k n =
    weight_plus g (λ e. suc (size g) * lowered w (inside g k) e) (λ e. bit (inside g k e && nat_lt 0 (w e))) n
    ∙ ap₂ ◌+◌ (weight_times g (suc (size g)) (lowered w (inside g k)) n) (weight_test g (λ e. inside g k e && nat_lt 0 (w e)) n)

heavy_held : (g : Graph) (w : ℕ → ℕ) (k n : Set) → HasWeight g w n → count (size g) (λ e. n e && (inside g k e && nat_lt 0 (w e))) ≡ held g n k
heavy_held g w k n h = grind (arith, count_congr (size g), nat_lt 0, lt-ltb 0)

pub best_exists : (g : Graph) (w : ℕ → ℕ) (k : Set) → (m : Set) × IsBest g w k m
best_exists g w k = (
  m,
  record {
    is = top.is;
    heavy = heavy;
    low = λ n nn. first_of_two (size g) (weight_of g (lowered w (inside g k)) n) (weight_of g (lowered w (inside g k)) m) _ _ (ranks n nn) (count_le (size g) _);
    most = λ n nn nh e. settle _ _ _ _ (heavy_held g w k n nh) (heavy_held g w k m heavy)
        (second_of_two (size g) (weight_of g (lowered w (inside g k)) n) (weight_of g (lowered w (inside g k)) m) _ _ (ranks n nn) e);
  },
)
  where
    m : Set
    m = heavy_part w (heaviest_exists g (ranked g w k)).0

    top : IsHeaviest g (ranked g w k) m
    top = heavy_heaviest g w (ranked g w k) (heaviest_exists g (ranked g w k)).0 (λ e. grind arith) (heaviest_exists g (ranked g w k)).1

    heavy : HasWeight g w m
    heavy e i h = (heavy_holds w (heaviest_exists g (ranked g w k)).0 e h).1

    settle : (a b c d : ℕ) → a ≡ c → b ≡ d → a ≤ b → c ≤ d
    settle a b c d h i l = omega arith

    ranks : (n : Set) → IsMatching g none n → suc (size g) * weight_of g (lowered w (inside g k)) n + count (size g) (λ e. n e && (inside g k e && nat_lt 0 (w e))) ≤ suc (size g) * weight_of g (lowered w (inside g k)) m + count (size g) (λ e. m e && (inside g k e && nat_lt 0 (w e)))
    ranks n nn = settle _ _ _ _ (ranked_parts g w k n) (ranked_parts g w k m) (top.most n nn)

best_numbers : (wl wl' wm wn ll lm il im cm cn : ℕ) → wl + wl' ≡ wm + wn → wl' ≤ wn → wm ≡ lm + im → wl ≡ ll + il → il + cm ≡ im + cn → cn ≤ cm → ll ≤ lm → (ll ≡ lm) × (im ≤ il)
best_numbers wl wl' wm wn ll lm il im cm cn a b c d e f h = (omega arith, omega arith)

pub best_swapped : (g : Graph) (w : ℕ → ℕ) (k m n : Set) (t : ℕ) (c : Set) → IsGraph g → IsBest g w k m → IsHeaviest g w n → HasWeight g w n →
    Within g.order t → degree g n t ≡ 0 → Swaps g k m n t c → IsBest g w k (swapped g c m n)
best_swapped g w k m n t c is best top nh wt nt s = record {
  is = lm;
  heavy = heavy;
  low = λ j jj. let a = best.low j jj in let b = same.0 in omega arith;
  most = λ j jj jh e. let a = best.most j jj jh (e ∙ same.0) in let b = same.1 in omega arith;
}
  where
    lm : IsMatching g none (swapped g c m n)
    lm = swapped_matching g c m n best.is top.is s.first_stays s.second_stays

    heavy : HasWeight g w (swapped g c m n)
    heavy e i = grind arith

    same : (weight_of g (lowered w (inside g k)) (swapped g c m n) ≡ weight_of g (lowered w (inside g k)) m) × (held g m k ≤ held g (swapped g c m n) k)
    same = best_numbers (weight_of g w (swapped g c m n)) (weight_of g w (swapped g c n m)) (weight_of g w m) (weight_of g w n)
        (weight_of g (lowered w (inside g k)) (swapped g c m n)) (weight_of g (lowered w (inside g k)) m) (held g (swapped g c m n) k) (held g m k) (held g m c) (held g n c)
        (swapped_weight g w c m n)
        (top.most (swapped g c n m) (swapped_matching g c n m top.is best.is s.second_stays s.first_stays))
        (lowered_weight g w (inside g k) m best.heavy)
        (lowered_weight g w (inside g k) (swapped g c m n) heavy)
        (swapped_inside g k c m n s.inside_k)
        (second_fewer g k m n t c is best.is top.is wt nt s)
        (best.low (swapped g c m n) lm)

pub best_has_all : (g : Graph) (w : ℕ → ℕ) (k m : Set) (e u v : ℕ) → IsBest g w k m → Within (size g) e → 0 < w e → inside g k e ≡ true → HasEnds g e u v → u ≢ v →
    degree g m u ≡ 0 → degree g m v ≡ 0 → ⊥
best_has_all g w k m e u v best we wp ie ends d mu mv =
    let p = (add_edge g none m e u v best.is we d refl refl ends mu mv).0 in
    let a = weight_put g (lowered w (inside g k)) m e we out in
    let b = best.low (put m e true) p in
    let l = best.most (put m e true) p heavy (omega arith) in
    let j = more in
    absurd (omega arith)
  where
    out : m e ≡ false
    out = grind (arith, cases_Bool (m e), ends_le_degree g m e u we, ends_of_is g e u v ends u, bit_same u)

    heavy : HasWeight g w (put m e true)
    heavy i wi = grind arith

    more : held g (put m e true) k ≡ held g m k + 1
    more = sym (weight_test g (inside g k) (put m e true)) ∙ weight_put g (λ i. bit (inside g k i)) m e we out ∙ ap₂ ◌+◌ (weight_test g (inside g k) m) (ap bit ie)
