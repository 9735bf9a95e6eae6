-- Numbers of the vertices times their degrees in an edge set add up to the numbers at the ends of
-- its edges. The double sum is taken in the other order, for the first ends and for the second.
use Rattle.graph_core.proofs.from_counting.Common.{◌≡◌, ℕ, ◌+◌, ◌*◌, ◌==◌, ◌&&◌, sym, ap, ap₂, ◌∙◌, arith, mul-add, total_add, total_at, total_congr, total_mul, total_swap, Within, bit, count, total, Set}
use Rattle.graph_core.proofs.Common.{bit_other, bit_same, Graph, IsGraph, degree, first_end, second_end, size}
use Rattle.brick_kit.specs.Weights.{weight_of}

-- one term of a sum
pub alone : (n : ℕ) (f : ℕ → ℕ) (a : ℕ) → Within n a → total n (λ v. bit (a == v) * f v) ≡ f a
alone n f a w = total_at n (λ v. bit (a == v) * f v) a w (λ v u d. off (bit (a == v)) (f v) (bit_other a v (λ e. d (sym e)))) ∙ on (bit (a == a)) (f a) (bit_same a)
  where
    off : (b k : ℕ) → b ≡ 0 → b * k ≡ 0
    off b k h = omega (arith, ap (λ i. i * k) h)

    on : (b k : ℕ) → b ≡ 1 → b * k ≡ k
    on b k h = omega (arith, ap (λ i. i * k) h)

-- the numbers at one end, vertex by vertex, are those edge by edge
ends_at : (n k : ℕ) (m : Set) (q f : ℕ → ℕ) → ((e : ℕ) → Within k e → Within n (f e)) → total n (λ v. q v * count k (λ e. m e && (f e == v))) ≡ total k (λ e. bit (m e) * q (f e))
ends_at n k m q f is =
    total_congr n _ _ (λ v w. sym (total_mul k (q v) (λ e. bit (m e && (f e == v)))))
    ∙ total_swap n k (λ v e. q v * bit (m e && (f e == v)))
    ∙ total_congr k _ _ (λ e w.
    total_congr n _ _ (λ v u. grind arith)
    ∙ total_mul n (bit (m e)) (λ v. bit (f e == v) * q v)
    ∙ ap (λ b. bit (m e) * b) (alone n q (f e) (is e w)))

-- the numbers times the degrees add up to those at the ends of the edges
pub ends_weight : (g : Graph) (q : ℕ → ℕ) (m : Set) → IsGraph g → total g.order (λ v. q v * degree g m v) ≡ weight_of g (λ e. q (first_end g e) + q (second_end g e)) m
ends_weight g q m is =
    total_congr g.order _ _ (λ v w. mul-add (q v) (count (size g) (λ e. m e && (first_end g e == v))) (count (size g) (λ e. m e && (second_end g e == v))))
    ∙ total_add g.order (λ v. q v * count (size g) (λ e. m e && (first_end g e == v))) (λ v. q v * count (size g) (λ e. m e && (second_end g e == v)))
    ∙ ap₂ ◌+◌ (ends_at g.order (size g) m q (first_end g) (λ e w. (is e w).0)) (ends_at g.order (size g) m q (second_end g) (λ e w. (is e w).1))
    ∙ sym (total_add (size g) (λ e. bit (m e) * q (first_end g e)) (λ e. bit (m e) * q (second_end g e)))
    ∙ total_congr (size g) _ _ (λ e w. sym (mul-add (bit (m e)) (q (first_end g e)) (q (second_end g e))))
