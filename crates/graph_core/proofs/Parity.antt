-- |X| is the number of edges of a perfect matching in ∂(X) plus twice the number of those inside X;
-- two cuts compared with those of X ∩ Y and X ∪ Y. Degrees are summed vertex by vertex and edge by
-- edge.
pub use Rattle.vset_core.proofs.from_counting.Odd.{is_odd_remainder}
use Rattle.vset_core.proofs.from_counting.Common.{◌≡◌, ℕ, ◌+◌, ◌*◌, Bool, ◌==◌, refl, sym, ap, mul-add, ap₂, ◌∙◌, arith, ◌&&◌, ◌||◌, not, bit-and, count_of_one, total_add, total_congr, total_mul, total_swap, Within, bit, count, total, Set, meet, minus, none, union}
use Rattle.graph_core.specs.Common.{Graph, IsGraph, connects, degree, first_end, in_cut, inside, second_end, size, IsPerfect}

-- the ends in x, vertex by vertex, are those edge by edge
pub ends_in : (n k : ℕ) (m x : Set) (f : ℕ → ℕ) → ((e : ℕ) → Within k e → Within n (f e)) → total n (λ v. bit (x v) * count k (λ e. m e && (f e == v))) ≡ count k (λ e. m e && x (f e))
ends_in n k m x f is =
    total_congr n _ _ (λ v w. sym (total_mul k (bit (x v)) (λ e. bit (m e && (f e == v)))))
    ∙ total_swap n k (λ v e. bit (x v) * bit (m e && (f e == v)))
    ∙ total_congr k _ _ (λ e w.
    total_congr n _ _ (λ v u. grind arith)
    ∙ total_mul n (bit (m e)) (λ v. bit (x v && (f e == v)))
    ∙ ap (λ b. bit (m e) * b) (count_of_one n x (f e) (is e w))
    ∙ sym (bit-and (m e) (x (f e))))

module _ (g : Graph) (is : IsGraph g) (m : Set) where
  -- the degrees in x add up to the ends in x of the edges of m
  pub degrees : (x : Set) → total g.order (λ v. bit (x v) * degree g m v) ≡ count (size g) (λ e. m e && in_cut g x e) + 2 * count (size g) (λ e. m e && inside g x e)
  degrees x =
      total_congr g.order _ _ (λ v w. mul-add (bit (x v)) (count (size g) (λ e. m e && (first_end g e == v))) (count (size g) (λ e. m e && (second_end g e == v))))
      ∙ total_add g.order (λ v. bit (x v) * count (size g) (λ e. m e && (first_end g e == v))) (λ v. bit (x v) * count (size g) (λ e. m e && (second_end g e == v)))
      ∙ ap₂ ◌+◌ (ends_in g.order (size g) m x (first_end g) (λ e w. (is e w).0)) (ends_in g.order (size g) m x (second_end g) (λ e w. (is e w).1))
      ∙ sym (total_add (size g) (λ e. bit (m e && x (first_end g e))) (λ e. bit (m e && x (second_end g e))))
      ∙ total_congr (size g) _ _ (λ e w. grind arith)
      ∙ total_add (size g) (λ e. bit (m e && in_cut g x e)) (λ e. 2 * bit (m e && inside g x e))
      ∙ ap (λ k. count (size g) (λ e. m e && in_cut g x e) + k) (total_mul (size g) 2 (λ e. bit (m e && inside g x e)))

  -- a perfect matching of G: |x| is |m ∩ ∂(x)| plus twice the number of edges of m inside x
  pub parity : (x : Set) → IsPerfect g none m → count g.order x ≡ count (size g) (λ e. m e && in_cut g x e) + 2 * count (size g) (λ e. m e && inside g x e)
  parity x perfect = total_congr g.order _ _ (λ v w. omega (arith, ap (λ k. bit (x v) * k) (perfect.once v w refl))) ∙ degrees x

-- two cuts: each edge is in the cuts of x and y as often as in those of the meet and the union,
-- and twice where it joins the differences
bits_of_cuts : (k a b c d : Bool) →
    bit (k && ((a && not b) || (not a && b))) + bit (k && ((c && not d) || (not c && d)))
    ≡ bit (k && (((a && c) && not (b && d)) || (not (a && c) && (b && d)))) + bit (k && (((a || c) && not (b || d)) || (not (a || c) && (b || d))))
    + 2 * bit (k && (((a && not c) && (d && not b)) || ((c && not a) && (b && not d))))
bits_of_cuts k a b c d = grind arith

pub two_cuts : (g : Graph) (m x y : Set) →
    count (size g) (λ e. m e && in_cut g x e) + count (size g) (λ e. m e && in_cut g y e)
    ≡ count (size g) (λ e. m e && in_cut g (meet x y) e) + count (size g) (λ e. m e && in_cut g (union x y) e)
    + 2 * count (size g) (λ e. m e && connects g (minus x y) (minus y x) e)
two_cuts g m x y =
    sym (total_add (size g) (λ e. bit (m e && in_cut g x e)) (λ e. bit (m e && in_cut g y e)))
    ∙ total_congr (size g) _ _ (λ e w. bits_of_cuts (m e) (x (first_end g e)) (x (second_end g e)) (y (first_end g e)) (y (second_end g e)))
    ∙ total_add (size g) (λ e. bit (m e && in_cut g (meet x y) e) + bit (m e && in_cut g (union x y) e)) (λ e. 2 * bit (m e && connects g (minus x y) (minus y x) e))
    ∙ ap₂ ◌+◌ (total_add (size g) (λ e. bit (m e && in_cut g (meet x y) e)) (λ e. bit (m e && in_cut g (union x y) e)))
    (total_mul (size g) 2 (λ e. bit (m e && connects g (minus x y) (minus y x) e)))
