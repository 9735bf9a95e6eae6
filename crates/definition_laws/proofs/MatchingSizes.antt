-- The test for a matching with so many edges is true if and only if there is one. Like the tests
-- for perfect matchings it searches through all edge sets, and its condition depends only on the
-- edge numbers.
use Rattle.counting.proofs.Common.{◌≡◌, ℕ, true, ◌==◌, ap, ap₂, ◌&&◌, eq-eqb, eqb-true, arith, and_from, and_parts, set_found, some_set_found, count_congr, count, Set}
use Rattle.graph_core.proofs.Common.{is_matching_congr, is_matching_true, true_is_matching, Graph, size, IsMatching, has_matching_of, is_matching}

-- some matching has k edges where the test says so
pub has_matching_says : (g : Graph) (r : Set) (k : ℕ) → has_matching_of g r k ≡ true → (m : Set) × IsMatching g r m × (count (size g) m ≡ k)
has_matching_says g r k h = grind (arith, some_set_found (size g), and_parts, is_matching_true g r, eqb-true)

-- and the other way round
pub has_matching_found : (g : Graph) (r : Set) (k : ℕ) → ((m : Set) × IsMatching g r m × (count (size g) m ≡ k)) → has_matching_of g r k ≡ true
has_matching_found g r k f = set_found (size g) (λ m. is_matching g r m && (count (size g) m == k))
    (record { same = λ m n e. ap₂ ◌&&◌ (is_matching_congr g r m n e) (ap (λ c. c == k) (count_congr (size g) m n e)) })
    f.0 (and_from (is_matching g r f.0) (count (size g) f.0 == k) (true_is_matching g r f.0 f.1) (eq-eqb (count (size g) f.0) k f.2))
