-- A number is odd where division by two leaves one, and what is outside of a set is the order
-- less what is inside.
use Rattle.allowed_edges.proofs.from_counting.Common.{◌≡◌, ℕ, ◌-◌, ◌%◌, ◌==◌, ◌&&◌, arith, eq-eqb, ne_eqb, count, is_odd, Set, complement, count_complement, is_odd_remainder}

-- with an odd number inside, both sides are odd where the rest is
pub odd_sides-rest : (n k m : ℕ) (x : Set) → k ≡ count n x → m ≡ n → k % 2 ≡ 1 → ((m - k) % 2 == 1) ≡ (is_odd (count n x) && is_odd (count n (complement x)))
odd_sides-rest n k m x is all odd = grind (arith, count_complement n x, is_odd_remainder k, eq-eqb (k % 2) 1 odd, is_odd_remainder (m - k))

-- with an even number inside they are not
pub odd_sides-none : (n k : ℕ) (x : Set) → k ≡ count n x → (k % 2 ≡ 1 → ⊥) → (k % 2 == 1) ≡ (is_odd (count n x) && is_odd (count n (complement x)))
odd_sides-none n k x is even = grind (arith, is_odd_remainder k, ne_eqb (k % 2) 1 even)
