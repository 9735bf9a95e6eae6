-- The parity of sums and doubles, and of the two sides of a set of numbers 1 to n.
-- By induction on the number, with the truth table of "one of the two is odd".
use Rattle.std.proofs.Common.{◌≡◌, ℕ, suc, zero, ◌+◌, ◌≤◌, ◌<◌, ◌/◌, ◌%◌, ◌==◌, Bool, true, false, refl, sym, ap, ap₂, ◌∙◌, arith, not, cond, zero-add, suc-add, true≢false}
use Rattle.counting.proofs.Booleans.{not_not}
use Rattle.counting.proofs.Counts.{count_complement}
use Rattle.counting.specs.Common.{Within, total, count, is_odd, Set, complement}

-- the parity of a number
pub odd-double : (k : ℕ) → is_odd (k + k) ≡ false
odd-double zero = refl
odd-double (suc k) = let e : suc k + suc k ≡ suc (suc (k + k)) = omega arith in ap is_odd e ∙ not_not (is_odd (k + k)) ∙ odd-double k

pub odd-add : (a b : ℕ) → is_odd (a + b) ≡ cond (is_odd a) (not (is_odd b)) (is_odd b)
odd-add zero b = ap is_odd (zero-add b)
odd-add (suc a) b = ap is_odd (suc-add a b) ∙ ap not (odd-add a b) ∙ turn (is_odd a) (is_odd b)
  where
    turn : (s t : Bool) → not (cond s (not t) t) ≡ cond (not s) (not t) t
    turn true true = refl
    turn true false = refl
    turn false true = refl
    turn false false = refl

-- sums whose terms are odd together are odd together
pub odd_total : (n : ℕ) (f h : ℕ → ℕ) → ((v : ℕ) → Within n v → is_odd (f v) ≡ is_odd (h v)) → is_odd (total n f) ≡ is_odd (total n h)
odd_total zero f h e = refl
odd_total (suc n) f h e = odd-add (total n f) (f (suc n)) ∙ ap₂ (λ a b. cond a (not b) b) (odd_total n f h (λ v w. e v (omega arith))) (e (suc n) (omega arith)) ∙ sym (odd-add (total n h) (h (suc n)))

pub odd_pos : (n : ℕ) → is_odd n ≡ true → 1 ≤ n
odd_pos zero h = absurd (true≢false (sym h))
odd_pos (suc n) h = omega arith

pub order_even : (n : ℕ) (x : Set) → is_odd (count n x) ≡ true → is_odd (count n (complement x)) ≡ true → is_odd n ≡ false
order_even n x a b = ap is_odd (sym (count_complement n x)) ∙ odd-add (count n x) (count n (complement x)) ∙ rw (a, b) refl

pub complement_odd : (n : ℕ) (x : Set) → is_odd n ≡ false → is_odd (count n x) ≡ true → is_odd (count n (complement x)) ≡ true
complement_odd n x a b = go (is_odd (count n x)) (is_odd (count n (complement x))) b (sym (odd-add (count n x) (count n (complement x))) ∙ ap is_odd (count_complement n x) ∙ a)
  where
    go : (s t : Bool) → s ≡ true → cond s (not t) t ≡ false → t ≡ true
    go s t a b = grind arith

-- a number is odd where division by two leaves one
pub is_odd_remainder : (n : ℕ) → is_odd n ≡ (n % 2 == 1)
is_odd_remainder n =
    let h : n ≡ (n / 2 + n / 2) + n % 2 = omega arith in
    ap is_odd h ∙ odd-add (n / 2 + n / 2) (n % 2) ∙ ap (λ b. cond b (not (is_odd (n % 2))) (is_odd (n % 2))) (odd-double (n / 2)) ∙ small (n % 2) (omega arith)
  where
    small : (r : ℕ) → r < 2 → is_odd r ≡ (r == 1)
    small zero l = refl
    small (suc r) l = let z : r ≡ zero = omega arith in rw z refl

-- half of an even number
pub half : (j : ℕ) → is_odd j ≡ false → (t : ℕ) × (j ≡ t + t)
half zero o = (0, omega arith)
half (suc zero) o = absurd (true≢false o)
half (suc (suc j)) o = let h = half j (sym (not_not (is_odd j)) ∙ o) in (suc h.0, let a = h.1 in omega arith)

-- the same, read from right to left
pub odd_remainder : (i : ℕ) → (i % 2 == 1) ≡ is_odd i
odd_remainder i = sym (is_odd_remainder i)

-- an odd number that is at least 2 is at least 3
pub odd_three : (k : ℕ) → is_odd k ≡ true → 2 ≤ k → 3 ≤ k
odd_three zero o h = absurd (omega arith)
odd_three (suc zero) o h = absurd (omega arith)
odd_three (suc (suc zero)) o h = absurd (true≢false (sym o))
odd_three (suc (suc (suc k))) o h = omega arith
