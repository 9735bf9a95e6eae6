-- Sums of integers over the numbers 1 to n: term by term, and a sum with one term that is not zero.
-- Idea: induction on n.
use Rattle.vset_core.proofs.from_counting.Common.{◌≡◌, ℕ, suc, zero, ◌≢◌, refl, ap₂, arith, inl, inr, ℤ, pos, ◌+ℤ◌, ◌-ℤ◌, ints, cases_eq, Within}

-- f 1 + f 2 + .. + f n
abbrev pub sum_to : ℕ → (ℕ → ℤ) → ℤ
sum_to zero f = pos 0
sum_to (suc n) f = sum_to n f +ℤ f (suc n)

pub sum_to-congr : (n : ℕ) (f g : ℕ → ℤ) → ((v : ℕ) → Within n v → f v ≡ g v) → sum_to n f ≡ sum_to n g
sum_to-congr zero f g h = refl
sum_to-congr (suc n) f g h =
    ap₂ ◌+ℤ◌ (sum_to-congr n f g (λ v w. h v (omega arith))) (h (suc n) (omega arith))

pub sum_to-add : (n : ℕ) (f g : ℕ → ℤ) → sum_to n (λ v. f v +ℤ g v) ≡ sum_to n f +ℤ sum_to n g
sum_to-add zero f g = refl
sum_to-add (suc n) f g = let i = sum_to-add n f g in omega (arith, ints)

pub sum_to-sub : (n : ℕ) (f g : ℕ → ℤ) → sum_to n (λ v. f v -ℤ g v) ≡ sum_to n f -ℤ sum_to n g
sum_to-sub zero f g = refl
sum_to-sub (suc n) f g = let i = sum_to-sub n f g in omega (arith, ints)

pub sum_to-zero : (n : ℕ) (f : ℕ → ℤ) → ((v : ℕ) → Within n v → f v ≡ pos 0) → sum_to n f ≡ pos 0
sum_to-zero zero f h = refl
sum_to-zero (suc n) f h =
    let i = sum_to-zero n f (λ v w. h v (omega arith)) in
    let j = h (suc n) (omega arith) in omega (arith, ints)

-- only the term at a counts
pub sum_to-one : (n : ℕ) (f : ℕ → ℤ) (a : ℕ) → Within n a → ((v : ℕ) → Within n v → v ≢ a → f v ≡ pos 0) → sum_to n f ≡ f a
sum_to-one zero f a w h = absurd (omega arith)
sum_to-one (suc n) f a w h = elim (cases_eq a (suc n)) [
  | inl e ↦ grind (arith, sum_to-zero n f)
  | inr e ↦
      let i = sum_to-one n f a (omega arith) (λ v u d. h v (omega arith) d) in
      let j = h (suc n) (omega arith) (omega arith) in omega (arith, ints)
]
