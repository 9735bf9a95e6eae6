-- Sums over 1 to n: term by term, of sums and multiples, in two orders, of one term alone.
-- By induction on n.
use Rattle.std.proofs.Common.{◌≡◌, ℕ, suc, zero, ◌+◌, ◌*◌, ◌≤◌, ◌<◌, ◌≢◌, refl, sym, ap, ap₂, ◌∙◌, arith, inl, inr}
use Rattle.std.proofs.lemmas.Bool.{cases_eq}
use Rattle.counting.specs.Common.{Within, total}

pub total_congr : (n : ℕ) (f g : ℕ → ℕ) → ((v : ℕ) → Within n v → f v ≡ g v) → total n f ≡ total n g
total_congr zero f g h = refl
total_congr (suc n) f g h = ap₂ ◌+◌ (total_congr n f g (λ v w. h v (omega arith))) (h (suc n) (omega arith))

pub total_le : (n : ℕ) (f g : ℕ → ℕ) → ((v : ℕ) → Within n v → f v ≤ g v) → total n f ≤ total n g
total_le zero f g h = omega arith
total_le (suc n) f g h = omega (arith, total_le n f g (λ v w. h v (omega arith)), h (suc n) (omega arith))

pub total_add : (n : ℕ) (f g : ℕ → ℕ) → total n (λ v. f v + g v) ≡ total n f + total n g
total_add zero f g = refl
total_add (suc n) f g = omega (arith, total_add n f g)

pub total_mul : (n c : ℕ) (f : ℕ → ℕ) → total n (λ v. c * f v) ≡ c * total n f
total_mul zero c f = omega arith
total_mul (suc n) c f = omega (arith, total_mul n c f)

pub total_zero : (n : ℕ) → total n (λ v. 0) ≡ 0
total_zero zero = refl
total_zero (suc n) = omega (arith, total_zero n)

pub total_swap : (n m : ℕ) (f : ℕ → ℕ → ℕ) → total n (λ v. total m (f v)) ≡ total m (λ e. total n (λ v. f v e))
total_swap zero m f = sym (total_zero m)
total_swap (suc n) m f = ap (λ s. s + total m (f (suc n))) (total_swap n m f) ∙ sym (total_add m (λ e. total n (λ v. f v e)) (f (suc n)))

pub total_none : (n : ℕ) (f : ℕ → ℕ) → ((v : ℕ) → Within n v → f v ≡ 0) → total n f ≡ 0
total_none n f h = total_congr n f (λ v. 0) h ∙ total_zero n

-- one term alone
pub total_at : (n : ℕ) (f : ℕ → ℕ) (a : ℕ) → Within n a → ((v : ℕ) → Within n v → v ≢ a → f v ≡ 0) → total n f ≡ f a
total_at zero f a w h = omega arith
total_at (suc n) f a w h = elim (cases_eq a (suc n)) [
  | inl e ↦ let z : total n f ≡ 0 = total_none n f (λ v u. h v (omega arith) (omega arith)) in omega (arith, z, ap f e)
  | inr e ↦ omega (arith, total_at n f a (omega arith) (λ v u d. h v (omega arith) d), h (suc n) (omega arith) (omega arith))
]

pub at_le_total : (n : ℕ) (f : ℕ → ℕ) (a : ℕ) → Within n a → f a ≤ total n f
at_le_total zero f a w = omega arith
at_le_total (suc n) f a w = elim (cases_eq a (suc n)) [
  | inl e ↦ omega (arith, ap f e)
  | inr e ↦ omega (arith, at_le_total n f a (omega arith))
]

pub two_le_total : (n : ℕ) (f : ℕ → ℕ) (a b : ℕ) → Within n a → Within n b → a < b → f a + f b ≤ total n f
two_le_total zero f a b wa wb l = omega arith
two_le_total (suc n) f a b wa wb l = elim (cases_eq b (suc n)) [
  | inl e ↦ omega (arith, ap f e, at_le_total n f a (omega arith))
  | inr e ↦ omega (arith, two_le_total n f a b (omega arith) (omega arith) l)
]

-- a sum that is not 0 has a term that is not 0
pub some_term : (n : ℕ) (f : ℕ → ℕ) → 0 < total n f → (v : ℕ) × Within n v × (0 < f v)
some_term zero f h = absurd (omega arith)
some_term (suc n) f h = elim (cases_eq (f (suc n)) 0) [
  | inl e ↦ let r = some_term n f (omega arith) in (r.0, omega arith, r.2)
  | inr e ↦ (suc n, omega arith, omega arith)
]

-- where each term is at least the other sum's, and the sum is not more, the terms are equal
pub total_tight : (n : ℕ) (f g : ℕ → ℕ) → ((v : ℕ) → Within n v → g v ≤ f v) → total n f ≤ total n g → (v : ℕ) → Within n v → f v ≡ g v
total_tight zero f g h l v w = absurd (omega arith)
total_tight (suc n) f g h l v w =
    let a = total_le n g f (λ v w. h v (omega arith)) in
    let b = h (suc n) (omega arith) in
    elim (cases_eq v (suc n)) [
      | inl e ↦ omega (arith, a, b, ap f e, ap g e)
      | inr e ↦ total_tight n f g (λ v w. h v (omega arith)) (omega arith) v (omega arith)
    ]

-- a sum begins with its first term
pub total-first : (n : ℕ) (f : ℕ → ℕ) → total (suc n) f ≡ f 1 + total n (λ i. f (i + 1))
total-first zero f = omega arith
total-first (suc n) f = let h = total-first n f in let e = ap f (let q : suc (suc n) ≡ suc n + 1 = omega arith in q) in omega (arith, h, e)

-- a sum of ones
pub total_ones : (p : ℕ) → total p (λ j. 1) ≡ p
total_ones zero = refl
total_ones (suc p) = omega (arith, total_ones p)
