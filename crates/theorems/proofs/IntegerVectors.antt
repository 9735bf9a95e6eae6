-- Sums of integers and scalar products: term by term, of sums, differences and multiples, in two
-- orders. Idea: induction on the number of terms.
use Rattle.tree_check.proofs.from_counting.Common.{◌≡◌, ℕ, suc, zero, ◌⊎◌, inl, inr, refl, sym, ap, ap₂, ◌∙◌, arith, ℤ, pos, ◌+ℤ◌, ◌-ℤ◌, ◌≤ℤ◌, ◌<ℤ◌, ints, cases_eq, Within}
use Rattle.std.proofs.Common.{◌*ℤ◌}
use Rattle.std.proofs.Math.IntN.{*ℤ_comm, *ℤ-zero}
use Rattle.theorems.proofs.IntegerProducts.{square, times_add, times_left, times_sub}
use Rattle.theorems.specs.Inequalities.{integer_total, scalar_product}

pub integer_total-congr : (n : ℕ) (f g : ℕ → ℤ) → ((i : ℕ) → Within n i → f i ≡ g i) → integer_total n f ≡ integer_total n g
integer_total-congr zero f g h = refl
integer_total-congr (suc n) f g h = ap₂ ◌+ℤ◌ (integer_total-congr n f g (λ i w. h i (omega arith))) (h (suc n) (omega arith))

pub integer_total-add : (n : ℕ) (f g : ℕ → ℤ) → integer_total n (λ i. f i +ℤ g i) ≡ integer_total n f +ℤ integer_total n g
integer_total-add zero f g = refl
integer_total-add (suc n) f g = let i = integer_total-add n f g in omega (arith, ints)

pub integer_total-sub : (n : ℕ) (f g : ℕ → ℤ) → integer_total n (λ i. f i -ℤ g i) ≡ integer_total n f -ℤ integer_total n g
integer_total-sub zero f g = refl
integer_total-sub (suc n) f g = let i = integer_total-sub n f g in omega (arith, ints)

pub integer_total-times : (n : ℕ) (c : ℤ) (f : ℕ → ℤ) → integer_total n (λ i. c *ℤ f i) ≡ c *ℤ integer_total n f
integer_total-times zero c f = sym (*ℤ-zero c)
integer_total-times (suc n) c f = ap (λ t. t +ℤ c *ℤ f (suc n)) (integer_total-times n c f) ∙ sym (times_add c (integer_total n f) (f (suc n)))

integer_total-zero : (n : ℕ) → integer_total n (λ i. pos 0) ≡ pos 0
integer_total-zero zero = refl
integer_total-zero (suc n) = let i = integer_total-zero n in omega (arith, ints)

add_low : (a b : ℤ) → a ≤ℤ pos 0 → b ≤ℤ pos 0 → (a +ℤ b) ≤ℤ pos 0
add_low a b h k = omega (arith, ints)

pub integer_total-low : (n : ℕ) (f : ℕ → ℤ) → ((i : ℕ) → Within n i → f i ≤ℤ pos 0) → integer_total n f ≤ℤ pos 0
integer_total-low zero f h = omega (arith, ints)
integer_total-low (suc n) f h = add_low (integer_total n f) (f (suc n)) (integer_total-low n f (λ i w. h i (omega arith))) (h (suc n) (omega arith))

pub integer_total-swap : (l m : ℕ) (f : ℕ → ℕ → ℤ) → integer_total l (λ i. integer_total m (f i)) ≡ integer_total m (λ e. integer_total l (λ i. f i e))
integer_total-swap zero m f = sym (integer_total-zero m)
integer_total-swap (suc l) m f = ap (λ s. s +ℤ integer_total m (f (suc l))) (integer_total-swap l m f) ∙ sym (integer_total-add m (λ e. integer_total l (λ i. f i e)) (f (suc l)))

pub product_turned : (m : ℕ) (u w : ℕ → ℤ) → scalar_product m u w ≡ scalar_product m w u
product_turned m u w = integer_total-congr m (λ e. u e *ℤ w e) (λ e. w e *ℤ u e) (λ e i. *ℤ_comm (u e) (w e))

-- u · (s x - d y)
pub product_difference : (m : ℕ) (u x y : ℕ → ℤ) (s d : ℤ) → scalar_product m u (λ e. s *ℤ x e -ℤ d *ℤ y e) ≡ s *ℤ scalar_product m u x -ℤ d *ℤ scalar_product m u y
product_difference m u x y s d =
    integer_total-congr m (λ e. u e *ℤ (s *ℤ x e -ℤ d *ℤ y e)) (λ e. s *ℤ (u e *ℤ x e) -ℤ d *ℤ (u e *ℤ y e)) (λ e i. term (u e) (x e) (y e))
    ∙ integer_total-sub m (λ e. s *ℤ (u e *ℤ x e)) (λ e. d *ℤ (u e *ℤ y e))
    ∙ ap₂ ◌-ℤ◌ (integer_total-times m s (λ e. u e *ℤ x e)) (integer_total-times m d (λ e. u e *ℤ y e))
  where
    term : (a b c : ℤ) → a *ℤ (s *ℤ b -ℤ d *ℤ c) ≡ s *ℤ (a *ℤ b) -ℤ d *ℤ (a *ℤ c)
    term a b c = times_sub a (s *ℤ b) (d *ℤ c) ∙ ap₂ ◌-ℤ◌ (times_left a s b) (times_left a d c)

-- (s x - d y) · u
pub difference_product : (m : ℕ) (u x y : ℕ → ℤ) (s d : ℤ) → scalar_product m (λ e. s *ℤ x e -ℤ d *ℤ y e) u ≡ s *ℤ scalar_product m x u -ℤ d *ℤ scalar_product m y u
difference_product m u x y s d =
    product_turned m (λ e. s *ℤ x e -ℤ d *ℤ y e) u
    ∙ product_difference m u x y s d
    ∙ ap₂ (λ a b. s *ℤ a -ℤ d *ℤ b) (product_turned m u x) (product_turned m u y)

add_high : (a b : ℤ) → pos 0 <ℤ a → pos 0 ≤ℤ b → pos 0 <ℤ (a +ℤ b)
add_high a b h k = omega (arith, ints)

high_add : (a b : ℤ) → pos 0 ≤ℤ a → pos 0 <ℤ b → pos 0 <ℤ (a +ℤ b)
high_add a b h k = omega (arith, ints)

add_not_low : (a b : ℤ) → pos 0 ≤ℤ a → pos 0 ≤ℤ b → pos 0 ≤ℤ (a +ℤ b)
add_not_low a b h k = omega (arith, ints)

square_not_low : (a : ℤ) → pos 0 ≤ℤ (a *ℤ a)
square_not_low a = elim (square a) [
  | inl e ↦ zero_square a e
  | inr h ↦ weaker (a *ℤ a) h
]
  where
    zero_square : (a : ℤ) → a ≡ pos 0 → pos 0 ≤ℤ (a *ℤ a)
    zero_square a e = let q = ap (λ t. t *ℤ t) e in at (a *ℤ a) q
      where
        at : (z : ℤ) → z ≡ pos 0 → pos 0 ≤ℤ z
        at z e = omega (arith, ints)

    weaker : (z : ℤ) → pos 0 <ℤ z → pos 0 ≤ℤ z
    weaker z h = omega (arith, ints)

squares_not_low : (m : ℕ) (b : ℕ → ℤ) → pos 0 ≤ℤ scalar_product m b b
squares_not_low zero b = omega (arith, ints)
squares_not_low (suc m) b = add_not_low (scalar_product m b b) (b (suc m) *ℤ b (suc m)) (squares_not_low m b) (square_not_low (b (suc m)))

-- a vector is 0 at all places, or its product with itself is positive
pub squares : (m : ℕ) (b : ℕ → ℤ) → ((e : ℕ) → Within m e → b e ≡ pos 0) ⊎ (pos 0 <ℤ scalar_product m b b)
squares zero b = inl (λ e w. absurd (omega arith))
squares (suc m) b = elim (squares m b) [
  | inr h ↦ inr (add_high (scalar_product m b b) (b (suc m) *ℤ b (suc m)) h (square_not_low (b (suc m))))
  | inl z ↦ elim (square (b (suc m))) [
    | inr h ↦ inr (high_add (scalar_product m b b) (b (suc m) *ℤ b (suc m)) (squares_not_low m b) h)
    | inl y ↦ inl (λ e w. elim (cases_eq e (suc m)) [
      | inl q ↦ ap b q ∙ y
      | inr n ↦ z e (omega arith)
    ])
  ]
]
