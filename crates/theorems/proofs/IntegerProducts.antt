-- Products of integers: they distribute over sums and differences, factors change places, and the
-- signs of multiples and squares. Idea: an integer is a difference of two whole numbers, and each
-- product a difference of sums of products of these.
use Rattle.tree_check.proofs.from_counting.Common.{◌≡◌, ℕ, suc, zero, ◌+◌, ◌*◌, ◌≤◌, ◌⊎◌, inl, inr, refl, ap, ◌∙◌, arith, mul-add, mul-le-mul_left, mul_left_comm, ℤ, pos, ◌+ℤ◌, ◌-ℤ◌, ◌≤ℤ◌, ◌<ℤ◌, ints}
use Rattle.std.proofs.Common.{◌*ℤ◌, negsuc}
use Rattle.std.proofs.Math.IntN.{*ℤ_comm}
use borrow.Author.Differences.{up, down, product_is, sum_is_lem}

spread : (k x a b y c d : ℕ) → x + a + b ≡ y + c + d → k * x + k * a + k * b ≡ k * y + k * c + k * d
spread k x a b y c d h = let e = ap (λ t. k * t) h in let p = mul-add k (x + a) b in let q = mul-add k x a in let r = mul-add k (y + c) d in let s = mul-add k y c in omega arith

difference_is : (a b : ℤ) → up (a -ℤ b) + down a + up b ≡ down (a -ℤ b) + up a + down b
difference_is a b = omega (arith, ints)

pub times_add : (c a b : ℤ) → c *ℤ (a +ℤ b) ≡ c *ℤ a +ℤ c *ℤ b
times_add c a b = omega (arith, ints, spread (up c) (up (a +ℤ b)) (down a) (down b) (down (a +ℤ b)) (up a) (up b) (sum_is_lem a b), spread (down c) (up (a +ℤ b)) (down a) (down b) (down (a +ℤ b)) (up a) (up b) (sum_is_lem a b))

pub times_sub : (c a b : ℤ) → c *ℤ (a -ℤ b) ≡ c *ℤ a -ℤ c *ℤ b
times_sub c a b = omega (arith, ints, spread (up c) (up (a -ℤ b)) (down a) (up b) (down (a -ℤ b)) (up a) (down b) (difference_is a b), spread (down c) (up (a -ℤ b)) (down a) (up b) (down (a -ℤ b)) (up a) (down b) (difference_is a b))

-- two factors of three whole numbers change places, in a product with a sum of two products
turn : (k x p q r s : ℕ) → x ≡ p * r + q * s → k * x ≡ p * (k * r) + q * (k * s)
turn k x p q r s h = ap (λ t. k * t) h ∙ mul-add k (p * r) (q * s) ∙ (let e = mul_left_comm k p r in let f = mul_left_comm k q s in omega arith)

opened : (k x r s p q : ℕ) → x ≡ r + s → k * x ≡ k * r + k * s
opened k x r s p q h = ap (λ t. k * t) h ∙ mul-add k r s

-- the first two factors change places
pub times_left : (a b c : ℤ) → a *ℤ (b *ℤ c) ≡ b *ℤ (a *ℤ c)
times_left a b c =
    let p = product_is b c in
    let q = product_is a c in
    omega (
      arith,
      ints,
      turn (up a) (up (b *ℤ c)) (up b) (down b) (up c) (down c) p.0,
      turn (down a) (down (b *ℤ c)) (up b) (down b) (down c) (up c) p.1,
      turn (up a) (down (b *ℤ c)) (up b) (down b) (down c) (up c) p.1,
      turn (down a) (up (b *ℤ c)) (up b) (down b) (up c) (down c) p.0,
      opened (up b) (up (a *ℤ c)) (up a * up c) (down a * down c) 0 0 q.0,
      opened (down b) (down (a *ℤ c)) (up a * down c) (down a * up c) 0 0 q.1,
      opened (up b) (down (a *ℤ c)) (up a * down c) (down a * up c) 0 0 q.1,
      opened (down b) (up (a *ℤ c)) (up a * up c) (down a * down c) 0 0 q.0,
    )

pub times_assoc : (a b c : ℤ) → (a *ℤ b) *ℤ c ≡ a *ℤ (b *ℤ c)
times_assoc a b c = *ℤ_comm (a *ℤ b) c ∙ times_left c a b ∙ ap (λ t. a *ℤ t) (*ℤ_comm c b)

parts_low : (a : ℤ) → a ≤ℤ pos 0 → up a ≤ down a
parts_low a h = omega (arith, ints)

parts_high : (a : ℤ) → pos 0 <ℤ a → down a + 1 ≤ up a
parts_high a h = omega (arith, ints)

-- a multiple of a number that is not positive
pub low_times : (n : ℕ) (a : ℤ) → a ≤ℤ pos 0 → (pos n *ℤ a) ≤ℤ pos 0
low_times n a h = let k = mul-le-mul_left n (parts_low a h) in omega (arith, ints)

-- a positive multiple of a positive number
pub high_times : (n : ℕ) (a : ℤ) → 1 ≤ n → pos 0 <ℤ a → pos 0 <ℤ (pos n *ℤ a)
high_times n a some h = let k = mul-le-mul_left n (parts_high a h) in let e = mul-add n (down a) 1 in omega (arith, ints)

pub one_product : (a b : ℕ) → 1 ≤ a → 1 ≤ b → 1 ≤ a * b
one_product a b h k = let l = mul-le-mul_left a k in omega arith

-- a square
pub square : (a : ℤ) → (a ≡ pos 0) ⊎ (pos 0 <ℤ (a *ℤ a))
square (pos zero) = inl refl
square (pos (suc n)) = inr (let k = one_product (suc n) (suc n) (omega arith) (omega arith) in omega (arith, ints))
square (negsuc n) = inr (let k = one_product (suc n) (suc n) (omega arith) (omega arith) in omega (arith, ints))

-- an integer is not positive, or it is a whole number that is
pub sign : (z : ℤ) → (z ≤ℤ pos 0) ⊎ ((n : ℕ) × (pos n ≡ z) × (1 ≤ n))
sign (pos zero) = inl (omega (arith, ints))
sign (pos (suc n)) = inr (suc n, refl, omega arith)
sign (negsuc n) = inl (omega (arith, ints))

-- an integer that is not negative is a whole number
pub whole : (z : ℤ) → pos 0 ≤ℤ z → (n : ℕ) × (pos n ≡ z)
whole (pos n) h = (n, refl)
whole (negsuc n) h = absurd (omega (arith, ints))
