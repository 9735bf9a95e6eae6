-- Vectors of integers, and the two sides of Farkas' lemma. A vector has the places 1, .., m; its
-- values past m are meaningless. Farkas 1902; Schrijver, "Theory of Linear and Integer Programming".
-- Stated by: theorems.
use Rattle.std.specs.Prelude.{◌≡◌, ℕ, zero, suc, ◌≤◌, ℤ, pos, ◌+ℤ◌, ◌*ℤ◌, ◌≤ℤ◌, ◌<ℤ◌}
use Rattle.tree_check.specs.from_counting.Common.{Within}

-- f 1 + f 2 + .. + f n
abbrev pub integer_total : ℕ → (ℕ → ℤ) → ℤ
integer_total zero f = pos 0
integer_total (suc n) f = integer_total n f +ℤ f (suc n)

-- the scalar product of u and w: u 1 w 1 + .. + u m w m
abbrev pub scalar_product : ℕ → (ℕ → ℤ) → (ℕ → ℤ) → ℤ
scalar_product m u w = integer_total m (λ e. u e *ℤ w e)

-- a positive multiple of b is a sum of the vectors v 1, .., v l, each taken some number of times; so b is in their cone
pub record Combination (l m : ℕ) (v : ℕ → ℕ → ℤ) (b : ℕ → ℤ) : Type 0 where
  pub times : ℕ → ℕ
  pub multiple : ℕ
  pub positive : 1 ≤ multiple
  pub equal : (e : ℕ) → Within m e → integer_total l (λ i. pos (times i) *ℤ v i e) ≡ pos multiple *ℤ b e

-- a vector w with w · v i ≤ 0 for each i, and w · b > 0
pub record Separator (l m : ℕ) (v : ℕ → ℕ → ℤ) (b : ℕ → ℤ) : Type 0 where
  pub normal : ℕ → ℤ
  pub low : (i : ℕ) → Within l i → scalar_product m normal (v i) ≤ℤ pos 0
  pub high : pos 0 <ℤ scalar_product m normal b
