-- Weights as sums over the edges: of sums, multiples, constant weights and tests, and with one more
-- edge. Idea: term by term over the edges.
use Rattle.graph_core.proofs.from_counting.Common.{◌≡◌, ℕ, ◌+◌, ◌*◌, ◌≤◌, ◌<◌, Bool, true, false, ◌&&◌, List, [], ◌∷◌, sym, ap, ◌∙◌, arith, mul-add, inl, inr, bit-and, cases_lt, total_put, total_add, total_congr, total_le, total_mul, total_none, total_tight, bit_times_le, Within, bit, count, total, Set, put}
use Rattle.graph_core.proofs.Common.{Graph, size}
use Rattle.brick_kit.specs.Weights.{sum_over, weight_of}

-- a sum is less where no term is more and one is less
pub total_less : (n : ℕ) (f h : ℕ → ℕ) → ((v : ℕ) → Within n v → f v ≤ h v) → (a : ℕ) → Within n a → f a < h a → total n f < total n h
total_less n f h l a w s = grind (arith, cases_lt (total n f) (total n h), total_tight n h f l)

pub weight_plus : (g : Graph) (w u : ℕ → ℕ) (m : Set) → weight_of g (λ e. w e + u e) m ≡ weight_of g w m + weight_of g u m
weight_plus g w u m = total_congr (size g) _ _ (λ e i. mul-add (bit (m e)) (w e) (u e)) ∙ total_add (size g) (λ e. bit (m e) * w e) (λ e. bit (m e) * u e)

pub weight_flat : (g : Graph) (c : ℕ) (m : Set) → weight_of g (λ e. c) m ≡ c * count (size g) m
weight_flat g c m = grind (arith, total_congr (size g), total_mul (size g) c)

pub weight_test : (g : Graph) (p m : Set) → weight_of g (λ e. bit (p e)) m ≡ count (size g) (λ e. m e && p e)
weight_test g p m = total_congr (size g) _ _ (λ e i. sym (bit-and (m e) (p e)))

pub term_le : (b : Bool) (i j : ℕ) → (b ≡ true → i ≤ j) → bit b * i ≤ bit b * j
term_le b i j h = grind arith

pub weight_le : (g : Graph) (w u : ℕ → ℕ) (m : Set) → ((e : ℕ) → Within (size g) e → m e ≡ true → w e ≤ u e) → weight_of g w m ≤ weight_of g u m
weight_le g w u m h = total_le (size g) (λ e. bit (m e) * w e) (λ e. bit (m e) * u e) (λ e i. term_le (m e) (w e) (u e) (h e i))

pub weight_sum : (g : Graph) (f : Set → ℕ → ℕ) (xs : List Set) (m : Set) → weight_of g (λ e. sum_over (λ x. f x e) xs) m ≡ sum_over (λ x. weight_of g (f x) m) xs
weight_sum g f [] m = total_none (size g) _ (λ e w. omega arith)
weight_sum g f (x ∷ xs) m = weight_plus g (f x) (λ e. sum_over (λ x. f x e) xs) m ∙ ap (λ k. weight_of g (f x) m + k) (weight_sum g f xs m)

pub weight_times : (g : Graph) (c : ℕ) (w : ℕ → ℕ) (m : Set) → weight_of g (λ e. c * w e) m ≡ c * weight_of g w m
weight_times g c w m = grind (arith, total_congr (size g), total_mul (size g) c)

pub weight_congr : (g : Graph) (w : ℕ → ℕ) (m k : Set) → ((e : ℕ) → Within (size g) e → m e ≡ k e) → weight_of g w m ≡ weight_of g w k
weight_congr g w m k h = total_congr (size g) _ _ (λ e i. ap (λ b. bit b * w e) (h e i))

pub weight_most : (g : Graph) (w : ℕ → ℕ) (m : Set) → weight_of g w m ≤ total (size g) w
weight_most g w m = total_le (size g) (λ e. bit (m e) * w e) w (λ e i. bit_times_le (m e) (w e))

pub weight_put : (g : Graph) (w : ℕ → ℕ) (m : Set) (e : ℕ) → Within (size g) e → m e ≡ false → weight_of g w (put m e true) ≡ weight_of g w m + w e
weight_put g w m e i h = settle (weight_of g w (put m e true)) (weight_of g w m) (m e) (w e) h (total_put (size g) m e true w i)
  where
    settle : (a c : ℕ) (b : Bool) (k : ℕ) → b ≡ false → a + bit b * k ≡ c + 1 * k → a ≡ c + k
    settle a c b k h l = grind arith

pub weight_drop : (g : Graph) (w u : ℕ → ℕ) (m : Set) (e : ℕ) → ((i : ℕ) → u i ≤ w i) → Within (size g) e → m e ≡ true → u e < w e → weight_of g u m < weight_of g w m
weight_drop g w u m e h i me l = elim (cases_lt (weight_of g u m) (weight_of g w m)) [
  | inl k ↦ k
  | inr k ↦ absurd (at (m e) (w e) (u e) me l (total_tight (size g) (λ e. bit (m e) * w e) (λ e. bit (m e) * u e) (λ e i. term_le (m e) (u e) (w e) (λ t. h e)) k e i))
]
  where
    at : (b : Bool) (k j : ℕ) → b ≡ true → j < k → bit b * k ≡ bit b * j → ⊥
    at b k j h l e = grind arith
