-- No matching weighs more than a cover, and if one weighs as much, the cover is exact at its edges
-- and its sets. The weight of a cover is summed vertex by vertex and set by set.
use Rattle.graph_core.proofs.from_counting.Common.{◌≡◌, ℕ, ◌+◌, ◌*◌, ◌/◌, ◌≤◌, Bool, true, ◌&&◌, List, sym, ap₂, ◌∙◌, arith, All, total_le, total_tight, Within, bit, count, total, Set, none}
use Rattle.graph_core.proofs.Common.{degrees, Graph, IsGraph, degree, first_end, in_cut, inside, second_end, size, IsMatching}
use Rattle.brick_kit.proofs.EdgeSums.{term_le, weight_le, weight_plus, weight_sum, weight_test}
use Rattle.brick_kit.proofs.EndSums.{ends_weight}
use Rattle.brick_kit.proofs.SetSums.{sum_le, sum_same, sum_tight}
use Rattle.brick_kit.specs.Weights.{IsCover, cover_value, covering, sum_over, weight_of}

-- a matching and a cover of the same weight
pub record Dual (g : Graph) (w : ℕ → ℕ) : Type 0 where
  pub m : Set
  pub y : ℕ → ℕ
  pub us : List Set
  pub is : IsMatching g none m
  pub cover : IsCover g w y us
  pub equal : weight_of g w m ≡ cover_value g y us

pub cover_sum : (g : Graph) (y : ℕ → ℕ) (us : List Set) (m : Set) → IsGraph g → weight_of g (covering g y us) m ≡ total g.order (λ v. y v * degree g m v) + sum_over (λ x. count (size g) (λ e. m e && inside g x e)) us
cover_sum g y us m is =
    weight_plus g (λ e. y (first_end g e) + y (second_end g e)) (λ e. sum_over (λ x. bit (inside g x e)) us) m
    ∙ ap₂ ◌+◌ (sym (ends_weight g y m is))
    (weight_sum g (λ x e. bit (inside g x e)) us m ∙ sum_same (λ x. weight_of g (λ e. bit (inside g x e)) m) (λ x. count (size g) (λ e. m e && inside g x e)) us (λ x. weight_test g (inside g x) m))

pub inside_half : (g : Graph) (m x : Set) → IsGraph g → IsMatching g none m → count (size g) (λ e. m e && inside g x e) ≤ count g.order x / 2
inside_half g m x is mm = half (total g.order (λ v. bit (x v) * degree g m v)) (count (size g) (λ e. m e && in_cut g x e)) (count (size g) (λ e. m e && inside g x e)) (count g.order x) (degrees g is m x)
    (total_le g.order (λ v. bit (x v) * degree g m v) (λ v. bit (x v)) (λ v w. grind arith))
  where
    half : (t c i n : ℕ) → t ≡ c + 2 * i → t ≤ n → i ≤ n / 2
    half t c i n h l = omega arith

pub ends_most : (g : Graph) (y : ℕ → ℕ) (m : Set) → IsMatching g none m → total g.order (λ v. y v * degree g m v) ≤ total g.order y
ends_most g y m mm = grind (arith, total_le g.order)

module _ (g : Graph) (w y : ℕ → ℕ) (us : List Set) (m : Set) (is : IsGraph g) (cover : IsCover g w y us) (mm : IsMatching g none m) where
  few_inside : sum_over (λ x. count (size g) (λ e. m e && inside g x e)) us ≤ sum_over (λ x. count g.order x / 2) us
  few_inside = sum_le (λ x. count (size g) (λ e. m e && inside g x e)) (λ x. count g.order x / 2) us (λ x. inside_half g m x is mm)

  covered : weight_of g w m ≤ weight_of g (covering g y us) m
  covered = weight_le g w (covering g y us) m (λ e i h. cover.enough e i)

  pub cover_bound : weight_of g w m ≤ cover_value g y us
  cover_bound = settle (weight_of g w m) (weight_of g (covering g y us) m) (total g.order (λ v. y v * degree g m v)) (sum_over (λ x. count (size g) (λ e. m e && inside g x e)) us) (total g.order y) (sum_over (λ x. count g.order x / 2) us)
      covered (cover_sum g y us m is) (ends_most g y m mm) few_inside
    where
      settle : (a b c d e f : ℕ) → a ≤ b → b ≡ c + d → c ≤ e → d ≤ f → a ≤ e + f
      settle a b c d e f h i j k = omega arith

  pub slack_edge : weight_of g w m ≡ cover_value g y us → (e : ℕ) → Within (size g) e → m e ≡ true → w e ≡ covering g y us e
  slack_edge equal e we me = at (m e) (w e) (covering g y us e) me
      (total_tight (size g) (λ e. bit (m e) * covering g y us e) (λ e. bit (m e) * w e) (λ e i. term_le (m e) (w e) (covering g y us e) (λ h. cover.enough e i))
      (settle (weight_of g w m) (weight_of g (covering g y us) m) (total g.order (λ v. y v * degree g m v)) (sum_over (λ x. count (size g) (λ e. m e && inside g x e)) us) (total g.order y) (sum_over (λ x. count g.order x / 2) us)
      equal (cover_sum g y us m is) (ends_most g y m mm) few_inside) e we)
    where
      settle : (a b c d e f : ℕ) → a ≡ e + f → b ≡ c + d → c ≤ e → d ≤ f → b ≤ a
      settle a b c d e f h i j k = omega arith

      at : (b : Bool) (i j : ℕ) → b ≡ true → bit b * j ≡ bit b * i → i ≡ j
      at b i j h k = grind arith

  pub slack_sets : weight_of g w m ≡ cover_value g y us → All (λ x. count (size g) (λ e. m e && inside g x e) ≡ count g.order x / 2) us
  slack_sets equal = sum_tight (λ x. count (size g) (λ e. m e && inside g x e)) (λ x. count g.order x / 2) us (λ x. inside_half g m x is mm)
      (settle (weight_of g w m) (weight_of g (covering g y us) m) (total g.order (λ v. y v * degree g m v)) (sum_over (λ x. count (size g) (λ e. m e && inside g x e)) us) (total g.order y) (sum_over (λ x. count g.order x / 2) us)
      equal covered (cover_sum g y us m is) (ends_most g y m mm))
    where
      settle : (a b c d e f : ℕ) → a ≡ e + f → a ≤ b → b ≡ c + d → c ≤ e → f ≤ d
      settle a b c d e f h i j k = omega arith
