-- Equivalences of the numbers 1 to n, as tests, and their classes.
-- Stated by no contract. Used by: two_ears.
use Rattle.std.specs.Prelude.{◌≡◌, ℕ, Bool, true, nat_lt, not, ◌&&◌}
use Rattle.graph_core.specs.from_counting.Common.{count, Within, some}

-- an equivalence
pub record IsEquivalence (n : ℕ) (p : ℕ → ℕ → Bool) : Type 0 where
  pub own : (a : ℕ) → Within n a → p a a ≡ true
  pub back : (a b : ℕ) → Within n a → Within n b → p a b ≡ true → p b a ≡ true
  pub on : (a b c : ℕ) → Within n a → Within n b → Within n c → p a b ≡ true → p b c ≡ true → p a c ≡ true

-- the number of classes, each counted at its least member
abbrev pub class_count : ℕ → (ℕ → ℕ → Bool) → ℕ
class_count n p = count n (λ u. not (some n (λ v. p u v && nat_lt v u)))
