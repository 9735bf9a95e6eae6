-- Choices as in Hall's theorem (Hall 1935): different members of a set get different partners.
-- Stated by no contract. Used by: barrier_kit, quick_kinds, theorems.
use Rattle.std.specs.Prelude.{◌≡◌, ℕ, Bool, true, ◌&&◌}
use Rattle.graph_core.specs.from_counting.Common.{Within, Set, some}

-- the members of c that f relates to some member of z
abbrev pub neighbours : ℕ → (ℕ → ℕ → Bool) → Set → Set → Set
neighbours n f c z v = c v && some n (λ u. z u && f u v)

-- the members of a get different members of c that f relates to them
pub record Picks (n : ℕ) (f : ℕ → ℕ → Bool) (a c : Set) : Type 0 where
  pub to : ℕ → ℕ
  pub lands : (u : ℕ) → Within n u → a u ≡ true → Within n (to u) × (c (to u) ≡ true) × (f u (to u) ≡ true)
  pub apart : (u v : ℕ) → Within n u → Within n v → a u ≡ true → a v ≡ true → to u ≡ to v → u ≡ v
