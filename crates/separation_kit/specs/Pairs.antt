-- How contracts see the code's pairs of vertices.
-- Stated by: separation_kit.
use Rattle.std.specs.Prelude.{◌≡◌, ℕ, ◌<◌, Bool, true, false, not}
use Rattle.graph_core.specs.from_counting.Common.{Within, pair_set}
use Rattle.graph_core.specs.Common.{Graph, has_perfect}
use Rattle.graph_core.specs.declared.ends.Ends.{Ends}

-- two vertices of 1 to n, the smaller first
pub record IsPairIn (n : ℕ) (p : Ends) : Type 0 where
  pub first : Within n p.a
  pub second : Within n p.b
  pub rising : p.a < p.b

-- g - u - v has no perfect matching, where u and v are the two vertices
abbrev pub is_equivalent_pair : Graph → ℕ × ℕ → Bool
is_equivalent_pair g k = not (has_perfect g (pair_set k.0 k.1))

-- b is the first number of a + 1 to n such that the pair of a and b passes the test
pub record IsFirstInRow (n : ℕ) (test : ℕ × ℕ → Bool) (a b : ℕ) : Type 0 where
  pub within : Within n b
  pub above : a < b
  pub passes : test (a, b) ≡ true
  pub first : (w : ℕ) → a < w → w < b → test (a, w) ≡ false

-- no pair of a with a number of a + 1 to n passes the test
abbrev pub HasNoneInRow : ℕ → (ℕ × ℕ → Bool) → ℕ → Type 0
HasNoneInRow n test a = (b : ℕ) → Within n b → a < b → test (a, b) ≡ false
