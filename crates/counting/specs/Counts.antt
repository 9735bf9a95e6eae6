-- Sums over the numbers 1 to n, and the number of those that pass a test.
-- Stated by: counting, vset_core, graph_core, grow_gen, match_search, match_core and 26 more.
-- Used by: line_text, gallai_edmonds, decomposer, tree_text, move_text, ear_text and 3 more.
use Rattle.std.specs.Prelude.{ℕ, ◌+◌, ◌≤◌, Bool, true, false, not, suc, zero}

-- v is in {1, .., n}
abbrev pub Within : ℕ → ℕ → Type 0
Within n v = (1 ≤ v) × (v ≤ n)

-- 1 if the test is true, otherwise 0
abbrev pub bit : Bool → ℕ
bit true = 1
bit false = 0

-- f 1 + f 2 + .. + f n
abbrev pub total : ℕ → (ℕ → ℕ) → ℕ
total zero f = 0
total (suc n) f = total n f + f (suc n)

-- |{v in {1, .., n} : p v}|: how many of 1 to n pass the test p
abbrev pub count : ℕ → (ℕ → Bool) → ℕ
count n p = total n (λ v. bit (p v))

-- an odd number
abbrev pub is_odd : ℕ → Bool
is_odd zero = false
is_odd (suc n) = not (is_odd n)
