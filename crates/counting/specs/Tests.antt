-- "Some" and "each" over the numbers 1 to n, and over all sets of such numbers, as tests that
-- compute.
-- Stated by: graph_core, allowed_edges, graph_facts, contraction, ear_core, plain_graph.
-- Used by: counting, grow_gen, match_search, barrier_kit, matching_digraph and 10 more.
use Rattle.std.specs.Prelude.{ℕ, zero, suc, ◌<◌, Bool, true, false, ◌&&◌, ◌||◌, not}
use Rattle.counting.specs.Counts.{Within}
use Rattle.counting.specs.Sets.{Set, none, put}

-- some of 1 to n passes
abbrev pub some : ℕ → Set → Bool
some zero p = false
some (suc n) p = some n p || p (suc n)

-- each of 1 to n passes
abbrev pub every : ℕ → Set → Bool
every zero p = true
every (suc n) p = every n p && p (suc n)

-- some set of numbers 1 to n passes
abbrev pub some_set : ℕ → (Set → Bool) → Bool
some_set zero p = p none
some_set (suc n) p = some_set n (λ x. p (put x (suc n) false)) || some_set n (λ x. p (put x (suc n) true))

-- each set of numbers 1 to n passes
abbrev pub each_set : ℕ → (Set → Bool) → Bool
each_set n p = not (some_set n (λ x. not (p x)))

-- v is the least of 1 to n without the property
pub record IsLeastWithout (n : ℕ) (P : ℕ → Type 0) (v : ℕ) : Type 0 where
  pub within : Within n v
  pub without : P v → ⊥
  pub before : (w : ℕ) → Within n w → w < v → P w
