-- The structure of a graph with perfect matchings: the canonical partition, barriers, bicritical
-- graphs and cut pairs (Kotzig 1959, Lovász 1972; Lucchesi and Murty, "Perfect Matchings").
-- Stated by: barrier_kit, separation_kit, brick_kit, quick_kinds, tight_cuts and 4 more.
-- Used by: graph_core, leaf_kinds, two_ears, bench_outcomes.
use Rattle.std.specs.Prelude.{◌≡◌, ◌≢◌, ℕ, ◌≤◌, ◌⊎◌, Bool, true, List, Option, ◌==◌, ◌&&◌, ◌||◌, not, nat_lt, nat_le, map, find, is_none}
use Rattle.vset_core.specs.from_counting.Common.{count, Within, Set, pair_set, some, rising_list, rising_pairs}
use Rattle.graph_core.specs.Graph.{Graph}
use Rattle.graph_core.specs.Matchings.{HasPerfect, has_perfect}
use Rattle.graph_core.specs.Components.{component_count, odd_component_count}

-- a = b, or g - a - b has no perfect matching
abbrev pub Equivalent : Graph → ℕ → ℕ → Type 0
Equivalent g a b = (a ≡ b) ⊎ (HasPerfect g (pair_set a b) → ⊥)

-- the same as a test
abbrev pub is_equivalent : Graph → ℕ → Set
is_equivalent g a b = (a == b) || not (has_perfect g (pair_set a b))

-- s is the class of a: the vertices equivalent to a
pub record IsClass (g : Graph) (a : ℕ) (s : Set) : Type 0 where
  pub holds : (v : ℕ) → Within g.order v → s v ≡ true → Equivalent g a v
  pub all : (v : ℕ) → Within g.order v → Equivalent g a v → s v ≡ true

-- a is the least vertex of its class
abbrev pub is_least_of_class : Graph → Set
is_least_of_class g a = not (some g.order (λ b. nat_lt b a && is_equivalent g b a))

-- the canonical partition of a covered graph: its classes as increasing lists, by least vertex
unfoldable pub classes : Graph → List (List ℕ)
classes g = map (λ a. rising_list g.order (is_equivalent g a)) (rising_list g.order (is_least_of_class g))

-- s is a barrier: o(s) = |s|
abbrev pub IsBarrier : Graph → Set → Type 0
IsBarrier g s = odd_component_count g s ≡ count g.order s

-- bicritical: g - u - v has a perfect matching for any two different vertices u and v
abbrev pub IsBicritical : Graph → Type 0
IsBicritical g = (a b : ℕ) → Within g.order a → Within g.order b → a ≢ b → HasPerfect g (pair_set a b)

-- a cut pair: two different vertices u and v such that g - u - v has at least two components
pub record IsCutPair (g : Graph) (a b : ℕ) : Type 0 where
  pub first : Within g.order a
  pub second : Within g.order b
  pub different : a ≢ b
  pub parts : 2 ≤ component_count g (pair_set a b)

-- the first pair a < b in lexicographic order such that g - a - b has no perfect matching
unfoldable pub equivalent_pair : Graph → Option (ℕ × ℕ)
equivalent_pair g = find (λ k. not (has_perfect g (pair_set k.0 k.1))) (rising_pairs g.order)

-- the first cut pair a < b in lexicographic order
unfoldable pub cut_pair : Graph → Option (ℕ × ℕ)
cut_pair g = find (λ k. nat_le 2 (component_count g (pair_set k.0 k.1))) (rising_pairs g.order)

-- no pair shows that g is not bicritical
abbrev pub is_bicritical : Graph → Bool
is_bicritical g = is_none (equivalent_pair g)
