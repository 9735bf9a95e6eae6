-- Matchings of G - R, as sets of edges. Any textbook; a matching of G - R is a set of edges of G of
-- which at most one is at each vertex outside R, and none at a vertex of R.
-- Stated by: graph_core, match_search, match_core, allowed_edges, graph_facts and 11 more.
-- Used by: grow_gen, barrier_kit, quick_kinds, move_laws, tree_check, mcg6_lines and 3 more.
use Rattle.std.specs.Prelude.{◌≡◌, ℕ, ◌≤◌, ◌⊎◌, Bool, true, false, ◌==◌, ◌&&◌, not, cond, nat_le}
use Rattle.vset_core.specs.from_counting.Common.{count, Within, Set, none, every, some_set}
use Rattle.graph_core.specs.Graph.{Graph, size, degree, first_end, second_end}

-- m is a matching of g - r
pub record IsMatching (g : Graph) (r m : Set) : Type 0 where
  pub once : (v : ℕ) → Within g.order v → degree g m v ≤ 1
  pub away : (v : ℕ) → Within g.order v → r v ≡ true → degree g m v ≡ 0

-- v is an end of edge e
abbrev pub IsEnd : Graph → ℕ → ℕ → Type 0
IsEnd g e v = (first_end g e ≡ v) ⊎ (second_end g e ≡ v)

-- edges of m that share an end are equal: the textbook's definition of a matching, for a graph
-- without loops
abbrev pub ShareNoEnd : Graph → Set → Type 0
ShareNoEnd g m = (e f v : ℕ) → Within (size g) e → Within (size g) f → Within g.order v → m e ≡ true → m f ≡ true → IsEnd g e v → IsEnd g f v → e ≡ f

-- m is a perfect matching of g - r: exactly one of its edges is at each vertex outside r
pub record IsPerfect (g : Graph) (r m : Set) : Type 0 where
  pub once : (v : ℕ) → Within g.order v → r v ≡ false → degree g m v ≡ 1
  pub away : (v : ℕ) → Within g.order v → r v ≡ true → degree g m v ≡ 0

-- m is maximum: no matching of g - r has more edges
pub record IsMaximum (g : Graph) (r m : Set) : Type 0 where
  pub is : IsMatching g r m
  pub most : (k : Set) → IsMatching g r k → count (size g) k ≤ count (size g) m

-- the number of vertices outside r that m misses; for a maximum matching this is the deficiency of
-- g - r
unfoldable pub missed_count : Graph → Set → Set → ℕ
missed_count g r m = count g.order (λ v. not (r v) && (degree g m v == 0))

-- g - r has a perfect matching
abbrev pub HasPerfect : Graph → Set → Type 0
HasPerfect g r = (m : Set) × IsPerfect g r m

-- some perfect matching contains e
abbrev pub Allowed : Graph → ℕ → Type 0
Allowed g e = (m : Set) × IsPerfect g none m × (m e ≡ true)

-- some perfect matching contains both e and f; if e = f, it contains e
abbrev pub Together : Graph → ℕ → ℕ → Type 0
Together g e f = (m : Set) × IsPerfect g none m × (m e ≡ true) × (m f ≡ true)

-- at most one edge of m is at v, and none if v is in r
abbrev pub fits_at : Graph → Set → Set → Set
fits_at g r m v = nat_le (degree g m v) (cond (r v) 0 1)

-- m is a matching of g - r, as a test
abbrev pub is_matching : Graph → Set → Set → Bool
is_matching g r m = every g.order (fits_at g r m)

-- one edge of m is at v, or none if v is in r
abbrev pub right_degree : Graph → Set → Set → Set
right_degree g r m v = degree g m v == cond (r v) 0 1

-- m is a perfect matching of g - r, as a test
abbrev pub is_perfect : Graph → Set → Set → Bool
is_perfect g r m = every g.order (right_degree g r m)

-- g - r has a perfect matching, as a test
abbrev pub has_perfect : Graph → Set → Bool
has_perfect g r = some_set (size g) (is_perfect g r)

-- some perfect matching contains e, as a test
abbrev pub is_allowed : Graph → Set
is_allowed g e = some_set (size g) (λ m. is_perfect g none m && m e)

-- some matching of g - r has k edges, as a test
abbrev pub has_matching_of : Graph → Set → ℕ → Bool
has_matching_of g r k = some_set (size g) (λ m. is_matching g r m && (count (size g) m == k))
