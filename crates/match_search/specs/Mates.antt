-- Matchings by mates: for each vertex the other end of its edge, or 0 if it is exposed. Which of
-- several parallel edges joins two mates is not recorded.
-- Stated by: match_search, match_core. Used by: ear_core, mcg6_lines, theorems.
use Rattle.std.specs.Prelude.{◌≡◌, ◌≢◌, ℕ, zero, suc, ◌+◌, ◌<◌, ◌⊎◌, ◌==◌, cond, true, false, List}
use Rattle.graph_core.specs.from_counting.Common.{Within, Set, none}
use Rattle.graph_core.specs.Common.{Graph, HasEnds, degree, first_end, second_end, size, IsMatching}
use Rattle.match_search.specs.OddCycles.{every_other, listed, next}
use Rattle.match_search.specs.Rows.{numbers, end_a, end_b}
use Rattle.graph_core.specs.declared.ends.Ends.{Ends}

-- m is a matching of g - r, and its edges join each vertex to its mate
pub record HasMates (g : Graph) (r m : Set) (mate : ℕ → ℕ) : Type 0 where
  pub matching : IsMatching g r m
  pub exposed : (v : ℕ) → Within g.order v → mate v ≡ 0 → degree g m v ≡ 0
  pub paired : (v : ℕ) → Within g.order v → mate v ≢ 0 → (e : ℕ) × Within (size g) e × (m e ≡ true) × HasEnds g e v (mate v)

-- the mates changed at v to w
abbrev pub with_mate : (ℕ → ℕ) → ℕ → ℕ → ℕ → ℕ
with_mate mate v w u = cond (u == v) w (mate u)

-- the mates changed so that v and w are a pair
abbrev pub with_pair : (ℕ → ℕ) → ℕ → ℕ → ℕ → ℕ
with_pair mate v w = with_mate (with_mate mate v w) w v

-- the mates after the first k pairs of edges of a path over v 0, v 1, ..: v 0 and v 1 are a pair,
-- v 2 and v 3, .., and v (k + k) is exposed
abbrev pub flipped_mates : (ℕ → ℕ) → (ℕ → ℕ) → ℕ → ℕ → ℕ
flipped_mates mate v zero = mate
flipped_mates mate v (suc k) = with_mate (with_pair (flipped_mates mate v k) (v (k + k)) (v (suc (k + k)))) (v (suc (suc (k + k)))) 0

-- the mates changed so that the vertices c 1 to c n are exposed
abbrev pub cleared_mates : (ℕ → ℕ) → ℕ → (ℕ → ℕ) → ℕ → ℕ
cleared_mates mate n c u = cond (listed n c u) 0 (mate u)

-- the mates changed so that, of the first k vertices of the cycle c 1 to c n, every other one on
-- the way round from place t is paired with the next
abbrev pub paired_round : (ℕ → ℕ) → ℕ → (ℕ → ℕ) → ℕ → ℕ → ℕ → ℕ
paired_round mate n c t zero u = mate u
paired_round mate n c t (suc k) u = cond (every_other t (suc k)) (with_pair (paired_round mate n c t k) (c (suc k)) (c (next n (suc k))) u) (paired_round mate n c t k u)

-- among the first k edges of a row, each vertex with a mate has a marked edge that joins it to its
-- mate, and a vertex with the mate 0 has none
pub record NamesMates (ends : List Ends) (m : Set) (mate : List ℕ) (k : ℕ) : Type 0 where
  pub met : (v : ℕ) → numbers mate v ≢ 0 → (j : ℕ) × (j < k) × (m (j + 1) ≡ true) × (((end_a ends j ≡ v) × (end_b ends j ≡ numbers mate v)) ⊎ ((end_a ends j ≡ numbers mate v) × (end_b ends j ≡ v)))
  pub missed : (v : ℕ) → numbers mate v ≡ 0 → (j : ℕ) → j < k → m (j + 1) ≡ true → (end_a ends j ≢ v) × (end_b ends j ≢ v)

-- an edge of m joins v to its mate; stated for either end
abbrev pub JoinsMates : Graph → (ℕ → ℕ) → Set → ℕ → Type 0
JoinsMates g mate m v = (e w : ℕ) × Within (size g) e × (m e ≡ true) × HasEnds g e v w × ((mate v ≡ w) ⊎ (mate w ≡ v))

-- of the first k edges of g, those that join two mates have an end in the set `seen`, and this set
-- is the set of ends of the marked edges, which are a matching and join mates
pub record MarksMates (g : Graph) (mate : ℕ → ℕ) (m seen : Set) (k : ℕ) : Type 0 where
  pub matching : IsMatching g none m
  pub free : (v : ℕ) → Within g.order v → seen v ≡ false → (none v ≡ false) × (degree g m v ≡ 0)
  pub marked : (v : ℕ) → seen v ≡ true → JoinsMates g mate m v
  pub covered : (e : ℕ) → Within k e → mate (first_end g e) ≡ second_end g e → first_end g e ≢ second_end g e → (seen (first_end g e) ≡ true) ⊎ (seen (second_end g e) ≡ true)
