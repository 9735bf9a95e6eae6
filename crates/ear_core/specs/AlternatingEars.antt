-- Ears that two perfect matchings make. From a vertex of the stage that the one matching leads
-- out of the stage its edges and those of the other are followed in turn, until a vertex of the
-- stage comes again.
-- Stated by: ear_core. Used by: theorems.
use Rattle.std.specs.Prelude.{◌≡◌, ◌≢◌, ◌⊎◌, ◌≤◌, ℕ, true, false, List, [], ◌∷◌, ◌++◌, ◌==◌, ◌&&◌, ◌||◌, not, cond, length}
use Rattle.graph_core.specs.from_counting.Common.{Within, is_odd, IsIn, mem, times, Set, none, pair_set}
use Rattle.graph_core.specs.Common.{Graph, first_end, second_end, IsPerfect}
use Rattle.two_ears.specs.from_match_core.Common.{MatchingValue, IsOf, edges_of}
use Rattle.two_ears.specs.from_match_core.declared.matching.MatchRow.{MatchRow}
use Rattle.two_ears.specs.VertexPairs.{pairs_at, in_pairs}
use Rattle.ear_core.specs.EarLists.{PlainEar, PlainStep, one, two}
use Rattle.ear_core.specs.Ears.{other_end, Follow, trail, last_vertex, IsEar}
use Rattle.ear_core.specs.Stages.{is_met, IsPerfectOff}

-- a perfect matching of g, as its rows
pub record IsPerfectRows (g : Graph) (m : MatchingValue) : Type 0 where
  pub of : IsOf g m
  pub perfect : IsPerfect g none (mem (edges_of m))

-- the edge of the rows at v
abbrev pub row_edge : List MatchRow → ℕ → ℕ
row_edge [] v = 0
row_edge (row ∷ rows) v = cond (row.a == v || row.b == v) row.edge (row_edge rows v)

-- the end other than v of the edge that the test gives for v
abbrev pub mate : Graph → (ℕ → ℕ) → ℕ → ℕ
mate g m v = other_end g (m v) v

-- the set t holds the mates of its vertices
abbrev pub KeepsMates : Graph → (ℕ → ℕ) → Set → Type 0
KeepsMates g n t = (w : ℕ) → Within g.order w → t w ≡ true → t (mate g n w) ≡ true

-- the edges es lead from v by edges of m and n in turn to the first vertex of t, off the vertices
-- of z
pub record LeadsAlternately (g : Graph) (t : Set) (m n : ℕ → ℕ) (z : Set) (v : ℕ) (es : List ℕ) : Type 0 where
  pub follow : Follow g v es
  pub odd : is_odd (length es) ≡ true
  pub once : (w : ℕ) → times (trail g v es) w ≤ 1
  pub end : t (last_vertex g v es) ≡ true
  pub inner : (w : ℕ) → mem (trail g v es) w ≡ true → w ≢ v → w ≢ last_vertex g v es → t w ≡ false
  pub new : (e : ℕ) → mem es e ≡ true → (e ≡ m v) ⊎ ((w : ℕ) × ((first_end g e == w || second_end g e == w) ≡ true) × (t w ≡ false))
  pub avoid : (w : ℕ) → mem (trail g v es) w ≡ true → z w ≡ false
  pub by_m : (w : ℕ) → mem (trail g v es) w ≡ true → mem (trail g v es) (mate g m w) ≡ true
  pub by_n : (w : ℕ) → mem (trail g v es) w ≡ true → t w ≡ false → w ≢ v → mem (trail g v es) (mate g n w) ≡ true
  pub last : mem es (m (last_vertex g v es)) ≡ true

-- such edges were appended, and their vertices were added to z
abbrev pub IsTraced : Graph → Set → (m n : ℕ → ℕ) → Set → ℕ → (old new : List ℕ) → Set → Type 0
IsTraced g t m n z v old new after = (es : List ℕ) × (new ≡ old ++ es) × LeadsAlternately g t m n z v es × ((w : ℕ) → after w ≡ (z w || mem (trail g v es) w))

-- z holds the mates of its vertices, those by n off t alone and but for v; v is not in z
pub record IsClear (g : Graph) (t : Set) (m n : ℕ → ℕ) (z : Set) (v : ℕ) : Type 0 where
  pub closed_m : (w : ℕ) → Within g.order w → z w ≡ true → z (mate g m w) ≡ true
  pub fresh : z v ≡ false
  pub closed_n : (w : ℕ) → Within g.order w → z w ≡ true → t w ≡ false → (z (mate g n w) ≡ true) ⊎ (mate g n w ≡ v)
  pub back : t v ≡ false → z (mate g n v) ≡ true

-- z holds the mates of its vertices, those by n off t alone
pub record HoldsMatesOff (g : Graph) (t : Set) (m n : ℕ → ℕ) (z : Set) : Type 0 where
  pub by_m : (w : ℕ) → Within g.order w → z w ≡ true → z (mate g m w) ≡ true
  pub by_n : (w : ℕ) → Within g.order w → z w ≡ true → t w ≡ false → z (mate g n w) ≡ true

-- an ear of f that holds the mates of its vertices, at whose ends m leads out of f
pub record IsMatedEar (g : Graph) (f : Set) (m n : ℕ → ℕ) (a : PlainEar) : Type 0 where
  pub ear : IsEar g f a.begin a.edges
  pub by_m : (w : ℕ) → mem (trail g a.begin a.edges) w ≡ true → mem (trail g a.begin a.edges) (mate g m w) ≡ true
  pub by_n : (w : ℕ) → mem (trail g a.begin a.edges) w ≡ true → is_met g f w ≡ false → mem (trail g a.begin a.edges) (mate g n w) ≡ true
  pub leaves : f (m a.begin) ≡ false
  pub arrives : f (m (last_vertex g a.begin a.edges)) ≡ false

-- the pairs of ends of the ears
abbrev pub ends_of_ears : Graph → List PlainEar → List (ℕ × ℕ)
ends_of_ears g [] = []
ends_of_ears g (a ∷ ears) = (a.begin, last_vertex g a.begin a.edges) ∷ ends_of_ears g ears

-- the ears have no common vertex
abbrev pub AreApart : Graph → List PlainEar → Type 0
AreApart g ears =
    (a b : PlainEar) → IsIn a ears → IsIn b ears → (a ≡ b) ⊎ ((w : ℕ) → mem (trail g a.begin a.edges) w ≡ true → mem (trail g b.begin b.edges) w ≡ true → ⊥)

-- the ears that m and n make off the vertices of z: each vertex of f off z that m leads out of f
-- is an end of one
pub record AreMatedEars (g : Graph) (f : Set) (m n : ℕ → ℕ) (z : Set) (ears : List PlainEar) : Type 0 where
  pub each : (a : PlainEar) → IsIn a ears → IsMatedEar g f m n a
  pub avoid : (a : PlainEar) → IsIn a ears → (w : ℕ) → mem (trail g a.begin a.edges) w ≡ true → z w ≡ false
  pub apart : AreApart g ears
  pub once : (w : ℕ) → pairs_at (ends_of_ears g ears) w ≤ 1
  pub off : (w : ℕ) → z w ≡ true → pairs_at (ends_of_ears g ears) w ≡ 0
  pub all : (w : ℕ) → Within g.order w → is_met g f w ≡ true → f (m w) ≡ false → (z w ≡ true) ⊎ (1 ≤ pairs_at (ends_of_ears g ears) w)

-- v is a vertex of t off z that m leads out of f
abbrev pub is_left : Set → Set → (ℕ → ℕ) → Set → Set
is_left t f m z v = t v && (not (f (m v)) && not (z v))

-- the graph of f has a perfect matching without the vertices r
abbrev pub Serves : Graph → Set → Set → Type 0
Serves g f r = (q : Set) × IsPerfectOff g f r q

-- the two ends of an ear
abbrev pub ends_of_ear : Graph → PlainEar → Set
ends_of_ear g a = pair_set a.begin (last_vertex g a.begin a.edges)

-- ears of f without a common vertex, whose ends serve all together
pub record AreCandidates (g : Graph) (f : Set) (ears : List PlainEar) : Type 0 where
  pub each : (a : PlainEar) → IsIn a ears → IsEar g f a.begin a.edges
  pub apart : AreApart g ears
  pub once : (w : ℕ) → pairs_at (ends_of_ears g ears) w ≤ 1
  pub some : ears ≢ []
  pub serve : Serves g f (in_pairs (ends_of_ears g ears))

-- the ears of a step are in the list
abbrev pub IsChosen : List PlainEar → PlainStep → Type 0
IsChosen ears (one a) = IsIn a ears
IsChosen ears (two a b) = IsIn a ears × IsIn b ears
