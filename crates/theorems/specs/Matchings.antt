-- The Gallai-Edmonds sets as sets, the components that they induce, and how a matching meets them
-- (Gallai 1964; Edmonds 1965; Lovász and Plummer, "Matching Theory", section 3.2).
-- Stated by: theorems.
use Rattle.std.specs.Prelude.{◌≡◌, ◌↔◌, ℕ, ◌+◌, ◌*◌, ◌&&◌, true}
use Rattle.tree_check.specs.from_counting.Common.{count, Within, Set, complement, minus, singleton, some}
use Rattle.graph_core.specs.Common.{InA, InC, InD, Graph, connects, inside, is_least, size, HasPerfect, IsPerfect, joined}

-- the Gallai-Edmonds sets of g: d = D(G), a = A(G) and c = C(G)
pub record AreThreeSets (g : Graph) (d a c : Set) : Type 0 where
  pub in_d : (v : ℕ) → Within g.order v → (d v ≡ true) ↔ InD g v
  pub in_a : (v : ℕ) → Within g.order v → (a v ≡ true) ↔ InA g v
  pub in_c : (v : ℕ) → Within g.order v → (c v ≡ true) ↔ InC g v

-- the component of u in G[D], the graph that the vertices of d induce
abbrev pub component_in : Graph → Set → ℕ → Set
component_in g d u = joined g (complement d) u

-- G[K] has a perfect matching
abbrev pub HasPerfectWithin : Graph → Set → Type 0
HasPerfectWithin g k = HasPerfect g (complement k)

-- G[K] is factor-critical: G[K − v] has a perfect matching for each v ∈ K
abbrev pub IsFactorCritical : Graph → Set → Type 0
IsFactorCritical g k = (v : ℕ) → Within g.order v → k v ≡ true → HasPerfectWithin g (minus k (singleton v))

-- m matches k in itself: its edges inside k are a perfect matching of G[K]
abbrev pub MatchesWithin : Graph → Set → Set → Type 0
MatchesWithin g m k = IsPerfect g (complement k) (λ e. m e && inside g k e)

-- the matching m matches all but one vertex of k in k: 2|{e ∈ m : e inside k}| + 1 = |k|
abbrev pub MatchesAllButOne : Graph → Set → Set → Type 0
MatchesAllButOne g m k = 2 * count (size g) (λ e. m e && inside g k e) + 1 ≡ count g.order k

-- the components of G[D] with an edge to s, each given by its least vertex
abbrev pub parts_beside : Graph → (d s : Set) → Set
parts_beside g d s u = is_least g (complement d) u && some (size g) (connects g s (component_in g d u))
