-- The edges of a multigraph, one by one down its list of ends: what is true of the ends of each
-- edge by its number is true of each pair of the list.
use Rattle.graph_core.proofs.from_counting.Common.{◌≡◌, ◌≢◌, ◌<◌, ◌-◌, ℕ, suc, List, [], ◌∷◌, length, get_or, arith, subst, AllByRecursion, Within}
use Rattle.graph_core.proofs.Common.{Graph, size, IsMultigraph}

-- what holds at each place is true of each item
all-places : (P : ℕ × ℕ → Type 0) (xs : List (ℕ × ℕ)) → ((i : ℕ) → i < length xs → P (get_or xs i (0, 0))) → AllByRecursion P xs
all-places P [] each = tt
all-places P (x ∷ xs) each = (each 0 (omega arith), all-places P xs (λ i h. each (suc i) (omega arith)))

-- a pair of different vertices
abbrev pub IsEdgeIn : ℕ → ℕ × ℕ → Type 0
IsEdgeIn order edge = Within order edge.0 × Within order edge.1 × (edge.0 ≢ edge.1)

-- the ends of each edge of a multigraph are different vertices
pub edges-multigraph : (g : Graph) → IsMultigraph g → AllByRecursion (IsEdgeIn g.order) g.ends
edges-multigraph g is = all-places (IsEdgeIn g.order) g.ends (λ i h.
    let w : Within (size g) (suc i) = (omega arith, omega arith) in
    let p = is.ends (suc i) w in
    let s : suc i - 1 ≡ i = omega arith in
    subst (λ j. IsEdgeIn g.order (get_or g.ends j (0, 0))) s (p.0, p.1, is.no_loop (suc i) w))
