-- An edge by its two ends, in either order: whether it is in a cut, inside a set, in range.
-- Idea: a truth table of the two bits at the ends.
use Rattle.graph_core.proofs.from_counting.Common.{◌≡◌, ℕ, true, false, ◌&&◌, arith, Within, Set}
use Rattle.graph_core.proofs.Common.{Graph, HasEnds, IsGraph, in_cut, inside, size}

-- an edge of the cut has one end in x and the other outside
pub cut_ends : (g : Graph) (x : Set) (e : ℕ) → in_cut g x e ≡ true → (u : ℕ) × (v : ℕ) × HasEnds g e u v × (x u ≡ true) × (x v ≡ false)
cut_ends g x e h = grind arith

-- the ends of an edge outside the cut are on one side
pub same_side : (g : Graph) (x : Set) (e u v : ℕ) → HasEnds g e u v → in_cut g x e ≡ false → x u ≡ x v
same_side g x e u v ends h = grind arith

-- an edge is inside x where both ends are in x
pub ends_inside : (g : Graph) (x : Set) (e u v : ℕ) → HasEnds g e u v → inside g x e ≡ (x u && x v)
ends_inside g x e u v ends = grind arith

-- the ends of an edge are vertices of the graph
pub ends_within : (g : Graph) → IsGraph g → (e u v : ℕ) → Within (size g) e → HasEnds g e u v → Within g.order u × Within g.order v
ends_within g is e u v we ends = grind arith
