-- The graph that a graph6 text stands for is a multigraph: each edge is one of the pairs i < j of
-- 1 to n.
use Rattle.std.proofs.Common.{◌≡◌, ℕ, ◌<◌, ◌≤◌, Bool, true, false, List, [], ◌∷◌, Ok, subst, arith}
use Rattle.graph_core.proofs.Common.{Graph, IsMultigraph}
use Rattle.graph6_text.specs.Common.{chosen, body_of, graph_of_bits, outcome_of}
use Rattle.graph6_text.proofs.Canonical.{accepted}
use Rattle.graph6_text.proofs.Columns.{each_column_pair}
use Rattle.graph6_text.proofs.DistinctPairs.{Each, each_at}

-- what holds of each pair holds of each that is chosen
each-chosen : (P : ℕ × ℕ → Type 0) (pairs : List (ℕ × ℕ)) (bits : List Bool) → Each P pairs → Each P (chosen pairs bits)
each-chosen P [] bits each = tt
each-chosen P (pair ∷ pairs) [] each = tt
each-chosen P (pair ∷ pairs) (true ∷ bits) each = (each.0, each-chosen P pairs bits each.1)
each-chosen P (pair ∷ pairs) (false ∷ bits) each = each-chosen P pairs bits each.1

-- a pair i < j of 1 to n
abbrev Rises : ℕ → ℕ × ℕ → Type 0
Rises n pair = (1 ≤ pair.0) × (pair.0 < pair.1) × (pair.1 ≤ n)

rising-graph : (g : Graph) → Each (Rises g.order) g.ends → IsMultigraph g
rising-graph g each = grind (arith, each_at (Rises g.order) g.ends)

body-multigraph : (body : List ℕ) → IsMultigraph (graph_of_bits body)
unfolding graph_of_bits
body-multigraph body = grind (arith, rising-graph (graph_of_bits body), each-chosen, each_column_pair)

pub read-multigraph : (text : List ℕ) (g : Graph) → outcome_of text ≡ Ok g → IsMultigraph g
read-multigraph text g is = subst IsMultigraph (accepted text g is).1 (body-multigraph (body_of text))
