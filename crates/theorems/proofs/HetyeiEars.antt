-- An ear whose ends lie on opposite sides of a bipartite stage serves.
-- Idea: the graph of the stage has a perfect matching off two vertices on opposite sides, and such
-- an ear may be added.
use Rattle.tree_check.proofs.from_counting.Common.{◌≡◌, ℕ, true, not, List, Within, Set}
use Rattle.graph_core.proofs.Common.{Graph, IsGraph, in_cut, size}
use Rattle.ear_text.proofs.from_ear_core.OppositeEnds.{opposite-serve}
use Rattle.ear_text.proofs.from_ear_core.ServingEars.{one-serves}
use Rattle.ear_text.specs.from_ear_core.Common.{IsEar, last_vertex, IsStage, with_edges}

-- so the ear may be added
pub opposite-ends : (g : Graph) (f a : Set) (v : ℕ) (es : List ℕ) → IsGraph g → IsStage g f → ((e : ℕ) → Within (size g) e → f e ≡ true → in_cut g a e ≡ true) → IsEar g f v es → a (last_vertex g v es) ≡ not (a v) → IsStage g (with_edges f es)
opposite-ends g f a v es is s sides ear e =
    let q = opposite-serve g is f a sides s v (last_vertex g v es) ear.start ear.end e in
    one-serves g is f v es s ear q.0 q.1
