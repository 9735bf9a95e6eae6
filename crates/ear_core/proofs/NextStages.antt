-- Steps from a stage. Whether an edge lies in a perfect matching of a stage is decided, and the
-- second ear of a step is an ear of the stage with the first.
use Rattle.graph_core.proofs.from_counting.Common.{◌≡◌, ℕ, true, arith, List, both_ways, false_from_ne_true, or_left, or_from, Within, Set, none}
use Rattle.ear_core.proofs.TraceEdges.{met-some, some-met, degree_le}
use Rattle.ear_core.proofs.AddedEars.{new-met}
use Rattle.ear_core.specs.Common.{IsEar, IsEarPair, IsNearlyStage, is_met, IsStage, with_edges}
use Rattle.graph_core.proofs.Common.{edge_at, Graph, IsGraph}

-- the test for a perfect matching of the edges f
pub nearly : (g : Graph) (f : Set) → IsStage g f → IsNearlyStage g f none
nearly g f s = grind arith

pub met-within : (g : Graph) → IsGraph g → (f : Set) (v : ℕ) → is_met g f v ≡ true → Within g.order v
met-within g is f v t = grind (arith, edge_at g f v (met-some g f v t), met-some g f v t)

-- the second ear of a pair is an ear of the stage with the first
pub second_ear : (g : Graph) (f : Set) (v : ℕ) (es : List ℕ) (w : ℕ) (ds : List ℕ) → IsEarPair g f v es w ds → IsEar g (with_edges f es) w ds
second_ear g f v es w ds p = grind (arith, false_from_ne_true, new-met g f v es p.first, both_ways, or_from, met-some g f, degree_le g f (with_edges f es), or_left, some-met g (with_edges f es))
