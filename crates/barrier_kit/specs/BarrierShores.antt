-- The cuts that the classes of a covered graph give (Edmonds, Lovász and Pulleyblank 1982).
-- Stated by: barrier_kit, quick_kinds, tight_cuts.
use Rattle.std.specs.Prelude.{ℕ, List, flat_map}
use Rattle.graph_core.specs.from_counting.Common.{mem}
use Rattle.graph_core.specs.Common.{Graph, components, classes, cuts_of}

-- for each class B by least vertex, each component of G - B by least vertex
unfoldable pub barrier_shores : Graph → List (List ℕ)
barrier_shores g = flat_map (λ s. components g (mem s)) (classes g)

-- the nontrivial cuts of these shores, by canonical shores, each once
unfoldable pub barrier_cuts : Graph → List (List ℕ)
barrier_cuts g = cuts_of g.order (barrier_shores g)
