-- Cubic graphs. Any textbook.
-- Stated by: grow_gen, theorems.
use Rattle.std.specs.Prelude.{◌≡◌, ℕ}
use Rattle.graph_core.specs.from_counting.Common.{Within, everything}
use Rattle.graph_core.specs.Common.{Graph, degree}

-- each vertex has degree three
abbrev pub IsCubic : Graph → Type 0
IsCubic g = (v : ℕ) → Within g.order v → degree g everything v ≡ 3
