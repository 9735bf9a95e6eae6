use Rattle.graph_core.proofs.from_counting.Common.{◌≡◌, ℕ, mem}
use Rattle.ear_core.specs.Common.{in_rows}
use Rattle.ear_core.proofs.lone_tables.neighbours_of.Given as goal

-- the vertices in the rows so far
abbrev pub invariant-loop-k : goal.invariant-loop-k
invariant-loop-k l = (w : ℕ) → mem l.found w ≡ in_rows l.near l.k (mem l.x) w
