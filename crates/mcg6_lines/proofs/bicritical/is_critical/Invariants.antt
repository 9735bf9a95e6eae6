use Rattle.allowed_edges.proofs.from_counting.Common.{◌≡◌, ℕ, [], Within}
use Rattle.mcg6_lines.specs.Selecting.{HasAllPartners}
use Rattle.mcg6_lines.proofs.bicritical.is_critical.Given as goal

-- all others are partners of each vertex so far
abbrev pub invariant-loop-k : goal.invariant-loop-k
invariant-loop-k l = record {
  graph : l.rows.graph ≡ l.g;
  whole : l.rows.removed ≡ [];
  all : (u : ℕ) → Within l.k u → HasAllPartners l.g u;
}
