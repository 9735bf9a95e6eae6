use Rattle.graph_core.proofs.from_counting.Common.{◌≡◌, ℕ, ◌<◌, ◌≤◌, [], Within, mem, none}
use Rattle.graph_core.proofs.Common.{size}
use Rattle.tight_cuts.specs.Common.{AreEndsPartners, Leaves}
use Rattle.tight_cuts.proofs.quick_tightness.is_alone_in.Given as goal

abbrev pub invariant-loop-k : goal.invariant-loop-k
invariant-loop-k l = record {
  graph : l.rows.graph ≡ l.turned;
  removed : l.rows.removed ≡ [];
  apart : (f v : ℕ) → Within (size l.g) f → l.u < v → v ≤ l.k → Leaves l.g (mem l.set) v f → ¬ (AreEndsPartners l.turned none f);
}
