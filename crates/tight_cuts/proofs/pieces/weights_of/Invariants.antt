use Rattle.std.proofs.Common.{◌≡◌, ℕ, ◌+◌, length, take, map}
use Rattle.graph_core.proofs.Common.{size}
use Rattle.barrier_kit.specs.from_match_core.Common.{edges_of}
use Rattle.tight_cuts.specs.Common.{at_place, weight}
use Rattle.tight_cuts.proofs.pieces.weights_of.Given as goal

abbrev pub invariant-loop-i : goal.invariant-loop-i
invariant-loop-i l = record {
  long : length l.row.items ≡ size l.g + 1;
  each : (e : ℕ) → at_place l.row.items e ≡ weight (map edges_of (take l.i l.list)) e;
}
