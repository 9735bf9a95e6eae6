use Rattle.graph_core.proofs.from_counting.Common.{◌≡◌, ℕ, true, Within, mem}
use Rattle.graph_core.proofs.Common.{in_cut}
use Rattle.tight_cuts.specs.Common.{NoLaterWith}
use Rattle.tight_cuts.proofs.tightness.crossing.Given as goal

abbrev pub invariant-loop-k : goal.invariant-loop-k
invariant-loop-k l = record {
  apart : (d : ℕ) → Within l.k d → in_cut l.g (mem l.shore) d ≡ true → NoLaterWith l.g (mem l.shore) d;
  rows : l.rows ≡ l.g;
}
