use Rattle.graph_core.proofs.from_counting.Common.{◌≡◌, ℕ, true, mem}
use Rattle.tight_cuts.specs.Common.{IsOneSided}
use Rattle.tight_cuts.proofs.clusters.Clusters.widened.Given as goal

abbrev pub invariant-loop-k : goal.invariant-loop-k
invariant-loop-k l = record {
  one : IsOneSided l.g l.e (mem l.wide);
  more : (v : ℕ) → mem l.set v ≡ true → mem l.wide v ≡ true;
}
