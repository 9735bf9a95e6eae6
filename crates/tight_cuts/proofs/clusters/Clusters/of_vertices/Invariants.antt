-- So far there is a set for each vertex: the blocks of the cluster of its own.
use Rattle.graph_core.proofs.from_counting.Common.{◌≡◌, ℕ, length, item, mem, Within}
use Rattle.graph_core.proofs.Common.{place, union_of_blocks}
use Rattle.tight_cuts.proofs.clusters.Clusters.of_vertices.Given as goal

abbrev pub invariant-loop-k : goal.invariant-loop-k
invariant-loop-k l = record {
  long : length l.sets.items ≡ l.k;
  each : (v : ℕ) → Within l.k v → item l.sets.items v ≡ union_of_blocks l.place.graph l.p.blocks (mem (item l.self (place l.p.blocks v)));
}
