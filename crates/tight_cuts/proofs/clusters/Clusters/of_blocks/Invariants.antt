-- So far there is a set for each block, by the names in the set of the block's own name.
use Rattle.graph_core.proofs.from_counting.Common.{◌≡◌, ℕ, true, length, item, last_of, mem, Within}
use Rattle.graph_core.proofs.Common.{block}
use Rattle.tight_cuts.proofs.clusters.Clusters.of_blocks.Given as goal

abbrev pub invariant-loop-i : goal.invariant-loop-i
invariant-loop-i l = record {
  long : length l.sets.items ≡ l.i;
  each : (k j : ℕ) → Within l.i k → mem (item l.sets.items k) j ≡ true → Within (length l.p.blocks) j × (mem (item l.self (last_of (block l.p.blocks k))) (last_of (block l.p.blocks j)) ≡ true);
}
