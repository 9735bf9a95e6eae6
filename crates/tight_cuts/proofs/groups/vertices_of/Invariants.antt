use Rattle.graph_core.proofs.from_counting.Common.{◌≡◌, ◌<◌, ℕ, false, Within, mem}
use Rattle.tight_cuts.specs.Common.{row_group}
use Rattle.tight_cuts.proofs.groups.vertices_of.Given as goal

abbrev pub invariant-loop-k : goal.invariant-loop-k
invariant-loop-k l = record {
  these : (v : ℕ) → Within l.k v → mem l.vertices v ≡ mem l.set (row_group l.groups.a l.groups.b l.groups.x l.groups.y l.leaders v);
  later : (v : ℕ) → l.k < v → mem l.vertices v ≡ false;
}
