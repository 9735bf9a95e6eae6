use Rattle.graph_core.proofs.from_counting.Common.{◌≡◌, ℕ, ◌<◌, cond, length, Within, item, mem}
use Rattle.tight_cuts.proofs.clusters.put_at_members.Given as goal

abbrev pub invariant-loop-i : goal.invariant-loop-i
invariant-loop-i l = record {
  long : length l.sets.items ≡ length l.initial.sets.items;
  done : (v : ℕ) → Within l.i v → item l.sets.items v ≡ cond (mem l.set v) l.set (item l.initial.sets.items v);
  rest : (v : ℕ) → l.i < v → item l.sets.items v ≡ item l.initial.sets.items v;
}
