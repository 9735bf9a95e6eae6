use Rattle.graph_core.proofs.from_counting.Common.{◌≡◌, ℕ, true, Within, mem}
use Rattle.graph_core.proofs.Common.{first_end, in_cut, second_end, size, IsEnd}
use Rattle.tight_cuts.proofs.quick_tightness.turned.Given as goal

abbrev pub invariant-loop-k : goal.invariant-loop-k
invariant-loop-k l = record {
  order : l.turned.order ≡ l.g.order;
  long : size l.turned ≡ l.k;
  same : (d : ℕ) → Within l.k d → (IsEnd l.g d l.u → in_cut l.g (mem l.set) d ≡ true) → (first_end l.turned d ≡ first_end l.g d) × (second_end l.turned d ≡ second_end l.g d);
}
