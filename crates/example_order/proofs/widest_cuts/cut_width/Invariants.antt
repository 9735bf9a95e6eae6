use Rattle.tree_check.proofs.from_counting.Common.{◌≡◌, ◌≤◌, count, mem}
use Rattle.graph_core.proofs.Common.{in_cut}
use Rattle.example_order.proofs.widest_cuts.cut_width.Given as goal

abbrev pub invariant-loop-k : goal.invariant-loop-k
invariant-loop-k l = record { width : l.width ≡ count l.k (in_cut l.g (mem l.shore)); few : l.width ≤ l.k }
