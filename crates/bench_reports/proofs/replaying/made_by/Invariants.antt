use Rattle.std.proofs.Common.{◌≡◌, ◌-◌, drop}
use Rattle.tree_core.proofs.Common.{Fits, moves_of, shape_of}
use Rattle.bench_outcomes.specs.Common.{made_by}
use Rattle.bench_reports.proofs.replaying.made_by.Given as goal

-- the moves that are left make of the tree so far what all of them make of the first tree
abbrev pub invariant-loop-i : goal.invariant-loop-i
invariant-loop-i l = record {
  fits : Fits l.n (shape_of l.made);
  left : made_by l.n (shape_of l.made) (moves_of (drop l.i l.moves)) (l.count - l.i) ≡ made_by l.n (shape_of l.fn.tree) (moves_of l.moves) l.count;
}
