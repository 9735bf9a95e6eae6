use Rattle.std.proofs.Common.{◌≡◌, ◌+◌, ◌++◌, length}
use Rattle.tree_core.proofs.Common.{numbers}
use Rattle.uncross.proofs.leaf_orders.push_numbers.Given as goal

abbrev pub invariant-loop-i : goal.invariant-loop-i
invariant-loop-i l = (l.order ≡ l.initial.order ++ numbers l.k l.i) × (length l.order ≡ length l.initial.order + l.i)
