use Rattle.std.proofs.Common.{◌≡◌, ◌+◌, drop}
use Rattle.tree_core.proofs.Common.{position}
use Rattle.uncross.proofs.leaf_maps.position_of.Given as goal

abbrev pub invariant-loop-k : goal.invariant-loop-k
invariant-loop-k l = position (drop l.k l.order) l.i + l.k ≡ position l.order l.i
