use Rattle.vset_core.proofs.from_counting.Common.{◌≡◌, rising_list}
use Rattle.graph_core.specs.Common.{is_even_at}
use Rattle.graph_core.proofs.tree.even_vertices.Given as goal

abbrev pub invariant-loop-i : goal.invariant-loop-i
invariant-loop-i l = l.left ≡ rising_list l.i (is_even_at l.nodes)
