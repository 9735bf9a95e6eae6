use Rattle.graph_core.proofs.from_counting.Common.{◌≡◌, rising_list}
use Rattle.graph_core.proofs.Common.{is_allowed}
use Rattle.allowed_edges.proofs.edges.partnered.Given as goal

abbrev pub invariant-loop-k : goal.invariant-loop-k
invariant-loop-k l = l.edges ≡ rising_list l.k (is_allowed l.g)
