use Rattle.graph_core.proofs.from_counting.Common.{◌≡◌, ◌≤◌, count, mem, rising_list}
use Rattle.two_ears.specs.from_match_search.Common.{marks}
use Rattle.two_ears.specs.from_match_core.Common.{edges_of}
use Rattle.ear_core.specs.Common.{by_rank}
use Rattle.ear_core.proofs.lone_ears.edges_by_rank.Given as goal

-- the edges so far, and how many edges so far are marked
abbrev pub invariant-loop-k : goal.invariant-loop-k
invariant-loop-k l = record {
  rank : l.rank ≡ count l.k (marks l.row);
  few : l.rank ≤ l.k;
  edges : l.edges ≡ rising_list l.k (by_rank (marks l.row) (mem (edges_of l.m)));
}
