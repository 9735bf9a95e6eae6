use Rattle.graph_core.proofs.from_counting.Common.{◌≡◌, ◌-◌, ◌==◌, ◌&&◌, count, mem}
use Rattle.match_search.specs.Common.{numbers}
use Rattle.match_search.proofs.missable.exposed_count.Given as goal

abbrev pub invariant-loop-v : goal.invariant-loop-v
invariant-loop-v l = l.found ≡ count (l.v - 1) (λ w. mem l.left w && (numbers l.mate w == 0))
