use Rattle.allowed_edges.proofs.from_counting.Common.{◌≡◌, ◌≤◌, ◌==◌, count}
use Rattle.allowed_edges.specs.from_match_search.Common.{numbers}
use Rattle.mcg6_lines.proofs.maximum_matching.count_exposed.Given as goal

abbrev pub invariant-loop-done : goal.invariant-loop-done
invariant-loop-done l = record { found : l.exposed ≡ count l.done (λ v. numbers l.mate v == 0); few : l.exposed ≤ l.done }
