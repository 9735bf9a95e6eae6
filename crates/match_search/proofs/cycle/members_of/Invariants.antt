use Rattle.graph_core.proofs.from_counting.Common.{◌≡◌, ℕ, mem}
use Rattle.match_search.specs.Common.{listed, numbers}
use Rattle.match_search.proofs.cycle.members_of.Given as goal

abbrev pub invariant-loop-i : goal.invariant-loop-i
invariant-loop-i l = (v : ℕ) → mem l.members v ≡ listed l.i (numbers l.row) v
