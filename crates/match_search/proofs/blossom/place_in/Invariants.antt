use Rattle.graph_core.proofs.from_counting.Common.{◌≡◌, ℕ, false, Within, mem}
use Rattle.match_search.specs.Common.{numbers}
use Rattle.match_search.proofs.blossom.place_in.Given as goal

abbrev pub invariant-loop-i : goal.invariant-loop-i
invariant-loop-i l = (j : ℕ) → Within l.i j → mem l.row (numbers l.cycle j) ≡ false
