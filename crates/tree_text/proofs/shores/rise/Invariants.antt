use Rattle.std.proofs.Common.{◌≡◌, ◌∷◌, length}
use Rattle.tree_text.specs.Common.{is_rising}
use Rattle.tree_text.proofs.shores.rise.Given as goal

-- the list is increasing if and only if the last number seen and those left are
abbrev pub invariant-numbers : goal.invariant-numbers
invariant-numbers l = is_rising l.vertices ≡ is_rising (l.last ∷ l.rest)

abbrev pub decreases-numbers : goal.decreases-numbers
decreases-numbers l = length l.rest
