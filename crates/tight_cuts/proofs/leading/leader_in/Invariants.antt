use Rattle.std.proofs.Common.{◌≡◌, length}
use Rattle.tight_cuts.specs.Common.{leader}
use Rattle.tight_cuts.proofs.leading.leader_in.Given as goal

abbrev pub invariant-loop-piece : goal.invariant-loop-piece
invariant-loop-piece l = leader l.fn.pieces l.v ≡ leader l.rest l.v

abbrev pub decreases-loop-piece : goal.decreases-loop-piece
decreases-loop-piece l = length l.rest
