use Rattle.std.proofs.Common.{◌≡◌}
use Rattle.ear_core.proofs.built.Built.first_between.Given as goal

-- it is asked about the same stage
abbrev pub invariant-loop-k : goal.invariant-loop-k
invariant-loop-k l = l.stage ≡ l.fn.stage
