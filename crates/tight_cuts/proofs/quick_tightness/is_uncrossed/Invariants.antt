use Rattle.graph_core.proofs.from_counting.Common.{◌≡◌, ◌⊎◌, ℕ, true, Within, mem}
use Rattle.tight_cuts.specs.Common.{HasFewLater, LeavesAlone}
use Rattle.tight_cuts.proofs.quick_tightness.is_uncrossed.Given as goal

abbrev pub invariant-loop-k : goal.invariant-loop-k
invariant-loop-k l = (u : ℕ) → Within l.k u → LeavesAlone l.g (mem l.set) u ⊎ ((l.is_odd ≡ true) × HasFewLater l.g (mem l.set) u)
