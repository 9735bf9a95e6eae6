use Rattle.std.proofs.Common.{◌≡◌, ℕ, length}
use Rattle.match_search.specs.Common.{cleared_mates, numbers}
use Rattle.match_search.proofs.mates.clear.Given as goal

abbrev pub invariant-loop-i : goal.invariant-loop-i
invariant-loop-i l = record { same : length l.mate ≡ length l.initial.mate; row : (u : ℕ) → numbers l.mate u ≡ cleared_mates (numbers l.initial.mate) l.i (numbers l.cycle) u }
