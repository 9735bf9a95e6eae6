use Rattle.std.proofs.Common.{◌≡◌, ℕ, ◌-◌, length}
use Rattle.match_search.specs.Common.{paired_round, numbers}
use Rattle.match_search.proofs.mates.pair_round.Given as goal

abbrev pub invariant-loop-i : goal.invariant-loop-i
invariant-loop-i l = record { same : length l.mate ≡ length l.initial.mate; row : (u : ℕ) → numbers l.mate u ≡ paired_round (numbers l.initial.mate) (length l.cycle - 1) (numbers l.cycle) l.tip l.i u }
