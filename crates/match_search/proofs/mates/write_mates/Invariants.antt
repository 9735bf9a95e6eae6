use Rattle.std.proofs.Common.{◌≡◌, length}
use Rattle.match_search.specs.Common.{NamesMates, marks}
use Rattle.match_search.proofs.mates.write_mates.Given as goal

abbrev pub invariant-loop-k : goal.invariant-loop-k
invariant-loop-k l = record { same : length l.mate ≡ length l.initial.mate; named : NamesMates l.ends (marks l.mark) l.mate l.k }
